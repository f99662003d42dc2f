-- The goals of a trace by number, which cycles may follow a trace, and which traces are runs.
use Rattle.std.specs.Prelude.{◌≡◌, ◌≤◌, ◌<◌, ◌↔◌, ◌++◌, ℕ, Bool, true, IsTrue, List, [], ◌∷◌, length, map, Some, Contains}
use Rattle.std.specs.List.{AllByRecursion, list_all}
use Rattle.std.specs.List.Sorted.{IsStrictlySortedBy}
use Rattle.std.specs.declared.cmp.Ordering.{Ordering}
use Rattle.std.specs.Ordering.{nat_cmp, then_cmp, on}
use Rattle.std.specs.Cmp.Lexicographic.{slice_cmp}
use Rattle.lps_terms.specs.declared.atom.Atom.{Atom}
use Rattle.lps_terms.specs.declared.item.Item.{Item}
use Rattle.lps_terms.specs.declared.item.Item.TheVariants as i
use Rattle.lps_terms.specs.declared.text.Text.{Text}
use Rattle.lps_terms.specs.declared.time_var.TimeVar.{TimeVar}
use Rattle.lps_terms.specs.Order.{term_cmp, atom_cmp}
use Rattle.lps_terms.specs.Put.{put_atom}
use Rattle.lps_model.specs.declared.cycle.Cycle.{Cycle}
use Rattle.lps_model.specs.declared.cycle.Pick.{Pick}
use Rattle.lps_model.specs.declared.trace.Trace.{Trace}
use Rattle.lps_model.specs.declared.verdict.Verdict.{Verdict}
use Rattle.lps_model.specs.declared.verdict.Verdict.TheVariants.{Admitted, Rejected}
use Rattle.lps_model.specs.Order.{is_action}
use Rattle.lps_model.specs.Run.{IsExternal, AreInitial, first_trace}
use Rattle.lps_model.specs.Trace.{if_admitted, admitted, happens_in, then_cycle}
use Rattle.lps_derivation.specs.Ground.{is_ground}
use Rattle.lps_meaning.specs.declared.goal.GoalKey.{GoalKey}
use Rattle.lps_meaning.specs.Denials.{ViolatesNone, ViolatesNumber, IsLeastViolated}
use Rattle.lps_meaning.specs.Goals.{IsGoal, IsLive, IsPending}
use Rattle.lps_model.specs.Rules.{numbered, kind_of}
use Rattle.lps_meaning.specs.Sequences.{Entry, Place, Values, Times, done}

-- ---- goals by number

-- the order of keys: by time, then by rule, values and times
abbrev pub key_cmp : GoalKey → GoalKey → Ordering
key_cmp = then_cmp (on (λ k. k.time) nat_cmp) (then_cmp (on (λ k. k.rule) nat_cmp)
    (then_cmp (on (λ k. k.values) (slice_cmp term_cmp)) (on (λ k. k.times) (slice_cmp nat_cmp))))

-- the keys of the goals that a trace has by now in order, so that goal n is number n of the list, from 1
pub record AreGoals (text : Text) (level : List ℕ → ℕ) (trace : Trace) (now : ℕ) (keys : List GoalKey) : Type 0 where
  pub sorted : IsStrictlySortedBy key_cmp keys
  pub exact : (key : GoalKey) → Contains keys key ↔ ((key.time ≤ now) × IsGoal text level trace key)

-- ---- events of a batch

-- an event that a batch may bring: ground, and declared as an event with its number of arguments
abbrev pub IsOutside : Text → Atom → Type 0
IsOutside text event = IsExternal text event × IsTrue (list_all is_ground event.args)

module _ (text : Text) (level : List ℕ → ℕ) (trace : Trace) where
  -- an event is admitted where no denial is violated by it with the events before, else rejected by the least one that is
  abbrev pub IsVerdict : List Atom → Atom → Verdict → Type 0
  IsVerdict before event Admitted = ViolatesNone text level trace (before ++ event ∷ [])
  IsVerdict before event (Rejected k) = IsLeastViolated text level trace (before ++ event ∷ []) k

  -- each event of a batch is judged with those admitted before it
  abbrev pub AreJudged : List Atom → List Atom → List Verdict → Type 0
  AreJudged before [] [] = Unit {0}
  AreJudged before (event ∷ events) (verdict ∷ verdicts) =
      IsVerdict before event verdict × AreJudged (before ++ if_admitted verdict event) events verdicts
  AreJudged before _ _ = ⊥

-- ---- proposals

-- an atom of an entry that goes on with a group, before those of the entries behind it
abbrev pub joined_item : Values → ℕ → Bool → Item → List Atom → List Atom
joined_item s env true (i.Span a from to) more = put_atom (s env) a ∷ more
joined_item s env _ _ more = []

-- the atoms of the entries that go on with a group
abbrev pub joined : Values → List Entry → List Atom
joined s [] = []
joined s (e ∷ es) = joined_item s e.env e.joins e.item (joined s es)

-- the next step is a group of actions that begins now, and has exactly these atoms, sorted
pub record IsNextGroup (text : Text) (s : Values) (t : Times) (now : ℕ) (next : Entry) (rest : List Entry) (group : List Atom) : Type 0 where
  pub atom : Atom
  pub from : TimeVar
  pub to : TimeVar
  pub item : next.item ≡ i.Span atom from to
  pub action : is_action (kind_of text atom.name) ≡ true
  pub begins : t next.env from.0 ≡ now
  pub sorted : IsStrictlySortedBy atom_cmp group
  pub exact : (a : Atom) → Contains group a ↔ Contains (put_atom (s next.env) atom ∷ joined s rest) a

module _ (text : Text) (level : List ℕ → ℕ) (depth : ℕ) (trace : Trace) where
  -- the group is the next step of a live plan of the goal and may begin now, and no live plan of the goal has more groups done
  pub record IsProposal (key : GoalKey) (group : List Atom) : Type 0 where
    pub end : Place
    pub live : IsLive text level trace depth key (length trace.cycles) end
    pub most : (other : Place) → IsLive text level trace depth key (length trace.cycles) other → done other ≤ done end
    pub group_of : IsNextGroup text live.plan.reaches.values live.plan.reaches.times (length trace.cycles) live.plan.on.next live.plan.on.rest group

  -- goal n is pending, and has this key
  abbrev pub IsPendingNumber : List GoalKey → ℕ → GoalKey → Type 0
  IsPendingNumber keys n key = (numbered keys n ≡ Some key) × IsPending text level trace depth key (length trace.cycles)

  -- ---- legal cycles

  -- each pick is a proposal of a pending goal without a pick, and with it no denial is violated by the events so far
  abbrev pub ArePicks : List GoalKey → List ℕ → List Atom → List Pick → Type 0
  ArePicks keys taken before [] = Unit {0}
  ArePicks keys taken before (pick ∷ picks) =
      ((key : GoalKey) × IsPendingNumber keys pick.goal key × IsProposal key pick.group.atoms) × (Contains taken pick.goal → ⊥)
      × ViolatesNone text level trace (before ++ pick.group.atoms) × ArePicks keys (pick.goal ∷ taken) (before ++ pick.group.atoms) picks

  -- the cycle may follow the trace
  pub record IsLegal (cycle : Cycle) : Type 0 where
    pub room : length trace.cycles < 1000000
    pub few : length cycle.events ≤ 1000
    pub outside : AllByRecursion (IsOutside text) cycle.events
    pub judged : AreJudged text level trace [] cycle.events cycle.verdicts
    pub keys : List GoalKey
    pub goals : AreGoals text level trace (length trace.cycles) keys
    pub picks : ArePicks keys [] (admitted cycle.events cycle.verdicts) cycle.picks
    -- each proposal of a pending goal without a pick violates a denial with all that happens in the cycle
    pub no_more : (n : ℕ) (key : GoalKey) (group : List Atom) → IsPendingNumber keys n key → (Contains (map (λ pick. pick.goal) cycle.picks) n → ⊥) →
        IsProposal key group → (k : ℕ) × ViolatesNumber text level trace (happens_in cycle ++ group) k

module _ (text : Text) (level : List ℕ → ℕ) (depth : ℕ) where
  -- each cycle may follow those before it
  abbrev pub AreLegal : Trace → List Cycle → Type 0
  AreLegal before [] = Unit {0}
  AreLegal before (cycle ∷ cycles) = IsLegal text level depth before cycle × AreLegal (then_cycle before cycle) cycles

  -- the trace is a run of the text: its initial facts are those of the text, and each cycle may follow those before it
  pub record IsRun (trace : Trace) : Type 0 where
    pub initial : AreInitial text trace.initial
    pub legal : AreLegal (first_trace trace.initial) trace.cycles
