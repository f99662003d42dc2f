-- What is reported of a trace, and its bytes.
use Rattle.std.specs.Prelude.{◌≡◌, ◌⊎◌, ◌≤◌, IsTrue, ◌↔◌, ◌-◌, ◌++◌, ℕ, zero, suc, Bool, true, false, List, [], ◌∷◌, length, codes, Option, Some, None, Contains, if◌then◌else◌, nat_eq, ◌&&◌, map}
use Rattle.std.specs.Fmt.{decimal}
use Rattle.std.specs.List.{AllZip, count_by, flat_map, list_all}
use Rattle.std.specs.List.Sorted.{IsStrictlySortedBy}
use Rattle.std.specs.Ordering.{nat_cmp, on}
use Rattle.lps_terms.specs.declared.atom.Atom.{Atom}
use Rattle.lps_terms.specs.declared.text.Text.{Text}
use Rattle.lps_terms.specs.Order.{atom_cmp}
use Rattle.lps_terms.specs.Names.{is_proper_name}
use Rattle.lps_terms.specs.Printed.{printed, separated, atom_text, listed_from}
use Rattle.lps_model.specs.declared.cycle.Cycle.{Cycle}
use Rattle.lps_model.specs.declared.cycle.Pick.{Pick}
use Rattle.lps_model.specs.declared.trace.Trace.{Trace}
use Rattle.lps_model.specs.Report.{verdict_lines}
use Rattle.lps_model.specs.Trace.{cycle_at}
use Rattle.lps_derivation.specs.Ground.{is_ground}
use Rattle.lps_meaning.specs.declared.goal.Closed.{Closed}
use Rattle.lps_meaning.specs.declared.goal.Closed.TheVariants as c
use Rattle.lps_meaning.specs.declared.goal.Counts.{Counts}
use Rattle.lps_meaning.specs.declared.goal.GoalId.{GoalId}
use Rattle.lps_meaning.specs.declared.goal.GoalKey.{GoalKey}
use Rattle.lps_meaning.specs.declared.goal.NewGoal.{NewGoal}
use Rattle.lps_meaning.specs.Cycles.{AreGoals}
use Rattle.lps_meaning.specs.Goals.{IsPending, IsClosed, HasStatus}
use Rattle.lps_meaning.specs.Holds.{Holds}
use Rattle.lps_model.specs.Rules.{numbered}

-- ---- what is reported of a cycle

abbrev pub is_pending : Option Closed → Bool
is_pending None = true
is_pending _ = false

abbrev pub is_failed : Option Closed → Bool
is_failed (Some c.Failed) = true
is_failed _ = false

abbrev pub is_cut : Option Closed → Bool
is_cut (Some c.Cut) = true
is_cut _ = false

module _ (text : Text) (level : List ℕ → ℕ) (trace : Trace) where
  -- the list is state i: exactly the fluents that hold there, strictly sorted
  pub record IsState (i : ℕ) (facts : List Atom) : Type 0 where
    pub sorted : IsStrictlySortedBy atom_cmp facts
    pub exact : (fluent : Atom) → Contains facts fluent ↔ Holds text level trace i fluent

module _ (text : Text) (level : List ℕ → ℕ) (depth : ℕ) (trace : Trace) (keys : List GoalKey) (k : ℕ) where
  -- goal n is new in cycle k
  abbrev pub IsNew : ℕ → GoalKey → Type 0
  IsNew n key = (numbered keys n ≡ Some key) × (key.time ≡ k)

  -- goal n is closed so in cycle k, where it is new or was pending before
  pub record IsClosedIn (n : ℕ) (how : Closed) : Type 0 where
    pub key : GoalKey
    pub goal : numbered keys n ≡ Some key
    pub closed : IsClosed text level trace depth key k how
    pub before : (key.time ≡ k) ⊎ ((j : ℕ) × (k ≡ suc j) × (key.time ≤ j) × IsPending text level trace depth key j)

  -- the new goals of cycle k, by number
  pub record AreCreated (created : List NewGoal) : Type 0 where
    pub sorted : IsStrictlySortedBy (on (λ g. g.goal.0) nat_cmp) created
    pub exact : (n : ℕ) (key : GoalKey) → Contains created (record { goal = record { 0 = n }; key = key }) ↔ IsNew n key

  -- the goals that are closed in cycle k, by number
  pub record AreClosedIn (closed : List (GoalId × Closed)) : Type 0 where
    pub sorted : IsStrictlySortedBy (on (λ g. g.0.0) nat_cmp) closed
    pub exact : (n : ℕ) (how : Closed) → Contains closed (record { 0 = n }, how) ↔ IsClosedIn n how

-- what is reported of a cycle
pub record Block : Type 0 where
  pub cycle : Cycle
  pub facts : List Atom
  pub created : List NewGoal
  pub closed : List (GoalId × Closed)

-- this is what is reported of cycle k
pub record IsBlockOf (text : Text) (level : List ℕ → ℕ) (depth : ℕ) (trace : Trace) (k : ℕ) (block : Block) : Type 0 where
  pub cycle : block.cycle ≡ cycle_at trace k
  pub state : IsState text level trace k block.facts
  pub keys : List GoalKey
  pub goals : AreGoals text level trace k keys
  pub created : AreCreated text level depth trace keys k block.created
  pub closed : AreClosedIn text level depth trace keys k block.closed

-- ---- bytes

-- texts of terms or atoms, with a comma and a space between each two
abbrev pub listed : {X : Type 0} → (X → List ℕ) → List X → List ℕ
listed spell xs = separated (map spell xs)

-- `do A, B for G`
abbrev pub pick_line : Pick → List ℕ
pick_line pick = codes "do " ++ listed atom_text pick.group.atoms ++ codes " for " ++ decimal pick.goal ++ codes "\n"

-- the values and then the times of a key, behind ` with ` where there are any
abbrev pub with_values : List (List ℕ) → List ℕ
with_values [] = []
with_values (piece ∷ pieces) = codes " with " ++ separated (piece ∷ pieces)

-- `goal G rule R`, and the key's values and times
abbrev pub goal_line : NewGoal → List ℕ
goal_line new =
    codes "goal " ++ decimal new.goal.0 ++ codes " rule " ++ decimal new.key.rule ++ with_values (map printed new.key.values ++ map decimal new.key.times) ++ codes "\n"

abbrev pub closed_word : Closed → List ℕ
closed_word c.Solved = codes "solved "
closed_word c.Failed = codes "failed "
closed_word c.Cut = codes "cut "

-- `solved G`, `failed G` or `cut G`
abbrev pub closed_line : GoalId × Closed → List ℕ
closed_line closed = closed_word closed.1 ++ decimal closed.0.0 ++ codes "\n"

-- the block of a cycle: its number, verdicts and picks, its state, its new goals, and the goals that it closes
unfoldable pub block_text : ℕ → Block → List ℕ
block_text number block =
    codes "cycle " ++ decimal number ++ codes "\n" ++ verdict_lines block.cycle.events block.cycle.verdicts ++ flat_map pick_line block.cycle.picks
    ++ codes "state" ++ listed_from false block.facts ++ codes "\n" ++ flat_map goal_line block.created ++ flat_map closed_line block.closed

-- a name that a text may give, and ground arguments
abbrev pub IsGroundAtom : Atom → Type 0
IsGroundAtom a = IsTrue (is_proper_name a.name) × IsTrue (list_all is_ground a.args)

-- `done` where all counts are 0, else `open P failed F cut C`
abbrev pub last_line : Counts → List ℕ
last_line counts = if nat_eq counts.pending 0 && nat_eq counts.failed 0 && nat_eq counts.cut 0
    then codes "done\n"
    else codes "open " ++ decimal counts.pending ++ codes " failed " ++ decimal counts.failed ++ codes " cut " ++ decimal counts.cut ++ codes "\n"

module _ (text : Text) (level : List ℕ → ℕ) (depth : ℕ) (trace : Trace) where
  -- the bytes are the block of cycle k
  abbrev pub IsBlock : ℕ → List ℕ → Type 0
  IsBlock k bytes = (block : Block) × IsBlockOf text level depth trace k block × (bytes ≡ block_text k block)

  -- the bytes are the blocks of the n cycles from `first` on
  abbrev pub AreBlocks : ℕ → ℕ → List ℕ → Type 0
  AreBlocks first zero bytes = bytes ≡ []
  AreBlocks first (suc n) bytes = (block : List ℕ) × (rest : List ℕ) × IsBlock first block × AreBlocks (suc first) n rest × (bytes ≡ block ++ rest)

  -- each goal has a status, and the counts are those of the goals that are pending, failed and cut
  pub record AreCounts (counts : Counts) : Type 0 where
    pub keys : List GoalKey
    pub goals : AreGoals text level trace (length trace.cycles) keys
    pub statuses : List (Option Closed)
    pub each : AllZip (λ key status. HasStatus text level trace depth key (length trace.cycles) status) keys statuses
    pub pending : count_by is_pending statuses ≡ counts.pending
    pub failed : count_by is_failed statuses ≡ counts.failed
    pub cut : count_by is_cut statuses ≡ counts.cut

  -- the bytes are the report from cycle `first`: the blocks from there on, if there are any, and the last line
  pub record IsReport (first : ℕ) (bytes : List ℕ) : Type 0 where
    pub blocks : List ℕ
    pub are_blocks : AreBlocks first (suc (length trace.cycles) - first) blocks
    pub counts : Counts
    pub are_counts : AreCounts counts
    pub spelled : bytes ≡ blocks ++ last_line counts
