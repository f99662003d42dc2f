-- The steps that are made at one time on what is left of a sequence: how an item is met, and what the steps lead to.
use Rattle.std.specs.Prelude.{◌≡◌, ◌↔◌, ◌<◌, ◌≤◌, ◌&&◌, ◌||◌, ℕ, zero, suc, Bool, true, false, nat_lt, IsTrue, List, [], ◌∷◌, drop, map, length, Contains, None, if◌then◌else◌}
use Rattle.std.specs.List.{AllByRecursion, filter}
use Rattle.lps_terms.specs.declared.atom.Atom.{Atom}
use Rattle.lps_terms.specs.declared.built.Built.{Built}
use Rattle.lps_terms.specs.declared.built.Built.TheVariants as b
use Rattle.lps_terms.specs.declared.cond.Cond.{Cond}
use Rattle.lps_terms.specs.declared.cond.Cond.TheVariants as c
use Rattle.lps_terms.specs.declared.term.Term.{Term}
use Rattle.lps_terms.specs.declared.text.Text.{Text}
use Rattle.lps_terms.specs.Put.{put, put_atom}
use Rattle.lps_terms.specs.Symbols.{atom_symbols_of}
use Rattle.lps_model.specs.Clauses.{Clause}
use Rattle.lps_model.specs.Known.{Scope, unknown_among}
use Rattle.lps_model.specs.Program.{declarations}
use Rattle.lps_derivation.specs.Instances.{IsSmall, put_built, put_lit}
use Rattle.lps_derivation.specs.Levels.{AreLevels}
use Rattle.lps_meaning.specs.declared.node.LeftCon.{LeftCon}
use Rattle.lps_meaning.specs.declared.node.LeftItem.{LeftItem}
use Rattle.lps_meaning.specs.declared.node.LeftItem.TheVariants as l
use Rattle.lps_meaning.specs.declared.node.Node.{Node}
use Rattle.lps_meaning.specs.declared.when.When.{When}
use Rattle.lps_meaning.specs.declared.when.When.TheVariants.{Known, Unknown}
use Rattle.lps_nodes.specs.Conditions.{is_same_time}
use Rattle.lps_nodes.specs.Shapes.{left_vars, put_left, put_left_con, put_when}
use Rattle.lps_solve.specs.Answers.{IsInstanceFor}
use Rattle.lps_solve.specs.Met.{AreGround, IsMetCond}
use Rattle.lps_solve.specs.Moded.{IsClosed}
use Rattle.lps_unify.specs.Bindings.{Solves, TrailedBindings, count_of, standing}
use Rattle.lps_unify.specs.Unified.{AreWithin}
use Rattle.lps_meeting.specs.declared.stage.Stage.{Stage}
use Rattle.lps_meeting.specs.declared.ways.Ways.{Ways}
use Rattle.lps_residual.specs.Moments.{left_needs}
use Rattle.lps_residual.specs.Limits.{is_open, with_limits}
use Rattle.lps_residual.specs.Putting.{value_at, when_at}

-- ---- the times of an item that is met

-- whether an event or an action from one time to another goes on with the group of what was met last, at this time
abbrev pub joins_at : Stage → When → When → ℕ → Bool
joins_at stage from to zero = false
joins_at stage from to (suc before) = stage.joins && (is_same_time from (Known before) && is_same_time to (Known (suc before)))

-- it may be met at this time after what was met before
abbrev pub is_due : Stage → When → When → ℕ → Bool
is_due stage from to time = nat_lt stage.before time || joins_at stage from to time

abbrev pub IsDue : Stage → ℕ → LeftItem → Type 0
IsDue stage time (l.Span a from to) = IsTrue (is_due stage from to time)
IsDue stage time _ = Unit {0}

-- the two times are those of the cycle that ends at a time
abbrev pub AreOfCycle : ℕ → When → When → Type 0
AreOfCycle zero from to = ⊥
AreOfCycle (suc before) from to = (from ≡ Known before) × (to ≡ Known (suc before))

-- with w put in, the times of the item are those of a step that is made at this time
abbrev pub IsAtTime : (ℕ → When) → ℕ → LeftItem → Type 0
IsAtTime w time (l.At lit at) = put_when w at ≡ Known time
IsAtTime w time (l.Span a from to) = AreOfCycle time (put_when w from) (put_when w to)
IsAtTime w time _ = Unit {0}

-- a time is this one where it is known
abbrev pub IsOf : When → When → Type 0
IsOf (Known n) time = time ≡ Known n
IsOf (Unknown k) time = Unit {0}

-- w is an instance of these times
abbrev pub IsTimesOf : List When → (ℕ → When) → Type 0
IsTimesOf whens w = (k : ℕ) → k < length whens → IsOf (when_at whens k) (w k)

-- each that is unknown is so by its own number
abbrev pub AreOwn : List When → Type 0
AreOwn whens = (k j : ℕ) → when_at whens k ≡ Unknown j → j ≡ k

-- so many unknown times, each by its own number
abbrev pub AreUnknown : ℕ → List When → Type 0
AreUnknown unknowns whens = (length whens ≡ unknowns) × ((k : ℕ) → when_at whens k ≡ Unknown k)

-- true makes exactly those instances of the old times that meet P the instances of the new ones; false comes where no instance meets P
abbrev pub IsSetTo : Bool → List When → List When → ((ℕ → When) → Type 0) → Type 0
IsSetTo true old new P = (length new ≡ length old) × (AreOwn old → AreOwn new) × ((w : ℕ → When) → IsTimesOf new w ↔ (IsTimesOf old w × P w))
IsSetTo false old new P = (w : ℕ → When) → IsTimesOf old w → P w → ⊥

-- those that are known are no later than this time
abbrev pub AreBy : ℕ → List When → Type 0
AreBy time whens = (k n : ℕ) → when_at whens k ≡ Known n → n ≤ time

-- exactly the instances of these times are times at which the item is met
pub record AreTimesWhenMet (unknowns time : ℕ) (item : LeftItem) (whens : List When) : Type 0 where
  pub count : length whens ≡ unknowns
  pub own : AreOwn whens
  pub early : AreBy time whens
  pub exact : (w : ℕ → When) → IsAtTime w time item ↔ IsTimesOf whens w

-- ---- the values of an item that is met

-- so many variables, none of them bound
pub record IsFresh (variables : ℕ) (b : TrailedBindings) : Type 0 where
  pub count : count_of b ≡ variables
  pub free : (s : ℕ → Term) → Solves s b

-- s is an instance of these terms
abbrev pub IsValuesOf : List Term → (ℕ → Term) → Type 0
IsValuesOf values s = (v : ℕ) → v < length values → s v ≡ put s (value_at values v)

-- exactly the instances of these values, which are one of them, make the terms the row
pub record AreValuesBy (variables : ℕ) (terms row values : List Term) : Type 0 where
  pub count : length values ≡ variables
  pub within : AreWithin variables values
  pub own : IsValuesOf values (value_at values)
  pub exact : (s : ℕ → Term) → (map (put s) terms ≡ row) ↔ IsValuesOf values s

-- what the bindings make of each of so many variables
pub record AreResolved (variables : ℕ) (b : TrailedBindings) (values : List Term) : Type 0 where
  pub count : length values ≡ variables
  pub each : (v : ℕ) → v < variables → value_at values v ≡ (standing b).value v

-- Over some clauses and facts, a level for each name and some events, the item with s put in is met but for its times.
abbrev pub IsMetBy : List Clause → List Atom → (List ℕ → ℕ) → List Atom → (ℕ → Term) → LeftItem → Type 0
IsMetBy program facts level events s (l.At lit time) = IsMetCond program facts level (c.Lit (put_lit s lit))
IsMetBy program facts level events s (l.Bare lit) = IsMetCond program facts level (c.Lit (put_lit s lit))
IsMetBy program facts level events s (l.Built built) = IsMetCond program facts level (c.Built (put_built s built))
IsMetBy program facts level events s (l.Span a from to) = Contains events (put_atom s a) × IsSmall (atom_symbols_of (put_atom s a))

-- x are the arguments of the event, which has the name of the atom and as many arguments, and is small
pub record IsRowOfEvent (atom event : Atom) (x : List Term) : Type 0 where
  pub named : event.name ≡ atom.name
  pub count : length event.args ≡ length atom.args
  pub small : IsSmall (atom_symbols_of event)
  pub is : x ≡ event.args

-- the rows are what the terms are in exactly the instances of the condition, ground
pub record AreInstances (program : List Clause) (facts : List Atom) (most room : ℕ) (b : TrailedBindings) (cond : Cond) (terms : List Term) (ways : Ways) : Type 0 where
  pub terms_are : ways.terms ≡ terms
  pub ground : (row : List Term) → Contains (map (λ v. v.0) ways.rows.items) row → AreGround row
  pub exact : (level : List ℕ → ℕ) → AreLevels program level → (row : List Term) →
      Contains (map (λ v. v.0) ways.rows.items) row ↔ IsInstanceFor program facts level most room b (cond ∷ []) terms row

-- the terms of a built-in that may have variables when it is met
abbrev pub decided_by : Built → List Term
decided_by (b.Same x y) = x ∷ y ∷ []
decided_by (b.Differ x y) = []
decided_by (b.Is x e) = x ∷ []
decided_by (b.Compare rel x y) = []

-- Exactly the terms that are one of the rows meet the item. They have its variables alone, and each of these has a value then.
pub record AreWays (program : List Clause) (facts events : List Atom) (variables : ℕ) (item : LeftItem) (ways : Ways) : Type 0 where
  pub within : AreWithin variables ways.terms
  pub ground : (row : List Term) → Contains (map (λ v. v.0) ways.rows.items) row → AreGround row
  pub own : (s r : ℕ → Term) → AllByRecursion (λ v. s v ≡ r v) (left_vars item) → map (put s) ways.terms ≡ map (put r) ways.terms
  pub closed : (s : ℕ → Term) → Contains (map (λ v. v.0) ways.rows.items) (map (put s) ways.terms) → AllByRecursion (λ v. IsClosed (s v)) (left_vars item)
  pub exact : (level : List ℕ → ℕ) → AreLevels program level → (s : ℕ → Term) →
      IsMetBy program facts level events s item ↔ Contains (map (λ v. v.0) ways.rows.items) (map (put s) ways.terms)

-- the variables of the item have numbers below this one
abbrev pub IsLeftBelow : ℕ → LeftItem → Type 0
IsLeftBelow variables item = AllByRecursion (λ v. v < variables) (left_vars item)

-- what has to be known at the item is known, where no variable is
pub record IsReadyItem (text : Text) (item : LeftItem) : Type 0 where
  pub scope : Scope
  pub declared : scope.decls ≡ declarations text
  pub seen : scope.is_planned ≡ false
  pub moded : unknown_among scope.names [] (left_needs scope [] item) ≡ None

-- each of the atoms is ground
abbrev pub AreGroundAtoms : List Atom → Type 0
AreGroundAtoms atoms = (a : Atom) → Contains atoms a → AreGround a.args

-- ---- stages

-- what was met last, or the event or action itself, where it is one
abbrev pub is_span : LeftItem → Bool
is_span (l.Span a from to) = true
is_span _ = false

-- the end of the last step once an item is met at this time, which no data item changes
abbrev pub before_then : ℕ → ℕ → LeftItem → ℕ
before_then before time (l.At lit at) = time
before_then before time (l.Span a from to) = time
before_then before time _ = before

-- the number of groups done once it is met
abbrev pub done_behind : Stage → ℕ → LeftItem → ℕ
done_behind stage time (l.Span a from to) = if joins_at stage from to time then stage.node.done else suc stage.node.done
done_behind stage time _ = stage.node.done

-- the constraints of a stage once s and w are put in
abbrev pub limits_with : Stage → (ℕ → When) → List LeftCon
limits_with stage w = map (put_left_con w) stage.node.limits

-- what is left behind the first item, once it is met at this time with s and w put in
abbrev pub node_behind : Stage → ℕ → (ℕ → Term) → (ℕ → When) → LeftItem → Node
node_behind stage time s w item = record {
  alternative = stage.node.alternative;
  rank = stage.node.rank;
  done = done_behind stage time item;
  carry = record { values = map (put s) stage.node.carry.values; times = map (put_when w) stage.node.carry.times };
  rest = map (put_left s w) (drop 1 stage.node.rest);
  limits = limits_with stage w;
}

-- the stage then, without the constraints whose times are all known
abbrev pub stage_behind : Stage → ℕ → (ℕ → Term) → (ℕ → When) → LeftItem → Stage
stage_behind stage time s w item = record {
  node = with_limits (node_behind stage time s w item) (filter is_open (limits_with stage w));
  before = before_then stage.before time item;
  joins = is_span item;
}
