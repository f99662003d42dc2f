-- How far it is from each name to a goal, and the least way.
use Rattle.std.specs.Prelude.{◌≡◌, ℕ, suc, ◌<◌, ◌≤◌, Bool, true, false, nat_eq, ◌&&◌, if◌then◌else◌, List, ◌∷◌, All, Contains, length, Option, Some, None, is_none, count_by, slice_index, slice_index_or, slice_set}
use Rattle.std.specs.declared.cmp.Ordering.TheVariants.{Greater}
use Rattle.std.specs.Ordering.{is_lt}
use Rattle.lps_terms.specs.Names.{name_cmp}
use Rattle.lps_model.specs.Levels.{HasNoWay, IsLeastWay, IsStrictCycle, IsWay}
use Rattle.lps_levels.specs.declared.edge.Edge.{Edge}
use Rattle.lps_levels.specs.declared.judge.Answer.{Answer}
use Rattle.lps_levels.specs.declared.judge.Answer.TheVariants as a
use Rattle.lps_levels.specs.Graphs.{calls_by, is_lower, is_no_higher, name_at}

-- the distance of a name
abbrev pub distance_at : List (Option ℕ) → ℕ → Option ℕ
distance_at distances number = slice_index_or distances number None

abbrev pub is_distance : Option ℕ → ℕ → Bool
is_distance None distance = false
is_distance (Some found) distance = nat_eq found distance

-- whether a name has a distance
abbrev pub is_at : List (Option ℕ) → ℕ → ℕ → Bool
is_at distances number distance = is_distance (distance_at distances number) distance

-- a name has a distance that is no larger
pub record IsNear (distances : List (Option ℕ)) (number most : ℕ) : Type 0 where
  pub distance : ℕ
  pub found : distance_at distances number ≡ Some distance
  pub near : distance ≤ most

-- each distance is that of a way to the goal
pub record AreReached (names : List (List ℕ)) (edges : List Edge) (goal : ℕ) (distances : List (Option ℕ)) : Type 0 where
  pub size : length distances ≡ length names
  pub start : distance_at distances goal ≡ Some 0
  pub reached : (number distance : ℕ) → distance_at distances number ≡ Some distance → (way : List (List ℕ)) × IsWay (calls_by names edges) (name_at names number) (name_at names goal) way × (length way ≡ distance)

-- each name with a way to the goal has the length of a shortest one
pub record AreDistances (names : List (List ℕ)) (edges : List Edge) (goal : ℕ) (distances : List (Option ℕ)) : Type 0 where
  pub reached : AreReached names edges goal distances
  pub closed : (edge : Edge) → Contains edges edge → (distance : ℕ) → distance_at distances edge.callee ≡ Some distance → IsNear distances edge.caller (suc distance)

-- the same, of ways up to a length
pub record AreDistancesTo (depth : ℕ) (names : List (List ℕ)) (edges : List Edge) (goal : ℕ) (distances : List (Option ℕ)) : Type 0 where
  pub reached : AreReached names edges goal distances
  pub most : (number distance : ℕ) → distance_at distances number ≡ Some distance → distance ≤ depth
  pub closed : (edge : Edge) → Contains edges edge → (distance : ℕ) → distance_at distances edge.callee ≡ Some distance → distance < depth → IsNear distances edge.caller (suc distance)

-- whether the caller of an edge got the next distance: it had none, and the callee is at the depth
abbrev pub IsExtended : ℕ → Edge → List (Option ℕ) → List (Option ℕ) → Bool → Type 0
IsExtended depth edge old new true = (is_at old edge.callee depth ≡ true) × (distance_at old edge.caller ≡ None) × (new ≡ slice_set old edge.caller (Some (suc depth)))
IsExtended depth edge old new false = (new ≡ old) × (is_at old edge.callee depth ≡ true → is_none (distance_at old edge.caller) ≡ false)

-- how many names have no distance
abbrev pub missing : List (Option ℕ) → ℕ
missing distances = count_by is_none distances

-- whether a name comes before another, or there is no other
abbrev pub comes_before : List (List ℕ) → ℕ → Option ℕ → Bool
comes_before names number None = true
comes_before names number (Some other) = is_lt (name_cmp (name_at names number) (name_at names other))

-- the callee of an edge, where it has the distance from the caller and comes before the best so far
abbrev pub better : List (List ℕ) → List (Option ℕ) → ℕ → ℕ → Option ℕ → Edge → Option ℕ
better names distances caller distance least edge =
    if (nat_eq edge.caller caller && is_at distances edge.callee distance) && comes_before names edge.callee least then Some edge.callee else least

-- a callee of a name at a distance, of the least name
pub record IsLeastCallee (names : List (List ℕ)) (edges : List Edge) (distances : List (Option ℕ)) (caller distance callee : ℕ) : Type 0 where
  pub edge : Edge
  pub among : Contains edges edge
  pub calls : edge.caller ≡ caller
  pub called : edge.callee ≡ callee
  pub near : distance_at distances callee ≡ Some distance
  pub least : (other : Edge) → Contains edges other → other.caller ≡ caller → distance_at distances other.callee ≡ Some distance → name_cmp (name_at names callee) (name_at names other.callee) ≡ Greater → ⊥

abbrev pub HasNoCallee : List Edge → List (Option ℕ) → ℕ → ℕ → Type 0
HasNoCallee edges distances caller distance = (other : Edge) → Contains edges other → other.caller ≡ caller → distance_at distances other.callee ≡ Some distance → ⊥

-- an edge lies on no cycle
abbrev pub IsOnNoCycle : List (List ℕ) → List Edge → Edge → Type 0
IsOnNoCycle names edges edge = HasNoWay (calls_by names edges) (name_at names edge.callee) (name_at names edge.caller)

-- no strict edge lies on a cycle
abbrev pub HaveNoStrictCycle : List (List ℕ) → List Edge → List Edge → Type 0
HaveNoStrictCycle names edges some = (edge : Edge) → Contains some edge → edge.is_strict ≡ true → IsOnNoCycle names edges edge

-- the cycle of an edge with the least way back
pub record IsCycleOf (names : List (List ℕ)) (edges : List Edge) (edge : Edge) (cycle : List (List ℕ)) : Type 0 where
  pub way : List (List ℕ)
  pub back : IsLeastWay (calls_by names edges) (name_at names edge.callee) (name_at names edge.caller) way
  pub around : cycle ≡ name_at names edge.caller ∷ way

-- the same, of a strict edge
pub record IsStrictCycleOf (names : List (List ℕ)) (edges : List Edge) (edge : Edge) (cycle : List (List ℕ)) : Type 0 where
  pub strict : edge.is_strict ≡ true
  pub cycle_of : IsCycleOf names edges edge cycle

-- each edge goes to no higher level
abbrev pub NeverRise : List Edge → List ℕ → Type 0
NeverRise edges levels = All (λ edge. is_no_higher levels edge ≡ true) edges

-- these are levels by number
pub record AreRight (names : List (List ℕ)) (edges : List Edge) (levels : List ℕ) : Type 0 where
  pub size : length levels ≡ length names
  pub no_higher : All (λ edge. is_no_higher levels edge ≡ true) edges
  pub lower : All (λ edge. is_lower levels edge ≡ true) edges

-- each level is how many names have no way to its name
pub record AreUnreached (names : List (List ℕ)) (edges : List Edge) (levels : List ℕ) : Type 0 where
  pub size : length levels ≡ length names
  pub counted : (goal : ℕ) → goal < length names → (distances : List (Option ℕ)) × AreDistances names edges goal distances × (slice_index levels goal ≡ missing distances)

-- an answer is right: levels, or the cycle of the calls
abbrev pub IsRightAnswer : List (List ℕ) → List Edge → Answer → Type 0
IsRightAnswer names edges (a.Levelled levels) = AreRight names edges levels.items
IsRightAnswer names edges (a.Cyclic cycle) = IsStrictCycle (calls_by names edges) cycle.items
