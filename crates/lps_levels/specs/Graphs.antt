-- Calls by the numbers of their names.
use Rattle.std.specs.Prelude.{◌≡◌, ℕ, ◌<◌, Bool, true, not, nat_le, nat_lt, ◌||◌, List, [], ◌++◌, All, length, map, slice_index, slice_index_or}
use Rattle.lps_terms.specs.declared.body.Body.{Body}
use Rattle.lps_terms.specs.declared.body.Body.TheVariants as b
use Rattle.lps_terms.specs.declared.decl.Decl.{Decl}
use Rattle.lps_model.specs.Calls.{Call, is_called}
use Rattle.lps_model.specs.Declarations.{kind_among}
use Rattle.lps_levels.specs.declared.edge.Edge.{Edge}

-- the name with a number
abbrev pub name_at : List (List ℕ) → ℕ → List ℕ
name_at names number = slice_index_or names number []

-- the call that an edge is
abbrev pub call_by : List (List ℕ) → Edge → Call
call_by names edge = record { caller = name_at names edge.caller; callee = name_at names edge.callee; is_strict = edge.is_strict }

abbrev pub calls_by : List (List ℕ) → List Edge → List Call
calls_by names edges = map (call_by names) edges

-- an edge is between numbers below the count
pub record IsWithin (count : ℕ) (edge : Edge) : Type 0 where
  pub caller : edge.caller < count
  pub callee : edge.callee < count

abbrev pub AreWithin : List (List ℕ) → List Edge → Type 0
AreWithin names edges = All (IsWithin (length names)) edges

-- some calls were added to edges
pub record AreAdded (names : List (List ℕ)) (old new : List Edge) (calls : List Call) : Type 0 where
  pub named : calls_by names new ≡ calls_by names old ++ calls
  pub within : AreWithin names old → AreWithin names new

-- no two numbers have one name
abbrev pub AreApart : List (List ℕ) → Type 0
AreApart names = (one other : ℕ) → one < length names → other < length names → name_at names one ≡ name_at names other → one ≡ other

-- the edges are between names, and the names are apart
pub record IsGraph (names : List (List ℕ)) (edges : List Edge) : Type 0 where
  pub apart : AreApart names
  pub within : AreWithin names edges

-- the head of a clause has a kind of its own
abbrev pub HasCalledHead : List Decl → Body → Type 0
HasCalledHead decls (b.Clause head conds) = is_called (kind_among decls head.name) ≡ true
HasCalledHead decls (b.MacroClause head begin end items) = is_called (kind_among decls head.name) ≡ true
HasCalledHead decls body = Unit {0}

-- an edge goes to no higher level
abbrev pub is_no_higher : List ℕ → Edge → Bool
is_no_higher levels edge = nat_le (slice_index levels edge.callee) (slice_index levels edge.caller)

-- an edge goes to a lower level, where it is strict
abbrev pub is_lower : List ℕ → Edge → Bool
is_lower levels edge = not edge.is_strict || nat_lt (slice_index levels edge.callee) (slice_index levels edge.caller)
