-- Which facts are instances of a pattern, and what matching a pattern with a value tells of the variables.
use Rattle.std.specs.Prelude.{◌≡◌, ◌↔◌, ◌⊎◌, ℕ, ◌<◌, Bool, true, false, List, [], ◌∷◌, ◌++◌, map, Some, slice_index_or}
use Rattle.std.specs.BTreeMap.{BTreeMap, get}
use Rattle.std.specs.Ordering.{nat_cmp}
use Rattle.lps_terms.specs.declared.atom.Atom.{Atom}
use Rattle.lps_terms.specs.declared.term.Term.{Term}
use Rattle.lps_terms.specs.Put.{put, put_atom}

-- with some terms in the places of its variables the pattern is the fact
abbrev pub IsInstance : Atom → Atom → Type 0
IsInstance pattern fact = (s : ℕ → Term) × (put_atom s pattern ≡ fact)

-- the terms of s are those that are known
abbrev pub Agrees : BTreeMap ℕ Term → (ℕ → Term) → Type 0
Agrees known s = (v : ℕ) (x : Term) → get nat_cmp known v ≡ Some x → s v ≡ x

-- Matching made `new` of what was known: where it succeeded, `new` says what was known before and that the pattern is the
-- value; where it failed, nothing that agrees with what was known makes the pattern the value.
abbrev pub MatchesOn : Bool → BTreeMap ℕ Term → BTreeMap ℕ Term → Term → Term → Type 0
MatchesOn true old new pattern value = (s : ℕ → Term) → Agrees new s ↔ (Agrees old s × (put s pattern ≡ value))
MatchesOn false old new pattern value = (s : ℕ → Term) → Agrees old s → put s pattern ≡ value → ⊥

-- the same of lists, item by item
abbrev pub MatchesAllOn : Bool → BTreeMap ℕ Term → BTreeMap ℕ Term → List Term → List Term → Type 0
MatchesAllOn true old new patterns values = (s : ℕ → Term) → Agrees new s ↔ (Agrees old s × (map (put s) patterns ≡ values))
MatchesAllOn false old new patterns values = (s : ℕ → Term) → Agrees old s → map (put s) patterns ≡ values → ⊥

-- the first so many patterns are the values
abbrev pub AreFirst : (ℕ → Term) → ℕ → List Term → List Term → Type 0
AreFirst s count patterns values = (k : ℕ) → k < count → (d : Term) → put s (slice_index_or patterns k d) ≡ slice_index_or values k d

-- the first so many were matched
abbrev pub MatchesFirst : ℕ → BTreeMap ℕ Term → BTreeMap ℕ Term → List Term → List Term → Type 0
MatchesFirst count old new patterns values = (s : ℕ → Term) → Agrees new s ↔ (Agrees old s × AreFirst s count patterns values)

-- the list has, in order, those of the facts that meet the condition
abbrev pub IsSelection : (Atom → Type 0) → List Atom → List Atom → Type 0
IsSelection P [] selected = selected ≡ []
IsSelection P (fact ∷ facts) selected = (P fact × ((rest : List Atom) × (selected ≡ fact ∷ rest) × IsSelection P facts rest)) ⊎ ((P fact → ⊥) × IsSelection P facts selected)

-- the list with the fact where that meets the condition
abbrev pub IsPicked : (Atom → Type 0) → Atom → List Atom → List Atom → Type 0
IsPicked P fact old new = (P fact × (new ≡ old ++ fact ∷ [])) ⊎ ((P fact → ⊥) × (new ≡ old))
