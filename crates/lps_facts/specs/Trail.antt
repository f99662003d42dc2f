-- How the entries and the trail of a set of facts stand to each other.
use Rattle.std.specs.Prelude.{◌≡◌, ⊤, Bool, true, false, not, cond, List, [], ◌∷◌}
use Rattle.std.specs.List.Sorted.{IsStrictlySortedBy}
use Rattle.std.specs.Map.{keys_of}
use Rattle.lps_terms.specs.declared.atom.Atom.{Atom}
use Rattle.lps_terms.specs.Order.{atom_cmp, atom_eq}
use Rattle.lps_facts.specs.declared.change.Change.{Change}
use Rattle.lps_facts.specs.Facts.{is_among, changed, after}

-- the facts of the entries that are present
abbrev pub present : List (Atom × Bool) → List Atom
present [] = []
present (entry ∷ entries) = cond entry.1 (entry.0 ∷ present entries) (present entries)

-- the entries know the fact, present or not
abbrev pub knows : List (Atom × Bool) → Atom → Bool
knows [] fact = false
knows (entry ∷ entries) fact = cond (atom_eq fact entry.0) true (knows entries fact)

-- the facts before some changes, from those after them
abbrev pub before : List Atom → List Change → List Atom
before facts [] = facts
before facts (change ∷ changes) = changed (not change.inserted) change.fact (before facts changes)

-- each change put in a fact that was out, or took out one that was in
abbrev pub AreChanges : List Atom → List Change → Type 0
AreChanges facts [] = ⊤
AreChanges facts (change ∷ changes) = (is_among facts change.fact ≡ not change.inserted) × AreChanges (changed change.inserted change.fact facts) changes

-- each change has an entry
abbrev pub KnowsAll : List (Atom × Bool) → List Change → Type 0
KnowsAll entries [] = ⊤
KnowsAll entries (change ∷ changes) = (knows entries change.fact ≡ true) × KnowsAll entries changes

-- The entries are in order, and what is present is what the trail made of the facts before it.
pub record Stands (entries : List (Atom × Bool)) (trail : List Change) : Type 0 where
  pub ordered : IsStrictlySortedBy atom_cmp (keys_of entries)
  pub known : KnowsAll entries trail
  pub changes : AreChanges (before (present entries) trail) trail
  pub made : after (before (present entries) trail) trail ≡ present entries
