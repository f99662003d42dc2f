-- A set of facts: a base set, the changes since, and the set after them.
use Rattle.std.specs.Prelude.{◌≡◌, ℕ, ◌≤◌, Bool, true, false, not, List, [], ◌∷◌, ◌++◌, length, take, if◌then◌else◌}
use Rattle.std.specs.BTreeSet.{insert_key}
use Rattle.std.specs.List.{filter, list_any}
use Rattle.lps_terms.specs.declared.atom.Atom.{Atom}
use Rattle.lps_terms.specs.declared.effects.Effects.{Effects}
use Rattle.lps_terms.specs.Order.{atom_cmp, atom_eq}
use Rattle.lps_facts.specs.declared.change.Change.{Change}

-- the facts at the beginning of the trail, and what was changed since, the first change first
pub record TrailedSet : Type 0 where
  pub base : List Atom
  pub changes : List Change

-- the atom is one of these
abbrev pub is_among : List Atom → Atom → Bool
is_among atoms q = list_any (atom_eq q) atoms

-- these facts with one put in at its place in the order, or taken out
abbrev pub changed : Bool → Atom → List Atom → List Atom
changed true fact facts = insert_key atom_cmp facts fact
changed false fact facts = filter (λ x. not (atom_eq fact x)) facts

-- these facts after some changes
abbrev pub after : List Atom → List Change → List Atom
after facts [] = facts
after facts (change ∷ changes) = after (changed change.inserted change.fact facts) changes

-- the facts of the set, in order
abbrev pub members : TrailedSet → List Atom
members facts = after facts.base facts.changes

-- the set with one change more
abbrev pub then_change : TrailedSet → Bool → Atom → TrailedSet
then_change facts inserted fact = record { base = facts.base; changes = facts.changes ++ record { inserted = inserted; fact = fact } ∷ [] }

-- the set after the first so many changes
abbrev pub back_to : ℕ → TrailedSet → TrailedSet
back_to count facts = record { base = facts.base; changes = take count facts.changes }

-- whether putting in, or taking out, changes a set in which the fact is held or not
abbrev pub will_change : Bool → Bool → Bool
will_change true held = not held
will_change false held = held

-- the set with the fact put in, or taken out, where that changes it
abbrev pub with_fact : Bool → Atom → TrailedSet → TrailedSet
with_fact inserted fact facts = if will_change inserted (is_among (members facts) fact) then then_change facts inserted fact else facts

-- the set with each of some facts put in, or taken out, one after another
abbrev pub with_facts : Bool → List Atom → TrailedSet → TrailedSet
with_facts inserted [] facts = facts
with_facts inserted (fact ∷ rest) facts = with_facts inserted rest (with_fact inserted fact facts)

-- the set without the terminated facts, together with the initiated ones
abbrev pub with_effects : Effects → TrailedSet → TrailedSet
with_effects effects facts = with_facts true effects.initiated (with_facts false effects.terminated facts)

-- the later set goes back to the earlier one
abbrev pub IsLater : TrailedSet → TrailedSet → Type 0
IsLater earlier later = (length earlier.changes ≤ length later.changes) × (back_to (length earlier.changes) later ≡ earlier)
