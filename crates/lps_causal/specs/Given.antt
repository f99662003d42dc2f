-- What a law gives for an event over a set of facts, and what is gained step by step.
use Rattle.std.specs.Prelude.{ℕ, ◌≡◌, ◌↔◌, ◌⊎◌, IsTrue, Bool, true, false, List, Contains}
use Rattle.std.specs.List.Sorted.{IsStrictlySortedBy}
use Rattle.lps_terms.specs.declared.atom.Atom.{Atom}
use Rattle.lps_terms.specs.declared.effects.Effects.{Effects}
use Rattle.lps_terms.specs.declared.term.Term.{Term}
use Rattle.lps_terms.specs.Order.{atom_cmp}
use Rattle.lps_terms.specs.Put.{put_atom}
use Rattle.lps_terms.specs.Symbols.{atom_symbols_of}
use Rattle.lps_model.specs.Program.{Law}
use Rattle.lps_model.specs.Clauses.{Clause}
use Rattle.lps_derivation.specs.Ground.{is_ground}
use Rattle.lps_derivation.specs.Instances.{IsSmall}
use Rattle.lps_derivation.specs.Levels.{AreLevels}
use Rattle.lps_solve.specs.Met.{AreMet}
use Rattle.lps_causal.specs.declared.given.Given.{Given}

-- ground terms in the places of its variables make the event of the law this one, its conditions true, and its fluent this one
pub record Gives (program : List Clause) (facts : List Atom) (level : List ℕ → ℕ) (law : Law) (event fluent : Atom) : Type 0 where
  pub values : ℕ → Term
  pub all_ground : (v : ℕ) → IsTrue (is_ground (values v))
  pub same_event : put_atom values law.event ≡ event
  pub met : AreMet program facts level values law.conds
  pub effect : put_atom values law.fluent ≡ fluent
  pub small_event : IsSmall (atom_symbols_of event)
  pub small_fluent : IsSmall (atom_symbols_of fluent)

-- the same, where the law is of this kind
abbrev pub GivesAs : List Clause → List Atom → (List ℕ → ℕ) → Atom → Bool → Law → Atom → Type 0
GivesAs program facts level event initiates law fluent = (law.initiates ≡ initiates) × Gives program facts level law event fluent

-- what P holds of for some element of a list
abbrev pub ByOne : {X : Type 0} → List X → (X → Atom → Type 0) → Atom → Type 0
ByOne {X} xs P a = (x : X) × Contains xs x × P x a

-- the new list has what the old one has, and what P holds of
abbrev pub Gains : List Atom → List Atom → (Atom → Type 0) → Type 0
Gains old new P = (a : Atom) → Contains new a ↔ (Contains old a ⊎ P a)

-- the fluents that are given as initiated, or those that are given as terminated
abbrev pub fluents_of : Bool → Given → List Atom
fluents_of true given = given.initiated.items
fluents_of false given = given.terminated.items

-- of each kind the new one has what the old one has, and what P holds of
abbrev pub Adds : Given → Given → (Bool → Atom → Type 0) → Type 0
Adds old new P = (initiates : Bool) → Gains (fluents_of initiates old) (fluents_of initiates new) (P initiates)

-- of each kind there is exactly what P holds of, by any levels
abbrev pub AreGiven : List Clause → Given → ((List ℕ → ℕ) → Bool → Atom → Type 0) → Type 0
AreGiven program given P = (level : List ℕ → ℕ) → AreLevels program level → (initiates : Bool) (a : Atom) → Contains (fluents_of initiates given) a ↔ P level initiates a

-- by any levels, of each kind the new one has what the old one has, and what P holds of
abbrev pub AddsBy : List Clause → Given → Given → ((List ℕ → ℕ) → Bool → Atom → Type 0) → Type 0
AddsBy program old new P = (level : List ℕ → ℕ) → AreLevels program level → Adds old new (P level)

-- the atom has the name, and its arguments are one of the rows, where a law of this kind gives the rows
abbrev pub IsOfRowAs : Bool → List ℕ → List (List Term) → Bool → Atom → Type 0
IsOfRowAs kind name rows initiates a = (kind ≡ initiates) × (a.name ≡ name) × Contains rows a.args

-- exactly the fluents that are given as initiated, and those that are given as terminated alone, each once and in order
pub record IsSettled (given : Given) (effects : Effects) : Type 0 where
  pub initiated : (a : Atom) → Contains effects.initiated a ↔ Contains given.initiated.items a
  pub terminated : (a : Atom) → Contains effects.terminated a ↔ (Contains given.terminated.items a × (Contains given.initiated.items a → ⊥))
  pub initiated_sorted : IsStrictlySortedBy atom_cmp effects.initiated
  pub terminated_sorted : IsStrictlySortedBy atom_cmp effects.terminated
