-- What a text says, each kind of statement in text order: declarations, initial facts and causal laws.
use Rattle.std.specs.Prelude.{Bool, List, [], ◌∷◌}
use Rattle.std.specs.List.{flat_map}
use Rattle.lps_terms.specs.declared.atom.Atom.{Atom}
use Rattle.lps_terms.specs.declared.cond.Cond.{Cond}
use Rattle.lps_terms.specs.declared.decl.Decl.{Decl}
use Rattle.lps_terms.specs.declared.body.Body.{Body}
use Rattle.lps_terms.specs.declared.body.Body.TheVariants as b
use Rattle.lps_terms.specs.declared.text.Text.{Text}

-- a causal law: its event initiates or terminates its fluent, where its conditions are true
pub record Law : Type 0 where
  pub initiates : Bool
  pub event : Atom
  pub fluent : Atom
  pub conds : List Cond

abbrev pub law_in : Body → List Law
law_in (b.Law initiates event fluent conds) = record { initiates = initiates; event = event; fluent = fluent; conds = conds } ∷ []
law_in _ = []

abbrev pub initial_in : Body → List Atom
initial_in (b.Initially atoms) = atoms
initial_in _ = []

abbrev pub declared_in : Body → List Decl
declared_in (b.Declare decls) = decls
declared_in _ = []

-- the causal laws of a text
abbrev pub laws : Text → List Law
laws text = flat_map (λ s. law_in s.body) text.statements

-- the initial facts of a text, as often as they stand there
abbrev pub initial_atoms : Text → List Atom
initial_atoms text = flat_map (λ s. initial_in s.body) text.statements

-- the declarations of a text
abbrev pub declarations : Text → List Decl
declarations text = flat_map (λ s. declared_in s.body) text.statements
