-- The causal laws of a text as they are kept: each with a number above those of its variables, at its place in text order.
use Rattle.std.specs.Prelude.{ℕ, ◌<◌, false, List, [], slice_index_or}
use Rattle.std.specs.List.{AllByRecursion, flat_map}
use Rattle.lps_terms.specs.declared.atom.Atom.{Atom}
use Rattle.lps_terms.specs.declared.cond.Cond.{Cond}
use Rattle.lps_terms.specs.declared.cond.Cond.TheVariants as c
use Rattle.lps_model.specs.Program.{Law}
use Rattle.lps_model.specs.VariableLists.{atom_vars, cond_vars}
use Rattle.lps_causal.specs.declared.causal_law.CausalLaw.{CausalLaw}

-- the law of an entry
abbrev pub law_of : CausalLaw → Law
law_of entry = record { initiates = entry.initiates; event = entry.event; fluent = entry.fluent; conds = entry.conds }

-- each variable of an entry is one of those that it counts
pub record IsCounted (entry : CausalLaw) : Type 0 where
  pub event : AllByRecursion (λ v. v < entry.variables) (atom_vars entry.event)
  pub fluent : AllByRecursion (λ v. v < entry.variables) (atom_vars entry.fluent)
  pub conds : AllByRecursion (λ v. v < entry.variables) (flat_map cond_vars entry.conds)

-- the atom, as a condition
abbrev pub positive : Atom → Cond
positive a = c.Lit (record { negated = false; atom = a })

abbrev no_atom : Atom
no_atom = record { name = []; args = [] }

-- stands for a law that is not there
abbrev pub no_law : Law
no_law = record { initiates = false; event = no_atom; fluent = no_atom; conds = [] }

-- the law at a place
abbrev pub law_at : List Law → ℕ → Law
law_at laws i = slice_index_or laws i no_law
