use Rattle.std.proofs.Common.{◌<◌, List, sym, subst}
use Rattle.std.specs.List.{AllByRecursion, flat_map}
use Rattle.lps_terms.specs.declared.atom.Atom.{Atom}
use Rattle.lps_terms.specs.declared.cond.Cond.{Cond}
use Rattle.lps_model.specs.VariableLists.{atom_vars, cond_vars}
use Rattle.lps_causal.proofs.causal_law.copy_law.Goals as goal

pub returns-clause-counted : goal.returns-clause-counted
returns-clause-counted c = record {
  event = subst (λ (a : Atom). AllByRecursion (λ v. v < c.in_ok-variables.variables) (atom_vars a)) (sym c.in_ok-event.ensures) c.in_ok-variables.ensures.event;
  fluent = subst (λ (a : Atom). AllByRecursion (λ v. v < c.in_ok-variables.variables) (atom_vars a)) (sym c.in_ok-fluent.ensures) c.in_ok-variables.ensures.fluent;
  conds = subst (λ (ks : List Cond). AllByRecursion (λ v. v < c.in_ok-variables.variables) (flat_map cond_vars ks)) (sym c.in_ok-conds.ensures) c.in_ok-variables.ensures.conds;
}
