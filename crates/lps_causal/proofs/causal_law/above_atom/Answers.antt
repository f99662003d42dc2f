use Rattle.std.proofs.Common.{◌∙◌, ◌<◌, ◌∷◌, List, [], ap, subst}
use Rattle.std.specs.List.{AllByRecursion, flat_map}
use Rattle.lps_terms.specs.declared.cond.Cond.{Cond}
use Rattle.lps_model.specs.VariableLists.{atom_vars, cond_vars}
use Rattle.lps_solve.proofs.Vars.{all_first}
use Rattle.lps_causal.specs.Laws.{positive}
use Rattle.lps_causal.proofs.causal_law.above_atom.Goals as goal

pub returns : goal.returns
returns c =
    all_first (λ v. v < c.above_conds.result) (atom_vars c.args.atom.now) []
    (subst (λ (ks : List Cond). AllByRecursion (λ v. v < c.above_conds.result) (flat_map cond_vars ks))
    (c.as_slice.ensures.value ∙ c.in_ok-alone.ensures.items ∙ ap (λ (k : Cond). k ∷ []) (c.as_cond.ensures ∙ ap positive c.in_ok-atom.ensures)) c.above_conds.ensures)
