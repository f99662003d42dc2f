use Rattle.std.proofs.Common.{◌∷◌, [], sym, subst}
use Rattle.std.specs.List.{AllByRecursion}
use Rattle.lps_solve.proofs.Vars.{all_append}
use Rattle.lps_causal.specs.Laws.{IsCounted}
use Rattle.lps_causal.proofs.causal_laws.CausalLaws.with_law.Goals as goal

pub invariant_of-result : goal.invariant_of-result
invariant_of-result c =
    subst (AllByRecursion IsCounted) (sym c.in_ok-push.ensures.items) (all_append IsCounted c.self.inside.laws.items (c.in_ok-law.law ∷ []) c.self.invariant (c.in_ok-law.ensures.counted, tt))
