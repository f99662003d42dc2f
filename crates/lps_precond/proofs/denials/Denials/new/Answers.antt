use Rattle.std.proofs.Common.{List, rules, subst}
use Rattle.lps_precond.specs.Cut.{Cut}
use Rattle.lps_precond.specs.Stages.{AreLate}
use Rattle.lps_precond.proofs.denials.Denials.new.Goals as goal

pub invariant_of-result : goal.invariant_of-result
invariant_of-result c = (search rules, subst (λ (denials : List Cut). AreLate denials c.in_ok-late.late.items) c.as_slice-2.ensures.value c.in_ok-late.ensures)
