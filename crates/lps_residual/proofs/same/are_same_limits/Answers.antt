use Rattle.std.proofs.Common.{arith}
use Rattle.std.proofs.lemmas.Grind.{common_steps}
use Rattle.std.proofs.lemmas.Slice.Eq.{slice_eq-Decides}
use Rattle.lps_residual.proofs.same.are_same_limits.Goals as goal

pub returns : goal.returns
returns c = let decides = slice_eq-Decides (λ a b. grind (arith, common_steps)) c.args.limits.now c.args.others.now c.eq.result c.eq.ensures in (decides.0, decides.1)
