use Rattle.std.proofs.Common.{rules}
use Rattle.std.proofs.lemmas.Slice.Eq.{slice_eq-Decides}
use Rattle.lps_residual.proofs.same.are_same_times.Goals as goal

pub returns : goal.returns
returns c = let decides = slice_eq-Decides (λ a b. search rules) c.args.times.now c.args.others.now c.eq.result c.eq.ensures in (decides.0, decides.1)
