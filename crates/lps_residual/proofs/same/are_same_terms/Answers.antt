use Rattle.std.proofs.lemmas.Slice.Eq.{slice_eq-Decides}
use Rattle.lps_terms.specs.OrderLaws.{term_eq-decides}
use Rattle.lps_residual.proofs.same.are_same_terms.Goals as goal

pub returns : goal.returns
returns c = let decides = slice_eq-Decides term_eq-decides c.args.terms.now c.args.others.now c.eq.result c.eq.ensures in (decides.0, decides.1)
