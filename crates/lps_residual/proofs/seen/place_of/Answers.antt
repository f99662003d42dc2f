use Rattle.std.proofs.Common.{sym, nat_eq}
use Rattle.lps_unify.proofs.Places.{none_passes}
use Rattle.lps_residual.proofs.seen.place_of.Goals as goal

pub returns-in-None : goal.returns-in-None
returns-in-None c = none_passes (λ w. nat_eq w c.args.number) c.args.seen.now (sym c.in-None.ensures)
