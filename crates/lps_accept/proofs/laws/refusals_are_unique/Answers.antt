use Rattle.lps_accept.proofs.Judged.{refused_once}
use Rattle.lps_accept.proofs.laws.refusals_are_unique.Goals as goal

pub returns : goal.returns
returns c = refused_once c.cycles_are_unique.ensures
