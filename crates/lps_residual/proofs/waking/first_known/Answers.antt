use Rattle.std.proofs.Common.{rules}
use Rattle.std.proofs.lemmas.Result.{IfOk-weaker}
use Rattle.lps_residual.proofs.Sleeping.{first_is_told}
use Rattle.lps_residual.proofs.waking.first_known.Goals as goal

pub returns-in-Some : goal.returns-in-Some
returns-in-Some c = IfOk-weaker c.known.result _ _ (first_is_told c.args.atom.now.args _ (search rules)) c.known.ensures
