use Rattle.std.proofs.Common.{rules}
use Rattle.lps_residual.proofs.Sleeping.{known_is_told}
use Rattle.lps_residual.proofs.waking.known.Goals as goal

pub returns : goal.returns
returns c = known_is_told c.args.term.now c.in_ok-copy_term.field-0 (search rules) c.in_ok-copy_term.ensures
