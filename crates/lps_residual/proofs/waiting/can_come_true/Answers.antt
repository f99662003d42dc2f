use Rattle.std.proofs.lemmas.Option.{MatchOption-at_none}
use Rattle.lps_residual.proofs.Waits.{without_begin}
use Rattle.lps_residual.proofs.waiting.can_come_true.Goals as goal

pub returns-in-None : goal.returns-in-None
returns-in-None c = without_begin c.args.text.now c.args.node.now c.args.now (MatchOption-at_none _ _ c.in-None.is c.first_begin.ensures)
