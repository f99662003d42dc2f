use Rattle.lps_cycle.proofs.Rounds.{anew_round}
use Rattle.lps_cycle.proofs.round.Round.new.Goals as goal

pub invariant_of-result : goal.invariant_of-result
invariant_of-result c =
    anew_round c.args.theory c.args.trial c.new.result c.new-2.result.items c.mark-start.result c.requires.trial c.requires.anew c.mark-start.ensures c.new.ensures c.new-2.ensures.items
