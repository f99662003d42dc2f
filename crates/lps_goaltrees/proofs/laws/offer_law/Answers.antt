use Rattle.lps_goaltrees.proofs.Proposed.{offers_are_proposals}
use Rattle.lps_goaltrees.proofs.laws.offer_law.Goals as goal

pub returns : goal.returns
returns c = offers_are_proposals c.led_law.ensures.propose c.led_law.ensures.ground
