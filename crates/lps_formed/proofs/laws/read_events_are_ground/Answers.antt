use Rattle.lps_formed.proofs.Lines.{events_are_ground}
use Rattle.lps_formed.proofs.laws.read_events_are_ground.Goals as goal

pub returns : goal.returns
returns c = events_are_ground
