use Rattle.lps_solve.proofs.Accepted.{accepted_is_sound}
use Rattle.lps_solve.proofs.laws.accepted_texts_are_sound.Goals as goal

pub returns : goal.returns
returns c = accepted_is_sound
