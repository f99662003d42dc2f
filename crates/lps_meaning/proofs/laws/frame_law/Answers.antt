use Rattle.lps_meaning.proofs.Framing.{accepted_texts_are_framed}
use Rattle.lps_meaning.proofs.laws.frame_law.Goals as goal

pub returns : goal.returns
returns c = accepted_texts_are_framed
