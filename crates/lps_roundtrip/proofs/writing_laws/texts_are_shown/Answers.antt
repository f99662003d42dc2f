use Rattle.lps_roundtrip.proofs.Lines.{text_shown}
use Rattle.lps_roundtrip.proofs.writing_laws.texts_are_shown.Goals as goal

pub returns : goal.returns
returns c = text_shown
