use Rattle.lps_reader.proofs.Texts.{unique}
use Rattle.lps_reader.proofs.laws.texts_are_unique.Goals as goal

pub returns : goal.returns
returns c = unique
