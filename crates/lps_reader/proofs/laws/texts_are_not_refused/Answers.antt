use Rattle.lps_reader.proofs.Unique.{none}
use Rattle.lps_reader.proofs.laws.texts_are_not_refused.Goals as goal

pub returns : goal.returns
returns c = λ bytes text refusal is refused. none bytes refusal is.accepted refused
