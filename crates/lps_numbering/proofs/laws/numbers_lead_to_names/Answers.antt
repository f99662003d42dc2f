use Rattle.lps_numbering.specs.Numbers.{no_names}
use Rattle.lps_numbering.proofs.Alike.{named}
use Rattle.lps_numbering.proofs.laws.numbers_lead_to_names.Goals as goal

pub returns : goal.returns
returns c = λ bytes tokens. named bytes no_names tokens
