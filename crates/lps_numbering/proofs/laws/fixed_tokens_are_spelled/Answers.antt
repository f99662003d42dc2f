use Rattle.lps_numbering.proofs.Spelled.{words_spelled}
use Rattle.lps_numbering.proofs.laws.fixed_tokens_are_spelled.Goals as goal

pub returns-clause-words : goal.returns-clause-words
returns-clause-words c = words_spelled
