use Rattle.lps_lex.proofs.Readings.{lexed_is_read}
use Rattle.lps_lex.proofs.laws.tokens_are_those_of_the_table.Goals as goal

pub returns : goal.returns
returns c = lexed_is_read
