use Rattle.lps_syntax.proofs.Unique.{line_unique, text_unique}
use Rattle.lps_syntax.proofs.laws.verdicts_exclude_each_other.Goals as goal

pub returns : goal.returns
returns c = record { of_texts = text_unique; of_lines = line_unique }
