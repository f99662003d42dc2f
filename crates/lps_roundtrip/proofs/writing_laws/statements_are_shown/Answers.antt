use Rattle.lps_roundtrip.proofs.Lines.{statement_shown}
use Rattle.lps_roundtrip.proofs.writing_laws.statements_are_shown.Goals as goal

pub returns : goal.returns
returns c = statement_shown
