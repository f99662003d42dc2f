use Rattle.lps_roundtrip.proofs.Read.{shown_lexed}
use Rattle.lps_roundtrip.proofs.writing_laws.shown_is_lexed.Goals as goal

pub returns : goal.returns
returns c = shown_lexed
