use Rattle.lps_roundtrip.proofs.ReadBack.{none_crowded_again, statements_again, toks_again, toks_fine}
use Rattle.lps_roundtrip.proofs.reading_laws.written_tokens_are_numbered_again.Goals as goal

pub returns : goal.returns
returns c = record { toks = toks_again; statements = statements_again; crowded = none_crowded_again; fine = toks_fine }
