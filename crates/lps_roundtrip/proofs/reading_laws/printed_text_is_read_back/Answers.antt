use Rattle.lps_roundtrip.proofs.ReadBack.{printed_same, read_back, read_gives_back}
use Rattle.lps_roundtrip.proofs.reading_laws.printed_text_is_read_back.Goals as goal

pub returns : goal.returns
returns c = record { text = read_back; reader = read_gives_back; printed = printed_same }
