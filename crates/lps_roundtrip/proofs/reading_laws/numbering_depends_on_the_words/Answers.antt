use Rattle.lps_numbering.specs.Numbers.{no_names}
use Rattle.lps_roundtrip.proofs.Numbered.{crowded_is, statements_are, toks_are}
use Rattle.lps_roundtrip.proofs.reading_laws.numbering_depends_on_the_words.Goals as goal

pub returns : goal.returns
returns c = record {
  toks = λ bytes tokens. toks_are bytes no_names tokens;
  statements = λ bytes tokens. statements_are bytes no_names tokens;
  crowded = λ bytes tokens. crowded_is bytes no_names 0 tokens;
}
