-- The first refusal of the tokens of bytes is that of the bytes.
use Rattle.std.specs.Prelude.{ℕ, List, Some}
use Rattle.lps_terms.specs.declared.read_refused.ReadRefused.{ReadRefused}
use Rattle.lps_terms.specs.declared.read_refused.ReadRefused.TheVariants as refused
use Rattle.lps_reader.specs.Refusals.{IsRefusal, IsRefusedAs}

pub refusal_is : (bytes : List ℕ) (refusal : ReadRefused) → IsRefusedAs bytes (Some refusal) → IsRefusal bytes refusal
refusal_is bytes refused.TextTooLong (short, none, is) = absurd is
refusal_is bytes (refused.Lex fault) (short, none, is) = absurd is
refusal_is bytes (refused.BadSyntax line) is = is
refusal_is bytes (refused.TooManyVars line) is = is
refusal_is bytes (refused.TermTooLarge line) is = is
