-- Numbering tokens of bytes is numbering their words.
use Rattle.std.specs.Prelude.{ℕ, suc, ◌≡◌, List, [], ◌∷◌, ◌++◌, nat_lt, if◌then◌else◌, Some, refl}
use Rattle.std.proofs.Common.{ap}
use Rattle.lps_lex.specs.declared.token.Token.{Token}
use Rattle.lps_numbering.specs.declared.names.Names.{Names}
use Rattle.lps_numbering.specs.Numbers.{count_of, crowded_from, is_full_stop, names_after, statements_from, text_of, tok_of, toks_from}
use Rattle.lps_roundtrip.specs.Words.{words_in}
use Rattle.lps_roundtrip.specs.Numbered.{crowded_by, statements_by, toks_by}

pub toks_are : (bytes : List ℕ) (so_far : Names) (tokens : List Token) → toks_from bytes so_far tokens ≡ toks_by so_far (words_in bytes tokens)
toks_are bytes so_far [] = refl
toks_are bytes so_far (token ∷ tokens) = ap (λ rest. tok_of so_far token.kind (text_of bytes token) ∷ rest) (toks_are bytes (names_after bytes so_far token) tokens)

pub statements_are : (bytes : List ℕ) (so_far : Names) (tokens : List Token) → statements_from bytes so_far tokens ≡ statements_by so_far (words_in bytes tokens)
statements_are bytes so_far [] = refl
statements_are bytes so_far (token ∷ tokens) =
    ap (λ rest. (if is_full_stop token.kind (text_of bytes token) then so_far ∷ [] else []) ++ rest) (statements_are bytes (names_after bytes so_far token) tokens)

pub crowded_is : (bytes : List ℕ) (so_far : Names) (at : ℕ) (tokens : List Token) → crowded_from bytes so_far at tokens ≡ crowded_by so_far at (words_in bytes tokens)
crowded_is bytes so_far at [] = refl
crowded_is bytes so_far at (token ∷ tokens) =
    ap (λ rest. if nat_lt 255 (count_of (names_after bytes so_far token)) then Some at else rest) (crowded_is bytes (names_after bytes so_far token) (suc at) tokens)
