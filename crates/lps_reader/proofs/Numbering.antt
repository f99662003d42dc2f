-- The tokens for the grammar of the first tokens are the first of all of them.
use Rattle.std.specs.Prelude.{ℕ, zero, suc, ◌+◌, ◌≡◌, ◌<◌, Bool, true, false, List, [], ◌∷◌, length, take, nat_lt, if◌then◌else◌, Option, Some, None, refl}
use Rattle.std.proofs.Common.{sym, ap, arith}
use Rattle.std.proofs.lemmas.List.{take_all}
use Rattle.lps_lex.specs.declared.token.Token.{Token}
use Rattle.lps_grammar.specs.declared.tok.Tok.{Tok}
use Rattle.lps_numbering.specs.declared.names.Names.{Names}
use Rattle.lps_numbering.specs.Numbers.{count_of, crowded_from, crowded_of, names_after, no_names, text_of, tok_of, toks_from, toks_of, up_to}
use Rattle.lps_reader.specs.Refusing.{IsJudged}
use Rattle.lps_reader.proofs.First.{some_is}

toks_size : (bytes : List ℕ) (so_far : Names) (tokens : List Token) → length (toks_from bytes so_far tokens) ≡ length tokens
toks_size bytes so_far [] = refl
toks_size bytes so_far (token ∷ tokens) = ap suc (toks_size bytes (names_after bytes so_far token) tokens)

toks_take : (bytes : List ℕ) (so_far : Names) (n : ℕ) (tokens : List Token) → toks_from bytes so_far (take n tokens) ≡ take n (toks_from bytes so_far tokens)
toks_take bytes so_far zero tokens = refl
toks_take bytes so_far (suc n) [] = refl
toks_take bytes so_far (suc n) (token ∷ tokens) =
    ap (λ rest. tok_of so_far token.kind (text_of bytes token) ∷ rest) (toks_take bytes (names_after bytes so_far token) n tokens)

-- the place of a variable too many is that of a token
crowded_within : (bytes : List ℕ) (so_far : Names) (at : ℕ) (tokens : List Token) (k : ℕ) → crowded_from bytes so_far at tokens ≡ Some k → k < at + length tokens
crowded_within bytes so_far at [] k found = absurd cc
crowded_within bytes so_far at (token ∷ tokens) k found = by_test (nat_lt 255 (count_of (names_after bytes so_far token))) found (crowded_within bytes (names_after bytes so_far token) (suc at) tokens k) where
  by_test : (test : Bool) → (if test then Some at else crowded_from bytes (names_after bytes so_far token) (suc at) tokens) ≡ Some k →
      (crowded_from bytes (names_after bytes so_far token) (suc at) tokens ≡ Some k → k < suc at + length tokens) → k < at + suc (length tokens)
  by_test true found go = let same = some_is at k found in omega (arith, same)
  by_test false found go = let within = go found in omega (arith, within)

-- how many tokens were numbered
abbrev pub count_numbered : Option ℕ → List Tok → ℕ
count_numbered None toks = length toks
count_numbered (Some k) toks = k + 1

pub sizes : (bytes : List ℕ) (tokens : List Token) → length (toks_of bytes tokens) ≡ length tokens
sizes bytes tokens = toks_size bytes no_names tokens

-- a variable too many is one of the tokens for the grammar
pub crowded_inside : (bytes : List ℕ) (tokens : List Token) (k : ℕ) → crowded_of bytes tokens ≡ Some k → k < length (toks_of bytes tokens)
crowded_inside bytes tokens k found = let within = crowded_within bytes no_names 0 tokens k found in let size = sizes bytes tokens in omega (arith, within, size)

pub are_judged : (bytes : List ℕ) (tokens : List Token) (crowded : Option ℕ) → crowded ≡ crowded_of bytes tokens → IsJudged (count_numbered crowded (toks_of bytes tokens)) crowded (toks_of bytes tokens)
are_judged bytes tokens None is = refl
are_judged bytes tokens (Some k) is =
    let within = crowded_within bytes no_names 0 tokens k (sym is) in
    let size = sizes bytes tokens in
    (omega arith, omega (arith, within, size))

pub first_toks : (bytes : List ℕ) (tokens : List Token) (crowded : Option ℕ) → toks_of bytes (up_to crowded tokens) ≡ take (count_numbered crowded (toks_of bytes tokens)) (toks_of bytes tokens)
first_toks bytes tokens None = sym (take_all (length (toks_of bytes tokens)) (toks_of bytes tokens) (omega arith))
first_toks bytes tokens (Some k) = toks_take bytes no_names (k + 1) tokens
