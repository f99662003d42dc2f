-- What is made of the tokens so far, with one more.
use Rattle.std.specs.Prelude.{ℕ, suc, ◌+◌, ◌≡◌, Bool, true, false, List, [], ◌∷◌, ◌++◌, length, take, drop, nat_lt, if◌then◌else◌, Some, Result, Ok, Err, IfOk, refl}
use Rattle.std.proofs.Common.{◌∙◌, ◌<◌, sym, ap, arith, drop-cons, get_or}
use Rattle.std.proofs.Math.Seq.{take-suc}
use Rattle.lps_grammar.specs.declared.tok.Tok.{Tok}
use Rattle.lps_lex.specs.declared.token.Token.{Token}
use Rattle.lps_numbering.specs.declared.names.Names.{Names}
use Rattle.lps_numbering.specs.Numbers.{count_of, crowded_from, entered, is_full_stop, names_after, names_from, no_names, statements_from, statements_of, text_of, tok_of, toks_from, toks_of}

names_more : (bytes : List ℕ) (so_far : Names) (tokens : List Token) (token : Token) →
    names_from bytes so_far (tokens ++ token ∷ []) ≡ names_after bytes (names_from bytes so_far tokens) token
names_more bytes so_far [] token = refl
names_more bytes so_far (first ∷ tokens) token = names_more bytes (names_after bytes so_far first) tokens token

toks_more : (bytes : List ℕ) (so_far : Names) (tokens : List Token) (token : Token) →
    toks_from bytes so_far (tokens ++ token ∷ []) ≡ toks_from bytes so_far tokens ++ tok_of (names_from bytes so_far tokens) token.kind (text_of bytes token) ∷ []
toks_more bytes so_far [] token = refl
toks_more bytes so_far (first ∷ tokens) token =
    ap (λ rest. tok_of so_far first.kind (text_of bytes first) ∷ rest) (toks_more bytes (names_after bytes so_far first) tokens token)

-- the names of the statements that have ended, after some tokens
abbrev pub ended_from : List ℕ → Names → List Token → List Names
ended_from bytes so_far [] = []
ended_from bytes so_far (token ∷ tokens) =
    (if is_full_stop token.kind (text_of bytes token) then so_far ∷ [] else []) ++ ended_from bytes (names_after bytes so_far token) tokens

abbrev ended_at : List ℕ → Names → Token → List Names
ended_at bytes so_far token = if is_full_stop token.kind (text_of bytes token) then so_far ∷ [] else []

ended_more : (bytes : List ℕ) (so_far : Names) (tokens : List Token) (token : Token) →
    ended_from bytes so_far (tokens ++ token ∷ []) ≡ ended_from bytes so_far tokens ++ ended_at bytes (names_from bytes so_far tokens) token
ended_more bytes so_far [] token = by_test (is_full_stop token.kind (text_of bytes token)) where
  by_test : (test : Bool) → (if test then so_far ∷ [] else []) ++ [] ≡ (if test then so_far ∷ [] else [])
  by_test true = refl
  by_test false = refl
ended_more bytes so_far (first ∷ tokens) token =
    ap (λ rest. ended_at bytes so_far first ++ rest) (ended_more bytes (names_after bytes so_far first) tokens token)
    ∙ by_test (is_full_stop first.kind (text_of bytes first)) _ _
  where
    by_test : (test : Bool) (xs ys : List Names) → (if test then so_far ∷ [] else []) ++ (xs ++ ys) ≡ ((if test then so_far ∷ [] else []) ++ xs) ++ ys
    by_test true xs ys = refl
    by_test false xs ys = refl

pub ended_then : (bytes : List ℕ) (so_far : Names) (tokens : List Token) → statements_from bytes so_far tokens ≡ ended_from bytes so_far tokens ++ names_from bytes so_far tokens ∷ []
ended_then bytes so_far [] = refl
ended_then bytes so_far (first ∷ tokens) =
    ap (λ rest. ended_at bytes so_far first ++ rest) (ended_then bytes (names_after bytes so_far first) tokens)
    ∙ by_test (is_full_stop first.kind (text_of bytes first)) _ _
  where
    by_test : (test : Bool) (xs ys : List Names) → (if test then so_far ∷ [] else []) ++ (xs ++ ys) ≡ ((if test then so_far ∷ [] else []) ++ xs) ++ ys
    by_test true xs ys = refl
    by_test false xs ys = refl

-- these are what is made of the tokens
pub record AreNumbered (bytes : List ℕ) (tokens : List Token) (toks : List Tok) (ended : List Names) (names : Names) : Type 0 where
  pub toks_are : toks ≡ toks_of bytes tokens
  pub ended_are : ended ≡ ended_from bytes no_names tokens
  pub names_are : names ≡ names_from bytes no_names tokens

pub none_numbered : (bytes : List ℕ) → AreNumbered bytes [] [] [] no_names
none_numbered bytes = record { toks_are = refl; ended_are = refl; names_are = refl }

pub one_more : (bytes : List ℕ) (tokens : List Token) (toks : List Tok) (ended : List Names) (names : Names) (token : Token) → AreNumbered bytes tokens toks ended names →
    AreNumbered bytes (tokens ++ token ∷ []) (toks ++ tok_of names token.kind (text_of bytes token) ∷ [])
    (ended ++ (if is_full_stop token.kind (text_of bytes token) then names ∷ [] else [])) (names_after bytes names token)
one_more bytes tokens toks ended names token so_far = record {
  toks_are = ap (λ s. toks ++ tok_of s token.kind (text_of bytes token) ∷ []) so_far.names_are ∙ ap (λ xs. xs ++ tok_of (names_from bytes no_names tokens) token.kind (text_of bytes token) ∷ []) so_far.toks_are ∙ sym (toks_more bytes no_names tokens token);
  ended_are = ap (λ s. ended ++ ended_at bytes s token) so_far.names_are ∙ ap (λ xs. xs ++ ended_at bytes (names_from bytes no_names tokens) token) so_far.ended_are ∙ sym (ended_more bytes no_names tokens token);
  names_are = ap (λ s. names_after bytes s token) so_far.names_are ∙ sym (names_more bytes no_names tokens token);
}

pub statements_are : (bytes : List ℕ) (tokens : List Token) (toks : List Tok) (ended : List Names) (names : Names) → AreNumbered bytes tokens toks ended names →
    ended ++ names ∷ [] ≡ statements_of bytes tokens
statements_are bytes tokens toks ended names so_far =
    ap (λ s. ended ++ s ∷ []) so_far.names_are ∙ ap (λ xs. xs ++ names_from bytes no_names tokens ∷ []) so_far.ended_are ∙ sym (ended_then bytes no_names tokens)

plus_one : (i : ℕ) → i + 1 ≡ suc i
plus_one i = omega arith

-- what is made of the tokens up to and with one, whose text is this
pub next_numbered : (bytes : List ℕ) (tokens : List Token) (i : ℕ) (d : Token) (text : List ℕ) (toks new_toks : List Tok) (ended new_ended : List Names) (names new_names : Names) →
    i < length tokens → text ≡ text_of bytes (get_or tokens i d) → AreNumbered bytes (take i tokens) toks ended names →
    new_toks ≡ toks ++ tok_of names (get_or tokens i d).kind text ∷ [] →
    new_ended ≡ ended ++ (if is_full_stop (get_or tokens i d).kind text then names ∷ [] else []) →
    new_names ≡ (if is_full_stop (get_or tokens i d).kind text then no_names else entered names (get_or tokens i d).kind text) →
    AreNumbered bytes (take (i + 1) tokens) new_toks new_ended new_names
next_numbered bytes tokens i d text toks new_toks ended new_ended names new_names inside text_is so_far toks_are ended_are names_are =
    let token = get_or tokens i d in
    let all : AreNumbered bytes (take i tokens ++ token ∷ []) (toks ++ tok_of names token.kind (text_of bytes token) ∷ [])
    (ended ++ ended_at bytes names token) (names_after bytes names token) = one_more bytes (take i tokens) toks ended names token so_far in
    let more : take (i + 1) tokens ≡ take i tokens ++ token ∷ [] = ap (λ n. take n tokens) (plus_one i) ∙ take-suc tokens i d inside in
    record {
      toks_are = toks_are ∙ ap (λ t. toks ++ tok_of names token.kind t ∷ []) text_is ∙ all.toks_are ∙ ap (toks_of bytes) (sym more);
      ended_are = ended_are ∙ ap (λ t. ended ++ (if is_full_stop token.kind t then names ∷ [] else [])) text_is ∙ all.ended_are ∙ ap (ended_from bytes no_names) (sym more);
      names_are = names_are ∙ ap (λ t. if is_full_stop token.kind t then no_names else entered names token.kind t) text_is ∙ all.names_are ∙ ap (names_from bytes no_names) (sym more);
    }

-- no token up to and with one is too many
pub next_not_crowded : (bytes : List ℕ) (tokens : List Token) (i : ℕ) (d : Token) (text : List ℕ) (names new_names : Names) →
    i < length tokens → text ≡ text_of bytes (get_or tokens i d) →
    new_names ≡ (if is_full_stop (get_or tokens i d).kind text then no_names else entered names (get_or tokens i d).kind text) →
    false ≡ nat_lt 255 (count_of new_names) → crowded_from bytes names i (drop i tokens) ≡ crowded_from bytes new_names (i + 1) (drop (i + 1) tokens)
next_not_crowded bytes tokens i d text names new_names inside text_is names_are few =
    let token = get_or tokens i d in
    let names_is : new_names ≡ names_after bytes names token = names_are ∙ ap (λ t. if is_full_stop token.kind t then no_names else entered names token.kind t) text_is in
    ap (crowded_from bytes names i) (drop-cons tokens i d inside)
    ∙ ap (λ s. if nat_lt 255 (count_of s) then Some i else crowded_from bytes s (suc i) (drop (suc i) tokens)) (sym names_is)
    ∙ ap (λ x. if x then Some i else crowded_from bytes new_names (suc i) (drop (suc i) tokens)) (sym few)
    ∙ ap (λ n. crowded_from bytes new_names n (drop n tokens)) (sym (plus_one i))

-- two facts of a value that was made
pub both_ok : {X E : Type 0} {P Q R : X → Type 0} (result : Result X E) → ((x : X) → P x → Q x → R x) → IfOk result P → IfOk result Q → IfOk result R
both_ok (Ok x) join p q = join x p q
both_ok (Err e) join p q = tt
