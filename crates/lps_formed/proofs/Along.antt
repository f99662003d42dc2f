-- The tokens of bytes along their statements: each is formed under the names of its statement, which are at most 255.
use Rattle.std.specs.Prelude.{ℕ, suc, ◌≡◌, ◌+◌, ◌≤◌, Bool, true, false, List, [], ◌∷◌, ◌++◌, length, nat_lt, not, All, Contains, codes, if◌then◌else◌, Option, Some, None, refl}
use Rattle.std.specs.Str.{bytes_eq}
use Rattle.std.proofs.Common.{◌∙◌, sym, ap, subst, arith}
use Rattle.std.proofs.lemmas.Bool.{ltb-false, lt-ltb, not-true}
use Rattle.lps_terms.specs.Names.{is_proper_name, reserved}
use Rattle.lps_grammar.specs.declared.tok.Tok.{Tok}
use Rattle.lps_grammar.specs.declared.tok.Tok.TheVariants as k
use Rattle.lps_lex.specs.declared.token.Token.{Token}
use Rattle.lps_lex.specs.declared.token_kind.TokenKind.{TokenKind}
use Rattle.lps_lex.specs.declared.token_kind.TokenKind.TheVariants as kind
use Rattle.lps_lex.specs.Forms.{HasForm, IsWithinLimit, signs}
use Rattle.lps_lex.specs.Spans.{AreApart, IsTokenOf}
use Rattle.lps_lex.proofs.Words.{form_proper, passes_in}
use Rattle.lps_numbering.specs.declared.names.Names.{Names}
use Rattle.lps_numbering.specs.Fixed.{reserved_tok, sign_tok}
use Rattle.lps_numbering.specs.Numbers.{count_of, crowded_from, entered, is_full_stop, names_after, no_names, statements_from, text_of, tok_of, toks_from}
use Rattle.lps_numbering.proofs.Alike.{BeginsWith, entered_goes_on, GoesOn, goes_trans, on_refl, stays_there}

-- ---- one token

-- the full stop
abbrev pub is_dot : Tok → Bool
is_dot k.Dot = true
is_dot tok = false

-- under so many names of variables and times: a name is one that a text may give, and a variable or a time has one
abbrev pub IsFormedTok : ℕ → ℕ → Tok → Type 0
IsFormedTok variables times (k.Name n) = is_proper_name n ≡ true
IsFormedTok variables times (k.Variable v) = nat_lt v variables ≡ true
IsFormedTok variables times (k.Time t) = nat_lt t times ≡ true
IsFormedTok variables times tok = Unit {0}

-- a token that has nothing to be asked of
abbrev is_plain : Tok → Bool
is_plain (k.Name n) = false
is_plain (k.Variable v) = false
is_plain (k.Time t) = false
is_plain tok = true

plain_formed : (variables times : ℕ) (tok : Tok) → is_plain tok ≡ true → IsFormedTok variables times tok
plain_formed variables times (k.Name n) e = absurd cc
plain_formed variables times (k.Variable v) e = absurd cc
plain_formed variables times (k.Time t) e = absurd cc
plain_formed variables times tok e = tt

reserved_plain : (text : List ℕ) → Contains reserved text → is_plain (reserved_tok text) ≡ true
unfolding reserved
reserved_plain text is = passes_in (λ t. is_plain (reserved_tok t)) reserved text refl is

reserved_no_dot : (text : List ℕ) → Contains reserved text → is_dot (reserved_tok text) ≡ false
unfolding reserved
reserved_no_dot text is = not-true _ (passes_in (λ t. not (is_dot (reserved_tok t))) reserved text refl is)

sign_plain : (text : List ℕ) → Contains signs text → is_plain (sign_tok text) ≡ true
sign_plain text is = passes_in (λ t. is_plain (sign_tok t)) signs text refl is

-- a sign is the full stop for the grammar where it is written so
sign_dot : (text : List ℕ) → Contains signs text → is_dot (sign_tok text) ≡ bytes_eq text (codes ".")
sign_dot text is = by_test (bytes_eq text (codes ".")) (is_dot (sign_tok text)) (passes_in (λ t. if bytes_eq t (codes ".") then is_dot (sign_tok t) else not (is_dot (sign_tok t))) signs text refl is) where
  by_test : (written read : Bool) → (if written then read else not read) ≡ true → read ≡ written
  by_test true read e = e
  by_test false read e = not-true read e

dot_is_stop : (so_far : Names) (kind : TokenKind) (text : List ℕ) → HasForm kind text → is_dot (tok_of so_far kind text) ≡ is_full_stop kind text
dot_is_stop so_far kind.Name text form = refl
dot_is_stop so_far kind.Reserved text form = reserved_no_dot text form
dot_is_stop so_far kind.Time text form = refl
dot_is_stop so_far kind.Variable text form = refl
dot_is_stop so_far kind.Number text form = refl
dot_is_stop so_far kind.Sign text form = sign_dot text form

-- under names of its statement with which its own go on
pub tok_formed : (so_far names : Names) (kind : TokenKind) (text : List ℕ) → HasForm kind text → IsWithinLimit kind text → GoesOn (entered so_far kind text) names →
    IsFormedTok (length names.names) (length names.times) (tok_of so_far kind text)
tok_formed so_far names kind.Name text form limit on = form_proper text limit form
tok_formed so_far names kind.Reserved text form limit on = plain_formed _ _ (reserved_tok text) (reserved_plain text form)
tok_formed so_far names kind.Time text form limit on = lt-ltb _ _ (stays_there so_far.times names.times text on.1).0
tok_formed so_far names kind.Variable text form limit on = lt-ltb _ _ (stays_there so_far.names names.names text on.0).0
tok_formed so_far names kind.Number text form limit on = tt
tok_formed so_far names kind.Sign text form limit on = plain_formed _ _ (sign_tok text) (sign_plain text form)

-- the full stop is formed under any names
stop_formed : (variables times : ℕ) (so_far : Names) (kind : TokenKind) (text : List ℕ) → HasForm kind text → is_full_stop kind text ≡ true → IsFormedTok variables times (tok_of so_far kind text)
stop_formed variables times so_far kind.Sign text form e = plain_formed variables times (sign_tok text) (sign_plain text form)
stop_formed variables times so_far kind.Name text form e = absurd cc
stop_formed variables times so_far kind.Reserved text form e = absurd cc
stop_formed variables times so_far kind.Time text form e = absurd cc
stop_formed variables times so_far kind.Variable text form e = absurd cc
stop_formed variables times so_far kind.Number text form e = absurd cc

-- ---- all tokens

-- the names of the statements from the next token on, where these are those of its statement and of the later ones
abbrev pub names_left : Tok → Names → List Names → List Names
names_left tok names more = if is_dot tok then more else names ∷ more

-- each token is formed under the names of its statement
abbrev pub AreFormedAlong : List Names → List Tok → Type 0
AreFormedAlong statements [] = Unit {0}
AreFormedAlong [] (tok ∷ toks) = ⊥
AreFormedAlong (names ∷ more) (tok ∷ toks) = IsFormedTok (length names.names) (length names.times) tok × AreFormedAlong (names_left tok names more) toks

-- the first of the names of statements go on from some
begins : (bytes : List ℕ) (so_far : Names) (tokens : List Token) → BeginsWith so_far (statements_from bytes so_far tokens)
begins bytes so_far [] = record { names = so_far; rest = []; are = refl; on = (on_refl so_far.names, on_refl so_far.times) }
begins bytes so_far (token ∷ tokens) = by_test (is_full_stop token.kind (text_of bytes token)) (λ s. begins bytes s tokens) where
  later : Names
  later = entered so_far token.kind (text_of bytes token)

  by_test : (test : Bool) → ((s : Names) → BeginsWith s (statements_from bytes s tokens)) →
      BeginsWith so_far ((if test then so_far ∷ [] else []) ++ statements_from bytes (if test then no_names else later) tokens)
  by_test true go = record { names = so_far; rest = statements_from bytes no_names tokens; are = refl; on = (on_refl so_far.names, on_refl so_far.times) }
  by_test false go =
      let found = go later in
      record { names = found.names; rest = found.rest; are = found.are; on = goes_trans so_far later found.names (entered_goes_on so_far token.kind (text_of bytes token)) found.on }

pub formed_along : (bytes : List ℕ) (so_far : Names) (tokens : List Token) → All (IsTokenOf bytes) tokens → AreFormedAlong (statements_from bytes so_far tokens) (toks_from bytes so_far tokens)
formed_along bytes so_far [] all = tt
formed_along bytes so_far (token ∷ tokens) all =
    by_test (is_full_stop token.kind text) refl (λ s. formed_along bytes s tokens (λ j d inside. all (suc j) d (omega (arith, inside))))
  where
    text : List ℕ
    text = text_of bytes token

    later : Names
    later = entered so_far token.kind text

    tok : Tok
    tok = tok_of so_far token.kind text

    first : IsTokenOf bytes token
    first = all 0 token (omega arith)

    by_test : (test : Bool) → is_full_stop token.kind text ≡ test → ((s : Names) → AreFormedAlong (statements_from bytes s tokens) (toks_from bytes s tokens)) →
        AreFormedAlong ((if test then so_far ∷ [] else []) ++ statements_from bytes (if test then no_names else later) tokens) (tok ∷ toks_from bytes (if test then no_names else later) tokens)
    by_test true e go =
        let rest = statements_from bytes no_names tokens in (
          stop_formed _ _ so_far token.kind text first.is.form e,
          subst (λ dot. AreFormedAlong (if dot then rest else (so_far ∷ rest)) (toks_from bytes no_names tokens)) (sym (dot_is_stop so_far token.kind text first.is.form ∙ e)) (go no_names),
        )
    by_test false e go =
        let found = begins bytes later tokens in
        let toks = toks_from bytes later tokens in
        let left : AreFormedAlong (found.names ∷ found.rest) toks = subst (λ s. AreFormedAlong s toks) found.are (go later) in
        subst (λ s. AreFormedAlong s (tok ∷ toks)) (sym found.are) (
          tok_formed so_far found.names token.kind text first.is.form first.is.limit found.on,
          subst (λ dot. AreFormedAlong (if dot then found.rest else (found.names ∷ found.rest)) toks) (sym (dot_is_stop so_far token.kind text first.is.form ∙ e)) left,
        )

-- ---- numbers of names and of tokens

-- each statement names at most 255 variables and times
abbrev pub AreFew : List Names → Type 0
AreFew [] = Unit {0}
AreFew (names ∷ more) = (count_of names ≤ 255) × AreFew more

none_if : (test : Bool) (at : ℕ) (more : Option ℕ) → (if test then Some at else more) ≡ None → (test ≡ false) × (more ≡ None)
none_if true at more e = absurd cc
none_if false at more e = (refl, e)

pub few_along : (bytes : List ℕ) (so_far : Names) (at : ℕ) (tokens : List Token) → count_of so_far ≤ 255 → crowded_from bytes so_far at tokens ≡ None → AreFew (statements_from bytes so_far tokens)
few_along bytes so_far at [] few none = (few, tt)
few_along bytes so_far at (token ∷ tokens) few none =
    let next = none_if (nat_lt 255 (count_of (names_after bytes so_far token))) at (crowded_from bytes (names_after bytes so_far token) (suc at) tokens) none in
    by_test (is_full_stop token.kind (text_of bytes token)) (few_along bytes (names_after bytes so_far token) (suc at) tokens (ltb-false 255 _ next.0) next.1)
  where
    by_test : (test : Bool) → AreFew (statements_from bytes (names_after bytes so_far token) tokens) →
        AreFew ((if test then so_far ∷ [] else []) ++ statements_from bytes (names_after bytes so_far token) tokens)
    by_test true more = (few, more)
    by_test false more = more

pub toks_size : (bytes : List ℕ) (so_far : Names) (tokens : List Token) → length (toks_from bytes so_far tokens) ≡ length tokens
toks_size bytes so_far [] = refl
toks_size bytes so_far (token ∷ tokens) = ap suc (toks_size bytes (names_after bytes so_far token) tokens)

-- there are no more tokens than bytes
pub tokens_size : (bytes : List ℕ) (at : ℕ) (tokens : List Token) → at ≤ length bytes → All (IsTokenOf bytes) tokens → AreApart bytes at tokens → at + length tokens ≤ length bytes
tokens_size bytes at [] within all apart = omega (arith, within)
tokens_size bytes at (token ∷ tokens) within all apart =
    let first = all 0 token (omega arith) in
    let more = tokens_size bytes token.end tokens first.within (λ j d inside. all (suc j) d (omega (arith, inside))) apart.2 in
    omega (arith, apart.0, first.some, more)
