-- The names among the tokens of bytes are ones that the syntax may have.
use Rattle.std.specs.Prelude.{ℕ, ◌≡◌, Bool, true, false, List, [], ◌∷◌, if◌then◌else◌, refl}
use Rattle.std.specs.List.{All, list_all}
use Rattle.std.specs.Str.{bytes_eq}
use Rattle.std.proofs.lemmas.List.Elements.{All-head, All-tail}
use Rattle.lps_grammar.specs.declared.tok.Tok.{Tok}
use Rattle.lps_grammar.specs.declared.tok.Tok.TheVariants as k
use Rattle.lps_lex.specs.declared.token.Token.{Token}
use Rattle.lps_lex.specs.declared.token_kind.TokenKind.{TokenKind}
use Rattle.lps_lex.specs.declared.token_kind.TokenKind.TheVariants as kind
use Rattle.lps_lex.specs.Forms.{HasForm, IsWithinLimit}
use Rattle.lps_lex.specs.Spans.{IsTokenOf}
use Rattle.lps_lex.proofs.Bytes.{both}
use Rattle.lps_numbering.specs.declared.names.Names.{Names}
use Rattle.lps_numbering.specs.Fixed.{Spelling, signs, tok_in, words}
use Rattle.lps_numbering.specs.Numbers.{names_after, no_names, text_of, tok_of, toks_from, toks_of}
use Rattle.lps_numbering.specs.Plain.{plain_toks}
use Rattle.lps_numbering.proofs.Written.{proper_name}
use Rattle.lps_build.specs.Fits.{AreNamed}

abbrev is_other : Tok → Bool
is_other (k.Name n) = false
is_other t = true

other_named : (t : Tok) (ts : List Tok) → is_other t ≡ true → AreNamed ts → AreNamed (t ∷ ts)
other_named (k.Name n) ts other named = absurd cc
other_named t ts other named = named

-- a table without names gives none
fixed_other : (table : List Spelling) (otherwise : Tok) (text : List ℕ) → list_all (λ (spelling : Spelling). is_other spelling.tok) table ≡ true → is_other otherwise ≡ true →
    is_other (tok_in table otherwise text) ≡ true
fixed_other [] otherwise text all other = other
fixed_other (spelling ∷ table) otherwise text all other =
    let parts = both (is_other spelling.tok) (list_all (λ (spelling : Spelling). is_other spelling.tok) table) all in
    by_test (bytes_eq text spelling.text) parts.0 (fixed_other table otherwise text parts.1 other)
  where
    by_test : (test : Bool) → is_other spelling.tok ≡ true → is_other (tok_in table otherwise text) ≡ true → is_other (if test then spelling.tok else tok_in table otherwise text) ≡ true
    by_test true first rest = first
    by_test false first rest = rest

-- one token, whatever is named before it in its statement
pub named_token : (so_far : Names) (kind : TokenKind) (text : List ℕ) (toks : List Tok) → HasForm kind text → IsWithinLimit kind text → AreNamed toks → AreNamed (tok_of so_far kind text ∷ toks)
named_token so_far kind.Name text toks form limit named = (proper_name text form limit, named)
named_token so_far kind.Reserved text toks form limit named = other_named _ toks (fixed_other words k.Mod text refl refl) named
named_token so_far kind.Time text toks form limit named = named
named_token so_far kind.Variable text toks form limit named = named
named_token so_far kind.Number text toks form limit named = named
named_token so_far kind.Sign text toks form limit named = other_named _ toks (fixed_other signs k.Colon text refl refl) named

-- each token taken by itself
pub named_plain : (bytes : List ℕ) (tokens : List Token) → All (IsTokenOf bytes) tokens → AreNamed (plain_toks bytes tokens)
named_plain bytes [] all = tt
named_plain bytes (token ∷ tokens) all =
    let is = All-head (IsTokenOf bytes) token tokens all in
    named_token no_names token.kind (text_of bytes token) (plain_toks bytes tokens) is.is.form is.is.limit (named_plain bytes tokens (All-tail (IsTokenOf bytes) token tokens all))

-- the tokens of a text
named_from : (bytes : List ℕ) (so_far : Names) (tokens : List Token) → All (IsTokenOf bytes) tokens → AreNamed (toks_from bytes so_far tokens)
named_from bytes so_far [] all = tt
named_from bytes so_far (token ∷ tokens) all =
    let is = All-head (IsTokenOf bytes) token tokens all in
    named_token so_far token.kind (text_of bytes token) (toks_from bytes (names_after bytes so_far token) tokens) is.is.form is.is.limit
    (named_from bytes (names_after bytes so_far token) tokens (All-tail (IsTokenOf bytes) token tokens all))

pub named_text : (bytes : List ℕ) (tokens : List Token) → All (IsTokenOf bytes) tokens → AreNamed (toks_of bytes tokens)
named_text bytes tokens all = named_from bytes no_names tokens all
