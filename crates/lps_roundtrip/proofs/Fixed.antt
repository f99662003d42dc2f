-- Reserved words and signs are written as they were, and are read as the same tokens.
use Rattle.std.specs.Prelude.{ℕ, ◌≡◌, Bool, true, false, List, not, codes, if◌then◌else◌, Contains, refl}
use Rattle.std.specs.Str.{bytes_eq}
use Rattle.std.proofs.Common.{◌∙◌, sym, ap}
use Rattle.std.proofs.lemmas.Bool.{not-true}
use Rattle.std.proofs.lemmas.Slice.Eq.{bytes_eq-Decides}
use Rattle.lps_terms.specs.Names.{reserved}
use Rattle.lps_grammar.specs.declared.tok.Tok.{Tok}
use Rattle.lps_grammar.specs.declared.tok.Tok.TheVariants as k
use Rattle.lps_lex.specs.Forms.{signs}
use Rattle.lps_lex.specs.declared.token_kind.TokenKind.{TokenKind}
use Rattle.lps_lex.specs.declared.token_kind.TokenKind.TheVariants as kind
use Rattle.lps_lex.proofs.Words.{passes_in}
use Rattle.lps_numbering.specs.declared.names.Names.{Names}
use Rattle.lps_numbering.specs.Fixed.{reserved_tok, sign_tok}
use Rattle.lps_roundtrip.specs.Words.{kind_of, written_as}
use Rattle.lps_roundtrip.specs.Shown.{IsFine}
use Rattle.lps_roundtrip.specs.Along.{is_dot}

-- a token whose text is fixed
abbrev pub is_fixed : Tok → Bool
is_fixed (k.Name n) = false
is_fixed (k.Variable n) = false
is_fixed (k.Time n) = false
is_fixed (k.Number n) = false
is_fixed tok = true

-- such a token is fine under any names
pub fixed_fine : (names : Names) (tok : Tok) → is_fixed tok ≡ true → IsFine names tok
fixed_fine names (k.Name n) e = absurd cc
fixed_fine names (k.Variable n) e = absurd cc
fixed_fine names (k.Time n) e = absurd cc
fixed_fine names (k.Number n) e = absurd cc
fixed_fine names tok e = tt

abbrev is_reserved : TokenKind → Bool
is_reserved kind.Reserved = true
is_reserved other = false

abbrev is_sign : TokenKind → Bool
is_sign kind.Sign = true
is_sign other = false

reserved_is : (k : TokenKind) → is_reserved k ≡ true → k ≡ kind.Reserved
reserved_is kind.Reserved e = refl
reserved_is kind.Name e = absurd cc
reserved_is kind.Time e = absurd cc
reserved_is kind.Variable e = absurd cc
reserved_is kind.Number e = absurd cc
reserved_is kind.Sign e = absurd cc

sign_is : (k : TokenKind) → is_sign k ≡ true → k ≡ kind.Sign
sign_is kind.Sign e = refl
sign_is kind.Name e = absurd cc
sign_is kind.Time e = absurd cc
sign_is kind.Variable e = absurd cc
sign_is kind.Number e = absurd cc
sign_is kind.Reserved e = absurd cc

-- what is written for a fixed token of this kind and text
pub record IsWrittenSo (names : Names) (kind : TokenKind) (text : List ℕ) (tok : Tok) : Type 0 where
  pub fixed : is_fixed tok ≡ true
  pub kind_is : kind_of tok ≡ kind
  pub text_is : written_as names tok ≡ text

bytes_same : (a b : List ℕ) → bytes_eq a b ≡ true → a ≡ b
bytes_same a b e = (bytes_eq-Decides a b).0 e

pub reserved_written : (names : Names) (text : List ℕ) → Contains reserved text → IsWrittenSo names kind.Reserved text (reserved_tok text)
unfolding reserved
reserved_written names text is = record {
  fixed = passes_in (λ t. is_fixed (reserved_tok t)) reserved text refl is;
  kind_is = reserved_is _ (passes_in (λ t. is_reserved (kind_of (reserved_tok t))) reserved text refl is);
  text_is = bytes_same _ _ (passes_in (λ t. bytes_eq (written_as names (reserved_tok t)) t) reserved text refl is);
}

pub reserved_no_dot : (text : List ℕ) → Contains reserved text → is_dot (reserved_tok text) ≡ false
unfolding reserved
reserved_no_dot text is = not-true _ (passes_in (λ t. not (is_dot (reserved_tok t))) reserved text refl is)

pub sign_written : (names : Names) (text : List ℕ) → Contains signs text → IsWrittenSo names kind.Sign text (sign_tok text)
sign_written names text is = record {
  fixed = passes_in (λ t. is_fixed (sign_tok t)) signs text refl is;
  kind_is = sign_is _ (passes_in (λ t. is_sign (kind_of (sign_tok t))) signs text refl is);
  text_is = bytes_same _ _ (passes_in (λ t. bytes_eq (written_as names (sign_tok t)) t) signs text refl is);
}

-- a sign that is no full stop
pub sign_no_dot : (text : List ℕ) → Contains signs text → bytes_eq text (codes ".") ≡ false → is_dot (sign_tok text) ≡ false
sign_no_dot text is other =
    not-true _ (sym (ap (λ x. if x then true else not (is_dot (sign_tok text))) other) ∙ passes_in (λ t. if bytes_eq t (codes ".") then true else not (is_dot (sign_tok t))) signs text refl is)
