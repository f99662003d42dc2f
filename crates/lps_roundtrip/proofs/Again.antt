-- Words that are written for tokens, some light ones left out, are numbered as these tokens again.
use Rattle.std.specs.Prelude.{ℕ, suc, ◌≡◌, ◌≤◌, Bool, true, false, List, [], ◌∷◌, ◌++◌, length, nat_lt, codes, if◌then◌else◌, Option, Some, None, refl}
use Rattle.std.specs.Str.{bytes_eq}
use Rattle.std.proofs.Common.{◌∙◌, sym, ap, subst}
use Rattle.std.proofs.lemmas.Slice.Eq.{bytes_eq-Decides}
use Rattle.lps_grammar.specs.declared.tok.Tok.{Tok}
use Rattle.lps_grammar.specs.declared.tok.Tok.TheVariants as k
use Rattle.lps_lex.specs.declared.token_kind.TokenKind.{TokenKind}
use Rattle.lps_lex.specs.declared.token_kind.TokenKind.TheVariants as kind
use Rattle.lps_lex.specs.Forms.{HasForm, IsTime, IsVariable, IsWithinLimit}
use Rattle.lps_lex.specs.Piece.{value_of}
use Rattle.lps_numbering.specs.declared.names.Names.{Names}
use Rattle.lps_numbering.specs.Fixed.{reserved_tok, sign_tok}
use Rattle.lps_numbering.specs.Numbers.{count_of, entered, is_full_stop, no_names, number_of, tok_of}
use Rattle.lps_numbering.proofs.Alike.{BeginsWith, entered_goes_on, GoesOn, goes_trans, on_refl, stays_there}
use Rattle.lps_roundtrip.specs.Thinner.{is_light, Thinner}
use Rattle.lps_roundtrip.specs.Thinner as thinner
use Rattle.lps_roundtrip.specs.Words.{kind_of, Word, word_of, written_as}
use Rattle.lps_roundtrip.specs.Shown.{IsFine}
use Rattle.lps_roundtrip.proofs.Pieces.{value_of-decimal}
use Rattle.lps_roundtrip.specs.Numbered.{crowded_by, names_by, statements_by, toks_by}
use Rattle.lps_roundtrip.specs.Along.{AreFineAlong, is_dot, words_along}
use Rattle.lps_roundtrip.proofs.Fixed.{fixed_fine, IsWrittenSo, reserved_no_dot, reserved_written, sign_no_dot, sign_written}

-- ---- one token

-- what is written for a token under the final names of its statement is read as it, and enters the same name
pub record IsReadAgain (so_far names : Names) (kind : TokenKind) (text : List ℕ) (tok : Tok) : Type 0 where
  pub no_dot : is_dot tok ≡ false
  pub fine : IsFine names tok
  pub no_stop : is_full_stop (kind_of tok) (written_as names tok) ≡ false
  pub same_tok : tok_of so_far (kind_of tok) (written_as names tok) ≡ tok
  pub same_names : entered so_far (kind_of tok) (written_as names tok) ≡ entered so_far kind text

-- of a reserved word or a sign, but the full stop
fixed_again : (so_far names : Names) (kind : TokenKind) (text : List ℕ) (tok : Tok) → IsWrittenSo names kind text tok → tok_of so_far kind text ≡ tok → is_dot tok ≡ false → is_full_stop kind text ≡ false →
    IsReadAgain so_far names kind text tok
fixed_again so_far names kind text tok is tok_is no_dot no_stop = record {
  no_dot = no_dot;
  fine = fixed_fine names tok is.fixed;
  no_stop = ap (λ k. is_full_stop k (written_as names tok)) is.kind_is ∙ ap (is_full_stop kind) is.text_is ∙ no_stop;
  same_tok = ap (λ k. tok_of so_far k (written_as names tok)) is.kind_is ∙ ap (tok_of so_far kind) is.text_is ∙ tok_is;
  same_names = ap (λ k. entered so_far k (written_as names tok)) is.kind_is ∙ ap (entered so_far kind) is.text_is;
}

pub read_again : (so_far names : Names) (kind : TokenKind) (text : List ℕ) → HasForm kind text → IsWithinLimit kind text → is_full_stop kind text ≡ false → GoesOn (entered so_far kind text) names →
    IsReadAgain so_far names kind text (tok_of so_far kind text)
read_again so_far names kind.Name text form limit no_stop on = record { no_dot = refl; fine = (form, limit); no_stop = refl; same_tok = refl; same_names = refl }
read_again so_far names kind.Reserved text form limit no_stop on =
    fixed_again so_far names kind.Reserved text (reserved_tok text) (reserved_written names text form) refl (reserved_no_dot text form) refl
read_again so_far names kind.Sign text form limit no_stop on =
    fixed_again so_far names kind.Sign text (sign_tok text) (sign_written names text form) refl (sign_no_dot text form no_stop) no_stop
read_again so_far names kind.Time text form limit no_stop on =
    let there = (stays_there so_far.times names.times text on.1).1 in record {
      no_dot = refl;
      fine = subst (λ t. IsTime t × (length t ≤ 64)) (sym there) (form, limit);
      no_stop = refl;
      same_tok = ap (λ t. k.Time (number_of so_far.times t)) there;
      same_names = ap (entered so_far kind.Time) there;
    }
read_again so_far names kind.Variable text form limit no_stop on =
    let there = (stays_there so_far.names names.names text on.0).1 in record {
      no_dot = refl;
      fine = subst (λ t. IsVariable t × (length t ≤ 64)) (sym there) (form, limit);
      no_stop = refl;
      same_tok = ap (λ t. k.Variable (number_of so_far.names t)) there;
      same_names = ap (entered so_far kind.Variable) there;
    }
read_again so_far names kind.Number text form limit no_stop on = record {
  no_dot = refl;
  fine = limit;
  no_stop = refl;
  same_tok = ap k.Number (value_of-decimal (value_of text) limit);
  same_names = refl;
}

-- a token that may be left out ends no statement and names nothing
pub record IsUnnamed (so_far : Names) (kind : TokenKind) (text : List ℕ) : Type 0 where
  pub no_stop : is_full_stop kind text ≡ false
  pub same_names : entered so_far kind text ≡ so_far

pub light_unnamed : (so_far : Names) (kind : TokenKind) (text : List ℕ) → is_light (tok_of so_far kind text) ≡ true → IsUnnamed so_far kind text
light_unnamed so_far kind.Name text light = absurd cc
light_unnamed so_far kind.Reserved text light = record { no_stop = refl; same_names = refl }
light_unnamed so_far kind.Time text light = absurd cc
light_unnamed so_far kind.Variable text light = absurd cc
light_unnamed so_far kind.Number text light = record { no_stop = refl; same_names = refl }
light_unnamed so_far kind.Sign text light = record { no_stop = by_test (bytes_eq text (codes ".")) refl; same_names = refl } where
  heavy : false ≡ true → ⊥
  heavy e = absurd cc

  by_test : (test : Bool) → bytes_eq text (codes ".") ≡ test → test ≡ false
  by_test true e = absurd (heavy (ap (λ t. is_light (sign_tok t)) (sym ((bytes_eq-Decides text (codes ".")).0 e)) ∙ light))
  by_test false e = refl

-- ---- all tokens

-- the kind, the text and the length of each word are right
abbrev pub AreWords : List Word → Type 0
AreWords [] = Unit {0}
AreWords (word ∷ words) = HasForm word.kind word.text × IsWithinLimit word.kind word.text × AreWords words

-- the first of the names of statements go on from some
pub begins : (so_far : Names) (words : List Word) → BeginsWith so_far (statements_by so_far words)
begins so_far [] = record { names = so_far; rest = []; are = refl; on = (on_refl so_far.names, on_refl so_far.times) }
begins so_far (word ∷ words) = by_test (is_full_stop word.kind word.text) (λ s. begins s words) where
  later : Names
  later = entered so_far word.kind word.text

  by_test : (test : Bool) → ((s : Names) → BeginsWith s (statements_by s words)) → BeginsWith so_far ((if test then so_far ∷ [] else []) ++ statements_by (if test then no_names else later) words)
  by_test true go = record { names = so_far; rest = statements_by no_names words; are = refl; on = (on_refl so_far.names, on_refl so_far.times) }
  by_test false go =
      let found = go later in
      record { names = found.names; rest = found.rest; are = found.are; on = goes_trans so_far later found.names (entered_goes_on so_far word.kind word.text) found.on }

-- The words are numbered as these tokens again, with these names of statements, under which the tokens are fine. None is too
-- many where none of the first words is.
pub record AreNumberedAgain (so_far : Names) (first words : List Word) (toks : List Tok) (statements : List Names) : Type 0 where
  pub same_toks : toks_by so_far words ≡ toks
  pub same_statements : statements_by so_far words ≡ statements
  pub none_crowded : (at to : ℕ) → crowded_by so_far at first ≡ None → crowded_by so_far to words ≡ None
  pub fine : AreFineAlong statements toks

-- whatever light tokens of some words are left out, what is written for the others is numbered again
abbrev Again : List Word → Type 0
Again words =
    (so_far : Names) (us : List Tok) (line : ℕ) → AreWords words → Thinner (toks_by so_far words) us →
    AreNumberedAgain so_far words (words_along (statements_by so_far words) line us) us (statements_by so_far words)

none_if : (test : Bool) (at : ℕ) (more : Option ℕ) → (if test then Some at else more) ≡ None → (test ≡ false) × (more ≡ None)
none_if true at more e = absurd cc
none_if false at more e = (refl, e)

-- no word is too many after one that is not, where these are the names after it
none_later : (so_far later : Names) (at : ℕ) (word : Word) (words : List Word) → names_by so_far word ≡ later → crowded_by so_far at (word ∷ words) ≡ None →
    (nat_lt 255 (count_of later) ≡ false) × (crowded_by later (suc at) words ≡ None)
none_later so_far later at word words next e =
    none_if (nat_lt 255 (count_of later)) at (crowded_by later (suc at) words) (ap (λ s. if nat_lt 255 (count_of s) then Some at else crowded_by s (suc at) words) (sym next) ∙ e)

-- and conversely
none_before : (so_far later : Names) (at : ℕ) (word : Word) (words : List Word) → names_by so_far word ≡ later → nat_lt 255 (count_of later) ≡ false → crowded_by later (suc at) words ≡ None →
    crowded_by so_far at (word ∷ words) ≡ None
none_before so_far later at word words next few none =
    ap (λ s. if nat_lt 255 (count_of s) then Some at else crowded_by s (suc at) words) next ∙ ap (λ test. if test then Some at else crowded_by later (suc at) words) few ∙ none

-- a token before others of its statement
before : (so_far later names : Names) (rest : List Names) (line : ℕ) (word : Word) (words : List Word) (tok : Tok) (us : List Tok) → is_dot tok ≡ false → IsFine names tok →
    is_full_stop (kind_of tok) (written_as names tok) ≡ false → tok_of so_far (kind_of tok) (written_as names tok) ≡ tok →
    names_by so_far word ≡ later → names_by so_far (word_of names line tok) ≡ later →
    AreNumberedAgain later words (words_along (names ∷ rest) line us) us (names ∷ rest) →
    AreNumberedAgain so_far (word ∷ words) (words_along (names ∷ rest) line (tok ∷ us)) (tok ∷ us) (names ∷ rest)
before so_far later names rest line word words tok us no_dot fine no_stop same_tok first next is =
    subst (λ ws. AreNumberedAgain so_far (word ∷ words) (again ∷ ws) (tok ∷ us) (names ∷ rest)) (sym along) (record {
      same_toks = ap (λ t. t ∷ toks_by (names_by so_far again) more) same_tok ∙ ap (λ s. tok ∷ toks_by s more) next ∙ ap (λ ts. tok ∷ ts) is.same_toks;
      same_statements = ap (λ test. (if test then so_far ∷ [] else []) ++ statements_by (names_by so_far again) more) no_stop ∙ ap (λ s. statements_by s more) next ∙ is.same_statements;
      none_crowded = λ at to e.
          let none = none_later so_far later at word words first e in
          none_before so_far later to again more next none.0 (is.none_crowded (suc at) (suc to) none.1);
      fine = (fine, subst (λ test. AreFineAlong (if test then rest else names ∷ rest) us) (sym no_dot) is.fine);
    })
  where
    again : Word
    again = word_of names line tok

    more : List Word
    more = words_along (names ∷ rest) line us

    along : words_along (if is_dot tok then rest else names ∷ rest) (if is_dot tok then suc line else line) us ≡ more
    along = ap (λ test. words_along (if test then rest else names ∷ rest) (if test then suc line else line) us) no_dot

-- what was shown of words, with one more before them that is kept
abbrev Kept : Word → List Word → Type 0
Kept word words =
    (so_far : Names) (us : List Tok) (line : ℕ) → AreWords words → Thinner (toks_by (names_by so_far word) words) us →
    AreNumberedAgain so_far (word ∷ words) (words_along (statements_by so_far (word ∷ words)) line (tok_of so_far word.kind word.text ∷ us)) (tok_of so_far word.kind word.text ∷ us)
    (statements_by so_far (word ∷ words))

-- a full stop before them
dot_before : (dot_line : ℕ) (words : List Word) → Again words → Kept (record { kind = kind.Sign; text = codes "."; line = dot_line }) words
dot_before dot_line words again so_far us line are thin =
    let rest = again no_names us (suc line) are thin in
    record {
      same_toks = ap (λ ts. k.Dot ∷ ts) rest.same_toks;
      same_statements = ap (λ ss. so_far ∷ ss) rest.same_statements;
      none_crowded = λ at to e. rest.none_crowded (suc at) (suc to) e;
      fine = (tt, rest.fine);
    }

kept_stop : (kind : TokenKind) (text : List ℕ) (dot_line : ℕ) (words : List Word) → is_full_stop kind text ≡ true → Again words → Kept (record { kind = kind; text = text; line = dot_line }) words
kept_stop kind.Sign text dot_line words e again =
    subst (λ t. Kept (record { kind = kind.Sign; text = t; line = dot_line }) words) (sym ((bytes_eq-Decides text (codes ".")).0 e)) (dot_before dot_line words again)
kept_stop kind.Name text dot_line words e again = absurd cc
kept_stop kind.Reserved text dot_line words e again = absurd cc
kept_stop kind.Time text dot_line words e again = absurd cc
kept_stop kind.Variable text dot_line words e again = absurd cc
kept_stop kind.Number text dot_line words e again = absurd cc

-- the same of a word, by whether it is a full stop, with the names that it enters
abbrev KeptIf : Word → List Word → Names → Names → List Tok → ℕ → Bool → Type 0
KeptIf word words so_far later us line test =
    Thinner (toks_by (if test then no_names else later) words) us →
    AreNumberedAgain so_far (word ∷ words)
    (words_along ((if test then so_far ∷ [] else []) ++ statements_by (if test then no_names else later) words) line (tok_of so_far word.kind word.text ∷ us))
    (tok_of so_far word.kind word.text ∷ us) ((if test then so_far ∷ [] else []) ++ statements_by (if test then no_names else later) words)

kept_other : (word : Word) (words : List Word) → HasForm word.kind word.text → IsWithinLimit word.kind word.text → is_full_stop word.kind word.text ≡ false → Again words → Kept word words
kept_other word words form limit no_stop again so_far us line are = subst (KeptIf word words so_far later us line) (sym no_stop) other where
  later : Names
  later = entered so_far word.kind word.text

  tok : Tok
  tok = tok_of so_far word.kind word.text

  first : names_by so_far word ≡ later
  first = ap (λ test. if test then no_names else later) no_stop

  other : KeptIf word words so_far later us line false
  other thin =
      let found = begins later words in
      let is = read_again so_far found.names word.kind word.text form limit no_stop found.on in
      let next : names_by so_far (word_of found.names line tok) ≡ later =
      ap (λ test. if test then no_names else entered so_far (kind_of tok) (written_as found.names tok)) is.no_stop ∙ is.same_names in
      subst (λ ss. AreNumberedAgain so_far (word ∷ words) (words_along ss line (tok ∷ us)) (tok ∷ us) ss) (sym found.are)
      (before so_far later found.names found.rest line word words tok us is.no_dot is.fine is.no_stop is.same_tok first next
      (subst (λ ss. AreNumberedAgain later words (words_along ss line us) us ss) found.are (again later us line are thin)))

kept : (word : Word) (words : List Word) → HasForm word.kind word.text → IsWithinLimit word.kind word.text → Again words → Kept word words
kept word words form limit again = by_test (is_full_stop word.kind word.text) refl where
  by_test : (test : Bool) → is_full_stop word.kind word.text ≡ test → Kept word words
  by_test true e = kept_stop word.kind word.text word.line words e again
  by_test false e = kept_other word words form limit e again

-- the same of a word that is left out, by whether it is a full stop, with the names that it enters
abbrev LeftIf : Word → List Word → Names → Names → List Tok → ℕ → Bool → Type 0
LeftIf word words so_far later us line test =
    Thinner (toks_by (if test then no_names else later) words) us →
    AreNumberedAgain so_far (word ∷ words) (words_along ((if test then so_far ∷ [] else []) ++ statements_by (if test then no_names else later) words) line us) us
    ((if test then so_far ∷ [] else []) ++ statements_by (if test then no_names else later) words)

left_out : (word : Word) (words : List Word) → Again words → (so_far : Names) (us : List Tok) (line : ℕ) → is_light (tok_of so_far word.kind word.text) ≡ true → AreWords words →
    Thinner (toks_by (names_by so_far word) words) us →
    AreNumberedAgain so_far (word ∷ words) (words_along (statements_by so_far (word ∷ words)) line us) us (statements_by so_far (word ∷ words))
left_out word words again so_far us line light are =
    subst (LeftIf word words so_far (entered so_far word.kind word.text) us line) (sym is.no_stop) (subst (λ later. LeftIf word words so_far later us line false) (sym is.same_names) same)
  where
    is : IsUnnamed so_far word.kind word.text
    is = light_unnamed so_far word.kind word.text light

    next : names_by so_far word ≡ so_far
    next = ap (λ test. if test then no_names else entered so_far word.kind word.text) is.no_stop ∙ is.same_names

    same : LeftIf word words so_far so_far us line false
    same thin =
        let rest = again so_far us line are thin in
        record {
          same_toks = rest.same_toks;
          same_statements = rest.same_statements;
          none_crowded = λ at to e. rest.none_crowded (suc at) to (none_later so_far so_far at word words next e).1;
          fine = rest.fine;
        }

pub numbered_again : (words : List Word) → Again words
numbered_again [] so_far us line are thinner.none = record { same_toks = refl; same_statements = refl; none_crowded = λ at to e. refl; fine = tt }
numbered_again (word ∷ words) so_far us line are (thinner.keep {us = vs} tok thin) = kept word words are.0 are.1 (numbered_again words) so_far vs line are.2 thin
numbered_again (word ∷ words) so_far us line are (thinner.leave tok light thin) = left_out word words (numbered_again words) so_far us line light are.2 thin
