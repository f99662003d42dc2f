-- The canonical text is read as the text that it was printed from, each statement in a line of its own.
use Rattle.std.specs.Prelude.{ℕ, suc, ◌≡◌, ◌+◌, List, [], ◌∷◌, ◌++◌, length, take, drop, All, Option, Some, None, Result, Ok, Err, refl}
use Rattle.std.specs.List.{flat_map}
use Rattle.std.proofs.Common.{◌∙◌, sym, ap, subst, arith, inl, inr}
use Rattle.std.proofs.lemmas.List.{append-nil, take-append-drop}
use Rattle.lps_terms.specs.declared.statement.Statement.{Statement}
use Rattle.lps_terms.specs.declared.text.Text.{Text}
use Rattle.lps_terms.specs.declared.read_refused.ReadRefused.{ReadRefused}
use Rattle.lps_terms.specs.declared.read_refused.ReadRefused.TheVariants as refused
use Rattle.lps_lex.specs.declared.token.Token.{Token}
use Rattle.lps_lex.specs.Lexing.{lexed}
use Rattle.lps_lex.specs.Spans.{IsTokenOf}
use Rattle.lps_lex.proofs.Places.{lexed_spans}
use Rattle.lps_grammar.specs.declared.tok.Tok.{Tok}
use Rattle.lps_grammar.specs.Statements.{BeginsText, IsText, spell_text}
use Rattle.lps_grammar.specs.Statements as gs
use Rattle.lps_numbering.specs.declared.names.Names.{Names}
use Rattle.lps_numbering.specs.Numbers.{crowded_of, no_names, statements_of, toks_of}
use Rattle.lps_build.specs.Meaning.{bodies_of}
use Rattle.lps_roundtrip.specs.Canonical.{canonical_text}
use Rattle.lps_roundtrip.specs.Thinner.{Thinner}
use Rattle.lps_roundtrip.proofs.Small.{small_stays}
use Rattle.lps_roundtrip.proofs.Thins.{none_left_out, text_thins}
use Rattle.lps_syntax.specs.Judging.{IsSmallText}
use Rattle.lps_syntax.proofs.Unique.{begins_before, small_before}
use Rattle.lps_reader.specs.Refusing.{IsFirstRefusal, line_at}
use Rattle.lps_reader.specs.Refusals.{IsRefusal, IsRefusedAs, IsShort, tokens_in}
use Rattle.lps_printer.specs.Statements.{canonical, statement_text}
use Rattle.lps_roundtrip.specs.Words.{Word, words_in}
use Rattle.lps_roundtrip.specs.Shown.{Shown}
use Rattle.lps_roundtrip.specs.Lines.{AreAllFine, AreOf}
use Rattle.lps_roundtrip.proofs.Lines.{text_shown}
use Rattle.lps_roundtrip.proofs.Read.{shown_lexed}
use Rattle.lps_roundtrip.specs.Along.{AreFineAlong, words_along}
use Rattle.lps_roundtrip.specs.Numbered.{crowded_by, statements_by, toks_by}
use Rattle.lps_reader.specs.declared.read_error.ReadError.{ReadError}
use Rattle.lps_reader.specs.declared.read_error.ReadError.TheVariants.{NoMemory, Refused}
use Rattle.lps_reader.specs.Made.{statements_made}
use Rattle.lps_reader.specs.Texts.{IsReadOf, IsTextOf}
use Rattle.lps_reader.proofs.Texts.{unique}
use Rattle.lps_roundtrip.specs.RoundTrip.{in_lines, IsReadAs, statements_in_lines}
use Rattle.lps_roundtrip.proofs.Again.{AreNumberedAgain, AreWords, numbered_again}
use Rattle.lps_roundtrip.proofs.Numbered.{crowded_is, statements_are, toks_are}
use Rattle.lps_roundtrip.proofs.Statements.{all_fine, all_words, lines_are, made_of}

-- ---- the words of bytes

words_are : (bytes : List ℕ) (tokens : List Token) → All (IsTokenOf bytes) tokens → AreWords (words_in bytes tokens)
words_are bytes [] all = tt
words_are bytes (token ∷ tokens) all =
    let first = all 0 token (omega arith) in
    (first.is.form, first.is.limit, words_are bytes tokens (λ j d inside. all (suc j) d (omega (arith, inside))))

-- what is written at the tokens of any bytes has the form of its kind
pub words_of_bytes : (bytes : List ℕ) → AreWords (words_in bytes (tokens_in bytes))
words_of_bytes bytes = words_are bytes (tokens_in bytes) (lexed_spans bytes (tokens_in bytes) refl)

-- what is written for the tokens of bytes, without some light ones, is numbered as these again
pub bytes_again : (bytes : List ℕ) (us : List Tok) (line : ℕ) → Thinner (toks_of bytes (tokens_in bytes)) us →
    AreNumberedAgain no_names (words_in bytes (tokens_in bytes)) (words_along (statements_of bytes (tokens_in bytes)) line us) us (statements_of bytes (tokens_in bytes))
bytes_again bytes us line thin =
    let tokens = tokens_in bytes in
    subst (λ ss. AreNumberedAgain no_names (words_in bytes tokens) (words_along ss line us) us ss) (sym (statements_are bytes no_names tokens))
    (numbered_again (words_in bytes tokens) no_names us line (words_of_bytes bytes) (subst (λ ts. Thinner ts us) (toks_are bytes no_names tokens) thin))

pub toks_again : (bytes : List ℕ) (us : List Tok) (line : ℕ) → Thinner (toks_of bytes (tokens_in bytes)) us → toks_by no_names (words_along (statements_of bytes (tokens_in bytes)) line us) ≡ us
toks_again bytes us line thin = (bytes_again bytes us line thin).same_toks

pub statements_again : (bytes : List ℕ) (us : List Tok) (line : ℕ) → Thinner (toks_of bytes (tokens_in bytes)) us →
    statements_by no_names (words_along (statements_of bytes (tokens_in bytes)) line us) ≡ statements_of bytes (tokens_in bytes)
statements_again bytes us line thin = (bytes_again bytes us line thin).same_statements

pub none_crowded_again : (bytes : List ℕ) (us : List Tok) (line : ℕ) → Thinner (toks_of bytes (tokens_in bytes)) us → crowded_of bytes (tokens_in bytes) ≡ None →
    crowded_by no_names 0 (words_along (statements_of bytes (tokens_in bytes)) line us) ≡ None
none_crowded_again bytes us line thin few = (bytes_again bytes us line thin).none_crowded 0 0 (sym (crowded_is bytes no_names 0 (tokens_in bytes)) ∙ few)

pub toks_fine : (bytes : List ℕ) (us : List Tok) → Thinner (toks_of bytes (tokens_in bytes)) us → AreFineAlong (statements_of bytes (tokens_in bytes)) us
toks_fine bytes us thin = (bytes_again bytes us 1 thin).fine

-- ---- the canonical text

pub read_back : (bytes : List ℕ) (text : Text) → IsTextOf bytes text → IsShort (canonical text) → IsTextOf (canonical text) (in_lines 1 text)
read_back bytes text is short = record {
  accepted = (short, lexed_again.0, ((tree, toks_are_us), subst IsSmallText (sym toks_are_us) small, none_crowded));
  tree = tree;
  spelled = toks_are_us;
  statements =
      ap (statements_in_lines 1) is.statements
      ∙ lines_are again (tokens_in again) (line_at tokens) is.tree statements 1 0 (length (toks_of bytes tokens)) (length us) lexed_again.1 (omega arith)
      ∙ ap (λ ts. statements_made (line_at (tokens_in again)) (bodies_of (length ts) tree) statements) (sym toks_are_us)
      ∙ ap (statements_made (line_at (tokens_in again)) (bodies_of (length (toks_of again (tokens_in again))) tree)) (sym statements_are_same);
}
  where
    tokens : List Token
    tokens = tokens_in bytes

    statements : List Names
    statements = statements_of bytes tokens

    tree : gs.Text
    tree = canonical_text is.tree

    us : List Tok
    us = spell_text tree []

    again : List ℕ
    again = canonical text

    words : List Word
    words = words_along statements 1 us

    thin : Thinner (toks_of bytes tokens) us
    thin = subst (λ ts. Thinner ts us) (sym is.spelled) (text_thins is.tree [] [] (none_left_out []))

    small : IsSmallText us
    small = small_stays is.tree (subst IsSmallText is.spelled is.accepted.2.1)

    fine : AreAllFine statements is.tree
    fine = all_fine is.tree statements (toks_fine bytes us thin)

    are_of : AreOf statements is.tree text.statements
    are_of = subst (AreOf statements is.tree) (sym is.statements) (made_of (line_at tokens) (length (toks_of bytes tokens)) is.tree statements fine)

    shown : Shown 1 again words
    shown = subst (Shown 1 again) (sym (all_words is.tree statements 1)) (text_shown statements is.tree text are_of fine)

    lexed_again : ((lexed again).fault ≡ None) × (words_in again (tokens_in again) ≡ words)
    lexed_again = shown_lexed again words shown

    toks_are_us : toks_of again (tokens_in again) ≡ us
    toks_are_us = toks_are again no_names (tokens_in again) ∙ ap (toks_by no_names) lexed_again.1 ∙ toks_again bytes us 1 thin

    statements_are_same : statements_of again (tokens_in again) ≡ statements
    statements_are_same = statements_are again no_names (tokens_in again) ∙ ap (statements_by no_names) lexed_again.1 ∙ statements_again bytes us 1 thin

    none_crowded : crowded_of again (tokens_in again) ≡ None
    none_crowded = crowded_is again no_names 0 (tokens_in again) ∙ ap (crowded_by no_names 0) lexed_again.1 ∙ none_crowded_again bytes us 1 thin is.accepted.2.2

-- ---- what the reader gives

-- the first tokens of a text begin a text, and are small where all are
begins_at : (toks : List Tok) → IsText toks → (n : ℕ) → BeginsText (take n toks)
begins_at toks whole n = begins_before (take n toks) (drop n toks) (subst BeginsText (sym (take-append-drop n toks)) ([], subst IsText (sym (append-nil toks)) whole))

small_at : (toks : List Tok) → IsText toks → IsSmallText toks → (n : ℕ) → IsSmallText (take n toks)
small_at toks whole small n =
    let all = sym (take-append-drop n toks) in
    small_before (take n toks) (drop n toks) (subst BeginsText all ([], subst IsText (sym (append-nil toks)) whole)) (subst IsSmallText all small)

-- bytes that are a text are not refused
accepted_not_refused : (tokens : List Token) (toks : List Tok) (crowded : Option ℕ) (refusal : ReadRefused) → IsFirstRefusal None crowded tokens toks → IsFirstRefusal (Some refusal) crowded tokens toks → ⊥
accepted_not_refused tokens toks crowded (refused.BadSyntax line) (whole, small, few) (at, is, inl bad) = bad.2 (begins_at toks whole (at + 1))
accepted_not_refused tokens toks crowded (refused.BadSyntax line) (whole, small, few) (at, is, inr ends) = ends.2 whole
accepted_not_refused tokens toks crowded (refused.TooManyVars line) (whole, small, few) (at, is, many) = let both = sym few ∙ many.0 in absurd cc
accepted_not_refused tokens toks crowded (refused.TermTooLarge line) (whole, small, few) (at, is, large) = large.4 (small_at toks whole small (at + 1))
accepted_not_refused tokens toks crowded refused.TextTooLong accepted is = is
accepted_not_refused tokens toks crowded (refused.Lex fault) accepted is = is

text_not_refused : (bytes : List ℕ) (refusal : ReadRefused) → IsRefusedAs bytes None → IsRefusal bytes refusal → ⊥
text_not_refused bytes refused.TextTooLong accepted is = absurd (omega (arith, accepted.0, is))
text_not_refused bytes (refused.Lex fault) accepted is = let both = sym accepted.1 ∙ is.1 in absurd cc
text_not_refused bytes (refused.BadSyntax line) accepted is = accepted_not_refused (tokens_in bytes) (toks_of bytes (tokens_in bytes)) _ (refused.BadSyntax line) accepted.2 is.2
text_not_refused bytes (refused.TooManyVars line) accepted is = accepted_not_refused (tokens_in bytes) (toks_of bytes (tokens_in bytes)) _ (refused.TooManyVars line) accepted.2 is.2
text_not_refused bytes (refused.TermTooLarge line) accepted is = accepted_not_refused (tokens_in bytes) (toks_of bytes (tokens_in bytes)) _ (refused.TermTooLarge line) accepted.2 is.2

-- what bytes are read as is the text that they are
read_as : (bytes : List ℕ) (text : Text) (result : Result Text ReadError) → IsTextOf bytes text → IsReadOf bytes result → IsReadAs text result
read_as bytes text (Ok other) is found = unique bytes other text found is
read_as bytes text (Err (Refused refusal)) is found = text_not_refused bytes refusal is.accepted found
read_as bytes text (Err NoMemory) is found = tt

pub read_gives_back : (bytes : List ℕ) (text : Text) (result : Result Text ReadError) → IsTextOf bytes text → IsShort (canonical text) → IsReadOf (canonical text) result → IsReadAs (in_lines 1 text) result
read_gives_back bytes text result is short found = read_as (canonical text) (in_lines 1 text) result (read_back bytes text is short) found

-- the lines of statements are not printed
same_printed : (line : ℕ) (statements : List Statement) → flat_map statement_text (statements_in_lines line statements) ≡ flat_map statement_text statements
same_printed line [] = refl
same_printed line (statement ∷ statements) = ap (λ bytes. statement_text statement ++ bytes) (same_printed (suc line) statements)

pub printed_same : (line : ℕ) (text : Text) → canonical (in_lines line text) ≡ canonical text
printed_same line text = same_printed line text.statements
