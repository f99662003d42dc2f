-- The tokens of a text, statement by statement: what is written for each, that it is fine, and its line.
use Rattle.std.specs.Prelude.{ℕ, zero, suc, ◌≡◌, ◌+◌, ◌-◌, List, [], ◌∷◌, ◌++◌, length, drop, map, if◌then◌else◌, refl}
use Rattle.std.proofs.Common.{◌∙◌, sym, ap, subst, arith}
use Rattle.std.proofs.Math.Seq.{drop-append_seam}
use Rattle.std.proofs.lemmas.List.{append_assoc, drop-drop, drop-map, length-append, length-map}
use Rattle.lps_terms.specs.declared.body.Body.{Body}
use Rattle.lps_terms.specs.declared.statement.Statement.{Statement}
use Rattle.lps_lex.specs.declared.token.Token.{Token}
use Rattle.lps_grammar.specs.declared.tok.Tok.{Tok}
use Rattle.lps_grammar.specs.declared.tok.Tok.TheVariants as k
use Rattle.lps_grammar.specs.Statements.{spell_statement, spell_text}
use Rattle.lps_grammar.specs.Statements as gs
use Rattle.lps_numbering.specs.declared.names.Names.{Names}
use Rattle.lps_build.specs.Meaning.{bodies_of, body_of}
use Rattle.lps_roundtrip.specs.Canonical.{canonical_statement, canonical_text}
use Rattle.lps_roundtrip.proofs.Meanings.{statement_means}
use Rattle.lps_reader.specs.Refusing.{line_at}
use Rattle.lps_roundtrip.specs.Words.{Word, word_at, word_of, words_of}
use Rattle.lps_roundtrip.specs.Shown.{AreFine}
use Rattle.lps_roundtrip.specs.Lines.{AreAllFine, AreOf, words_of_text}
use Rattle.lps_roundtrip.specs.Along.{AreFineAlong, words_along}
use Rattle.lps_reader.specs.Made.{statements_made}
use Rattle.lps_roundtrip.specs.RoundTrip.{statements_in_lines}
use Rattle.lps_roundtrip.proofs.Cuts.{Cut, NoDots, statement_cut}

-- ---- one statement before others

-- the tokens of a statement, with its full stop, are fine under its names, and so are the others under theirs
fine_front : (names : Names) (more : List Names) (front rest : List Tok) → NoDots front → AreFineAlong (names ∷ more) (front ++ k.Dot ∷ rest) → AreFine names (front ++ k.Dot ∷ []) × AreFineAlong more rest
fine_front names more [] rest none fine = ((tt, tt), fine.1)
fine_front names more (tok ∷ front) rest none fine =
    let later = fine_front names more front rest none.1 (subst (λ dot. AreFineAlong (if dot then more else names ∷ more) (front ++ k.Dot ∷ rest)) none.0 fine.1) in
    ((fine.0, later.0), later.1)

-- what is written for a statement stands in its line, and for the others from the next line on
words_front : (names : Names) (more : List Names) (line : ℕ) (front rest : List Tok) → NoDots front →
    words_along (names ∷ more) line (front ++ k.Dot ∷ rest) ≡ words_of names line (front ++ k.Dot ∷ []) ++ words_along more (suc line) rest
words_front names more line [] rest none = refl
words_front names more line (tok ∷ front) rest none =
    ap (λ (words : List Word). word_of names line tok ∷ words)
    (ap (λ dot. words_along (if dot then more else names ∷ more) (if dot then suc line else line) (front ++ k.Dot ∷ rest)) none.0 ∙ words_front names more line front rest none.1)

-- the tokens of a statement of a text, and those after it
module _ (x : gs.Statement) (rest : List Tok) where
  abbrev own : List Tok
  own = spell_statement (canonical_statement x) (k.Dot ∷ [])

  cut : Cut (spell_statement (canonical_statement x))
  cut = statement_cut (canonical_statement x)

  split_fine : (names : Names) (more : List Names) → AreFineAlong (names ∷ more) (spell_statement (canonical_statement x) (k.Dot ∷ rest)) → AreFine names own × AreFineAlong more rest
  split_fine names more fine =
      let parts = fine_front names more cut.front rest cut.no_dots (subst (AreFineAlong (names ∷ more)) (cut.is (k.Dot ∷ rest)) fine) in
      (subst (AreFine names) (sym (cut.is (k.Dot ∷ []))) parts.0, parts.1)

  split_words : (names : Names) (more : List Names) (line : ℕ) →
      words_along (names ∷ more) line (spell_statement (canonical_statement x) (k.Dot ∷ rest)) ≡ words_of names line own ++ words_along more (suc line) rest
  split_words names more line =
      ap (words_along (names ∷ more) line) (cut.is (k.Dot ∷ rest)) ∙ words_front names more line cut.front rest cut.no_dots
      ∙ ap (λ ts. words_of names line ts ++ words_along more (suc line) rest) (sym (cut.is (k.Dot ∷ [])))

  -- there is a token at least
  some_toks : (P : List Tok → Type 0) → ((tok : Tok) (toks : List Tok) → P (tok ∷ toks)) → P (spell_statement (canonical_statement x) (k.Dot ∷ rest))
  some_toks P some = subst P (sym (cut.is (k.Dot ∷ rest))) (by_front cut.front) where
    by_front : (front : List Tok) → P (front ++ k.Dot ∷ rest)
    by_front [] = some k.Dot rest
    by_front (tok ∷ front) = some tok (front ++ k.Dot ∷ rest)

  split_size : length (spell_statement (canonical_statement x) (k.Dot ∷ rest)) ≡ length own + length rest
  split_size =
      ap (λ (ts : List Tok). length ts) (cut.is (k.Dot ∷ rest)) ∙ ap (λ (ts : List Tok). length ts) (sym (append_assoc cut.front (k.Dot ∷ []) rest))
      ∙ length-append (cut.front ++ k.Dot ∷ []) rest ∙ ap (λ (ts : List Tok). length ts + length rest) (sym (cut.is (k.Dot ∷ [])))

-- ---- all statements

pub all_fine : (tree : gs.Text) (statements : List Names) → AreFineAlong statements (spell_text (canonical_text tree) []) → AreAllFine statements tree
all_fine gs.done statements fine = tt
all_fine (gs.next x text) [] fine = some_toks x (spell_text (canonical_text text) []) (λ ts. AreFineAlong [] ts → ⊥) (λ tok toks none. none) fine
all_fine (gs.next x text) (names ∷ more) fine =
    let parts = split_fine x (spell_text (canonical_text text) []) names more fine in
    (parts.0, all_fine text more parts.1)

pub all_words : (tree : gs.Text) (statements : List Names) (line : ℕ) → words_along statements line (spell_text (canonical_text tree) []) ≡ words_of_text statements line tree
all_words gs.done statements line = refl
all_words (gs.next x text) [] line = some_toks x (spell_text (canonical_text text) []) (λ ts. words_along [] line ts ≡ []) (λ tok toks. refl)
all_words (gs.next x text) (names ∷ more) line =
    let rest = spell_text (canonical_text text) [] in
    split_words x rest names more line ∙ ap (λ ws. words_of names line (own x rest) ++ ws) (all_words text more (suc line))

-- the statements that are made are those of the tree
pub made_of : (line : ℕ → ℕ) (total : ℕ) (tree : gs.Text) (statements : List Names) → AreAllFine statements tree → AreOf statements tree (statements_made line (bodies_of total tree) statements)
made_of line total gs.done statements fine = tt
made_of line total (gs.next x text) [] fine = absurd fine
made_of line total (gs.next x text) (names ∷ more) fine = (record { names = refl; times = refl; body = refl }, made_of line total text more fine.1)

-- ---- lines

abbrev first_line : List Word → ℕ
first_line [] = 0
first_line (word ∷ words) = word.line

token_line : (bytes : List ℕ) (tokens : List Token) (place : ℕ) (word : Word) (words : List Word) → map (word_at bytes) (drop place tokens) ≡ word ∷ words → line_at tokens place ≡ word.line
token_line bytes [] zero word words e = absurd cc
token_line bytes [] (suc place) word words e = absurd cc
token_line bytes (token ∷ tokens) zero word words e = ap first_line e
token_line bytes (token ∷ tokens) (suc place) word words e = token_line bytes tokens place word words e

-- The statements, each in a line of its own, are those that are made of tokens before which the words of the canonical tree stand in these lines.
pub lines_are : (bytes : List ℕ) (tokens : List Token) (old : ℕ → ℕ) (tree : gs.Text) (statements : List Names) (line place total new_total : ℕ) →
    map (word_at bytes) (drop place tokens) ≡ words_along statements line (spell_text (canonical_text tree) []) → new_total ≡ place + length (spell_text (canonical_text tree) []) →
    statements_in_lines line (statements_made old (bodies_of total tree) statements) ≡ statements_made (line_at tokens) (bodies_of new_total (canonical_text tree)) statements
lines_are bytes tokens old gs.done statements line place total new_total words size = refl
lines_are bytes tokens old (gs.next x text) [] line place total new_total words size = refl
lines_are bytes tokens old (gs.next x text) (names ∷ more) line place total new_total words size =
    ap (λ l. made l (body_of x) ∷ statements_in_lines (suc line) (statements_made old (bodies_of total text) more)) (sym here)
    ∙ ap (λ b. made (line_at tokens (new_total - length all)) b ∷ statements_in_lines (suc line) (statements_made old (bodies_of total text) more)) (sym (statement_means x))
    ∙ ap (λ ss. made (line_at tokens (new_total - length all)) (body_of (canonical_statement x)) ∷ ss) (lines_are bytes tokens old text more (suc line) (place + count) total new_total behind later)
  where
    rest : List Tok
    rest = spell_text (canonical_text text) []

    all : List Tok
    all = spell_statement (canonical_statement x) (k.Dot ∷ rest)

    count : ℕ
    count = length (own x rest)

    made : ℕ → Body → Statement
    made l b = record { line = l; names = names.names; times = names.times; body = b }

    both : map (word_at bytes) (drop place tokens) ≡ words_of names line (own x rest) ++ words_along more (suc line) rest
    both = words ∙ split_words x rest names more line

    here : line_at tokens (new_total - length all) ≡ line
    here =
        ap (line_at tokens) (place_is (length all) size)
        ∙ some_toks x [] (λ ts. map (word_at bytes) (drop place tokens) ≡ words_of names line ts ++ words_along more (suc line) rest → line_at tokens place ≡ line)
        (λ tok toks e. token_line bytes tokens place (word_of names line tok) (words_of names line toks ++ words_along more (suc line) rest) e) both
      where
        place_is : (n : ℕ) → new_total ≡ place + n → new_total - n ≡ place
        place_is n is = omega (arith, is)

    behind : map (word_at bytes) (drop (place + count) tokens) ≡ words_along more (suc line) rest
    behind =
        ap (map (word_at bytes)) (sym (drop-drop count place tokens)) ∙ sym (drop-map (word_at bytes) count (drop place tokens)) ∙ ap (drop count) both
        ∙ ap (λ n. drop n (words_of names line (own x rest) ++ words_along more (suc line) rest)) (sym (length-map (own x rest) (word_of names line)))
        ∙ drop-append_seam (words_of names line (own x rest)) (words_along more (suc line) rest)

    later : new_total ≡ (place + count) + length rest
    later = omega (arith, size, split_size x rest)
