-- The tokens of bytes are those that the rules of reading give, and no others.
use Rattle.std.specs.Prelude.{ℕ, zero, suc, ◌≡◌, ◌+◌, ◌-◌, ◌<◌, ◌↔◌, true, List, [], ◌∷◌, ◌++◌, length, drop, Option, Result, Ok, Err, refl}
use Rattle.std.proofs.Common.{◌∙◌, sym, ap, subst, arith, inl, inr, length-append}
use Rattle.std.proofs.lemmas.List.{drop_at}
use Rattle.lps_terms.specs.declared.lex_refused.LexRefused.{LexRefused}
use Rattle.lps_terms.specs.declared.lex_refused.LexRefused.TheVariants as refused
use Rattle.lps_lex.specs.declared.token_kind.TokenKind.{TokenKind}
use Rattle.lps_lex.specs.declared.token_kind.TokenKind.TheVariants as kind
use Rattle.lps_lex.specs.declared.token.Token.{Token}
use Rattle.lps_lex.specs.declared.piece.Piece.{Piece}
use Rattle.lps_lex.specs.declared.piece.Piece.TheVariants as piece
use Rattle.lps_lex.specs.Piece.{is_blank, piece_of}
use Rattle.lps_lex.specs.Forms.{HasForm, IsComment, IsFault}
use Rattle.lps_lex.specs.Lexing.{led_by, lexed, lexed_from, Lexing, with_piece}
use Rattle.lps_lex.specs.Reads.{Reads}
use Rattle.lps_lex.specs.Reads as reads
use Rattle.lps_lex.proofs.Fronts.{blank_unique, comment_unique, fault_unique, IsPiece, piece_is, token_unique}
use Rattle.lps_lex.proofs.Steps.{lexed_from-blanks, lexed_from-fault, lexed_from-feed, lexed_from-token}
use Rattle.lps_lex.proofs.Signs.{IsSign, long, short, sign_is}
use Rattle.lps_lex.proofs.Words.{IsWord, name_word, reserved_word, time_word, variable_word}

-- the bytes are read as this
abbrev pub ReadsAs : ℕ → ℕ → List ℕ → Lexing → Type 0
ReadsAs at line bytes lexing = Reads at line bytes lexing.tokens lexing.fault

-- ---- texts are not empty

word_some : (text : List ℕ) → IsWord text → 0 < length text
word_some [] form = absurd form
word_some (first ∷ rest) form = omega arith

sign_some : (text : List ℕ) → IsSign text → 0 < length text
sign_some text (short first begins apart) = omega arith
sign_some text (long first second begins apart) = omega arith

-- a text of any form has a byte at least
pub form_some : (kind : TokenKind) (text : List ℕ) → HasForm kind text → 0 < length text
form_some kind.Name text form = word_some text (name_word text form)
form_some kind.Reserved text form = word_some text (reserved_word text form)
form_some kind.Time text form = word_some text (time_word text form)
form_some kind.Variable text form = word_some text (variable_word text form)
form_some kind.Number [] form = absurd form
form_some kind.Number (first ∷ rest) form = omega arith
form_some kind.Sign text form = sign_some text (sign_is text form)

comment_some : (text rest : List ℕ) → IsComment text rest → 0 < length text
comment_some [] rest comment = absurd comment.form
comment_some (first ∷ text) rest comment = omega arith

-- what stands before bytes makes them some
some_before : (text rest : List ℕ) → 0 < length text → 0 < length (text ++ rest)
some_before text rest some = omega (arith, length-append text rest)

fault_some : (bytes : List ℕ) (fault : LexRefused) (line : ℕ) → IsFault fault line bytes → 0 < length bytes
fault_some bytes (refused.BadByte place) line (same, nothing) = rw (nothing.split) (omega arith)
fault_some bytes (refused.NameTooLong place) line (same, word) = rw (word.split) (some_before word.word word.rest (omega (arith, word.long)))
fault_some bytes (refused.NumberTooLarge place) line (same, number) = rw (number.split) (some_before number.digits number.rest (form_some kind.Number number.digits number.form))

-- ---- what the definition gives is read

-- what is read behind the first piece, wherever it ends
abbrev ReadsBehind : ℕ → List ℕ → (ℕ → ℕ → Lexing) → Type 0
ReadsBehind at bytes next = (skip line : ℕ) → ReadsAs (suc at + skip) line (drop skip bytes) (next skip line)

-- the rest of a text with a byte in front
behind_text : (byte : ℕ) (bytes text rest : List ℕ) → 0 < length text → byte ∷ bytes ≡ text ++ rest → drop (length text - 1) bytes ≡ rest
behind_text byte bytes [] rest some split = absurd (omega arith)
behind_text byte bytes (first ∷ text) rest some split =
    let same : bytes ≡ text ++ rest = cc in
    let size : length (first ∷ text) - 1 ≡ length text = omega arith in
    ap (λ count. drop count bytes) size ∙ ap (drop (length text)) same ∙ drop_at text rest (length text) refl

reads_behind : (at line byte : ℕ) (bytes text rest : List ℕ) (next : ℕ → ℕ → Lexing) → 0 < length text → byte ∷ bytes ≡ text ++ rest → ReadsBehind at bytes next →
    ReadsAs (at + length text) line rest (next (length text - 1) line)
reads_behind at line byte bytes text rest next some split more =
    let place : suc at + (length text - 1) ≡ at + length text = omega arith in
    subst (λ x. ReadsAs x line rest (next (length text - 1) line)) place
    (subst (λ x. ReadsAs (suc at + (length text - 1)) line x (next (length text - 1) line)) (behind_text byte bytes text rest some split) (more (length text - 1) line))

reads_piece : (found : Result Piece LexRefused) (at line byte : ℕ) (bytes : List ℕ) (next : ℕ → ℕ → Lexing) → IsPiece line (byte ∷ bytes) found → ReadsBehind at bytes next →
    ReadsAs at line (byte ∷ bytes) (with_piece found line at next)
reads_piece (Ok piece.LineFeed) at line byte bytes next (rest, split) more =
    let is : byte ≡ 10 = cc in
    let place : suc at + 0 ≡ suc at = omega arith in
    subst (λ x. ReadsAs at line (x ∷ bytes) (next 0 (suc line))) (sym is) (reads.line_feed (subst (λ x. ReadsAs x (suc line) bytes (next 0 (suc line))) place (more 0 (suc line))))
reads_piece (Ok (piece.Blanks count)) at line byte bytes next (text, rest, split, size, what) more =
    subst (λ x. ReadsAs at line (byte ∷ bytes) (next (x - 1) line)) (sym size) (subst (λ x. ReadsAs at line x (next (length text - 1) line)) (sym split)
    (elim what [
      | inl blank ↦ reads_blank text blank.0 blank.1 blank.2 split
      | inr comment ↦ reads.comment text comment (reads_behind at line byte bytes text rest next (comment_some text rest comment) split more)
    ]))
  where
    reads_blank : (text : List ℕ) (blank : ℕ) → text ≡ blank ∷ [] → is_blank blank ≡ true → byte ∷ bytes ≡ text ++ rest → ReadsAs at line (text ++ rest) (next (length text - 1) line)
    reads_blank text blank only is split =
        subst (λ x. ReadsAs at line (x ++ rest) (next (length x - 1) line)) (sym only)
        (let whole : byte ∷ bytes ≡ (blank ∷ []) ++ rest = split ∙ ap (λ x. x ++ rest) only in
        let place : at + 1 ≡ suc at = omega arith in
        reads.blank blank is (subst (λ x. ReadsAs x line rest (next 0 line)) place (reads_behind at line byte bytes (blank ∷ []) rest next (omega arith) whole more)))
reads_piece (Ok (piece.Token kind count)) at line byte bytes next (text, rest, split, size, token) more =
    subst (λ x. ReadsAs at line (byte ∷ bytes) (led_by (record { kind = kind; start = at; end = at + x; line = line }) (next (x - 1) line))) (sym size)
    (subst (λ x. ReadsAs at line x (led_by (record { kind = kind; start = at; end = at + length text; line = line }) (next (length text - 1) line))) (sym split)
    (reads.token kind text token (reads_behind at line byte bytes text rest next (form_some kind text token.form) split more)))
reads_piece (Err fault) at line byte bytes next is more = reads.fault fault is

pub lexed_reads : (bytes : List ℕ) (skip line at : ℕ) → ReadsAs (at + skip) line (drop skip bytes) (lexed_from bytes skip line at)
lexed_reads [] zero line at = reads.ends
lexed_reads [] (suc skip) line at = reads.ends
lexed_reads (byte ∷ bytes) (suc skip) line at =
    let place : suc at + skip ≡ at + suc skip = omega arith in
    subst (λ x. ReadsAs x line (drop skip bytes) (lexed_from bytes skip line (suc at))) place (lexed_reads bytes skip line (suc at))
lexed_reads (byte ∷ bytes) zero line at =
    let place : at ≡ at + 0 = omega arith in
    subst (λ x. ReadsAs x line (byte ∷ bytes) (lexed_from (byte ∷ bytes) 0 line at)) place
    (reads_piece (piece_of line (byte ∷ bytes)) at line byte bytes (λ skip next. lexed_from bytes skip next (suc at)) (piece_is line byte bytes)
    (λ skip next. lexed_reads bytes skip next (suc at)))

-- ---- what is read is what the definition gives

abbrev lexing : List Token → Option LexRefused → Lexing
lexing tokens fault = record { tokens = tokens; fault = fault }

-- behind a text stands what follows it
behind : (text rest : List ℕ) → drop (length text) (text ++ rest) ≡ rest
behind text rest = drop_at text rest (length text) refl

pub reads_lexed : {at line : ℕ} {bytes : List ℕ} {tokens : List Token} {fault : Option LexRefused} → Reads at line bytes tokens fault →
    lexed_from bytes 0 line at ≡ lexing tokens fault
reads_lexed reads.ends = refl
reads_lexed {at} {line} (reads.line_feed {rest = rest} more) =
    lexed_from-feed (10 ∷ rest) line at (omega arith) refl ∙ ap (λ x. lexed_from rest 0 x (at + 1)) (omega arith) ∙ ap (lexed_from rest 0 (suc line)) (omega arith) ∙ reads_lexed more
reads_lexed {at} {line} (reads.blank {rest = rest} byte is more) =
    lexed_from-blanks (byte ∷ rest) 1 line at (omega arith) (omega arith) (blank_unique line byte rest is) ∙ ap (lexed_from rest 0 line) (omega arith) ∙ reads_lexed more
reads_lexed {at} {line} (reads.comment {rest = rest} text comment more) =
    let some = comment_some text rest comment in
    lexed_from-blanks (text ++ rest) (length text) line at (some_before text rest some) some (comment_unique line text rest comment)
    ∙ ap (λ x. lexed_from x 0 line (at + length text)) (behind text rest) ∙ reads_lexed more
reads_lexed {at} {line} (reads.token {rest = rest} kind text token more) =
    let some = form_some kind text token.form in
    lexed_from-token (text ++ rest) kind (length text) line at (some_before text rest some) some (token_unique line kind text rest token)
    ∙ ap (led_by (record { kind = kind; start = at; end = at + length text; line = line }))
    (ap (λ x. lexed_from x 0 line (at + length text)) (behind text rest) ∙ reads_lexed more)
reads_lexed {at} {line} (reads.fault {rest = rest} fault is) = lexed_from-fault rest fault line at (fault_some rest fault line is) (fault_unique line rest fault is)

-- ---- both

pub lexed_is_read : (bytes : List ℕ) (found : Lexing) → Reads 0 1 bytes found.tokens found.fault ↔ (lexed bytes ≡ found)
lexed_is_read bytes found = (reads_lexed, λ e. subst (ReadsAs 0 1 bytes) e (lexed_reads bytes 0 1 0))
