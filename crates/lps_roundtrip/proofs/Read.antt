-- Bytes that show words are read as tokens at which these words stand.
use Rattle.std.specs.Prelude.{ℕ, suc, ◌≡◌, ◌+◌, ◌-◌, List, [], ◌∷◌, ◌++◌, length, take, drop, slice_range, None, refl}
use Rattle.std.proofs.Common.{◌∙◌, sym, ap, subst, arith, append_assoc, length-append}
use Rattle.std.proofs.Math.Seq.{take-append_seam}
use Rattle.std.proofs.lemmas.List.{drop_at}
use Rattle.lps_lex.specs.declared.token_kind.TokenKind.{TokenKind}
use Rattle.lps_lex.specs.declared.token.Token.{Token}
use Rattle.lps_lex.specs.Forms.{IsToken}
use Rattle.lps_lex.specs.Lexing.{lexed, Lexing}
use Rattle.lps_lex.specs.Reads.{Reads}
use Rattle.lps_lex.specs.Reads as reads
use Rattle.lps_lex.proofs.Readings.{reads_lexed}
use Rattle.lps_roundtrip.specs.Words.{Word, words_in}
use Rattle.lps_roundtrip.specs.Shown.{Shown}
use Rattle.lps_roundtrip.specs.Shown as shown

-- behind these bytes, the others are read without a fault as tokens at which these words stand
record IsReadAs (before bytes : List ℕ) (line : ℕ) (words : List Word) : Type 0 where
  tokens : List Token
  read : Reads (length before) line bytes tokens None
  same : words_in (before ++ bytes) tokens ≡ words

-- the text that stands behind bytes
slice_text : (before text rest : List ℕ) → slice_range (before ++ (text ++ rest)) (length before) (length before + length text) ≡ text
slice_text before text rest =
    let size : (length before + length text) - length before ≡ length text = omega arith in
    ap (λ count. take count (drop (length before) (before ++ (text ++ rest)))) size
    ∙ ap (take (length text)) (drop_at before (text ++ rest) (length before) refl) ∙ take-append_seam text rest

-- a blank or a line feed adds nothing
behind_byte : (before bytes : List ℕ) (byte line next : ℕ) (words : List Word) →
    ((tokens : List Token) → Reads (suc (length before)) next bytes tokens None → Reads (length before) line (byte ∷ bytes) tokens None) →
    IsReadAs (before ++ (byte ∷ [])) bytes next words → IsReadAs before (byte ∷ bytes) line words
behind_byte before bytes byte line next words step more =
    let place : length (before ++ (byte ∷ [])) ≡ suc (length before) = omega (arith, length-append before (byte ∷ [])) in
    record {
      tokens = more.tokens;
      read = step more.tokens (subst (λ at. Reads at next bytes more.tokens None) place more.read);
      same = ap (λ all. words_in all more.tokens) (sym (append_assoc before (byte ∷ []) bytes)) ∙ more.same;
    }

-- a word adds itself
behind_word : (before bytes text : List ℕ) (kind : TokenKind) (line : ℕ) (words : List Word) → IsToken kind text bytes →
    IsReadAs (before ++ text) bytes line words → IsReadAs before (text ++ bytes) line (record { kind = kind; text = text; line = line } ∷ words)
behind_word before bytes text kind line words is more =
    let token : Token = record { kind = kind; start = length before; end = length before + length text; line = line } in
    record {
      tokens = token ∷ more.tokens;
      read = reads.token kind text is (subst (λ at. Reads at line bytes more.tokens None) (length-append before text) more.read);
      same = ap (λ front. record { kind = kind; text = front; line = line } ∷ words_in (before ++ (text ++ bytes)) more.tokens) (slice_text before text bytes)
          ∙ ap (λ rest. record { kind = kind; text = text; line = line } ∷ rest) (ap (λ all. words_in all more.tokens) (sym (append_assoc before text bytes)) ∙ more.same);
    }

shown_reads : (before : List ℕ) {line : ℕ} {bytes : List ℕ} {words : List Word} → Shown line bytes words → IsReadAs before bytes line words
shown_reads before shown.nothing = record { tokens = []; read = reads.ends; same = refl }
shown_reads before {line = line} {words = words} (shown.space {bytes = bytes} more) =
    behind_byte before bytes 32 line line words (λ tokens read. reads.blank 32 refl read) (shown_reads (before ++ (32 ∷ [])) more)
shown_reads before {line = line} {words = words} (shown.feed {bytes = bytes} more) =
    behind_byte before bytes 10 line (suc line) words (λ tokens read. reads.line_feed read) (shown_reads (before ++ (10 ∷ [])) more)
shown_reads before {line = line} (shown.word {bytes = bytes} {words = words} kind text is more) =
    behind_word before bytes text kind line words is (shown_reads (before ++ text) more)

-- what is shown from the first line on is read so
pub shown_lexed : (bytes : List ℕ) (words : List Word) → Shown 1 bytes words → ((lexed bytes).fault ≡ None) × (words_in bytes (lexed bytes).tokens ≡ words)
shown_lexed bytes words shows =
    let found = shown_reads [] shows in
    let is : lexed bytes ≡ record { tokens = found.tokens; fault = None } = reads_lexed found.read in
    (ap (λ (lexing : Lexing). lexing.fault) is, ap (λ (lexing : Lexing). words_in bytes lexing.tokens) is ∙ found.same)
