-- The places and lines of what is read.
use Rattle.std.specs.Prelude.{ℕ, zero, suc, ◌≡◌, ◌+◌, ◌-◌, ◌≤◌, Bool, true, false, List, [], ◌∷◌, ◌++◌, length, take, drop, slice_range, not, ◌==◌, ◌||◌, if◌then◌else◌, Option, refl}
use Rattle.std.specs.List.{All, list_all}
use Rattle.std.specs.Char.{is_ascii_digit}
use Rattle.std.proofs.Common.{◌∙◌, sym, ap, subst, arith, append_assoc, length-append}
use Rattle.std.proofs.lemmas.Bool.{eqb-true}
use Rattle.std.proofs.lemmas.List.{drop_at}
use Rattle.std.proofs.lemmas.List.Elements.{All-cons, All-nil}
use Rattle.lps_terms.specs.Names.{is_word_byte}
use Rattle.lps_terms.specs.declared.lex_refused.LexRefused.{LexRefused}
use Rattle.lps_lex.specs.declared.token_kind.TokenKind.{TokenKind}
use Rattle.lps_lex.specs.declared.token_kind.TokenKind.TheVariants as kind
use Rattle.lps_lex.specs.declared.token.Token.{Token}
use Rattle.lps_lex.specs.Piece.{is_blank}
use Rattle.lps_lex.specs.Forms.{begins_word, HasForm, IsComment, IsSpelled, IsToken, Stops, signs}
use Rattle.lps_lex.specs.Lexing.{lexed}
use Rattle.lps_lex.specs.Reads.{Reads}
use Rattle.lps_lex.specs.Reads as reads
use Rattle.lps_lex.specs.Spans.{AreApart, IsGap, IsTokenOf, line_feeds}
use Rattle.lps_lex.specs.Spans as gap
use Rattle.lps_lex.proofs.Bytes.{both, differs}
use Rattle.lps_lex.proofs.Readings.{form_some, lexed_reads}
use Rattle.lps_lex.proofs.Words.{passes_in, IsWord, name_word, reserved_word, time_word, variable_word}

-- ---- slices

take_front : (front rest : List ℕ) → take (length front) (front ++ rest) ≡ front
take_front [] rest = refl
take_front (byte ∷ front) rest = ap (λ more. byte ∷ more) (take_front front rest)

drop_front : (front rest : List ℕ) → drop (length front) (front ++ rest) ≡ rest
drop_front front rest = drop_at front rest (length front) refl

take_split : (count : ℕ) (bytes : List ℕ) → bytes ≡ take count bytes ++ drop count bytes
take_split zero bytes = refl
take_split (suc count) [] = refl
take_split (suc count) (byte ∷ bytes) = ap (λ more. byte ∷ more) (take_split count bytes)

take_past : (text rest : List ℕ) (more : ℕ) → take (length text + more) (text ++ rest) ≡ text ++ take more rest
take_past [] rest more = ap (λ count. take count rest) (omega arith)
take_past (byte ∷ text) rest more =
    ap (λ count. take count (byte ∷ (text ++ rest))) (let e : suc (length text) + more ≡ suc (length text + more) = omega arith in e)
    ∙ ap (λ bytes. byte ∷ bytes) (take_past text rest more)

-- the text that stands behind bytes
slice_text : (before text rest : List ℕ) → slice_range (before ++ (text ++ rest)) (length before) (length before + length text) ≡ text
slice_text before text rest =
    let size : (length before + length text) - length before ≡ length text = omega arith in
    ap (λ count. take count (drop (length before) (before ++ (text ++ rest)))) size
    ∙ ap (take (length text)) (drop_front before (text ++ rest)) ∙ take_front text rest

-- a slice that goes past the text has it in front
slice_past : (before text rest : List ℕ) (end : ℕ) → length before + length text ≤ end →
    slice_range (before ++ (text ++ rest)) (length before) end ≡ text ++ take (end - (length before + length text)) rest
slice_past before text rest end past =
    let size : end - length before ≡ length text + (end - (length before + length text)) = omega arith in
    ap (λ count. take count (drop (length before) (before ++ (text ++ rest)))) size
    ∙ ap (take (length text + (end - (length before + length text)))) (drop_front before (text ++ rest))
    ∙ take_past text rest (end - (length before + length text))

-- the same slice from behind the text
slice_behind : (before text rest : List ℕ) (end : ℕ) → slice_range (before ++ (text ++ rest)) (length before + length text) end ≡ take (end - (length before + length text)) rest
slice_behind before text rest end =
    ap (take (end - (length before + length text)))
    (ap (λ bytes. drop (length before + length text) bytes) (sym (append_assoc before text rest))
    ∙ ap (λ place. drop place ((before ++ text) ++ rest)) (sym (length-append before text)) ∙ drop_front (before ++ text) rest)

-- ---- gaps

stops_front : (test : ℕ → Bool) (front after : List ℕ) → Stops test (front ++ after) → Stops test front
stops_front test [] after stops = tt
stops_front test (next ∷ front) after stops = stops

-- a comment before bytes is one before the first of them
comment_front : (text rest : List ℕ) (count : ℕ) → IsComment text rest → IsComment text (take count rest)
comment_front text rest count comment =
    record { form = comment.form; longest = stops_front (λ byte. not (byte == 10)) (take count rest) (drop count rest) (subst (Stops (λ byte. not (byte == 10))) (take_split count rest) comment.longest) }

-- a gap that begins with this text, where it does so before the first of the bytes that follow
apart_past : (before text rest : List ℕ) (tokens : List Token) → ((count : ℕ) → IsGap (take count rest) → IsGap (text ++ take count rest)) →
    AreApart (before ++ (text ++ rest)) (length before + length text) tokens → AreApart (before ++ (text ++ rest)) (length before) tokens
apart_past before text rest [] grows apart = tt
apart_past before text rest (token ∷ tokens) grows apart = (
  omega (arith, apart.0),
  subst IsGap (sym (slice_past before text rest token.start apart.0)) (grows (token.start - (length before + length text)) (subst IsGap (slice_behind before text rest token.start) apart.1)),
  apart.2,
)

-- what is read behind a text is read behind what stands before it and the text
abbrev ApartBehind : List ℕ → List ℕ → List ℕ → List Token → Type 0
ApartBehind before text rest tokens = AreApart ((before ++ text) ++ rest) (length before + length text) tokens

regroup : (before text rest : List ℕ) (tokens : List Token) → ApartBehind before text rest tokens → AreApart (before ++ (text ++ rest)) (length before + length text) tokens
regroup before text rest tokens apart = subst (λ bytes. AreApart bytes (length before + length text) tokens) (append_assoc before text rest) apart

no_gap : (bytes : List ℕ) (at : ℕ) → IsGap (slice_range bytes at at)
no_gap bytes at =
    let nothing : at - at ≡ 0 = omega arith in
    subst (λ count. IsGap (take count (drop at bytes))) (sym nothing) gap.none

pub reads_apart : {at line : ℕ} {bytes : List ℕ} {tokens : List Token} {fault : Option LexRefused} (before : List ℕ) → at ≡ length before → Reads at line bytes tokens fault →
    AreApart (before ++ bytes) (length before) tokens
reads_apart before place reads.ends = tt
reads_apart before place (reads.line_feed {rest = rest} {tokens = tokens} more) =
    apart_past before (10 ∷ []) rest tokens (λ count rest_gap. gap.blank 10 refl rest_gap)
    (regroup before (10 ∷ []) rest tokens (subst (λ x. AreApart ((before ++ (10 ∷ [])) ++ rest) x tokens) (length-append before (10 ∷ []))
    (reads_apart (before ++ (10 ∷ [])) (omega (arith, length-append before (10 ∷ []))) more)))
reads_apart before place (reads.blank {rest = rest} {tokens = tokens} byte is more) =
    apart_past before (byte ∷ []) rest tokens (λ count rest_gap. gap.blank byte (ap (λ x. x || (byte == 10)) is) rest_gap)
    (regroup before (byte ∷ []) rest tokens (subst (λ x. AreApart ((before ++ (byte ∷ [])) ++ rest) x tokens) (length-append before (byte ∷ []))
    (reads_apart (before ++ (byte ∷ [])) (omega (arith, length-append before (byte ∷ []))) more)))
reads_apart before place (reads.comment {rest = rest} {tokens = tokens} text comment more) =
    apart_past before text rest tokens (λ count rest_gap. gap.comment text (comment_front text rest count comment) rest_gap)
    (regroup before text rest tokens (subst (λ x. AreApart ((before ++ text) ++ rest) x tokens) (length-append before text)
    (reads_apart (before ++ text) (omega (arith, length-append before text)) more)))
reads_apart {at} before place (reads.token {rest = rest} {tokens = tokens} kind text token more) = (
  omega arith,
  subst (λ x. IsGap (slice_range (before ++ (text ++ rest)) (length before) x)) (sym place) (no_gap (before ++ (text ++ rest)) (length before)),
  subst (λ x. AreApart (before ++ (text ++ rest)) (x + length text) tokens) (sym place)
      (regroup before text rest tokens (subst (λ x. AreApart ((before ++ text) ++ rest) x tokens) (length-append before text)
      (reads_apart (before ++ text) (omega (arith, length-append before text)) more))),
)
reads_apart before place (reads.fault fault is) = tt

-- ---- lines

line_feeds-append : (front rest : List ℕ) → line_feeds (front ++ rest) ≡ line_feeds front + line_feeds rest
line_feeds-append [] rest = omega arith
line_feeds-append (byte ∷ front) rest = omega (arith, line_feeds-append front rest)

line_feeds-cons : (byte : ℕ) (bytes : List ℕ) → (byte == 10) ≡ false → line_feeds (byte ∷ bytes) ≡ line_feeds bytes
line_feeds-cons byte bytes no_feed = ap (λ test. (if test then 1 else 0) + line_feeds bytes) no_feed ∙ omega arith

-- bytes of a class without line feeds have none
no_feeds : (class : ℕ → Bool) (bytes : List ℕ) → class 10 ≡ false → list_all class bytes ≡ true → line_feeds bytes ≡ 0
no_feeds class [] without all = refl
no_feeds class (byte ∷ bytes) without all =
    let parts = both (class byte) (list_all class bytes) all in
    line_feeds-cons byte bytes (differs class byte 10 parts.0 without) ∙ no_feeds class bytes without parts.1

spelled_no_feeds : (begins follows : ℕ → Bool) (text : List ℕ) → begins 10 ≡ false → follows 10 ≡ false → IsSpelled begins follows text → line_feeds text ≡ 0
spelled_no_feeds begins follows [] without_begin without_follow form = absurd form
spelled_no_feeds begins follows (first ∷ rest) without_begin without_follow form =
    line_feeds-cons first rest (differs begins first 10 form.0 without_begin) ∙ no_feeds follows rest without_follow form.1

word_no_feeds : (text : List ℕ) → IsWord text → line_feeds text ≡ 0
word_no_feeds text word = spelled_no_feeds begins_word is_word_byte text refl refl word

-- no token has a line feed
form_no_feeds : (kind : TokenKind) (text : List ℕ) → HasForm kind text → line_feeds text ≡ 0
form_no_feeds kind.Name text form = word_no_feeds text (name_word text form)
form_no_feeds kind.Reserved text form = word_no_feeds text (reserved_word text form)
form_no_feeds kind.Time text form = word_no_feeds text (time_word text form)
form_no_feeds kind.Variable text form = word_no_feeds text (variable_word text form)
form_no_feeds kind.Number text form = spelled_no_feeds is_ascii_digit is_ascii_digit text refl refl form
form_no_feeds kind.Sign text form = eqb-true (line_feeds text) 0 (passes_in (λ sign. line_feeds sign == 0) signs text refl form)

blank_no_feeds : (byte : ℕ) → is_blank byte ≡ true → line_feeds (byte ∷ []) ≡ 0
blank_no_feeds byte is = line_feeds-cons byte [] (differs is_blank byte 10 is refl)

comment_no_feeds : (text rest : List ℕ) → IsComment text rest → line_feeds text ≡ 0
comment_no_feeds text rest comment = spelled_no_feeds (λ byte. byte == 37) (λ byte. not (byte == 10)) text refl refl comment.form

-- the line behind a text
line_behind : (before text : List ℕ) (line feeds : ℕ) → line ≡ 1 + line_feeds before → line_feeds text ≡ feeds → line + feeds ≡ 1 + line_feeds (before ++ text)
line_behind before text line feeds here is = omega (arith, line_feeds-append before text)

-- a token behind bytes is one of the whole
token_of : (before text rest : List ℕ) (kind : TokenKind) (line : ℕ) → IsToken kind text rest → line ≡ 1 + line_feeds before →
    IsTokenOf (before ++ (text ++ rest)) (record { kind = kind; start = length before; end = length before + length text; line = line })
token_of before text rest kind line token here =
    let some = form_some kind text token.form in
    record {
      some = omega arith;
      within = omega (arith, length-append before (text ++ rest), length-append text rest);
      is = subst (λ x. IsToken kind x (drop (length before + length text) (before ++ (text ++ rest)))) (sym (slice_text before text rest))
          (subst (IsToken kind text) (sym left) token);
      line = here ∙ ap (λ front. 1 + line_feeds front) (sym (take_front before (text ++ rest)));
    }
  where
    left : drop (length before + length text) (before ++ (text ++ rest)) ≡ rest
    left =
        ap (drop (length before + length text)) (sym (append_assoc before text rest))
        ∙ ap (λ place. drop place ((before ++ text) ++ rest)) (sym (length-append before text)) ∙ drop_front (before ++ text) rest

-- tokens of the whole, however it is grouped
all_regroup : (before text rest : List ℕ) (tokens : List Token) → All (IsTokenOf ((before ++ text) ++ rest)) tokens → All (IsTokenOf (before ++ (text ++ rest))) tokens
all_regroup before text rest tokens all = subst (λ bytes. All (IsTokenOf bytes) tokens) (append_assoc before text rest) all

pub reads_tokens : {at line : ℕ} {bytes : List ℕ} {tokens : List Token} {fault : Option LexRefused} (before : List ℕ) → at ≡ length before → line ≡ 1 + line_feeds before →
    Reads at line bytes tokens fault → All (IsTokenOf (before ++ bytes)) tokens
reads_tokens before place here reads.ends = All-nil (IsTokenOf (before ++ []))
reads_tokens {line = line} before place here (reads.line_feed {rest = rest} {tokens = tokens} more) =
    all_regroup before (10 ∷ []) rest tokens (reads_tokens (before ++ (10 ∷ [])) (omega (arith, length-append before (10 ∷ [])))
    (omega (arith, line_behind before (10 ∷ []) line 1 here refl)) more)
reads_tokens {line = line} before place here (reads.blank {rest = rest} {tokens = tokens} byte is more) =
    all_regroup before (byte ∷ []) rest tokens (reads_tokens (before ++ (byte ∷ [])) (omega (arith, length-append before (byte ∷ [])))
    (omega (arith, line_behind before (byte ∷ []) line 0 here (blank_no_feeds byte is))) more)
reads_tokens {line = line} before place here (reads.comment {rest = rest} {tokens = tokens} text comment more) =
    all_regroup before text rest tokens (reads_tokens (before ++ text) (omega (arith, length-append before text))
    (omega (arith, line_behind before text line 0 here (comment_no_feeds text rest comment))) more)
reads_tokens {at} {line} before place here (reads.token {rest = rest} {tokens = tokens} kind text token more) =
    All-cons (IsTokenOf (before ++ (text ++ rest))) _ tokens
    (subst (λ x. IsTokenOf (before ++ (text ++ rest)) (record { kind = kind; start = x; end = x + length text; line = line })) (sym place) (token_of before text rest kind line token here))
    (all_regroup before text rest tokens (reads_tokens (before ++ text) (omega (arith, length-append before text))
    (omega (arith, line_behind before text line 0 here (form_no_feeds kind text token.form))) more))
reads_tokens before place here (reads.fault {rest = rest} fault is) = All-nil (IsTokenOf (before ++ rest))

-- ---- the tokens of the definition

pub lexed_spans : (bytes : List ℕ) (tokens : List Token) → (lexed bytes).tokens ≡ tokens → All (IsTokenOf bytes) tokens
lexed_spans bytes tokens e = subst (All (IsTokenOf bytes)) e (reads_tokens [] refl refl (lexed_reads bytes 0 1 0))

pub lexed_apart : (bytes : List ℕ) (tokens : List Token) → (lexed bytes).tokens ≡ tokens → AreApart bytes 0 tokens
lexed_apart bytes tokens e = subst (AreApart bytes 0) e (reads_apart [] refl (lexed_reads bytes 0 1 0))
