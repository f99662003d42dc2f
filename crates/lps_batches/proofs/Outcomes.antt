-- What is made of bytes, from the front that stands at them.
use Rattle.std.specs.Prelude.{ℕ, zero, suc, ◌≡◌, ◌+◌, ◌-◌, ◌≤◌, true, false, List, [], ◌∷◌, ◌++◌, length, drop, take, slice_range, Result, Ok, Err, IfOk, refl}
use Rattle.std.specs.declared.alloc.AllocError.{AllocError}
use Rattle.std.proofs.Common.{◌∙◌, ap, sym, subst, arith, append_assoc, length-append, inl, inr}
use Rattle.std.proofs.lemmas.List.{drop_at}
use Rattle.std.proofs.Math.Seq.{drop-length}
use Rattle.lps_terms.specs.declared.batch_kind.BatchKind.TheVariants as kind
use Rattle.lps_batches.specs.declared.front.Front.{Front}
use Rattle.lps_batches.specs.declared.front.Front.TheVariants as front
use Rattle.lps_batches.specs.LookAhead.{is_skipped}
use Rattle.lps_batches.specs.LinesAhead.{IsLine}
use Rattle.lps_batches.specs.declared.outcome.Outcome.{Outcome}
use Rattle.lps_batches.specs.declared.outcome.Outcome.TheVariants as outcome
use Rattle.lps_batches.specs.Lines.{IsLineRead}
use Rattle.lps_batches.specs.Outcomes.{Behind, FitsIn, IsEndOutcome, IsOutcome, IsReadAs, IsWhole}
use Rattle.lps_batches.specs.Stream.{Skipped}
use Rattle.lps_batches.specs.Stream as stream
use Rattle.lps_batches.proofs.Fronts.{Found, skipped_size, Stands}

-- ---- places

take_front : (front rest : List ℕ) → take (length front) (front ++ rest) ≡ front
take_front [] rest = refl
take_front (byte ∷ front) rest = ap (λ more. byte ∷ more) (take_front front rest)

module _ (bytes : List ℕ) (lines size : ℕ) (at : Front) (found : Found bytes lines size at) where
  rest_is : drop size bytes ≡ found.rest
  rest_is = ap (drop size) found.split ∙ drop_at found.passed found.rest size (sym found.size)

  pub few_lines : lines ≤ size
  few_lines = omega (arith, skipped_size found.skipped, found.size)

  pub within : size ≤ length bytes
  within = omega (arith, found.size, ap length found.split, length-append found.passed found.rest)

  behind : (rest : List ℕ) → found.rest ≡ rest → Behind bytes lines rest
  behind rest e = record { front = found.passed; skipped = found.skipped; split = found.split ∙ ap (λ more. found.passed ++ more) e }

-- ---- while the stream may go on

pub part_outcome : (bytes : List ℕ) (lines size : ℕ) → Found bytes lines size front.Part → IsOutcome bytes (outcome.Passed lines size)
part_outcome bytes lines size found =
    let e = rest_is bytes lines size front.Part found in
    (behind bytes lines size front.Part found (drop size bytes) (sym e), subst IsLine (sym e) found.stands)

pub long_outcome : (bytes : List ℕ) (lines size : ℕ) → Found bytes lines size front.TooLong → IsOutcome bytes (outcome.Refused lines kind.LineTooLong)
long_outcome bytes lines size found = by_stands found.stands where
  by_stands : Stands found.rest front.TooLong → IsOutcome bytes (outcome.Refused lines kind.LineTooLong)
  by_stands (line, rest, split, all, long) = (line ++ rest, behind bytes lines size front.TooLong found (line ++ rest) split, stream.long line rest all long)

-- behind a line and its line feed stands the rest
behind_line : (line rest : List ℕ) (count : ℕ) → count ≡ length line + 1 → drop count (line ++ 10 ∷ rest) ≡ rest
behind_line line rest count e =
    ap (drop count) (sym (append_assoc line (10 ∷ []) rest)) ∙ drop_at (line ++ 10 ∷ []) rest count (omega (arith, e, length-append line (10 ∷ [])))

drop-sum : (front rest : List ℕ) (count : ℕ) → drop (length front + count) (front ++ rest) ≡ drop count rest
drop-sum [] rest count = ap (λ n. drop n rest) (omega arith)
drop-sum (byte ∷ front) rest count =
    ap (λ n. drop n (byte ∷ (front ++ rest))) (let e : suc (length front) + count ≡ suc (length front + count) = omega arith in e) ∙ drop-sum front rest count

module _ (bytes : List ℕ) (lines size count : ℕ) (found : Found bytes lines size (front.Line count)) where
  -- the line that stands there lies within the bytes, with its line feed
  pub line_within : size + count + 1 ≤ length bytes
  line_within = by_stands found.stands where
    by_stands : Stands found.rest (front.Line count) → size + count + 1 ≤ length bytes
    by_stands (line, rest, split, is, kept, e) =
        omega (arith, e, found.size, ap length found.split, length-append found.passed found.rest, ap length split, length-append line (10 ∷ rest))

  line_is : (line rest : List ℕ) → found.rest ≡ line ++ 10 ∷ rest → count ≡ length line → slice_range bytes size (size + count) ≡ line
  line_is line rest split e =
      let some : (size + count) - size ≡ length line = omega (arith, e) in
      ap (λ n. take n (drop size bytes)) some ∙ ap (take (length line)) (rest_is bytes lines size (front.Line count) found ∙ split) ∙ take_front line (10 ∷ rest)

  left_is : (line rest : List ℕ) → found.rest ≡ line ++ 10 ∷ rest → count ≡ length line → drop (size + count + 1) bytes ≡ rest
  left_is line rest split e =
      let all : size + count + 1 ≡ length found.passed + (length line + 1) = omega (arith, e, found.size) in
      ap (λ n. drop n bytes) all ∙ ap (drop (length found.passed + (length line + 1))) found.split ∙ drop-sum found.passed found.rest (length line + 1)
      ∙ ap (drop (length line + 1)) split ∙ behind_line line rest (length line + 1) refl

  whole_is : (line : List ℕ) → slice_range bytes size (size + count) ≡ line → Stands found.rest (front.Line count) → (o : Outcome) → IsReadAs line lines (size + count + 1) o → IsOutcome bytes o
  whole_is line same (text, rest, split, is, kept, e) (outcome.Passed passed size_taken) read = absurd read
  whole_is line same (text, rest, split, is, kept, e) (outcome.Taken passed size_taken batch) (p, q, read) =
      let text_is : line ≡ text = sym same ∙ line_is text rest split e in
      let left : drop size_taken bytes ≡ rest = ap (λ n. drop n bytes) q ∙ left_is text rest split e in (
        text,
        subst (λ n. Behind bytes n (text ++ 10 ∷ drop size_taken bytes)) (sym p)
            (behind bytes lines size (front.Line count) found (text ++ 10 ∷ drop size_taken bytes) (split ∙ ap (λ more. text ++ 10 ∷ more) (sym left))),
        record { is = is; kept = kept; read = subst (λ x. IsLineRead x (Ok batch)) text_is read },
      )
  whole_is line same (text, rest, split, is, kept, e) (outcome.Refused passed why) (p, read) =
      let text_is : line ≡ text = sym same ∙ line_is text rest split e in (
        text ++ 10 ∷ rest,
        subst (λ n. Behind bytes n (text ++ 10 ∷ rest)) (sym p) (behind bytes lines size (front.Line count) found (text ++ 10 ∷ rest) split),
        stream.whole text rest why (record { no_feed = is.no_feed; kept = λ short. kept; read = subst (λ x. IsLineRead x (Err why)) text_is read }),
      )

  pub whole_outcome : (o : Outcome) → IsReadAs (slice_range bytes size (size + count)) lines (size + count + 1) o → IsOutcome bytes o
  whole_outcome o read = whole_is (slice_range bytes size (size + count)) refl found.stands o read

-- what is taken lies within the bytes
pub read_fits : (line : List ℕ) (lines bytes all : ℕ) (o : Outcome) → lines + 1 ≤ bytes → bytes ≤ all → IsReadAs line lines bytes o → FitsIn all o
read_fits line lines bytes all (outcome.Passed passed count) some within read = absurd read
read_fits line lines bytes all (outcome.Taken passed count batch) some within (p, q, read) = (omega arith, omega arith)
read_fits line lines bytes all (outcome.Refused passed why) some within (p, read) = omega arith

-- ---- where the stream has ended

module _ (bytes : List ℕ) (lines size : ℕ) (found : Found bytes lines size front.Part) where
  last_behind : Behind bytes lines (drop size bytes)
  last_behind = behind bytes lines size front.Part found (drop size bytes) (sym (rest_is bytes lines size front.Part found))

  last_line : IsLine (drop size bytes)
  last_line = subst IsLine (sym (rest_is bytes lines size front.Part found)) found.stands

  pub skipped_outcome : (line : List ℕ) → line ≡ drop size bytes → is_skipped line ≡ true → IsEndOutcome bytes (outcome.Passed lines (length bytes))
  skipped_outcome line same skipped = (drop size bytes, last_behind, record { is = last_line; skipped = sym (ap is_skipped same) ∙ skipped }, drop-length bytes)

  last_read : (o : Outcome) → is_skipped (drop size bytes) ≡ false → IsReadAs (drop size bytes) lines (length bytes) o → IsEndOutcome bytes o
  last_read (outcome.Passed passed count) kept read = absurd read
  last_read (outcome.Taken passed count batch) kept (p, q, read) =
      inr (
        drop size bytes,
        subst (λ n. Behind bytes n (drop size bytes)) (sym p) last_behind,
        record { is = last_line; kept = kept; read = read },
        ap (λ n. drop n bytes) q ∙ drop-length bytes,
      )
  last_read (outcome.Refused passed why) kept (p, read) =
      inr (drop size bytes, subst (λ n. Behind bytes n (drop size bytes)) (sym p) last_behind, record { no_feed = last_line.no_feed; kept = λ short. kept; read = read })

  pub last_outcome : (line : List ℕ) → line ≡ drop size bytes → is_skipped line ≡ false → (o : Outcome) → IsReadAs line lines (length bytes) o → IsEndOutcome bytes o
  last_outcome line same kept o read = last_read o (sym (ap is_skipped same) ∙ kept) (subst (λ x. IsReadAs x lines (length bytes) o) same read)

  -- a last line that is kept is not empty
  pub some_last : (line : List ℕ) → line ≡ drop size bytes → is_skipped line ≡ false → lines + 1 ≤ length bytes
  some_last line same kept = by_size (length bytes - size) refl where
    by_size : (left : ℕ) → length bytes - size ≡ left → lines + 1 ≤ length bytes
    by_size zero e =
        let none : drop size bytes ≡ [] = ap (λ n. drop n bytes) (let all : size ≡ length bytes = omega (arith, e, within bytes lines size front.Part found) in all) ∙ drop-length bytes in
        let clash = sym kept ∙ ap is_skipped (same ∙ none) in absurd cc
    by_size (suc left) e = omega (arith, e, few_lines bytes lines size front.Part found)

-- what is read is not only passed over
pub read_whole : (line : List ℕ) (lines bytes : ℕ) (o : Outcome) → IsReadAs line lines bytes o → IsWhole o
read_whole line lines bytes (outcome.Passed passed count) read = absurd read
read_whole line lines bytes (outcome.Taken passed count batch) read = tt
read_whole line lines bytes (outcome.Refused passed why) read = tt

one_end : (bytes : List ℕ) (o : Outcome) → IsOutcome bytes o → IsWhole o → IsEndOutcome bytes o
one_end bytes (outcome.Passed passed count) is whole = absurd whole
one_end bytes (outcome.Taken passed count batch) is whole = inl is
one_end bytes (outcome.Refused passed why) is whole = inl is

-- a whole line that stands there is taken where the stream has ended too
pub whole_end : (bytes : List ℕ) (found : Result Outcome AllocError) → IfOk found (IsOutcome bytes) → IfOk found IsWhole → IfOk found (IsEndOutcome bytes)
whole_end bytes (Ok o) is whole = one_end bytes o is whole
whole_end bytes (Err error) is whole = tt
