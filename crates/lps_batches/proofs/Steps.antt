-- What an answer of the reader says of the stream from what it had left on.
use Rattle.std.specs.Prelude.{ℕ, suc, ◌≡◌, ◌+◌, ◌<◌, Bool, true, ◌&&◌, List, [], ◌∷◌, ◌++◌, length, Option, Some, None}
use Rattle.std.specs.List.{list_all, take_while}
use Rattle.std.proofs.Common.{◌∙◌, ap, sym, subst, arith, append_assoc, append-nil, length-append}
use Rattle.std.proofs.lemmas.Bool.{eqb-true, not-false}
use Rattle.lps_terms.specs.declared.batch_kind.BatchKind.{BatchKind}
use Rattle.lps_terms.specs.declared.batch_kind.BatchKind.TheVariants as kind
use Rattle.lps_model.specs.declared.batch.Batch.{Batch}
use Rattle.lps_lex.specs.Forms.{Stops}
use Rattle.lps_lex.proofs.Bytes.{both}
use Rattle.lps_lex.proofs.Runs.{behind, run_all, run_split, run_stops}
use Rattle.lps_batches.specs.LookAhead.{is_no_feed}
use Rattle.lps_batches.specs.declared.batch_bad.BatchBad.{BatchBad}
use Rattle.lps_batches.specs.Lines.{IsBadLine}
use Rattle.lps_batches.specs.Readings.{AreRead}
use Rattle.lps_batches.specs.Readings as reads
use Rattle.lps_batches.specs.Stream.{Ahead, BeginsBad, MeetsBad, MeetsBadLast, NothingLeft, NothingWhole, Reader, Skipped, TakesBatch, TakesLast}
use Rattle.lps_batches.specs.Stream as stream

-- ---- lines that are passed over

pub read_behind : {front : List ℕ} {count : ℕ} (before : ℕ) (rest : List ℕ) (batches : List Batch) (bad : Option BatchBad) → Skipped front count → AreRead (before + count) rest batches bad →
    AreRead before (front ++ rest) batches bad
read_behind before rest batches bad stream.none read = subst (λ n. AreRead n rest batches bad) (let e : before + 0 ≡ before = omega arith in e) read
read_behind before rest batches bad (stream.line {rest = front} {count = count} line is more) read =
    reads.passed line (front ++ rest) (append_assoc line (10 ∷ front) rest) is
    (read_behind (suc before) rest batches bad more (subst (λ n. AreRead n rest batches bad) (let e : before + suc count ≡ suc before + count = omega arith in e) read))

-- what stands ahead is read, and what follows in the stream behind it
pub read_ahead : (old : Reader) (count : ℕ) (bytes more : List ℕ) (batches : List Batch) (bad : Option BatchBad) → Ahead old count bytes → AreRead (old.lines + count) (bytes ++ more) batches bad →
    AreRead old.lines (old.left ++ more) batches bad
read_ahead old count bytes more batches bad ahead read =
    subst (λ left. AreRead old.lines left batches bad) (sym (ap (λ left. left ++ more) ahead.split ∙ append_assoc ahead.front bytes more))
    (read_behind old.lines (bytes ++ more) batches bad ahead.skipped read)

-- ---- a line that is too long

grow_all : (test : ℕ → Bool) (front rest : List ℕ) → list_all test front ≡ true → list_all test rest ≡ true → list_all test (front ++ rest) ≡ true
grow_all test [] rest all more = more
grow_all test (byte ∷ front) rest all more =
    let parts = both (test byte) (list_all test front) all in ap (λ x. x && list_all test (front ++ rest)) parts.0 ∙ grow_all test front rest parts.1 more

-- however it goes on, its line is too long
long_bad : (before : ℕ) (line rest : List ℕ) → list_all is_no_feed line ≡ true → 65536 < length line → AreRead before (line ++ rest) [] (Some (record { line = suc before; kind = kind.LineTooLong }))
long_bad before line rest all long = by_rest (behind is_no_feed rest) (run_split is_no_feed rest) (run_stops is_no_feed rest) where
  is_bad : IsBadLine (line ++ take_while is_no_feed rest) kind.LineTooLong
  is_bad = record {
    no_feed = grow_all is_no_feed line (take_while is_no_feed rest) all (run_all is_no_feed rest);
    kept = λ short. absurd (omega (arith, length-append line (take_while is_no_feed rest)));
    read = omega (arith, length-append line (take_while is_no_feed rest));
  }

  by_rest : (left : List ℕ) → rest ≡ take_while is_no_feed rest ++ left → Stops is_no_feed left → AreRead before (line ++ rest) [] (Some (record { line = suc before; kind = kind.LineTooLong }))
  by_rest [] split stops =
      subst (λ bytes. AreRead before bytes [] (Some (record { line = suc before; kind = kind.LineTooLong }))) (ap (λ more. line ++ more) (sym (split ∙ append-nil (take_while is_no_feed rest))))
      (reads.last_bad kind.LineTooLong is_bad)
  by_rest (next ∷ left) split stops =
      let feed : next ≡ 10 = eqb-true next 10 (not-false _ stops) in
      reads.bad (line ++ take_while is_no_feed rest) left kind.LineTooLong
      (ap (λ more. line ++ more) split ∙ sym (append_assoc line (take_while is_no_feed rest) (next ∷ left)) ∙ ap (λ byte. (line ++ take_while is_no_feed rest) ++ byte ∷ left) feed) is_bad

begins_bad : (before : ℕ) (bytes more : List ℕ) (why : BatchKind) → BeginsBad bytes why → AreRead before (bytes ++ more) [] (Some (record { line = suc before; kind = why }))
begins_bad before bytes more why (stream.whole line rest is_kind is) = reads.bad line (rest ++ more) is_kind (append_assoc line (10 ∷ rest) more) is
begins_bad before bytes more why (stream.long line rest all long) =
    subst (λ left. AreRead before left [] (Some (record { line = suc before; kind = kind.LineTooLong }))) (sym (append_assoc line rest more)) (long_bad before line (rest ++ more) all long)

-- the bad line has its number
abbrev bad_at : BatchKind → ℕ → BatchBad
bad_at why line = record { line = line; kind = why }

numbered : (bad : BatchBad) (lines passed : ℕ) → bad.line ≡ lines + passed + 1 → bad_at bad.kind (suc (lines + passed)) ≡ bad
numbered bad lines passed place = ap (bad_at bad.kind) (let e : suc (lines + passed) ≡ bad.line = omega (arith, place) in e)

-- ---- the answers

pub read_nothing : (old new : Reader) (more : List ℕ) (batches : List Batch) (bad : Option BatchBad) → NothingWhole old new → AreRead new.lines (new.left ++ more) batches bad →
    AreRead old.lines (old.left ++ more) batches bad
read_nothing old new more batches bad is read =
    read_ahead old is.passed new.left more batches bad is.ahead (subst (λ n. AreRead n (new.left ++ more) batches bad) is.lines read)

pub read_batch : (old new : Reader) (more : List ℕ) (batch : Batch) (batches : List Batch) (bad : Option BatchBad) → TakesBatch old batch new → AreRead new.lines (new.left ++ more) batches bad →
    AreRead old.lines (old.left ++ more) (batch ∷ batches) bad
read_batch old new more batch batches bad is read =
    read_ahead old is.passed (is.line ++ 10 ∷ new.left) more (batch ∷ batches) bad is.ahead
    (reads.batch is.line (new.left ++ more) batch (append_assoc is.line (10 ∷ new.left) more) is.is
    (subst (λ n. AreRead n (new.left ++ more) batches bad) (let e : new.lines ≡ suc (old.lines + is.passed) = omega (arith, is.lines) in e) read))

pub read_bad : (old new : Reader) (more : List ℕ) (bad : BatchBad) → MeetsBad old bad new → AreRead old.lines (old.left ++ more) [] (Some bad)
read_bad old new more bad is =
    read_ahead old is.passed is.bytes more [] (Some bad) is.ahead
    (subst (λ b. AreRead (old.lines + is.passed) (is.bytes ++ more) [] (Some b)) (numbered bad old.lines is.passed is.place) (begins_bad (old.lines + is.passed) is.bytes more bad.kind is.begins))

-- where nothing follows
read_end : (old : Reader) (count : ℕ) (line : List ℕ) (batches : List Batch) (bad : Option BatchBad) → Ahead old count line → AreRead (old.lines + count) line batches bad → AreRead old.lines old.left batches bad
read_end old count line batches bad ahead read =
    subst (λ left. AreRead old.lines left batches bad) (append-nil old.left)
    (read_ahead old count line [] batches bad ahead (subst (λ left. AreRead (old.lines + count) left batches bad) (sym (append-nil line)) read))

pub read_none_left : (old new : Reader) → NothingLeft old new → AreRead old.lines old.left [] None
read_none_left old new is = read_end old is.passed is.line [] None is.ahead (reads.last_passed is.is)

pub read_last : (old new : Reader) (batch : Batch) → TakesLast old batch new → AreRead old.lines old.left (batch ∷ []) None
read_last old new batch is = read_end old is.passed is.line (batch ∷ []) None is.ahead (reads.last_batch batch is.is)

pub read_bad_last : (old new : Reader) (bad : BatchBad) → MeetsBadLast old bad new → AreRead old.lines old.left [] (Some bad)
read_bad_last old new bad is =
    read_end old is.passed is.line [] (Some bad) is.ahead
    (subst (λ b. AreRead (old.lines + is.passed) is.line [] (Some b)) (numbered bad old.lines is.passed is.place) (reads.last_bad bad.kind is.is))
