-- What more bytes change of what stands ahead.
use Rattle.std.specs.Prelude.{ℕ, zero, suc, ◌≡◌, ◌+◌, ◌-◌, ◌<◌, ◌≤◌, Bool, true, false, List, [], ◌∷◌, ◌++◌, length, drop, nat_lt, ◌==◌, if◌then◌else◌, cond, refl}
use Rattle.std.specs.List.{take_while}
use Rattle.std.proofs.Common.{◌∙◌, sym, ap, subst, arith, append_assoc, length-append}
use Rattle.std.proofs.lemmas.Bool.{eqb-false, ltb-true, lt-ltb, ne_eqb}
use Rattle.std.proofs.lemmas.List.Sums.{take_while-cons}
use Rattle.lps_lex.proofs.Runs.{behind as left_of, run_all, run_is, run_split, run_stops, run_within, run-cons}
use Rattle.lps_lex.specs.Forms.{Stops}
use Rattle.lps_batches.specs.declared.ahead.Ahead.{Ahead}
use Rattle.lps_batches.specs.declared.ahead.Step.{Step}
use Rattle.lps_batches.specs.declared.ahead.Step.TheVariants as step
use Rattle.lps_batches.specs.declared.front.Front.TheVariants as front
use Rattle.lps_batches.specs.LookAhead.{ahead, ahead_from, behind, is_no_feed, is_skipped, PassesIn, step_by, step_of, with_step}
use Rattle.lps_batches.proofs.FirstLine.{line_passes}
use Rattle.lps_batches.specs.LinesAhead.{IsSettled, KeepsLines}

-- ---- the line at the front

stops_more : (test : ℕ → Bool) (rest more : List ℕ) → 0 < length rest → Stops test rest → Stops test (rest ++ more)
stops_more test [] more some stops = absurd (omega arith)
stops_more test (next ∷ rest) more some stops = stops

-- a line that ends within the bytes is the line of more
line_more : (bytes more : List ℕ) → length (take_while is_no_feed bytes) < length bytes → take_while is_no_feed (bytes ++ more) ≡ take_while is_no_feed bytes
line_more bytes more ends =
    let line = take_while is_no_feed bytes in
    let rest = left_of is_no_feed bytes in
    let some : 0 < length rest = omega (arith, ap length (run_split is_no_feed bytes), length-append line rest) in
    ap (λ x. take_while is_no_feed (x ++ more)) (run_split is_no_feed bytes) ∙ ap (take_while is_no_feed) (append_assoc line rest more)
    ∙ run_is is_no_feed line (rest ++ more) (run_all is_no_feed bytes) (stops_more is_no_feed rest more some (run_stops is_no_feed bytes))

run-nil : (test : ℕ → Bool) (byte : ℕ) (bytes : List ℕ) → test byte ≡ false → take_while test (byte ∷ bytes) ≡ []
run-nil test byte bytes fails = take_while-cons test byte bytes ∙ ap (λ passes. cond passes (byte ∷ take_while test bytes) []) fails

-- a line only grows
pub line_grows : (test : ℕ → Bool) (bytes more : List ℕ) → length (take_while test bytes) ≤ length (take_while test (bytes ++ more))
line_grows test [] more = omega arith
line_grows test (byte ∷ bytes) more = grows_if (test byte) refl (line_grows test bytes more) where
  grows_if : (passes : Bool) → test byte ≡ passes → length (take_while test bytes) ≤ length (take_while test (bytes ++ more)) →
      length (take_while test (byte ∷ bytes)) ≤ length (take_while test (byte ∷ (bytes ++ more)))
  grows_if true e less = subst (λ x. length x ≤ length (take_while test (byte ∷ (bytes ++ more)))) (sym (run-cons test byte bytes e))
      (subst (λ x. length (byte ∷ take_while test bytes) ≤ length x) (sym (run-cons test byte (bytes ++ more) e)) (omega arith))
  grows_if false e less = subst (λ x. length x ≤ length (take_while test (byte ∷ (bytes ++ more)))) (sym (run-nil test byte bytes e)) (omega arith)

-- ---- the step at the front

-- not the beginning of a line
abbrev IsDone : Step → Type 0
IsDone (step.Pass length) = Unit {0}
IsDone (step.Stop found) = IsSettled found

pub step_long : (bytes : List ℕ) → 65536 < length (take_while is_no_feed bytes) → step_of bytes ≡ step.Stop front.TooLong
step_long bytes long =
    let line = take_while is_no_feed bytes in
    ap (λ x. if x then step.Stop front.TooLong else (if length line == length bytes then step.Stop front.Part else (if is_skipped line then step.Pass (length line + 1) else step.Stop (front.Line (length line)))))
    (lt-ltb _ _ long)

-- the step of a line that ends, whatever follows
pub step_ends : (line : List ℕ) (count : ℕ) → length line < count → step_by line count ≡
    (if nat_lt 65536 (length line) then step.Stop front.TooLong else (if is_skipped line then step.Pass (length line + 1) else step.Stop (front.Line (length line))))
step_ends line count ends =
    ap (λ x. if nat_lt 65536 (length line) then step.Stop front.TooLong else (if x then step.Stop front.Part else (if is_skipped line then step.Pass (length line + 1) else step.Stop (front.Line (length line)))))
    (ne_eqb _ _ (λ e. omega arith))

step_more : (bytes more : List ℕ) → IsDone (step_of bytes) → step_of (bytes ++ more) ≡ step_of bytes
step_more bytes more done = more_if (nat_lt 65536 (length line)) (length line == length bytes) refl refl done where
  line : List ℕ
  line = take_while is_no_feed bytes

  more_if : (long part : Bool) → nat_lt 65536 (length line) ≡ long → (length line == length bytes) ≡ part → IsDone (step_of bytes) → step_of (bytes ++ more) ≡ step_of bytes
  more_if true part e f done =
      step_long (bytes ++ more) (omega (arith, ltb-true _ _ e, line_grows is_no_feed bytes more)) ∙ sym (step_long bytes (ltb-true _ _ e))
  more_if false true e f done = absurd (subst IsDone (part_of e f) done)
    where
      part_of : nat_lt 65536 (length line) ≡ false → (length line == length bytes) ≡ true → step_of bytes ≡ step.Stop front.Part
      part_of e f =
          ap (λ x. if x then step.Stop front.TooLong else (if length line == length bytes then step.Stop front.Part else (if is_skipped line then step.Pass (length line + 1) else step.Stop (front.Line (length line))))) e
          ∙ ap (λ x. if x then step.Stop front.Part else (if is_skipped line then step.Pass (length line + 1) else step.Stop (front.Line (length line)))) f
  more_if false false e f done =
      let ends : length line < length bytes = omega (arith, eqb-false _ _ f, run_within is_no_feed bytes) in
      ap (λ x. step_by x (length (bytes ++ more))) (line_more bytes more ends)
      ∙ step_ends line (length (bytes ++ more)) (omega (arith, length-append bytes more)) ∙ sym (step_ends line (length bytes) ends)

-- ---- what stands ahead

-- the place and the lines before come in front
pub ahead_from-behind : (bytes : List ℕ) (skip at lines : ℕ) → ahead_from bytes skip at lines ≡ behind lines at (ahead_from bytes skip 0 0)
ahead_from-behind bytes skip at lines = shift bytes skip 0 0 at lines at lines (omega arith) (omega arith) where
  shift : (bytes : List ℕ) (skip from before more_from more_before at lines : ℕ) → at ≡ more_from + from → lines ≡ more_before + before →
      ahead_from bytes skip at lines ≡ behind more_before more_from (ahead_from bytes skip from before)
  shift [] skip from before more_from more_before at lines e f = ap (λ x. record { lines = x; bytes = at; front = front.Part }) f ∙ ap (λ x. record { lines = more_before + before; bytes = x; front = front.Part }) e
  shift (byte ∷ bytes) (suc skip) from before more_from more_before at lines e f = shift bytes skip (suc from) before more_from more_before (suc at) lines (omega arith) f
  shift (byte ∷ bytes) zero from before more_from more_before at lines e f =
      shift_step (step_of (byte ∷ bytes)) (λ skip. shift bytes skip (suc from) (suc before) more_from more_before (suc at) (suc lines) (omega arith) (omega arith))
    where
      shift_step : (found : Step) →
          ((skip : ℕ) → ahead_from bytes skip (suc at) (suc lines) ≡ behind more_before more_from (ahead_from bytes skip (suc from) (suc before))) →
          with_step found at lines (λ skip next. ahead_from bytes (skip - 1) (suc at) next)
          ≡ behind more_before more_from (with_step found from before (λ skip next. ahead_from bytes (skip - 1) (suc from) next))
      shift_step (step.Pass length) later = later (length - 1)
      shift_step (step.Stop found) later = ap (λ x. record { lines = x; bytes = at; front = found }) f ∙ ap (λ x. record { lines = more_before + before; bytes = x; front = found }) e

-- what is settled stays
settled_more : (bytes more : List ℕ) (skip at lines : ℕ) → IsSettled (ahead_from bytes skip at lines).front → ahead_from (bytes ++ more) skip at lines ≡ ahead_from bytes skip at lines
settled_more [] more skip at lines settled = absurd settled
settled_more (byte ∷ bytes) more (suc skip) at lines settled = settled_more bytes more skip (suc at) lines settled
settled_more (byte ∷ bytes) more zero at lines settled =
    by_step (step_of (byte ∷ bytes)) refl settled (λ skip next known. settled_more bytes more skip (suc at) next known)
  where
    by_step : (found : Step) → step_of (byte ∷ bytes) ≡ found → IsSettled (with_step found at lines (λ skip next. ahead_from bytes (skip - 1) (suc at) next)).front →
        ((skip next : ℕ) → IsSettled (ahead_from bytes skip (suc at) next).front → ahead_from (bytes ++ more) skip (suc at) next ≡ ahead_from bytes skip (suc at) next) →
        ahead_from (byte ∷ (bytes ++ more)) zero at lines ≡ ahead_from (byte ∷ bytes) zero at lines
    by_step (step.Pass length) e settled later =
        let same : step_of ((byte ∷ bytes) ++ more) ≡ step_of (byte ∷ bytes) = step_more (byte ∷ bytes) more (subst IsDone (sym e) tt) in
        ap (λ x. with_step x at lines (λ skip next. ahead_from (bytes ++ more) (skip - 1) (suc at) next)) (same ∙ e)
        ∙ later (length - 1) (suc lines) settled ∙ sym (ap (λ x. with_step x at lines (λ skip next. ahead_from bytes (skip - 1) (suc at) next)) e)
    by_step (step.Stop found) e settled later =
        let same : step_of ((byte ∷ bytes) ++ more) ≡ step_of (byte ∷ bytes) = step_more (byte ∷ bytes) more (subst IsDone (sym e) settled) in
        ap (λ x. with_step x at lines (λ skip next. ahead_from (bytes ++ more) (skip - 1) (suc at) next)) (same ∙ e)
        ∙ sym (ap (λ x. with_step x at lines (λ skip next. ahead_from bytes (skip - 1) (suc at) next)) e)

-- nothing stands ahead of the place itself
ahead_from-at : (bytes : List ℕ) (skip at lines : ℕ) (found : Ahead) → ahead_from bytes skip at lines ≡ found → at ≤ found.bytes
ahead_from-at bytes skip at lines found e = omega (arith, ap (λ (x : Ahead). x.bytes) (sym (ahead_from-behind bytes skip at lines) ∙ e))

-- from the place of the beginning of a line, more bytes are read
open_here : (bytes more : List ℕ) (at lines : ℕ) (found : Ahead) → record { lines = lines; bytes = at; front = front.Part } ≡ found →
    ahead_from (bytes ++ more) 0 at lines ≡ ahead_from (drop (found.bytes - at) bytes ++ more) 0 found.bytes found.lines
open_here bytes more at lines found e =
    subst (λ (x : Ahead). ahead_from (bytes ++ more) 0 at lines ≡ ahead_from (drop (x.bytes - at) bytes ++ more) 0 x.bytes x.lines) e
    (let none : 0 ≡ at - at = omega arith in ap (λ count. ahead_from (drop count bytes ++ more) 0 at lines) none)

-- one byte further on
drop_further : (byte : ℕ) (bytes more : List ℕ) (at : ℕ) (found : Ahead) → suc at ≤ found.bytes →
    ahead_from (drop (found.bytes - suc at) bytes ++ more) 0 found.bytes found.lines ≡ ahead_from (drop (found.bytes - at) (byte ∷ bytes) ++ more) 0 found.bytes found.lines
drop_further byte bytes more at found further =
    ap (λ count. ahead_from (drop count (byte ∷ bytes) ++ more) 0 found.bytes found.lines) (let one : suc (found.bytes - suc at) ≡ found.bytes - at = omega arith in one)

line_open : (count : ℕ) → front.Line count ≡ front.Part → ⊥
line_open count apart = absurd cc

long_open : front.TooLong ≡ front.Part → ⊥
long_open apart = absurd cc

-- where the bytes end in the beginning of a line, more bytes are read behind the lines that were passed over
open_more : (bytes more : List ℕ) (skip at lines : ℕ) (found : Ahead) → skip ≤ length bytes → ahead_from bytes skip at lines ≡ found → found.front ≡ front.Part →
    ahead_from (bytes ++ more) skip at lines ≡ ahead_from (drop (found.bytes - at) bytes ++ more) 0 found.bytes found.lines
open_more [] more zero at lines found within e is_open = open_here [] more at lines found e
open_more [] more (suc skip) at lines found within e is_open = absurd (omega arith)
open_more (byte ∷ bytes) more (suc skip) at lines found within e is_open =
    open_more bytes more skip (suc at) lines found (omega arith) e is_open ∙ drop_further byte bytes more at found (ahead_from-at bytes skip (suc at) lines found e)
open_more (byte ∷ bytes) more zero at lines found within e is_open =
    by_step (step_of (byte ∷ bytes)) refl (line_passes (length (byte ∷ bytes)) (take_while is_no_feed (byte ∷ bytes)) (run_within is_no_feed (byte ∷ bytes))) e
    (λ skip next within known. open_more bytes more skip (suc at) next found within known is_open)
  where
    by_step : (here : Step) → step_of (byte ∷ bytes) ≡ here → PassesIn (length (byte ∷ bytes)) here → with_step here at lines (λ skip next. ahead_from bytes (skip - 1) (suc at) next) ≡ found →
        ((skip next : ℕ) → skip ≤ length bytes → ahead_from bytes skip (suc at) next ≡ found →
        ahead_from (bytes ++ more) skip (suc at) next ≡ ahead_from (drop (found.bytes - suc at) bytes ++ more) 0 found.bytes found.lines) →
        ahead_from (byte ∷ (bytes ++ more)) zero at lines ≡ ahead_from (drop (found.bytes - at) (byte ∷ bytes) ++ more) 0 found.bytes found.lines
    by_step (step.Pass length) is fits known later =
        let same : step_of ((byte ∷ bytes) ++ more) ≡ step_of (byte ∷ bytes) = step_more (byte ∷ bytes) more (subst IsDone (sym is) tt) in
        ap (λ x. with_step x at lines (λ skip next. ahead_from (bytes ++ more) (skip - 1) (suc at) next)) (same ∙ is)
        ∙ later (length - 1) (suc lines) (omega (arith, fits.0, fits.1)) known ∙ drop_further byte bytes more at found (ahead_from-at bytes (length - 1) (suc at) (suc lines) found known)
    by_step (step.Stop front.Part) is fits known later = open_here (byte ∷ bytes) more at lines found known
    by_step (step.Stop (front.Line count)) is fits known later = absurd (let apart : front.Line count ≡ front.Part = ap (λ (x : Ahead). x.front) known ∙ is_open in line_open count apart)
    by_step (step.Stop front.TooLong) is fits known later = absurd (let apart : front.TooLong ≡ front.Part = ap (λ (x : Ahead). x.front) known ∙ is_open in long_open apart)

pub keeps_lines : (bytes more : List ℕ) → KeepsLines bytes more
keeps_lines bytes more = record {
  settled = settled_more bytes more 0 0 0;
  open_end = λ is_open. open_more bytes more 0 0 0 (ahead bytes) (omega arith) refl is_open
      ∙ ap (λ count. ahead_from (drop count bytes ++ more) 0 (ahead bytes).bytes (ahead bytes).lines) (let all : (ahead bytes).bytes - 0 ≡ (ahead bytes).bytes = omega arith in all)
      ∙ ahead_from-behind (drop (ahead bytes).bytes bytes ++ more) 0 (ahead bytes).bytes (ahead bytes).lines;
}
