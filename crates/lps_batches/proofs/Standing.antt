-- What the definition finds ahead is what the rules say, and nothing else.
use Rattle.std.specs.Prelude.{ℕ, zero, suc, ◌≡◌, ◌+◌, ◌<◌, ◌≤◌, ◌↔◌, Bool, true, false, List, [], ◌∷◌, ◌++◌, length, drop, nat_lt, ◌==◌, if◌then◌else◌, refl}
use Rattle.std.specs.List.{list_all, take_while}
use Rattle.std.proofs.Common.{◌∙◌, sym, ap, subst, arith, append_assoc, append-nil, length-append}
use Rattle.std.proofs.lemmas.Bool.{eqb-false, eqb-true, eq-eqb, ltb-true, ltb-false, le-ltb, not-false}
use Rattle.std.proofs.lemmas.List.{drop_at}
use Rattle.lps_lex.specs.Forms.{Stops}
use Rattle.lps_lex.proofs.Runs.{behind as left_of, run_all, run_is, run_split, run_stops, run_within}
use Rattle.lps_batches.specs.declared.ahead.Ahead.{Ahead}
use Rattle.lps_batches.specs.declared.ahead.Step.{Step}
use Rattle.lps_batches.specs.declared.ahead.Step.TheVariants as step
use Rattle.lps_batches.specs.declared.front.Front.TheVariants as front
use Rattle.lps_batches.specs.LookAhead.{ahead, ahead_from, behind, is_no_feed, is_skipped, step_by, step_of, taken_by}
use Rattle.lps_batches.specs.LinesAhead.{IsLine, StandsAhead}
use Rattle.lps_batches.specs.LinesAhead as stands
use Rattle.lps_batches.proofs.FirstLine.{ahead_from-pass, ahead_from-stop}
use Rattle.lps_batches.proofs.MoreBytes.{ahead_from-behind, line_grows, step_ends, step_long}

-- the step is what stands at the front
abbrev IsStep : List ℕ → Step → Type 0
IsStep bytes (step.Pass count) = (line rest : List ℕ) × (bytes ≡ line ++ 10 ∷ rest) × IsLine line × (is_skipped line ≡ true) × (count ≡ length line + 1)
IsStep bytes (step.Stop (front.Line count)) = (line rest : List ℕ) × (bytes ≡ line ++ 10 ∷ rest) × IsLine line × (is_skipped line ≡ false) × (count ≡ length line)
IsStep bytes (step.Stop front.TooLong) = (line rest : List ℕ) × (bytes ≡ line ++ rest) × (list_all is_no_feed line ≡ true) × (65536 < length line)
IsStep bytes (step.Stop front.Part) = IsLine bytes

-- ---- the step of the code stands at the front

step_if : (bytes : List ℕ) (test : Bool) (first otherwise : Step) → (test ≡ true → IsStep bytes first) → (test ≡ false → IsStep bytes otherwise) → IsStep bytes (if test then first else otherwise)
step_if bytes true first otherwise f g = f refl
step_if bytes false first otherwise f g = g refl

-- what stops a line is a line feed
feed_stops : (rest : List ℕ) → 0 < length rest → Stops is_no_feed rest → (behind_feed : List ℕ) × (rest ≡ 10 ∷ behind_feed)
feed_stops [] some stops = absurd (omega arith)
feed_stops (next ∷ rest) some stops = (rest, ap (λ x. x ∷ rest) (eqb-true next 10 (not-false _ stops)))

-- bytes with nothing behind them are all
nothing_behind : (bytes line rest : List ℕ) → bytes ≡ line ++ rest → length line ≡ length bytes → bytes ≡ line
nothing_behind bytes line [] split same = split ∙ append-nil line
nothing_behind bytes line (next ∷ rest) split same = absurd (omega (arith, ap length split, length-append line (next ∷ rest)))

step_is : (bytes : List ℕ) → IsStep bytes (step_of bytes)
step_is bytes =
    let line = take_while is_no_feed bytes in
    let rest = left_of is_no_feed bytes in
    step_if bytes (nat_lt 65536 (length line)) _ _ (λ long. (line, rest, run_split is_no_feed bytes, run_all is_no_feed bytes, ltb-true _ _ long)) (λ short.
    let is : IsLine line = record { no_feed = run_all is_no_feed bytes; short = ltb-false _ _ short } in
    step_if bytes (length line == length bytes) _ _ (λ part. subst IsLine (sym (nothing_behind bytes line rest (run_split is_no_feed bytes) (eqb-true _ _ part))) is) (λ whole.
    let some : 0 < length rest = omega (arith, eqb-false _ _ whole, run_within is_no_feed bytes, ap length (run_split is_no_feed bytes), length-append line rest) in
    let feed = feed_stops rest some (run_stops is_no_feed bytes) in
    let split : bytes ≡ line ++ 10 ∷ feed.0 = run_split is_no_feed bytes ∙ ap (λ x. line ++ x) feed.1 in
    step_if bytes (is_skipped line) _ _ (λ skipped. (line, feed.0, split, is, skipped, refl)) (λ kept. (line, feed.0, split, is, kept, refl))))

-- ---- no other step stands there

line_is : (line rest : List ℕ) → IsLine line → take_while is_no_feed (line ++ 10 ∷ rest) ≡ line
line_is line rest is = run_is is_no_feed line (10 ∷ rest) is.no_feed refl

all_is : (line : List ℕ) → list_all is_no_feed line ≡ true → take_while is_no_feed line ≡ line
all_is line all = ap (take_while is_no_feed) (sym (append-nil line)) ∙ run_is is_no_feed line [] all tt

step_line : (line rest : List ℕ) (skipped : Bool) → IsLine line → is_skipped line ≡ skipped →
    step_of (line ++ 10 ∷ rest) ≡ (if skipped then step.Pass (length line + 1) else step.Stop (front.Line (length line)))
step_line line rest skipped is e =
    let count = length (line ++ 10 ∷ rest) in
    let ends : length line < count = omega (arith, length-append line (10 ∷ rest)) in
    ap (λ x. step_by x count) (line_is line rest is) ∙ step_ends line count ends
    ∙ ap (λ x. if x then step.Stop front.TooLong else (if is_skipped line then step.Pass (length line + 1) else step.Stop (front.Line (length line)))) (le-ltb _ _ is.short)
    ∙ ap (λ x. if x then step.Pass (length line + 1) else step.Stop (front.Line (length line))) e

step_too_long : (line rest : List ℕ) → list_all is_no_feed line ≡ true → 65536 < length line → step_of (line ++ rest) ≡ step.Stop front.TooLong
step_too_long line rest all long = step_long (line ++ rest) (omega (arith, line_grows is_no_feed line rest, ap length (all_is line all)))

step_part : (line : List ℕ) → IsLine line → step_of line ≡ step.Stop front.Part
step_part line is =
    ap (λ x. step_by x (length line)) (all_is line is.no_feed)
    ∙ ap (λ x. if x then step.Stop front.TooLong else (if length line == length line then step.Stop front.Part else (if is_skipped line then step.Pass (length line + 1) else step.Stop (front.Line (length line))))) (le-ltb _ _ is.short)
    ∙ ap (λ x. if x then step.Stop front.Part else (if is_skipped line then step.Pass (length line + 1) else step.Stop (front.Line (length line)))) (eq-eqb (length line) (length line) refl)

-- ---- what stands ahead

-- behind a line and its line feed stands the rest
line_rest : (line rest : List ℕ) → drop (length line + 1) (line ++ 10 ∷ rest) ≡ rest
line_rest line rest =
    ap (λ x. drop (length line + 1) x) (sym (append_assoc line (10 ∷ []) rest)) ∙ drop_at (line ++ 10 ∷ []) rest (length line + 1) (length-append line (10 ∷ []))

ahead-pass : (line rest : List ℕ) → IsLine line → is_skipped line ≡ true → ahead (line ++ 10 ∷ rest) ≡ behind 1 (length line + 1) (ahead rest)
ahead-pass line rest is skipped =
    let count = length line + 1 in
    ahead_from-pass (line ++ 10 ∷ rest) count 0 0 (omega arith) (omega (arith, length-append line (10 ∷ rest))) (step_line line rest true is skipped)
    ∙ ap (λ x. ahead_from x 0 (0 + count) 1) (line_rest line rest) ∙ ap (λ x. ahead_from rest 0 x 1) (let none : 0 + count ≡ count = omega arith in none)
    ∙ ahead_from-behind rest 0 count 1

stands_ahead : {bytes : List ℕ} {found : Ahead} → StandsAhead bytes found → ahead bytes ≡ found
stands_ahead (stands.passed {rest = rest} line is skipped more) = ahead-pass line rest is skipped ∙ ap (behind 1 (length line + 1)) (stands_ahead more)
stands_ahead (stands.whole line rest is kept) =
    ahead_from-stop (line ++ 10 ∷ rest) (front.Line (length line)) 0 0 (omega (arith, length-append line (10 ∷ rest))) (step_line line rest false is kept)
stands_ahead (stands.too_long line rest all long) = ahead_from-stop (line ++ rest) front.TooLong 0 0 (omega (arith, length-append line rest)) (step_too_long line rest all long)
stands_ahead (stands.part line is) = part_ahead line is where
  part_ahead : (line : List ℕ) → IsLine line → ahead line ≡ record { lines = 0; bytes = 0; front = front.Part }
  part_ahead [] is = refl
  part_ahead (byte ∷ line) is = ahead_from-stop (byte ∷ line) front.Part 0 0 (omega arith) (step_part (byte ∷ line) is)

by_step : (found : Step) (bytes : List ℕ) → 0 < length bytes → step_of bytes ≡ found → IsStep bytes found →
    ((count : ℕ) → 0 < count → count ≤ length bytes → StandsAhead (drop count bytes) (ahead (drop count bytes))) → StandsAhead bytes (ahead bytes)
by_step (step.Pass count) bytes some e (line, rest, split, is, skipped, size) later =
    subst (λ x. StandsAhead x (ahead x)) (sym split)
    (subst (StandsAhead (line ++ 10 ∷ rest)) (sym (ahead-pass line rest is skipped)) (stands.passed line is skipped
    (subst (λ x. StandsAhead x (ahead x)) (line_rest line rest) (subst (λ x. StandsAhead (drop (length line + 1) x) (ahead (drop (length line + 1) x))) split
    (later (length line + 1) (omega arith) (omega (arith, ap length split, length-append line (10 ∷ rest))))))))
by_step (step.Stop (front.Line count)) bytes some e (line, rest, split, is, kept, size) later =
    subst (λ x. StandsAhead x (ahead x)) (sym split)
    (subst (StandsAhead (line ++ 10 ∷ rest)) (sym (stands_ahead (stands.whole line rest is kept))) (stands.whole line rest is kept))
by_step (step.Stop front.TooLong) bytes some e (line, rest, split, all, long) later =
    subst (λ x. StandsAhead x (ahead x)) (sym split)
    (subst (StandsAhead (line ++ rest)) (sym (stands_ahead (stands.too_long line rest all long))) (stands.too_long line rest all long))
by_step (step.Stop front.Part) bytes some e is later = subst (StandsAhead bytes) (sym (stands_ahead (stands.part bytes is))) (stands.part bytes is)

ahead_stands_behind : (bytes : List ℕ) (skip : ℕ) → skip ≤ length bytes → StandsAhead (drop skip bytes) (ahead (drop skip bytes))
ahead_stands_behind [] zero within = stands.part [] (record { no_feed = refl; short = omega arith })
ahead_stands_behind [] (suc skip) within = absurd (omega arith)
ahead_stands_behind (byte ∷ bytes) (suc skip) within = ahead_stands_behind bytes skip (omega arith)
ahead_stands_behind (byte ∷ bytes) zero within =
    by_step (step_of (byte ∷ bytes)) (byte ∷ bytes) (omega arith) refl (step_is (byte ∷ bytes)) (further byte bytes (λ skip inside. ahead_stands_behind bytes skip inside))
  where
    further : (byte : ℕ) (bytes : List ℕ) → ((skip : ℕ) → skip ≤ length bytes → StandsAhead (drop skip bytes) (ahead (drop skip bytes))) →
        (count : ℕ) → 0 < count → count ≤ suc (length bytes) → StandsAhead (drop count (byte ∷ bytes)) (ahead (drop count (byte ∷ bytes)))
    further byte bytes here zero some inside = absurd (omega arith)
    further byte bytes here (suc count) some inside = here count (omega arith)

pub ahead_stands : (bytes : List ℕ) (found : Ahead) → StandsAhead bytes found ↔ (ahead bytes ≡ found)
ahead_stands bytes found = (stands_ahead, λ e. subst (StandsAhead bytes) e (ahead_stands_behind bytes 0 (omega arith)))

stands_within : {bytes : List ℕ} {found : Ahead} → StandsAhead bytes found → found.bytes + taken_by found.front ≤ length bytes
stands_within (stands.passed {rest = rest} line is skipped more) = omega (arith, length-append line (10 ∷ rest), stands_within more)
stands_within (stands.whole line rest is kept) = omega (arith, length-append line (10 ∷ rest))
stands_within (stands.too_long line rest all long) = omega arith
stands_within (stands.part line is) = omega arith

-- what stands ahead lies within the bytes
pub ahead_within : (bytes : List ℕ) (found : Ahead) → found ≡ ahead bytes → found.bytes + taken_by found.front ≤ length bytes
ahead_within bytes found e = stands_within ((ahead_stands bytes found).1 (sym e))
