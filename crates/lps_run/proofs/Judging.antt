-- How more lines are judged behind those that were taken.
use Rattle.std.proofs.Common.{◌≡◌, ℕ, suc, ◌+◌, Bool, true, false, eqb, List, [], ◌∷◌, ◌++◌, length, Option, Some, None, refl, sym, subst, arith, append_assoc}
use Rattle.std.specs.Prelude.{if◌then◌else◌, IsTrue}
use Rattle.std.specs.List.{AllByRecursion, list_all}
use Rattle.std.proofs.lemmas.Bool.{eqb-true}
use Rattle.lps_terms.specs.declared.atom.Atom.{Atom}
use Rattle.lps_terms.specs.declared.kind.Kind.{Kind}
use Rattle.lps_terms.specs.declared.kind.Kind.TheVariants as k
use Rattle.lps_terms.specs.declared.batch_kind.BatchKind.TheVariants.{WrongArity}
use Rattle.lps_terms.specs.declared.text.Text.{Text}
use Rattle.lps_model.specs.declared.batch.Batch.{Batch}
use Rattle.lps_model.specs.Declarations.{arity_among, kind_among}
use Rattle.lps_model.specs.Program.{declarations}
use Rattle.lps_terms.specs.Names.{is_proper_name}
use Rattle.lps_model.specs.Run.{IsExternal}
use Rattle.lps_model.proofs.Stated.{neither}
use Rattle.lps_derivation.specs.Ground.{is_ground}
use Rattle.lps_cycle.specs.Admission.{MayCome}
use Rattle.lps_batches.specs.Lines.{IsPassed}
use Rattle.lps_batches.specs.Stream.{Skipped}
use Rattle.lps_batches.specs.Stream as stream
use Rattle.lps_run.specs.Judged.{ArePassed, IsBatchOf, batch_fault, event_fault, events_fault, fault_by, fault_of_kind, number_fault}
use Rattle.lps_run.specs.Judged as judged

-- ---- lines

-- lines that are passed over
skipped_lines : (text : Text) {front : List ℕ} {count : ℕ} (lines cycles : ℕ) → Skipped front count → ArePassed text lines cycles front [] (count + lines)
skipped_lines text lines cycles stream.none = subst (ArePassed text lines cycles [] []) (let e : lines ≡ 0 + lines = omega arith in e) judged.none
skipped_lines text lines cycles (stream.line {rest = rest} {count = count} line is more) =
    judged.passed line is (subst (λ n. ArePassed text (suc lines) cycles rest [] n) (let e : count + suc lines ≡ suc count + lines = omega arith in e) (skipped_lines text (suc lines) cycles more))

-- more lines that are passed over
pub skip_more : (text : Text) {lines cycles after count : ℕ} {bytes front : List ℕ} {batches : List (List Atom)} → ArePassed text lines cycles bytes batches after → Skipped front count →
    ArePassed text lines cycles (bytes ++ front) batches (count + after)
skip_more text {cycles = cycles} (judged.none {lines = lines}) skipped = skipped_lines text lines cycles skipped
skip_more text {lines = lines} {cycles = cycles} {count = count} {front = front} (judged.passed {after = after} {rest = rest} {batches = batches} line is more) skipped =
    subst (λ bytes. ArePassed text lines cycles bytes batches (count + after)) (sym (append_assoc line (10 ∷ rest) front)) (judged.passed line is (skip_more text more skipped))
skip_more text {lines = lines} {cycles = cycles} {count = count} {front = front} (judged.batch {after = after} {rest = rest} {batches = batches} line batch is more) skipped =
    subst (λ bytes. ArePassed text lines cycles bytes (batch.events ∷ batches) (count + after)) (sym (append_assoc line (10 ∷ rest) front)) (judged.batch line batch is (skip_more text more skipped))

-- one more batch, where so many came before
pub batch_more : (text : Text) {lines cycles after : ℕ} {bytes : List ℕ} {batches : List (List Atom)} (line : List ℕ) (batch : Batch) (count : ℕ) → ArePassed text lines cycles bytes batches after →
    count ≡ cycles + length batches → IsBatchOf text (suc count) line batch → ArePassed text lines cycles (bytes ++ (line ++ 10 ∷ [])) (batches ++ batch.events ∷ []) (suc after)
batch_more text {cycles = cycles} line batch count (judged.none {lines = lines}) e is =
    judged.batch line batch (subst (λ n. IsBatchOf text (suc n) line batch) (let same : count ≡ cycles = omega (arith, e) in same) is) judged.none
batch_more text {lines = lines} {cycles = cycles} line batch count (judged.passed {after = after} {rest = rest} {batches = batches} first passed more) e is =
    subst (λ bytes. ArePassed text lines cycles bytes (batches ++ batch.events ∷ []) (suc after)) (sym (append_assoc first (10 ∷ rest) (line ++ 10 ∷ [])))
    (judged.passed first passed (batch_more text line batch count more e is))
batch_more text {lines = lines} {cycles = cycles} line batch count (judged.batch {after = after} {rest = rest} {batches = batches} first one fits more) e is =
    subst (λ bytes. ArePassed text lines cycles bytes (one.events ∷ (batches ++ batch.events ∷ [])) (suc after)) (sym (append_assoc first (10 ∷ rest) (line ++ 10 ∷ [])))
    (judged.batch first one fits (batch_more text line batch count more (let same : count ≡ suc cycles + length batches = omega (arith, e) in same) is))

-- one more line that is passed over
pub pass_more : (text : Text) {lines cycles after : ℕ} {bytes : List ℕ} {batches : List (List Atom)} (line : List ℕ) → ArePassed text lines cycles bytes batches after → IsPassed line →
    ArePassed text lines cycles (bytes ++ (line ++ 10 ∷ [])) batches (suc after)
pass_more text {lines = lines} {cycles = cycles} {after = after} {bytes = bytes} {batches = batches} line are is =
    subst (ArePassed text lines cycles (bytes ++ (line ++ 10 ∷ [])) batches) (let e : 1 + after ≡ suc after = omega arith in e) (skip_more text are (stream.line line is stream.none))

-- ---- the events of a batch without a fault

event_kind : (kind : Kind) → fault_of_kind kind ≡ None → kind ≡ k.Event
event_kind k.Event e = refl
event_kind other e = absurd cc

fitting : (kind : Option Kind) (arity : Option ℕ) (count : ℕ) → fault_by kind arity count ≡ None → (kind ≡ Some k.Event) × (arity ≡ Some count)
fitting None None count e = absurd cc
fitting None (Some arity) count e = absurd cc
fitting (Some kind) None count e = absurd cc
fitting (Some kind) (Some arity) count e = by_test (eqb arity count) refl e where
  by_test : (test : Bool) → eqb arity count ≡ test → (if test then fault_of_kind kind else Some WrongArity) ≡ None → (Some kind ≡ Some k.Event) × (Some arity ≡ Some count)
  by_test true same e = ((λ i. Some (event_kind kind e i)), (λ i. Some (eqb-true arity count same i)))
  by_test false other e = absurd cc

external : (text : Text) (events : List Atom) → events_fault text events ≡ None → AllByRecursion (IsExternal text) events
external text [] e = tt
external text (event ∷ events) e =
    let both = neither (event_fault text event) (events_fault text events) e in
    let fits = fitting (kind_among (declarations text) event.name) (arity_among (declarations text) event.name) (length event.args) both.0 in
    (record { kind = fits.0; arity = fits.1 }, external text events both.1)

batch_external : (text : Text) (expected : ℕ) (batch : Batch) → batch_fault text expected batch ≡ None → AllByRecursion (IsExternal text) batch.events
batch_external text expected batch e = external text batch.events (neither (events_fault text batch.events) (number_fault expected batch.number) e).0

-- the events of a batch that was read and has no fault may come
may_come : (text : Text) (events : List Atom) → AllByRecursion (IsExternal text) events → AllByRecursion (λ (event : Atom). IsTrue (is_proper_name event.name) × IsTrue (list_all is_ground event.args)) events →
    AllByRecursion (MayCome text) events
may_come text [] e g = tt
may_come text (event ∷ events) e g = ((e.0, g.0.1), may_come text events e.1 g.1)

pub batch_may_come : (text : Text) (expected : ℕ) (batch : Batch) → batch_fault text expected batch ≡ None →
    AllByRecursion (λ (event : Atom). IsTrue (is_proper_name event.name) × IsTrue (list_all is_ground event.args)) batch.events → AllByRecursion (MayCome text) batch.events
batch_may_come text expected batch e g = may_come text batch.events (batch_external text expected batch e) g
