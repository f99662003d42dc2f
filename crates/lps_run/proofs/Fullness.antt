-- No run of a text over a stream goes past the cycle with which a limit is exceeded.
use Rattle.std.proofs.Common.{◌≡◌, ◌+◌, ◌⊎◌, ◌∙◌, ℕ, suc, List, [], ◌∷◌, ◌++◌, length, Option, refl, sym, ap, subst, inl, inr, arith, append_assoc, append-nil}
use Rattle.std.specs.Prelude.{map}
use Rattle.lps_terms.specs.declared.atom.Atom.{Atom}
use Rattle.lps_terms.specs.declared.prefer.Prefer.TheVariants.{Oldest}
use Rattle.lps_terms.specs.declared.text.Text.{Text}
use Rattle.lps_model.specs.declared.cycle.Cycle.{Cycle}
use Rattle.lps_model.specs.declared.trace.Trace.{Trace}
use Rattle.lps_model.specs.Clauses.{clauses}
use Rattle.lps_model.specs.Run.{first_trace}
use Rattle.lps_model.specs.Trace.{then_cycle}
use Rattle.lps_derivation.specs.Levels.{AreLevels}
use Rattle.lps_meaning.specs.Laws.{PlainRunsAreUnique}
use Rattle.lps_meaning.specs.Plain.{ArePlain}
use Rattle.lps_limits.specs.declared.full.Full.{Full as Fullness}
use Rattle.lps_limits.specs.declared.limit.Limit.{Limit}
use Rattle.lps_limits.specs.declared.limit.Limit.TheVariants as l
use Rattle.lps_limits.specs.declared.limit.Sizes.{Sizes}
use Rattle.lps_limits.specs.Limits.{AreWithin, IsExceededFirst, IsFull, IsWithin, IsWithinLimits}
use Rattle.lps_limits.proofs.Unique.{sizes_are_unique}
use Rattle.lps_cycle.specs.Engine.{IsFullNext, depth}
use Rattle.lps_run.specs.Judged.{AreWhole, IsSound, ended}
use Rattle.lps_run.specs.Stopping.{EndsFullNext, IsRun, kept_by_default}
use Rattle.lps_run.proofs.Judging.{batch_more}
use Rattle.lps_run.proofs.OneWay.{Longer, ahead, whole_longer}

-- ---- a trace within its limits, and one that exceeds one

over_and_within : (keep : ℕ) (sizes : Sizes) (limit : Limit) → IsExceededFirst keep sizes limit → IsWithinLimits keep sizes → ⊥
over_and_within keep sizes l.State over within = omega (arith, over, within.0)
over_and_within keep sizes l.Kept over within = omega (arith, over.1, within.1)
over_and_within keep sizes l.Log over within = omega (arith, over.2, within.2)

full_or_within : (text : Text) (level : List ℕ → ℕ) (keep : ℕ) (trace : Trace) (limit : Limit) (symbols : ℕ) → IsFull text level depth keep trace limit symbols → IsWithin text level depth keep trace → ⊥
full_or_within text level keep trace limit symbols full within =
    over_and_within keep within.sizes limit
    (subst (λ (sizes : Sizes). IsExceededFirst keep sizes limit) (sizes_are_unique text level depth trace full.sizes within.sizes full.are_sizes within.are_sizes) full.exceeded) within.within

-- ---- a run over more batches begins with one over the first of them

abbrev events_of : List Cycle → List (List Atom)
events_of cycles = map (λ (cycle : Cycle). cycle.events) cycles

-- a trace with some cycles more
abbrev with_cycles : Trace → List Cycle → Trace
with_cycles trace cycles = record { initial = trace.initial; cycles = trace.cycles ++ cycles }

abbrev tail_of : {X : Type 0} → List X → List X
tail_of [] = []
tail_of (x ∷ xs) = xs

abbrev head_or : {X : Type 0} → X → List X → X
head_or y [] = y
head_or y (x ∷ xs) = x

module _ (text : Text) (level : List ℕ → ℕ) (keep : ℕ) where
  within_before : (before : Trace) (cycles : List Cycle) → AreWithin text level depth keep before cycles → IsWithin text level depth keep before
  within_before before [] all = all
  within_before before (cycle ∷ cycles) all = all.0

  -- the first cycles, one for each of these batches
  record HasFirstCycles (before : Trace) (batches : List (List Atom)) : Type 0 where
    front : List Cycle
    events : events_of front ≡ batches
    plain : ArePlain text level depth Oldest before front
    within : IsWithin text level depth keep (with_cycles before front)

  first_cycles : (before : Trace) (cycles : List Cycle) (batches others : List (List Atom)) → events_of cycles ≡ batches ++ others → ArePlain text level depth Oldest before cycles →
      AreWithin text level depth keep before cycles → HasFirstCycles before batches
  first_cycles before cycles [] others e plain within = record {
    front = [];
    events = refl;
    plain = tt;
    within = subst (λ (cs : List Cycle). IsWithin text level depth keep (record { initial = before.initial; cycles = cs })) (sym (append-nil before.cycles)) (within_before before cycles within);
  }
  first_cycles before [] (batch ∷ batches) others e plain within = absurd cc
  first_cycles before (cycle ∷ cycles) (batch ∷ batches) others e plain within =
      let rest = first_cycles (then_cycle before cycle) cycles batches others (ap tail_of e) plain.1 within.1 in
      record {
        front = cycle ∷ rest.front;
        events = λ i. ap (head_or batch) e i ∷ rest.events i;
        plain = (plain.0, rest.plain);
        within = subst (λ (cs : List Cycle). IsWithin text level depth keep (record { initial = before.initial; cycles = cs })) (append_assoc before.cycles (cycle ∷ []) rest.front) rest.within;
      }

-- no run within its limits goes on past a batch with which one is exceeded
pub none_past : PlainRunsAreUnique → (text : Text) (level : List ℕ → ℕ) → AreLevels (clauses text) level → (batches others : List (List Atom)) (before trace : Trace) (full : Fullness) →
    IsFullNext text Oldest kept_by_default batches before full → IsRun text ((batches ++ full.tried.events ∷ []) ++ others) trace → ⊥
none_past unique text level levels batches others before trace full next run =
    let plain = run.plain level levels in
    let first = first_cycles text level kept_by_default (first_trace trace.initial) trace.cycles (batches ++ full.tried.events ∷ []) others plain.events plain.plain (run.within level levels) in
    let front : Trace = with_cycles (first_trace trace.initial) first.front in
    let same : then_cycle before full.tried ≡ front =
    unique text level depth Oldest (batches ++ full.tried.events ∷ []) (then_cycle before full.tried) front (next.run level levels) (record { initial = plain.initial; plain = first.plain; events = first.events }) in
    full_or_within text level kept_by_default front full.limit full.symbols (subst (λ (t : Trace). IsFull text level depth kept_by_default t full.limit full.symbols) same (next.is level levels)) first.within

-- so none is over the whole stream
pub full_or_whole : PlainRunsAreUnique → (text : Text) (level : List ℕ → ℕ) → AreLevels (clauses text) level → (stream start : List ℕ) (printed : Option (List ℕ)) (full : Fullness) →
    EndsFullNext text stream start printed full → (all : List (List Atom)) (trace : Trace) → IsSound text stream all → IsRun text all trace → ⊥
full_or_whole unique text level levels stream start printed full e all trace sound run =
    let line = e.goes_on.line in
    let next = e.goes_on.next in
    let more : List (List Atom) = e.batches ++ full.tried.events ∷ [] in
    let are : AreWhole text (next.front ++ (line ++ 10 ∷ [])) more (suc e.goes_on.lines) =
    subst (λ (events : List Atom). AreWhole text (next.front ++ (line ++ 10 ∷ [])) (e.batches ++ events ∷ []) (suc e.goes_on.lines)) (sym e.events)
    (batch_more text line e.goes_on.batch (length e.batches) next.are (let same : length e.batches ≡ 0 + length e.batches = omega arith in same) e.goes_on.is) in
    let split : ended stream ++ [] ≡ (next.front ++ (line ++ 10 ∷ [])) ++ next.rest =
    append-nil (ended stream) ∙ next.split ∙ ap (λ (bs : List ℕ). next.front ++ bs) (sym (append_assoc line (10 ∷ []) next.rest)) ∙ sym (append_assoc next.front (line ++ 10 ∷ []) next.rest) in
    past (ahead text sound.1 are [] next.rest split)
  where
    past : Longer text 0 [] e.goes_on.next.rest all (e.batches ++ full.tried.events ∷ []) sound.0 (suc e.goes_on.lines)
        ⊎ Longer text 0 e.goes_on.next.rest [] (e.batches ++ full.tried.events ∷ []) all (suc e.goes_on.lines) sound.0 → ⊥
    past (inl g) =
        let same = (whole_longer text e.goes_on.next.rest all (e.batches ++ full.tried.events ∷ []) sound.0 (suc e.goes_on.lines) g).1 in
        none_past unique text level levels e.batches [] e.prints.trace trace full e.next
        (subst (λ (bs : List (List Atom)). IsRun text bs trace) (sym same ∙ sym (append-nil (e.batches ++ full.tried.events ∷ []))) run)
    past (inr g) = none_past unique text level levels e.batches g.others e.prints.trace trace full e.next (subst (λ (bs : List (List Atom)). IsRun text bs trace) g.same run)
