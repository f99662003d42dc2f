-- A plain run goes on by any plain cycle.
use Rattle.std.proofs.Common.{ℕ, List, [], ◌∷◌, ◌++◌, refl, sym, ap, subst, ◌∙◌, append_assoc}
use Rattle.std.proofs.lemmas.List.{append-nil, map-append}
use Rattle.lps_terms.specs.declared.atom.Atom.{Atom}
use Rattle.lps_terms.specs.declared.prefer.Prefer.{Prefer}
use Rattle.lps_terms.specs.declared.text.Text.{Text}
use Rattle.lps_model.specs.declared.cycle.Cycle.{Cycle}
use Rattle.lps_model.specs.declared.trace.Trace.{Trace}
use Rattle.lps_model.specs.Run.{AreInitial, first_trace}
use Rattle.lps_model.specs.Trace.{then_cycle}
use Rattle.lps_meaning.specs.Plain.{ArePlain, IsPlain, IsPlainRun}

-- a trace with some cycles more
abbrev with_cycles : Trace → List Cycle → Trace
with_cycles trace cycles = record { initial = trace.initial; cycles = trace.cycles ++ cycles }

module _ (text : Text) (level : List ℕ → ℕ) (depth : ℕ) (prefer : Prefer) where
  plain_more : (before : Trace) (cycles : List Cycle) (cycle : Cycle) → ArePlain text level depth prefer before cycles →
      IsPlain text level depth prefer (with_cycles before cycles) cycle → ArePlain text level depth prefer before (cycles ++ cycle ∷ [])
  plain_more before [] cycle all one = (subst (λ (cs : List Cycle). IsPlain text level depth prefer (record { initial = before.initial; cycles = cs }) cycle) (append-nil before.cycles) one, tt)
  plain_more before (first ∷ cycles) cycle all one = (
    all.0,
    plain_more (then_cycle before first) cycles cycle all.1
        (subst (λ (cs : List Cycle). IsPlain text level depth prefer (record { initial = before.initial; cycles = cs }) cycle) (sym (append_assoc before.cycles (first ∷ []) cycles)) one),
  )

  pub run_more : (batches : List (List Atom)) (trace : Trace) (cycle : Cycle) → IsPlainRun text level depth prefer batches trace →
      IsPlain text level depth prefer trace cycle → IsPlainRun text level depth prefer (batches ++ cycle.events ∷ []) (then_cycle trace cycle)
  run_more batches trace cycle run one = record {
    initial = run.initial;
    plain = plain_more (first_trace trace.initial) trace.cycles cycle run.plain one;
    events = map-append (λ (c : Cycle). c.events) trace.cycles (cycle ∷ []) ∙ ap (λ (bs : List (List Atom)). bs ++ cycle.events ∷ []) run.events;
  }

  pub run_first : (facts : List Atom) → AreInitial text facts → IsPlainRun text level depth prefer [] (first_trace facts)
  run_first facts initial = record { initial = initial; plain = tt; events = refl }
