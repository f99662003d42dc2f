use Rattle.std.proofs.Common.{◌≡◌, ◌∙◌, ◌<◌, ◌≤◌, ◌+◌, ◌++◌, ◌∷◌, [], List, ℕ, length, sym, ap, subst}
use Rattle.std.specs.List.{AllByRecursion}
use Rattle.lps_terms.specs.declared.atom.Atom.{Atom}
use Rattle.lps_terms.specs.declared.text.Text.{Text}
use Rattle.lps_model.specs.Acceptance.{IsAccepted}
use Rattle.lps_model.specs.Formed.{is_formed}
use Rattle.lps_model.specs.Trace.{then_cycle}
use Rattle.lps_sizes.specs.Sizes.{cycle_size}
use Rattle.lps_limits.specs.Limits.{IsWithinLimits}
use Rattle.lps_cycle.specs.Admission.{MayCome}
use Rattle.lps_cycle.specs.Engine.{EngineState, IsNotAdded, IsOfRun, Stands}
use Rattle.lps_cycle.specs.Making.{HasSomeRun, IsMade, IsNotMade, failed_among, sizes_of}
use Rattle.lps_cycle.specs.Round.{RoundState}
use Rattle.lps_cycle.proofs.Standing.{engine_with, not_added, of_some_run, stands_next}
use Rattle.lps_cycle.proofs.engine.Engine.cycle.Goals as goal

pub make-made-requires-clause-run : goal.make-made-requires-clause-run
make-made-requires-clause-run c =
    let inside = c.self.inside in
    let round = inside.round.value in
    let there : c.program.result.now ≡ round.text = c.program.ensures ∙ ap (λ (r : RoundState). r.text) c.deref.ensures in
    let run = of_some_run round.text (subst IsAccepted there c.lawful.ensures.accepted) (ap is_formed (sym there) ∙ c.lawful.ensures.formed) inside.manner.prefer inside.manner.keep round.facts inside.cycles
    inside.agenda inside.told.created.items inside.told.closed.items inside.tally.failed inside.tally.log (subst IsOfRun (sym c.self.view_is) c.requires.run) in
    subst (λ (r : RoundState). HasSomeRun r.text 100 inside.cycles r.facts inside.agenda) (sym c.deref_mut.ensures.value) run

pub returns-in-Ok-clause-stands : goal.returns-in-Ok-clause-stands
returns-in-Ok-clause-stands c =
    let inside = c.self.inside in
    let round = inside.round.value in
    let prefer = inside.manner.prefer in
    let keep = inside.manner.keep in
    let log = inside.tally.log in
    let old = inside.agenda in
    let new = c.make-made.new.agenda in
    let next = c.make-made.new.round.facts in
    let made = c.in-Ok.field-0 in
    let cycle = made.cycle in
    let created = made.told.created.items in
    let closed = made.told.closed.items in
    let value = c.deref_mut.ensures.value in
    let back = sym c.self.view_is in
    let events = c.in-Ok.ensures.events in
    let there : c.program.result.now ≡ round.text = c.program.ensures ∙ ap (λ (r : RoundState). r.text) c.deref.ensures in
    let of_text : c.make-made.new.round.text ≡ round.text = c.in-Ok.ensures.text ∙ ap (λ (r : RoundState). r.text) value in
    let is_made : IsMade round.text 100 prefer inside.cycles round.facts next old new cycle.events cycle.verdicts cycle.picks created closed =
    subst (λ (r : RoundState). IsMade r.text 100 prefer inside.cycles r.facts next old new cycle.events cycle.verdicts cycle.picks created closed) value
    (subst (λ (es : List Atom). IsMade c.deref_mut.result.now.text 100 prefer inside.cycles c.deref_mut.result.now.facts next old new es cycle.verdicts cycle.picks created closed)
    (sym events) c.in-Ok.ensures.made) in
    let within : IsWithinLimits keep (sizes_of next new (log + cycle_size cycle)) = subst (λ n. IsWithinLimits keep (sizes_of next new n)) c.in-Ok.ensures.log c.in-Ok.ensures.within in
    λ batches trace was.
    let stands = stands_next c.waiting_law.ensures c.pursuit_law.ensures round.text (subst IsAccepted there c.lawful.ensures.accepted) c.status_law.ensures.stays prefer inside.cycles round.facts next
    old new cycle.events cycle.verdicts cycle.picks created closed is_made keep inside.told.created.items inside.told.closed.items inside.tally.failed log
    (subst (λ (e : EngineState). e.cycles < 1000000) back c.requires.room) (subst (λ (es : List Atom). length es ≤ 1000) (sym events) c.requires.few)
    (subst (AllByRecursion (MayCome round.text)) (sym events) (subst (λ (e : EngineState). AllByRecursion (MayCome e.text) c.args.events) back c.requires.events))
    batches trace (subst (λ (e : EngineState). Stands e batches trace) back was) within in
    subst (λ (t : Text). Stands (engine_with t prefer keep next (inside.cycles + 1) new created closed made.tally.failed made.tally.log) (batches ++ c.args.events ∷ []) (then_cycle trace cycle)) (sym of_text)
    (subst (λ (n : ℕ). Stands (engine_with round.text prefer keep next (inside.cycles + 1) new created closed n made.tally.log) (batches ++ c.args.events ∷ []) (then_cycle trace cycle)) (sym c.in-Ok.ensures.failed)
    (subst (λ (n : ℕ). Stands (engine_with round.text prefer keep next (inside.cycles + 1) new created closed (inside.tally.failed + failed_among closed) n) (batches ++ c.args.events ∷ []) (then_cycle trace cycle)) (sym c.in-Ok.ensures.log)
    (subst (λ (es : List Atom). Stands (engine_with round.text prefer keep next (inside.cycles + 1) new created closed (inside.tally.failed + failed_among closed) (log + cycle_size cycle)) (batches ++ es ∷ []) (then_cycle trace cycle)) events stands)))

pub returns-in-Err-clause-full : goal.returns-in-Err-clause-full
returns-in-Err-clause-full c =
    let inside = c.self.inside in
    let round = inside.round.value in
    let old = inside.agenda in
    let log = inside.tally.log in
    let value = c.deref_mut.ensures.value in
    let back = sym c.self.view_is in
    let there : c.program.result.now ≡ round.text = c.program.ensures ∙ ap (λ (r : RoundState). r.text) c.deref.ensures in
    let over : IsNotMade round.text 100 inside.manner.prefer inside.manner.keep inside.cycles log round.facts old c.args.events c.in-Err.error =
    subst (λ (r : RoundState). IsNotMade r.text 100 inside.manner.prefer inside.manner.keep inside.cycles log r.facts old c.args.events c.in-Err.error) value c.in-Err.ensures.over in
    subst (λ (e : EngineState). IsNotAdded e c.args.events c.in-Err.error) c.self.view_is
    (not_added c.waiting_law.ensures c.pursuit_law.ensures round.text (subst IsAccepted there c.lawful.ensures.accepted) c.status_law.ensures.stays inside.manner.prefer inside.manner.keep inside.cycles round.facts old
    inside.told.created.items inside.told.closed.items inside.tally.failed log c.args.events (subst (λ (e : EngineState). e.cycles < 1000000) back c.requires.room) c.requires.few
    (subst (λ (e : EngineState). AllByRecursion (MayCome e.text) c.args.events) back c.requires.events) c.in-Err.error over)
