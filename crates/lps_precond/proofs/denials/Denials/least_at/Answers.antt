use Rattle.std.proofs.Common.{ℕ, List, get_or, subst, arith, inl, inr}
use Rattle.std.specs.Prelude.{Contains}
use Rattle.std.proofs.lemmas.List.Elements.{Contains-get_or}
use Rattle.lps_facts.specs.Facts.{members}
use Rattle.lps_model.specs.Clauses.{clauses}
use Rattle.lps_solve.proofs.Gaining.{default_free, take_whole}
use Rattle.lps_precond.specs.Judged.{IsLessened}
use Rattle.lps_precond.specs.Stages.{IsAt, IsViolatedThrough}
use Rattle.lps_precond.proofs.Lessening.{before_or_this, lessened_same, lessened_then, none_yet}
use Rattle.lps_precond.proofs.denials.Denials.least_at.Goals as goal

pub loop-place-init : goal.loop-place-init
loop-place-init c = λ level levels.
    let step = c.args.step.now in
    lessened_same (clauses c.args.program.now) (members step.happened.now) (members step.before.now) (members step.after.now) level c.args.self.now _ c.args.given
    (λ place h. absurd (none_yet c.args.places.now place h.0))

pub lesser-requires-clause-place : goal.lesser-requires-clause-place
lesser-requires-clause-place c = c.requires.places (get_or c.args.places.now c.loop-place.place-index 0) (Contains-get_or c.args.places.now c.loop-place.place-index 0 c.loop-place-test.true)

pub loop-place-preserved : goal.loop-place-preserved
loop-place-preserved c = λ level levels.
    let step = c.args.step.now in
    let places = c.args.places.now in
    let i = c.loop-place.place-index in
    let place : ℕ = get_or places i 0 in
    lessened_then (clauses c.args.program.now) (members step.happened.now) (members step.before.now) (members step.after.now) level c.args.self.now _ _ _ c.args.given c.loop-place.least _
    (λ j h. elim (before_or_this places i place c.loop-place-test.true (default_free places i 0 place c.loop-place-test.true) j h.0) [ inl before ↦ inl (before, h.1) | inr this ↦ inr (this, h.1) ]) (c.loop-place.invariant level levels)
    (c.in_ok-least.ensures level levels)

pub returns : goal.returns
returns c = λ level levels.
    let step = c.args.step.now in
    let happened = members step.happened.now in
    let before = members step.before.now in
    let after = members step.after.now in
    subst (λ (places : List ℕ). IsLessened (clauses c.args.program.now) happened before after level c.args.self.now
    (λ j. Contains places j × IsAt c.args.self.now (λ denial. IsViolatedThrough (clauses c.args.program.now) happened before after level denial c.args.through) j) c.args.given c.loop-place.least)
    (take_whole c.loop-place.place-index c.args.places.now (omega (arith, c.loop-place-test.false))) (c.loop-place.invariant level levels)
