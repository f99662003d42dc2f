use Rattle.std.proofs.Common.{ℕ, ◌<◌, List, length, sym, subst}
use Rattle.std.specs.Prelude.{Contains}
use Rattle.std.proofs.lemmas.Option.{slice_get_within}
use Rattle.std.proofs.lemmas.Result.{IfOk-weaker}
use Rattle.lps_terms.specs.declared.atom.Atom.{Atom}
use Rattle.lps_facts.specs.Facts.{members}
use Rattle.lps_meaning.proofs.Persistence.{turn}
use Rattle.lps_model.specs.Clauses.{clauses}
use Rattle.lps_precond.specs.Cut.{Cut}
use Rattle.lps_precond.specs.Stages.{IsLate}
use Rattle.lps_precond.proofs.Concerned.{late_by_fluent}
use Rattle.lps_precond.proofs.Happened.{in_set}
use Rattle.lps_precond.proofs.Lessening.{lessened_for}
use Rattle.lps_precond.proofs.denials.Denials.least_turned.Goals as goal

pub least_at-requires-clause-new : goal.least_at-requires-clause-new
least_at-requires-clause-new c = λ a at.
    (c.requires.touched.each a ((in_set c.args.step.now.touched.now c.new-touched.result c.insert_all.new.self c.new-touched.ensures.base c.new-touched.ensures.changes c.in_ok-insert_all.ensures.all a).0 at)).ground

pub least_at-requires-clause-places : goal.least_at-requires-clause-places
least_at-requires-clause-places c = λ place at.
    let late = (c.self.invariant.1 place).0 (subst (λ (places : List ℕ). Contains places place) c.as_slice.ensures.value at) in
    subst (λ (ds : List Cut). place < length ds) c.self.view_is (slice_get_within c.self.inside.denials.items place late.denial late.at)

pub returns : goal.returns
returns c =
    let text = c.args.program.now in
    let step = c.args.step.now in
    let happened = members step.happened.now in
    let before = members step.before.now in
    let after = members step.after.now in
    let same = λ (a : Atom). turn (in_set step.touched.now c.new-touched.result c.insert_all.new.self c.new-touched.ensures.base c.new-touched.ensures.changes c.in_ok-insert_all.ensures.all a) in
    IfOk-weaker c.least_at.result _ _
    (λ found lessened level levels.
    lessened_for (clauses text) happened before after level c.args.self.now _ _ c.args.least found
    (λ place h.
    let both = late_by_fluent text c.lawful.ensures.accepted c.lawful.ensures.formed level happened before after c.args.self.now c.requires.denials step.touched.now (members c.insert_all.new.self) same place h in (
      subst (λ (places : List ℕ). Contains places place) (sym c.as_slice.ensures.value) ((c.self.invariant.1 place).1 (subst (λ (ds : List Cut). IsLate ds place) (sym c.self.view_is) both.0)),
      both.1,
    ))
    (lessened level levels))
    c.least_at.ensures
