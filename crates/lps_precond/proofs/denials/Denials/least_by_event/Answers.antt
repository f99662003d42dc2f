use Rattle.std.proofs.Common.{◌++◌, List, [], subst, inl, inr}
use Rattle.std.specs.Prelude.{◌↔◌, Contains}
use Rattle.std.proofs.lemmas.List.Elements.{Contains-append_left, Contains-append_right}
use Rattle.std.proofs.lemmas.Result.{IfOk-weaker}
use Rattle.lps_terms.specs.declared.atom.Atom.{Atom}
use Rattle.lps_terms.specs.declared.text.Text.{Text}
use Rattle.lps_facts.specs.Facts.{members}
use Rattle.lps_index.specs.Spoken.{AreFound, of_items}
use Rattle.lps_meaning.proofs.Persistence.{turn}
use Rattle.lps_model.specs.Clauses.{clauses}
use Rattle.lps_model.specs.Rules.{denials}
use Rattle.lps_model.proofs.Elements.{first_or_later, nothing_contained}
use Rattle.lps_precond.proofs.Concerned.{either_found, found_within, none_found}
use Rattle.lps_precond.proofs.Happened.{in_set}
use Rattle.lps_precond.proofs.Lessening.{lessened_same, lessened_then}
use Rattle.lps_precond.proofs.denials.Denials.least_by_event.Goals as goal

pub least_at-requires-clause-new : goal.least_at-requires-clause-new
least_at-requires-clause-new c = λ a at.
    let event = c.args.event.now in
    let one = subst (λ (atoms : List Atom). Contains atoms a) c.from_ref.ensures.value ((in_set c.from_ref.result.now c.new-new.result c.insert_all.new.self c.new-new.ensures.base c.new-new.ensures.changes c.in_ok-insert_all.ensures.all a).0 at) in
    elim (first_or_later event [] a one) [ inl same ↦ subst (Contains (members c.args.step.now.happened.now)) same c.requires.event | inr none ↦ absurd (nothing_contained a none) ]

pub least_at-requires-clause-places : goal.least_at-requires-clause-places
least_at-requires-clause-places c = λ place at.
    let keyed = c.denials_for-found.result.keyed.now in
    let others = c.denials_for-found.result.others.now in
    found_within c.args.program.now c.args.event.now (keyed ++ others) (subst (λ (text : Text). AreFound of_items (denials text) c.args.event.now (keyed ++ others)) c.index.ensures c.denials_for-found.ensures) c.args.self.now
    c.requires.denials place (Contains-append_left keyed others place at)

pub least_at-requires-2-clause-places : goal.least_at-requires-2-clause-places
least_at-requires-2-clause-places c = λ place at.
    let keyed = c.denials_for-found.result.keyed.now in
    let others = c.denials_for-found.result.others.now in
    found_within c.args.program.now c.args.event.now (keyed ++ others) (subst (λ (text : Text). AreFound of_items (denials text) c.args.event.now (keyed ++ others)) c.index.ensures c.denials_for-found.ensures) c.args.self.now
    c.requires.denials place (Contains-append_right keyed others place at)

pub returns-then-finds_none : goal.returns-then-finds_none
returns-then-finds_none c = λ level levels.
    let text = c.args.program.now in
    let step = c.args.step.now in
    let happened = members step.happened.now in
    let before = members step.before.now in
    let after = members step.after.now in
    let event = c.args.event.now in
    let places = c.denials_for-found.result.keyed.now ++ c.denials_for-found.result.others.now in
    let are : AreFound of_items (denials text) event places = subst (λ (text : Text). AreFound of_items (denials text) event places) c.index.ensures c.denials_for-found.ensures in
    lessened_same (clauses text) happened before after level c.args.self.now _ c.args.least
    (λ place h. absurd (none_found text c.lawful.ensures.accepted c.lawful.ensures.formed level happened before after event (c.requires.ground.events_are event c.requires.event) c.args.self.now c.requires.denials places
    (c.finds_none.ensures c.if-finds_none.true) are place h))

pub returns : goal.returns
returns c =
    let text = c.args.program.now in
    let step = c.args.step.now in
    let happened = members step.happened.now in
    let before = members step.before.now in
    let after = members step.after.now in
    let event = c.args.event.now in
    let keyed = c.denials_for-found.result.keyed.now in
    let others = c.denials_for-found.result.others.now in
    let are : AreFound of_items (denials text) event (keyed ++ others) = subst (λ (text : Text). AreFound of_items (denials text) event (keyed ++ others)) c.index.ensures c.denials_for-found.ensures in
    let same = λ (a : Atom). subst (λ (atoms : List Atom). Contains atoms a ↔ Contains (members c.insert_all.new.self) a) c.from_ref.ensures.value
    (turn (in_set c.from_ref.result.now c.new-new.result c.insert_all.new.self c.new-new.ensures.base c.new-new.ensures.changes c.in_ok-insert_all.ensures.all a)) in
    IfOk-weaker c.least_at-2.result _ _
    (λ found second level levels.
    lessened_then (clauses text) happened before after level c.args.self.now _ _ _ c.args.least c.in_ok-least.least found
    (either_found text c.lawful.ensures.accepted c.lawful.ensures.formed level happened before after event (c.requires.ground.events_are event c.requires.event) c.args.self.now c.requires.denials
    (members c.insert_all.new.self) same keyed others are)
    (c.in_ok-least.ensures level levels) (second level levels))
    c.least_at-2.ensures
