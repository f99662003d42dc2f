use Rattle.std.proofs.Common.{List, [], ◌≡◌, sym, subst, ap, ◌∙◌}
use Rattle.lps_terms.specs.declared.atom.Atom.{Atom}
use Rattle.lps_facts.specs.Facts.{members, with_effects}
use Rattle.lps_causal.specs.Next.{IsUpdate}
use Rattle.lps_trial.specs.Trial.{IsTrial, TrialState, no_facts}
use Rattle.lps_trial.proofs.Trials.{is_anew, is_next, none_taken}
use Rattle.lps_trial.proofs.trial.Trial.update.Goals as goal

pub returns-clause-next : goal.returns-clause-next
returns-clause-next c =
    let text = c.args.theory.now in
    let inside = c.self.inside in
    let old : TrialState = record { state = inside.state; next = inside.next; begun = inside.begun; ended = inside.ended.items; events = inside.events.items; happened = inside.happened } in
    let is : IsTrial text old = subst (IsTrial text) (sym c.self.view_is) c.requires.trial in
    let made =
    c.in_ok-make_at_once.ensures.made
    ∙ ap (λ (gone : List Atom). with_effects (record { initiated = members inside.begun; terminated = gone }) inside.state) c.as_slice.ensures.value in
    let state_is = ap members c.settle.ensures ∙ ap members made in
    subst (λ (t : TrialState). IsUpdate text (members t.state) t.events (members c.settle.new.self)) c.self.view_is
    (subst (IsUpdate text (members inside.state) inside.events.items) (sym state_is) (is_next text c.lawful.ensures.accepted c.lawful.ensures.formed old is.grown c.lawful-2.ensures))

pub returns-clause-trial : goal.returns-clause-trial
returns-clause-trial c =
    let text = c.args.theory.now in
    let inside = c.self.inside in
    let old : TrialState = record { state = inside.state; next = inside.next; begun = inside.begun; ended = inside.ended.items; events = inside.events.items; happened = inside.happened } in
    let is : IsTrial text old = subst (IsTrial text) (sym c.self.view_is) c.requires.trial in
    let made =
    c.in_ok-make_at_once.ensures.made
    ∙ ap (λ (gone : List Atom). with_effects (record { initiated = members inside.begun; terminated = gone }) inside.state) c.as_slice.ensures.value in
    let state_is = ap members c.settle.ensures ∙ ap members made in
    let next_is = ap members c.settle-2.ensures in
    let nothing : c.new.result ≡ no_facts = λ i. record { base = c.new.ensures.base i; changes = c.new.ensures.changes i } in
    let none : c.new-2.result ≡ no_facts = λ i. record { base = c.new-2.ensures.base i; changes = c.new-2.ensures.changes i } in
    let anew = is_anew text c.lawful.ensures.accepted c.lawful.ensures.formed old is.grown c.lawful-2.ensures c.settle.new.self c.settle-2.new.self c.new.result c.new-2.result state_is next_is nothing none in
    let no_ended = c.truncate.ensures.items ∙ none_taken inside.ended.items in
    let no_events = c.truncate-2.ensures.items ∙ none_taken inside.events.items in
    subst (λ (es : List Atom). IsTrial text (record { state = c.settle.new.self; next = c.settle-2.new.self; begun = c.new.result; ended = c.truncate.new.self.items; events = es; happened = c.new-2.result })) (sym no_events)
    (subst (λ (gone : List Atom). IsTrial text (record { state = c.settle.new.self; next = c.settle-2.new.self; begun = c.new.result; ended = gone; events = []; happened = c.new-2.result })) (sym no_ended) anew)

pub returns-clause-events : goal.returns-clause-events
returns-clause-events c = c.truncate-2.ensures.items ∙ none_taken c.self.inside.events.items
