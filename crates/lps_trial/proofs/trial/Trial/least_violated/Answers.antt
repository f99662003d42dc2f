use Rattle.std.proofs.Common.{List, sym, subst}
use Rattle.std.specs.Prelude.{◌↔◌, Contains}
use Rattle.std.proofs.lemmas.Result.{IfOk-weaker}
use Rattle.lps_terms.specs.declared.atom.Atom.{Atom}
use Rattle.lps_facts.specs.Facts.{members}
use Rattle.lps_causal.specs.Next.{IsUpdate}
use Rattle.lps_causal.proofs.Merging.{is_update}
use Rattle.lps_trial.specs.Trial.{IsGrown, IsTrial, TrialState}
use Rattle.lps_trial.proofs.trial.Trial.least_violated.Goals as goal

pub least_violated-requires-clause-state : goal.least_violated-requires-clause-state
least_violated-requires-clause-state c = (subst (IsGrown c.args.theory.now) (sym c.self.view_is) c.requires.grown).fluents

pub least_violated-requires-clause-happened : goal.least_violated-requires-clause-happened
least_violated-requires-clause-happened c =
    let is = subst (IsGrown c.args.theory.now) (sym c.self.view_is) c.requires.grown in
    λ a. subst (λ (es : List Atom). Contains (members c.self.inside.happened) a ↔ Contains es a) (sym c.as_slice.ensures.value) (is.happened_are a)

pub least_violated-requires-clause-next : goal.least_violated-requires-clause-next
least_violated-requires-clause-next c =
    let inside = c.self.inside in
    let is = subst (IsGrown c.args.theory.now) (sym c.self.view_is) c.requires.grown in
    subst (λ (es : List Atom). IsUpdate c.args.theory.now (members inside.state) es (members inside.next)) (sym c.as_slice.ensures.value)
    (is_update c.args.theory.now (members inside.state) inside.events.items (members inside.next) is.next_fluents is.next_is)

pub returns-clause-trial : goal.returns-clause-trial
returns-clause-trial c =
    let text = c.args.theory.now in
    let inside = c.self.inside in
    let seen : TrialState = record { state = inside.state; next = inside.next; begun = inside.begun; ended = inside.ended.items; events = inside.events.items; happened = inside.happened } in
    IfOk-weaker c.least_violated.result _ _
    (λ found allowed none.
    let is : IsTrial text seen = record { grown = subst (IsGrown text) (sym c.self.view_is) c.requires.grown; allowed = λ accepted formed. allowed none } in
    subst (IsTrial text) c.self.view_is is)
    c.least_violated.ensures.allowed
