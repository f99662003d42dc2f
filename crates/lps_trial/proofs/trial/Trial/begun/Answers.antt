use Rattle.std.proofs.Common.{◌≡◌, ◌∙◌, ◌⊎◌, List, ap, subst, sym, not}
use Rattle.std.specs.Prelude.{Contains}
use Rattle.std.specs.List.{filter}
use Rattle.std.proofs.lemmas.Result.{IfOk-weaker}
use Rattle.lps_terms.specs.declared.atom.Atom.{Atom}
use Rattle.lps_facts.specs.Facts.{is_among, members}
use Rattle.lps_trial.specs.Trial.{IsTrial, TrialState}
use Rattle.lps_trial.proofs.Trials.{new_only, new_or_old}
use Rattle.lps_trial.proofs.trial.Trial.begun.Goals as goal

pub returns-clause-all : goal.returns-clause-all
returns-clause-all c =
    let text = c.args.theory.now in
    let trial = c.args.self.now in
    let old : members c.self.inside.state ≡ members trial.state = ap (λ (t : TrialState). members t.state) c.self.view_is in
    let given : c.as_slice.result.now ≡ members trial.begun = c.as_slice.ensures.value ∙ c.in_ok-begun.ensures.all ∙ ap (λ (t : TrialState). members t.begun) c.self.view_is in
    let same : filter (λ a. not (is_among (members c.self.inside.state) a)) c.as_slice.result.now ≡ filter (λ a. not (is_among (members trial.state) a)) (members trial.begun) =
    λ i. filter (λ a. not (is_among (old i) a)) (given i) in
    IfOk-weaker c.others.result _ _ (λ begun are a there.
    subst (λ (new : List Atom). Contains (members trial.state) a ⊎ Contains new a) (sym (are ∙ same)) (new_or_old text c.lawful.ensures.accepted c.lawful.ensures.formed trial c.requires.trial.grown a there)) c.others.ensures

pub returns-clause-only : goal.returns-clause-only
returns-clause-only c =
    let text = c.args.theory.now in
    let trial = c.args.self.now in
    let old : members c.self.inside.state ≡ members trial.state = ap (λ (t : TrialState). members t.state) c.self.view_is in
    let given : c.as_slice.result.now ≡ members trial.begun = c.as_slice.ensures.value ∙ c.in_ok-begun.ensures.all ∙ ap (λ (t : TrialState). members t.begun) c.self.view_is in
    let same : filter (λ a. not (is_among (members c.self.inside.state) a)) c.as_slice.result.now ≡ filter (λ a. not (is_among (members trial.state) a)) (members trial.begun) =
    λ i. filter (λ a. not (is_among (old i) a)) (given i) in
    IfOk-weaker c.others.result _ _ (λ begun are a there.
    new_only text c.lawful.ensures.accepted c.lawful.ensures.formed trial c.requires.trial.grown a (subst (λ (new : List Atom). Contains new a) (are ∙ same) there)) c.others.ensures
