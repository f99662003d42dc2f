use Rattle.std.proofs.Common.{◌≡◌, ◌∙◌, ap, sym, subst, List, true}
use Rattle.lps_terms.specs.declared.statement.Statement.{Statement}
use Rattle.lps_terms.specs.declared.text.Text.{Text}
use Rattle.lps_facts.specs.Facts.{members, with_facts}
use Rattle.lps_trial.specs.Trial.{IsTrial, TrialState}
use Rattle.lps_cycle.specs.Round.{RoundState}
use Rattle.lps_cycle.proofs.Initial.{initial, initial_are_fluents, initial_exact, nothing}
use Rattle.lps_cycle.proofs.engine.first_round.Goals as goal

pub new-requires-2-clause-trial : goal.new-requires-2-clause-trial
new-requires-2-clause-trial c =
    let text : Text = c.args.text in
    let statements : c.as_slice-statements.result.now ≡ text.statements = c.as_slice-statements.ensures ∙ ap (λ (t : Text). t.statements) c.text-2.ensures.same in
    let facts = c.in_ok-facts.facts in
    let is = initial_exact text (members facts) (ap members c.in_ok-facts.ensures ∙ ap (λ (ss : List Statement). members (with_facts true (initial ss) nothing)) statements) in
    let fluents = initial_are_fluents text c.text-2.ensures.accepted c.text-2.ensures.formed (members facts) is in
    subst (λ (t : Text). IsTrial t c.new-trial.result) (sym c.in_ok-theory.ensures) (c.new-trial.ensures.trial text fluents)

pub returns-clause-facts : goal.returns-clause-facts
returns-clause-facts c =
    let text : Text = c.args.text in
    let statements : c.as_slice-statements.result.now ≡ text.statements = c.as_slice-statements.ensures ∙ ap (λ (t : Text). t.statements) c.text-2.ensures.same in
    let there : c.in_ok-round.round.value.facts ≡ members c.in_ok-facts.facts =
    ap (λ (r : RoundState). r.facts) c.in_ok-round.ensures.ok ∙ c.new-2.ensures.facts ∙ ap (λ (t : TrialState). members t.state) c.new-trial.ensures.anew in
    initial_exact text c.in_ok-round.round.value.facts (there ∙ ap members c.in_ok-facts.ensures ∙ ap (λ (ss : List Statement). members (with_facts true (initial ss) nothing)) statements)
