use Rattle.std.proofs.Common.{[], ◌≡◌, ◌∙◌, ap, sym, subst}
use Rattle.std.specs.Prelude.{IsTrue}
use Rattle.std.specs.List.{AllByRecursion}
use Rattle.lps_terms.specs.declared.text.Text.{Text}
use Rattle.lps_model.specs.Acceptance.{IsAccepted}
use Rattle.lps_model.specs.Formed.{is_formed}
use Rattle.lps_facts.specs.Facts.{members}
use Rattle.lps_cycle.specs.Candidates.{AreAsked, proposers_of}
use Rattle.lps_cycle.specs.Round.{AreProposers, ArePursued, MayHappen, RoundState}
use Rattle.lps_cycle.proofs.Rounds.{asked_proposers, asked_round}
use Rattle.lps_cycle.proofs.RoundsMay.{all_may}
use Rattle.lps_cycle.proofs.round.Round.ask.Goals as goal

pub invariant_of-self : goal.invariant_of-self
invariant_of-self c =
    let inside = c.self.inside in
    let text : Text = inside.theory in
    let goals = c.args.goals.now.pursuit.goals in
    let candidates = c.in_ok-self-inside.field-0 in
    let none : inside.picks.items ≡ [] = ap (λ (r : RoundState). r.picks) c.self.view_is ∙ c.requires.picks in
    let are : AreAsked text c.args.time goals candidates = subst (λ (t : Text). AreAsked t c.args.time goals candidates) c.text.ensures c.in_ok-self-inside.ensures in
    let pursued : ArePursued text 100 c.args.time (members inside.trial.state) goals = subst (λ (r : RoundState). ArePursued r.text 100 c.args.time r.facts goals) (sym c.self.view_is) c.requires.pursued in
    let accepted = subst IsAccepted c.program.ensures c.lawful.ensures.accepted in
    let formed = subst (λ (t : Text). IsTrue (is_formed t)) c.program.ensures c.lawful.ensures.formed in
    let may : AllByRecursion (MayHappen text) candidates = all_may c.led_law.ensures.ground text accepted formed 100 c.args.time (members inside.trial.state) goals pursued candidates are in
    asked_round text inside.trial inside.admitted inside.candidates candidates inside.picks.items inside.start c.self.invariant none c.args.time goals are may

pub returns-clause-proposers : goal.returns-clause-proposers
returns-clause-proposers c =
    let inside = c.self.inside in
    let goals = c.args.goals.now.pursuit.goals in
    let candidates = c.in_ok-self-inside.field-0 in
    let are = subst (λ (t : Text). AreAsked t c.args.time goals candidates) c.text.ensures c.in_ok-self-inside.ensures in
    subst (λ (r : RoundState). AreProposers r.text c.args.time goals (proposers_of candidates)) c.self.view_is (asked_proposers inside.theory c.args.time goals candidates are)
