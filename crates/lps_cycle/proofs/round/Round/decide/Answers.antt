use Rattle.std.proofs.Common.{List, [], ◌≡◌, ◌∙◌, subst, sym}
use Rattle.std.specs.Prelude.{IsTrue}
use Rattle.lps_terms.specs.declared.atom.Atom.{Atom}
use Rattle.lps_terms.specs.declared.text.Text.{Text}
use Rattle.lps_model.specs.declared.cycle.Pick.{Pick}
use Rattle.lps_model.specs.Acceptance.{IsAccepted}
use Rattle.lps_model.specs.Formed.{is_formed}
use Rattle.lps_model.specs.Trace.{admitted}
use Rattle.lps_causal.specs.Names.{AreFluents}
use Rattle.lps_choice.specs.Choices.{ArePicks, IsSettled}
use Rattle.lps_choice.specs.Passes.{ArePlain}
use Rattle.lps_goaltrees.specs.declared.goal.Goal.{Goal}
use Rattle.lps_cycle.specs.Round.{AreProposers, RoundState, Setting, choice_in, setting_of}
use Rattle.lps_cycle.proofs.RoundsDecided.{all_legal, is_choice}
use Rattle.lps_cycle.proofs.round.Round.decide.Goals as goal

pub returns-clause-decided : goal.returns-clause-decided
returns-clause-decided c = λ pursuit goals_are level levels trace state count stands.
    let before : RoundState = c.args.self.now in
    let asked : RoundState = c.ask.new.self in
    let picks : List Pick = c.choose.new.world.picks in
    let prefer = c.args.prefer in
    let judged = c.in_ok-verdicts.ensures in
    let same = c.in_ok-ask.ensures.same in
    let chosen = c.in_ok-choose.ensures in
    let events : List Atom = admitted c.args.events.now c.in_ok-verdicts.verdicts in
    let setting : Setting = record { text = before.text; facts = before.facts; admitted = events; proposers = asked.proposers } in
    let text_is = same.text ∙ judged.text in
    let facts_is = same.facts ∙ judged.facts in
    let events_are = same.admitted ∙ judged.admitted.kept_are in
    let none : asked.picks ≡ [] = same.picks ∙ judged.picks in
    let is : setting_of asked ≡ setting = λ i. record { text = text_is i; facts = facts_is i; admitted = events_are i; proposers = asked.proposers } in
    let accepted = subst (λ (s : Setting). IsAccepted s.text) (chosen.fixed ∙ is) c.lawful.ensures.accepted in
    let formed = subst (λ (s : Setting). IsTrue (is_formed s.text)) (chosen.fixed ∙ is) c.lawful.ensures.formed in
    let fluents = subst (λ (s : Setting). AreFluents s.text s.facts) (chosen.fixed ∙ is) c.lawful.ensures.facts in
    let now = subst (λ (t : Text). AreProposers t c.args.time c.args.goals.now.pursuit.goals asked.proposers) judged.text c.in_ok-ask.ensures.proposers in
    let then_goals = subst (λ (goals : List Goal). AreProposers before.text c.args.time goals asked.proposers) (sym goals_are) now in
    let are = subst (λ n. AreProposers before.text n pursuit.goals asked.proposers) (sym count) then_goals in
    let choice = is_choice c.offer_law.ensures before.text accepted formed before.facts fluents level levels trace state 100 pursuit stands asked.proposers are events in
    let legal = subst (λ (s : Setting). ArePicks (choice_in s) [] picks) is (all_legal (choice_in (setting_of asked)) asked.picks picks none chosen.legal) in
    let settled = subst (λ (s : Setting). IsSettled (choice_in s) picks) is chosen.settled in
    let plain = subst (λ (s : Setting). ArePlain (choice_in s) prefer [] picks) is (subst (λ (made : List Pick). ArePlain (choice_in (setting_of asked)) prefer made picks) none chosen.chosen) in
    record {
      judged = judged.admitted.judged level levels trace state;
      picks = (c.choice_law.ensures.picks before.text level 100 trace stands.keys events setting choice picks).0 legal;
      no_more = (c.choice_law.ensures.settled before.text level 100 trace stands.keys events setting choice picks).0 settled;
      passes = c.choice_law.ensures.plain before.text level 100 trace stands.keys events setting choice prefer picks plain;
    }
