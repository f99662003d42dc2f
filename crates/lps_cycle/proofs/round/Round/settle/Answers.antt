use Rattle.std.proofs.Common.{◌∙◌, ap, subst, sym}
use Rattle.std.specs.Prelude.{IsTrue}
use Rattle.std.specs.List.Sorted.{IsStrictlySortedBy}
use Rattle.lps_terms.specs.Order.{atom_cmp}
use Rattle.lps_model.specs.Acceptance.{IsAccepted}
use Rattle.lps_model.specs.Formed.{is_formed}
use Rattle.lps_facts.specs.Facts.{members}
use Rattle.lps_causal.proofs.Merging.{is_update}
use Rattle.lps_cycle.specs.Round.{RoundState}
use Rattle.lps_cycle.proofs.Rounds.{same_update}
use Rattle.lps_cycle.proofs.round.Round.settle.Goals as goal

pub returns-clause-facts : goal.returns-clause-facts
returns-clause-facts c =
    let inside = c.self.inside in
    let text = inside.theory in
    let trial = inside.trial in
    let grown = c.self.invariant.is.grown in
    let accepted = subst (λ (r : RoundState). IsAccepted r.text) (sym c.self.view_is) c.lawful.ensures.accepted in
    let formed = subst (λ (r : RoundState). IsTrue (is_formed r.text)) (sym c.self.view_is) c.lawful.ensures.formed in
    let sorted = subst (λ (r : RoundState). IsStrictlySortedBy atom_cmp r.facts) (sym c.self.view_is) c.lawful.ensures.sorted in
    same_update text accepted formed (members trial.state) sorted trial.events (members c.update.new.self.state) (members trial.next) c.in_ok-update.ensures.next
    (is_update text (members trial.state) trial.events (members trial.next) grown.next_fluents grown.next_is)
    ∙ ap (λ (r : RoundState). r.next) c.self.view_is
