use Rattle.std.proofs.Common.{Bool, List, ◌≡◌, ◌∙◌, ◌++◌, ap, sym, subst, take}
use Rattle.std.specs.Prelude.{Contains}
use Rattle.std.specs.Option.{is_some}
use Rattle.std.specs.List.Sorted.{IsStrictlySortedBy}
use Rattle.lps_terms.specs.declared.atom.Atom.{Atom}
use Rattle.lps_terms.specs.Order.{atom_cmp}
use Rattle.lps_facts.specs.Facts.{members}
use Rattle.lps_causal.specs.Names.{AreEvents}
use Rattle.lps_choice.specs.Choices.{Answers}
use Rattle.lps_trial.specs.Trial.{Moment, TrialState, back_at}
use Rattle.lps_trial.proofs.Trials.{taken_back}
use Rattle.lps_cycle.specs.Candidates.{groups_of, proposers_of}
use Rattle.lps_cycle.specs.Round.{IsRound, RoundState, Setting, choice_in, setting_of}
use Rattle.lps_cycle.proofs.Rounds.{answered, proposed_may, tried_events, turned}
use Rattle.lps_cycle.proofs.round.RoundWorld.admits.Goals as goal

pub try_events-requires-clause-events : goal.try_events-requires-clause-events
try_events-requires-clause-events c =
    let inside = c.self.inside in
    let group = c.args.group.now in
    let at = subst (λ (r : RoundState). Contains (groups_of r.proposers c.requires.0) group) (sym c.self.view_is) c.requires.2 in
    subst (AreEvents inside.theory) (sym c.as_slice.ensures) (proposed_may inside.theory inside.candidates c.self.invariant.may c.requires.0 group at)

pub invariant_of-self-2 : goal.invariant_of-self-2
invariant_of-self-2 c =
    let inside = c.self.inside in
    let back : c.undo_to.new.self ≡ inside.trial = c.undo_to.ensures ∙ ap (λ (m : Moment). back_at m c.try_events.new.self) c.mark-mark.ensures ∙ taken_back inside.trial c.try_events.new.self c.in_ok-denial.ensures.longer in
    subst (λ (t : TrialState). IsRound inside.theory t inside.admitted inside.candidates inside.picks.items inside.start) (sym back) c.self.invariant

pub returns-clause-answer : goal.returns-clause-answer
returns-clause-answer c =
    let inside = c.self.inside in
    let text = inside.theory in
    let trial = inside.trial in
    let group = c.args.group.now in
    let facts = members trial.state in
    let picks = inside.picks.items in
    let back : c.undo_to.new.self ≡ trial = c.undo_to.ensures ∙ ap (λ (m : Moment). back_at m c.try_events.new.self) c.mark-mark.ensures ∙ taken_back trial c.try_events.new.self c.in_ok-denial.ensures.longer in
    let sorted : IsStrictlySortedBy atom_cmp facts = subst (λ (t : TrialState). IsStrictlySortedBy atom_cmp (members t.state)) back c.lawful.ensures.sorted in
    let setting : Setting = record { text = text; facts = facts; admitted = take inside.admitted trial.events; proposers = proposers_of inside.candidates } in
    let are = ap (λ (atoms : List Atom). trial.events ++ atoms) c.as_slice.ensures ∙ tried_events text trial inside.admitted inside.candidates picks inside.start c.self.invariant group.atoms in
    let answer = answered setting picks group c.lawful.ensures.accepted c.lawful.ensures.formed sorted (trial.events ++ c.as_slice.result.now) are c.in_ok-denial.denial c.in_ok-denial.ensures.judged in
    subst (λ (r : RoundState). Answers (choice_in (setting_of r)) r.picks group c.is_none.result) c.self.view_is
    (subst (λ (flag : Bool). Answers (choice_in setting) picks group flag) (turned c.is_none.result (is_some c.in_ok-denial.denial) (sym c.is_none.ensures)) answer)
