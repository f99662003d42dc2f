use Rattle.std.proofs.Common.{List, [], ◌∷◌, ◌≡◌, ◌∙◌, ◌++◌, ap, map, sym, subst, take}
use Rattle.std.specs.Prelude.{Contains, MatchOption}
use Rattle.lps_terms.specs.declared.atom.Atom.{Atom}
use Rattle.lps_model.specs.declared.cycle.Group.{Group}
use Rattle.lps_model.specs.declared.cycle.Pick.{Pick}
use Rattle.lps_facts.specs.Facts.{members}
use Rattle.lps_causal.specs.Names.{AreEvents}
use Rattle.lps_choice.specs.Choices.{Admits, pick_of}
use Rattle.lps_precond.specs.Judged.{IsJudged}
use Rattle.lps_trial.specs.Trial.{InState, TrialState}
use Rattle.lps_cycle.specs.declared.candidates.Candidate.{Candidate}
use Rattle.lps_cycle.specs.Candidates.{Proposer, groups_of, proposers_of, with_picks}
use Rattle.lps_cycle.specs.Round.{IsRound, RoundState, Setting, choice_in, setting_of}
use Rattle.lps_cycle.proofs.Rounds.{made_longer, pending_at, picked_round, proposed_may, same_admitted, same_proposers, tried_events}
use Rattle.lps_cycle.proofs.round.RoundWorld.take.Goals as goal

pub try_events-requires-clause-events : goal.try_events-requires-clause-events
try_events-requires-clause-events c =
    let inside = c.self.inside in
    let group = c.args.group.now in
    let at = subst (λ (r : RoundState). Contains (groups_of r.proposers c.args.goal.0) group) (sym c.self.view_is) c.requires.proposed in
    subst (AreEvents inside.theory) (sym c.as_slice.ensures) (proposed_may inside.theory inside.candidates c.self.invariant.may c.args.goal.0 group at)

pub pick-requires : goal.pick-requires
pick-requires c = pending_at c.self.inside.candidates c.args.goal.0 (subst (λ (r : RoundState). Contains (map (λ (p : Proposer). p.goal) r.proposers) c.args.goal.0) (sym c.self.view_is) c.requires.pending)

-- the events of the group happen, since they were admitted
more : (c : goal.After-pick) → c.try_events.new.self.events ≡ c.self.inside.trial.events ++ c.args.group.now.atoms
more c =
    let inside = c.self.inside in
    let text = inside.theory in
    let trial : TrialState = inside.trial in
    let later : TrialState = c.try_events.new.self in
    let group : Group = c.args.group.now in
    let picks = inside.picks.items in
    let found = c.in-Ok.field-0 in
    let setting : Setting = record { text = text; facts = members trial.state; admitted = take inside.admitted trial.events; proposers = proposers_of inside.candidates } in
    let admits = subst (λ (r : RoundState). Admits (choice_in (setting_of r)) r.picks group) (sym c.self.view_is) c.requires.admitted in
    let judged = subst (λ (atoms : List Atom). InState text (members trial.state) (λ level trace. IsJudged text level trace (trial.events ++ atoms) found)) c.as_slice.ensures c.in-Ok.ensures.judged in
    let longer = subst (λ (atoms : List Atom). MatchOption found (later.events ≡ trial.events ++ atoms) (λ k. later ≡ trial)) c.as_slice.ensures c.in-Ok.ensures.events in
    made_longer setting picks group admits trial later (tried_events text trial inside.admitted inside.candidates picks inside.start c.self.invariant group.atoms) found judged longer

pub invariant_of-self-in-Ok : goal.invariant_of-self-in-Ok
invariant_of-self-in-Ok c =
    let inside = c.self.inside in
    let goal = c.args.goal.0 in
    let picks = inside.picks.items in
    let later : TrialState = c.try_events.new.self in
    let made = picked_round inside.theory inside.trial later inside.admitted inside.candidates picks inside.start c.self.invariant goal c.args.group.now (more c) c.in-Ok.ensures.trial c.in-Ok.ensures.longer in
    let pushed = c.in_ok-push.ensures.items ∙ ap (λ (group : Group). picks ++ pick_of goal group ∷ []) c.in_ok-copy_group.ensures in
    subst (λ (cs : List Candidate). IsRound inside.theory later inside.admitted cs c.push.new.self.items inside.start) (sym c.pick.ensures)
    (subst (λ (all : List Pick). IsRound inside.theory later inside.admitted (with_picks goal inside.candidates) all inside.start) (sym pushed) made)

pub returns-in-Ok-clause-fixed : goal.returns-in-Ok-clause-fixed
returns-in-Ok-clause-fixed c =
    let inside = c.self.inside in
    let goal = c.args.goal.0 in
    let admitted = same_admitted inside.theory inside.trial c.try_events.new.self inside.admitted inside.candidates inside.picks.items inside.start c.self.invariant goal c.args.group.now (more c) in
    let proposers = ap proposers_of c.pick.ensures ∙ same_proposers goal inside.candidates in
    let same : setting_of (record { text = inside.theory; facts = members c.try_events.new.self.state; events = c.try_events.new.self.events; next = members c.try_events.new.self.next; picks = c.push.new.self.items; admitted = take inside.admitted c.try_events.new.self.events; proposers = proposers_of c.pick.new.self })
    ≡ setting_of (record { text = inside.theory; facts = members inside.trial.state; events = inside.trial.events; next = members inside.trial.next; picks = inside.picks.items; admitted = take inside.admitted inside.trial.events; proposers = proposers_of inside.candidates }) =
    λ i. record { text = inside.theory; facts = members (c.in-Ok.ensures.longer.state i); admitted = admitted i; proposers = proposers i } in
    same ∙ ap setting_of c.self.view_is
