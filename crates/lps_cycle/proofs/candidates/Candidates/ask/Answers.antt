use Rattle.std.proofs.Common.{◌∙◌, List, ap, map, sym, subst}
use Rattle.lps_cycle.specs.declared.candidates.Candidate.{Candidate}
use Rattle.lps_cycle.specs.Candidates.{AreAsked}
use Rattle.lps_cycle.proofs.RoundsAsked.{asked_rise, asked_unpicked}
use Rattle.lps_cycle.proofs.candidates.Candidates.ask.Goals as goal

pub invariant_of-result : goal.invariant_of-result
invariant_of-result c =
    let goals = c.args.goals.now.pursuit.goals in
    let are = subst (AreAsked c.args.text.now c.args.time goals) (sym c.in_ok-candidates.ensures) (asked_unpicked c.args.text.now c.args.time goals _ c.in_ok-ask.ensures) in (
      c.in_ok-goals.ensures ∙ ap (map (λ (candidate : Candidate). candidate.goal)) c.as_slice.ensures.value,
      asked_rise c.args.text.now c.args.time goals c.in_ok-candidates.candidates.items are c.requires.rising,
    )

pub returns : goal.returns
returns c =
    let goals = c.args.goals.now.pursuit.goals in
    subst (AreAsked c.args.text.now c.args.time goals) (sym c.in_ok-candidates.ensures) (asked_unpicked c.args.text.now c.args.time goals _ c.in_ok-ask.ensures)
