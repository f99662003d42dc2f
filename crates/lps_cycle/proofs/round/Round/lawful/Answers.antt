use Rattle.std.proofs.Common.{subst}
use Rattle.lps_facts.specs.Facts.{members}
use Rattle.lps_causal.specs.Next.{IsUpdate}
use Rattle.lps_causal.proofs.Merging.{is_update}
use Rattle.lps_cycle.specs.Round.{RoundState}
use Rattle.lps_cycle.proofs.round.Round.lawful.Goals as goal

pub returns-clause-next : goal.returns-clause-next
returns-clause-next c =
    let inside = c.self.inside in
    let grown = c.self.invariant.is.grown in
    subst (λ (r : RoundState). IsUpdate r.text r.facts r.events r.next) c.self.view_is
    (is_update inside.theory (members inside.trial.state) inside.trial.events (members inside.trial.next) grown.next_fluents grown.next_is)
