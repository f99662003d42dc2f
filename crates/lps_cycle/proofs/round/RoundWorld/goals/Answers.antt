use Rattle.std.proofs.Common.{map, ◌∙◌, ap, sym, subst}
use Rattle.std.specs.List.Sorted.{IsStrictlySortedBy}
use Rattle.std.specs.Ordering.{nat_cmp}
use Rattle.lps_cycle.specs.Candidates.{Proposer}
use Rattle.lps_cycle.specs.Round.{RoundState}
use Rattle.lps_cycle.proofs.Rounds.{proposing}
use Rattle.lps_cycle.proofs.round.RoundWorld.goals.Goals as goal

pub returns-clause-numbers : goal.returns-clause-numbers
returns-clause-numbers c =
    c.goals.ensures.goals ∙ sym (proposing c.self.inside.candidates) ∙ ap (λ (r : RoundState). map (λ (p : Proposer). p.goal) r.proposers) c.self.view_is

pub returns-clause-rising : goal.returns-clause-rising
returns-clause-rising c =
    subst (λ (r : RoundState). IsStrictlySortedBy nat_cmp (map (λ (p : Proposer). p.goal) r.proposers)) c.self.view_is
    (subst (IsStrictlySortedBy nat_cmp) (sym (proposing c.self.inside.candidates)) c.goals.ensures.rising)
