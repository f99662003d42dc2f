use Rattle.std.proofs.Common.{Bool, map, sym, subst}
use Rattle.std.specs.Prelude.{◌↔◌, Contains, IsTrue}
use Rattle.lps_choice.specs.Choices.{goals_of}
use Rattle.lps_cycle.specs.Candidates.{Proposer}
use Rattle.lps_cycle.specs.Round.{RoundState}
use Rattle.lps_cycle.proofs.Rounds.{noted_so, pending_at}
use Rattle.lps_cycle.proofs.round.RoundWorld.picked.Goals as goal

pub is_picked-requires : goal.is_picked-requires
is_picked-requires c = pending_at c.self.inside.candidates c.args.goal.0 (subst (λ (r : RoundState). Contains (map (λ (p : Proposer). p.goal) r.proposers) c.args.goal.0) (sym c.self.view_is) c.requires)

pub returns : goal.returns
returns c =
    let candidates = c.self.inside.candidates in
    let goal = c.args.goal.0 in
    let picks = c.self.inside.picks.items in
    let at = pending_at candidates goal (subst (λ (r : RoundState). Contains (map (λ (p : Proposer). p.goal) r.proposers) goal) (sym c.self.view_is) c.requires) in
    subst (λ (r : RoundState). IsTrue c.is_picked.result ↔ Contains (goals_of r.picks) goal) c.self.view_is
    (subst (λ (flag : Bool). IsTrue flag ↔ Contains (goals_of picks) goal) (sym c.is_picked.ensures) (noted_so candidates picks c.self.invariant.noted goal at))
