use Rattle.std.proofs.Common.{map, sym, subst}
use Rattle.std.specs.Prelude.{Contains}
use Rattle.lps_cycle.specs.Candidates.{Proposer}
use Rattle.lps_cycle.specs.Round.{RoundState}
use Rattle.lps_cycle.proofs.Rounds.{pending_at}
use Rattle.lps_cycle.proofs.round.RoundWorld.proposals.Goals as goal

pub proposals-requires : goal.proposals-requires
proposals-requires c = pending_at c.self.inside.candidates c.args.goal.0 (subst (λ (r : RoundState). Contains (map (λ (p : Proposer). p.goal) r.proposers) c.args.goal.0) (sym c.self.view_is) c.requires)
