use Rattle.lps_levels.proofs.Judging.{lower_is_on_no_cycle}
use Rattle.lps_levels.proofs.judge.strict_cycle_of.Goals as goal

pub returns-then-levels-edge : goal.returns-then-levels-edge
returns-then-levels-edge c = λ strict. lower_is_on_no_cycle _ _ _ c.requires.graph c.requires.no_higher c.args.edge c.requires.in_names c.if-levels-edge.true
