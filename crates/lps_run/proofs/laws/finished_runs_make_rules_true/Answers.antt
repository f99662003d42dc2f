use Rattle.std.proofs.Common.{ap}
use Rattle.lps_meaning.specs.declared.goal.Counts.{Counts}
use Rattle.lps_run.proofs.laws.finished_runs_make_rules_true.Goals as goal

pub returns : goal.returns
returns c = record {
  rules = λ text stream start printed source done level levels.
      let whole = done.reported level levels in
      let counts = whole.0.are_counts in
      let none = whole.1 in
      c.rule_law.ensures text level _ done.trace whole.0.counts counts (ap (λ (n : Counts). n.pending) none) (ap (λ (n : Counts). n.failed) none) (ap (λ (n : Counts). n.cut) none);
}
