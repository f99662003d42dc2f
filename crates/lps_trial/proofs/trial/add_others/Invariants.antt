use Rattle.std.proofs.Common.{◌≡◌, ◌++◌, not, drop}
use Rattle.std.specs.List.{filter}
use Rattle.lps_facts.specs.Facts.{is_among, members}
use Rattle.lps_trial.proofs.trial.add_others.Given as goal

-- what was kept so far, and what will be kept of the rest
abbrev pub invariant-loop-fluent : goal.invariant-loop-fluent
invariant-loop-fluent l =
    l.kept.items ++ filter (λ a. not (is_among (members l.these) a)) (drop l.fluent-index l.fluents) ≡ l.fn.kept.items ++ filter (λ a. not (is_among (members l.these) a)) l.fluents
