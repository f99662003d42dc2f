use Rattle.std.proofs.Common.{◌≡◌, ◌++◌, true, drop}
use Rattle.lps_facts.specs.Beginning.{least_of}
use Rattle.lps_facts.proofs.beginning.least_args.Given as goal

-- the terms so far, and those of the patterns that are left
abbrev pub invariant-loop-pattern : goal.invariant-loop-pattern
invariant-loop-pattern l = l.least.items ++ least_of l.fixed (drop l.pattern-index l.patterns) ≡ least_of true l.patterns
