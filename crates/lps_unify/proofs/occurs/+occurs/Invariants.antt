use Rattle.std.proofs.Common.{◌≡◌, ◌+◌, ◌*◌, sum_by, take}
use Rattle.lps_unify.specs.Weights.{occurrences, size}
use Rattle.lps_unify.specs.Bindings.{resolved, standing}
use Rattle.lps_unify.specs.Unified.{AreWithout}
use Rattle.lps_unify.proofs.occurs.+occurs.Given as goal

abbrev pub decreases-occurs_in : goal.decreases-occurs_in
decreases-occurs_in l = 2 * size (standing l.bindings.now).rank l.term.now + 1

abbrev pub decreases-occurs_in_variable : goal.decreases-occurs_in_variable
decreases-occurs_in_variable l = 2 * (standing l.bindings.now).rank l.other

-- the variable stands in no argument so far
abbrev pub invariant-occurs_in-loop-arg : goal.invariant-occurs_in-loop-arg
invariant-occurs_in-loop-arg l = record {
  absent : sum_by (λ x. occurrences l.variable (resolved l.bindings x)) (take l.arg-index l.arg-items) ≡ 0;
  seen : AreWithout l.bindings l.variable l.seen;
}
