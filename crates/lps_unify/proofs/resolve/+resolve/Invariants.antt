use Rattle.std.proofs.Common.{◌≡◌, ◌+◌, ◌*◌, map, take}
use Rattle.lps_unify.specs.Weights.{size}
use Rattle.lps_unify.specs.Bindings.{resolved, standing}
use Rattle.lps_unify.proofs.resolve.+resolve.Given as goal

abbrev pub decreases-resolve_term : goal.decreases-resolve_term
decreases-resolve_term l = 2 * size (standing l.bindings.now).rank l.term.now + 1

abbrev pub decreases-resolve_variable : goal.decreases-resolve_variable
decreases-resolve_variable l = 2 * (standing l.bindings.now).rank l.variable

abbrev pub invariant-resolve_term-loop-arg : goal.invariant-resolve_term-loop-arg
invariant-resolve_term-loop-arg l = l.copies.items ≡ map (resolved l.bindings) (take l.arg-index l.arg-items)
