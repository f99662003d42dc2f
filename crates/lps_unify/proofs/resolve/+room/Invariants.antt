use Rattle.std.proofs.Common.{◌≡◌, ◌+◌, ◌*◌, sum_by, take}
use Rattle.lps_terms.specs.Symbols.{symbols_of}
use Rattle.lps_unify.specs.Weights.{size}
use Rattle.lps_unify.specs.Bindings.{resolved, standing}
use Rattle.lps_unify.proofs.resolve.+room.Given as goal

abbrev pub decreases-room_after : goal.decreases-room_after
decreases-room_after l = 2 * size (standing l.bindings.now).rank l.term.now + 1

abbrev pub decreases-room_after_variable : goal.decreases-room_after_variable
decreases-room_after_variable l = 2 * (standing l.bindings.now).rank l.variable

abbrev pub invariant-room_after-loop-arg : goal.invariant-room_after-loop-arg
invariant-room_after-loop-arg l = 1 + (l.left + sum_by (λ x. symbols_of (resolved l.bindings x)) (take l.arg-index l.arg-items)) ≡ l.room
