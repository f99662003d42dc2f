use Rattle.std.proofs.Common.{◌≡◌, drop}
use Rattle.lps_order.specs.Walking.{begin_of}
use Rattle.lps_order.proofs.sequence.begin_of.Given as goal

-- no step has begun so far
abbrev pub invariant-loop-item : goal.invariant-loop-item
invariant-loop-item l = begin_of (drop l.item-index l.items) ≡ begin_of l.items
