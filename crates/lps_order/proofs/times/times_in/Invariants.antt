use Rattle.std.proofs.Common.{◌≡◌, [], drop}
use Rattle.lps_order.specs.Walking.{noted_in}
use Rattle.lps_order.proofs.times.times_in.Given as goal

-- the times so far, with those that are left, are all
abbrev pub invariant-loop-item : goal.invariant-loop-item
invariant-loop-item l = noted_in l.times.items (drop l.item-index l.items) ≡ noted_in [] l.items
