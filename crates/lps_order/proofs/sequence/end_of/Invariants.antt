use Rattle.std.proofs.Common.{◌≡◌, None, drop}
use Rattle.lps_order.specs.Walking.{ends_after}
use Rattle.lps_order.proofs.sequence.end_of.Given as goal

-- the last end so far, and what is left, give the last of all
abbrev pub invariant-loop-item : goal.invariant-loop-item
invariant-loop-item l = ends_after l.end (drop l.item-index l.items) ≡ ends_after None l.items
