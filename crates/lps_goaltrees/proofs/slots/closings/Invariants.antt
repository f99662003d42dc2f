use Rattle.std.proofs.Common.{◌≡◌, ◌++◌}
use Rattle.std.specs.List.{filter_map}
use Rattle.lps_goaltrees.specs.Slots.{closing_at}
use Rattle.lps_goaltrees.proofs.slots.closings.Given as goal

-- those so far, with those of what is left, are all
abbrev pub invariant-loop-number : goal.invariant-loop-number
invariant-loop-number l = l.closed.items ++ filter_map (closing_at l.slots) l.number-iterator ≡ filter_map (closing_at l.slots) l.changed.keys
