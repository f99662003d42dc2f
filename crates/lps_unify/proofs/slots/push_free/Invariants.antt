use Rattle.std.proofs.Common.{◌≡◌, ◌++◌}
use Rattle.lps_unify.specs.Slots.{free_slots}
use Rattle.lps_unify.proofs.slots.push_free.Given as goal

-- so many slots were added
abbrev pub invariant-loop-i : goal.invariant-loop-i
invariant-loop-i l = l.slots.items ≡ l.fn.slots.items ++ free_slots l._i
