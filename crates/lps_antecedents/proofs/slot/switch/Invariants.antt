use Rattle.std.proofs.Common.{◌≡◌}
use Rattle.lps_antecedents.specs.Slots.{switched}
use Rattle.lps_antecedents.proofs.Parts.{part}
use Rattle.lps_antecedents.proofs.slot.switch.Given as goal

-- the slots so far are switched
abbrev pub invariant-loop-place : goal.invariant-loop-place
invariant-loop-place l = l.slots.items ≡ part (switched l.on) l.place l.fn.slots.items
