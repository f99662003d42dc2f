use Rattle.std.proofs.Common.{ℕ, take}
use Rattle.std.specs.Prelude.{Contains}
use Rattle.lps_residual.specs.declared.waking.Wake.{Wake}
use Rattle.lps_goaltrees.specs.Slots.{IsListed}
use Rattle.lps_goaltrees.proofs.table.goals_of.Given as goal

-- the goals of the first wakes are found
abbrev pub invariant-loop-wake : goal.invariant-loop-wake
invariant-loop-wake l = (w : Wake) (n : ℕ) → Contains (take l.wake-index l.wakes) w → IsListed l.goals w n → Contains l.found.keys n
