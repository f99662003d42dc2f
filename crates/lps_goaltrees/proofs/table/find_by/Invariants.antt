use Rattle.std.proofs.Common.{ℕ, take}
use Rattle.std.specs.Prelude.{Contains}
use Rattle.lps_residual.specs.declared.waking.Wake.{Wake}
use Rattle.lps_goaltrees.specs.Slots.{IsWoken}
use Rattle.lps_goaltrees.proofs.table.find_by.Given as goal

-- by the first wakes the goal is found
abbrev pub invariant-loop-wake : goal.invariant-loop-wake
invariant-loop-wake l = record {
  found : (w : Wake) → Contains (take l.wake-index l.wake-items) w → IsWoken l.table w l.goal.goal.0;
  others : (w : Wake) (n : ℕ) → IsWoken l.fn.table w n → IsWoken l.table w n;
}
