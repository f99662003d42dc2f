use Rattle.std.proofs.Common.{ℕ, ◌≡◌}
use Rattle.std.specs.Prelude.{◌⊎◌, Contains}
use Rattle.lps_residual.specs.declared.waking.Wake.{Wake}
use Rattle.lps_goaltrees.specs.Slots.{IsWoken}
use Rattle.lps_goaltrees.proofs.slots.forget.Given as goal

-- what has to stay is found so far
abbrev pub invariant-loop-wake : goal.invariant-loop-wake
invariant-loop-wake l = (w : Wake) (n : ℕ) → IsWoken l.fn.table w n → (n ≡ l.number → Contains l.before w ⊎ Contains l.now w) → IsWoken l.table w n
