use Rattle.std.proofs.Common.{take}
use Rattle.lps_antecedents.specs.Buckets.{AreSwitched, slots_of}
use Rattle.lps_antecedents.proofs.buckets.switch_all.Given as goal

-- the buckets of the wakes so far are switched
abbrev pub invariant-loop-wake : goal.invariant-loop-wake
invariant-loop-wake l = AreSwitched l.on (take l.wake-index l.wakes) (slots_of l.fn.by_wake) (slots_of l.by_wake)
