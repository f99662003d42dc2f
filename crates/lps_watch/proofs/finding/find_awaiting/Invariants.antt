use Rattle.std.specs.Prelude.{Some}
use Rattle.lps_watch.proofs.Along.{Awaits}
use Rattle.lps_watch.proofs.Walks.{MayStop, Walked}
use Rattle.lps_watch.proofs.finding.find_awaiting.Given as goal

-- what is found so far, and what is left
abbrev pub invariant-loop-wake : goal.invariant-loop-wake
invariant-loop-wake l = Walked (λ w. w) (Awaits (Some l.fn.awaited)) l.wakes.keys l.fn.found.keys l.wake-iterator l.found.keys × MayStop (Awaits (Some l.fn.awaited)) l.wake-iterator
