use Rattle.std.proofs.Common.{take}
use Rattle.lps_causal.specs.Names.{AreEvents}
use Rattle.lps_tests_cycles.proofs.program.are_events.Given as goal

-- the atoms so far are events
abbrev pub invariant-loop-atom : goal.invariant-loop-atom
invariant-loop-atom l = AreEvents l.text (take l.atom-index l.atoms)
