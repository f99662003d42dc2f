use Rattle.std.proofs.Common.{◌≡◌, ◌++◌}
use Rattle.lps_seq.proofs.found.Found.stepped.Given as goal

-- the carries so far, and those that are left
abbrev pub invariant-loop-each : goal.invariant-loop-each
invariant-loop-each l = l.carries.items ++ l.each-iterator ≡ l.fn.self.ended.keys
