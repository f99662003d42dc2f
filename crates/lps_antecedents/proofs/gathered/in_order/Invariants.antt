use Rattle.std.proofs.Common.{◌≡◌, ◌++◌}
use Rattle.lps_antecedents.proofs.gathered.in_order.Given as goal

-- the keys so far, and those that are left
abbrev pub invariant-loop-keyed : goal.invariant-loop-keyed
invariant-loop-keyed l = l.list.items ++ l.keyed-iterator ≡ l.fn.keys.keys
