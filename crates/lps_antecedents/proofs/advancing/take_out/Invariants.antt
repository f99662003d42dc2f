use Rattle.std.proofs.Common.{◌≡◌}
use Rattle.lps_antecedents.proofs.advancing.take_out.Given as goal

abbrev pub invariant-loop-place : goal.invariant-loop-place
invariant-loop-place l = l.nodes.items ≡ l.fn.nodes.items
