use Rattle.std.proofs.Common.{◌≡◌, ◌++◌, None, drop}
use Rattle.std.specs.Prelude.{option_copied}
use Rattle.lps_windows.specs.Conditions.{order_conditions}
use Rattle.lps_residual.proofs.conditions.in_order.Given as goal

-- the conditions so far and those of the items left are all
abbrev pub invariant-loop-left : goal.invariant-loop-left
invariant-loop-left l = l.conditions.items ++ order_conditions l.text l.before (option_copied l.last) (drop l.left-index l.rest) ≡ order_conditions l.text None None l.rest
