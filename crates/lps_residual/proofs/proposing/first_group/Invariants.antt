use Rattle.std.proofs.Common.{◌≡◌, ◌++◌, None, drop}
use Rattle.std.specs.Prelude.{option_copied}
use Rattle.lps_residual.specs.Proposing.{group_after}
use Rattle.lps_residual.proofs.proposing.first_group.Given as goal

-- the atoms so far and those of the items left are all
abbrev pub invariant-loop-left : goal.invariant-loop-left
invariant-loop-left l = l.atoms.items ++ group_after l.text (option_copied l.before) (drop l.left-index l.rest) ≡ group_after l.text None l.rest
