use Rattle.std.proofs.Common.{◌≡◌, take}
use Rattle.lps_choice.proofs.copy.copy_group.Given as goal

-- the copies are the first of these
abbrev pub invariant-loop-atom : goal.invariant-loop-atom
invariant-loop-atom l = l.atoms.items ≡ take l.atom-index l.group.atoms
