use Rattle.std.proofs.Common.{◌≡◌, take}
use Rattle.lps_meaning.proofs.copy.copy_atoms.Given as goal

-- the copies are the first of these
abbrev pub invariant-loop-atom : goal.invariant-loop-atom
invariant-loop-atom l = l.copies.items ≡ take l.atom-index l.atoms
