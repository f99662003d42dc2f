use Rattle.std.proofs.Common.{◌≡◌, take}
use Rattle.lps_sizes.specs.Sizes.{atoms_size, limited}
use Rattle.lps_sizes.proofs.atoms.atoms_symbols.Given as goal

-- the symbols of the atoms so far
abbrev pub invariant-loop-atom : goal.invariant-loop-atom
invariant-loop-atom l = l.count ≡ limited (atoms_size (take l.atom-index l.atoms))
