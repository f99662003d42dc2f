use Rattle.std.proofs.Common.{◌≡◌, ◌++◌, map, drop, false}
use Rattle.std.specs.Prelude.{codes}
use Rattle.lps_printer.specs.Terms.{atom_text}
use Rattle.lps_printer.specs.Terms.{joined, listed}
use Rattle.lps_printer.proofs.statements.append_atoms.Given as goal

-- what is written, and the elements that are left
abbrev pub invariant-loop-atom : goal.invariant-loop-atom
invariant-loop-atom l = l.out.items ++ joined (codes ", ") l.later (map (atom_text l.names) (drop l.atom-index l.atoms)) ≡ l.fn.out.items ++ listed (map (atom_text l.names) l.atoms)
