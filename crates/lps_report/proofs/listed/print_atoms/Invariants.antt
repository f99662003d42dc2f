use Rattle.std.proofs.Common.{◌≡◌, ◌++◌, drop, map}
use Rattle.std.specs.Prelude.{codes, false}
use Rattle.lps_terms.specs.Printed.{atom_text}
use Rattle.lps_report.specs.Listed.{led_from}
use Rattle.lps_report.proofs.listed.print_atoms.Given as goal

-- what is printed, and the texts of what is left
abbrev pub invariant-loop-atom : goal.invariant-loop-atom
invariant-loop-atom l = l.out.items ++ led_from (codes "") l.later (map atom_text (drop l.atom-index l.atoms)) ≡ l.fn.out.items ++ led_from (codes "") false (map atom_text l.atoms)
