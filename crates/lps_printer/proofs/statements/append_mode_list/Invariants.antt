use Rattle.std.proofs.Common.{◌≡◌, ◌++◌, map, drop, false}
use Rattle.std.specs.Prelude.{codes}
use Rattle.lps_printer.specs.Statements.{mode_text}
use Rattle.lps_printer.specs.Terms.{joined, listed}
use Rattle.lps_printer.proofs.statements.append_mode_list.Given as goal

-- what is written, and the elements that are left
abbrev pub invariant-loop-mode : goal.invariant-loop-mode
invariant-loop-mode l = l.out.items ++ joined (codes ", ") l.later (map mode_text (drop l.mode-index l.modes)) ≡ l.fn.out.items ++ listed (map mode_text l.modes)
