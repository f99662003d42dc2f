use Rattle.std.proofs.Common.{◌≡◌, ◌++◌, map, drop, false}
use Rattle.std.specs.Prelude.{codes}
use Rattle.lps_printer.specs.Items.{items_text}
use Rattle.lps_printer.specs.Terms.{joined}
use Rattle.lps_printer.proofs.statements.append_alternatives.Given as goal

-- what is written, and the elements that are left
abbrev pub invariant-loop-items : goal.invariant-loop-items
invariant-loop-items l = l.out.items ++ joined (codes " or ") l.later (map (items_text l.names l.times) (drop l.items-index l.alternatives)) ≡ l.fn.out.items ++ joined (codes " or ") false (map (items_text l.names l.times) l.alternatives)
