use Rattle.std.proofs.Common.{◌≡◌, ◌++◌, map, drop, false}
use Rattle.std.specs.Prelude.{codes}
use Rattle.lps_printer.specs.Items.{item_text}
use Rattle.lps_printer.specs.Terms.{joined, listed}
use Rattle.lps_printer.proofs.items.append_items.Given as goal

-- what is written, and the elements that are left
abbrev pub invariant-loop-item : goal.invariant-loop-item
invariant-loop-item l = l.out.items ++ joined (codes ", ") l.later (map (item_text l.names l.times) (drop l.item-index l.items)) ≡ l.fn.out.items ++ listed (map (item_text l.names l.times) l.items)
