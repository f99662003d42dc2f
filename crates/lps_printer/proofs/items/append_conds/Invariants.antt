use Rattle.std.proofs.Common.{◌≡◌, ◌++◌, map, drop, false}
use Rattle.std.specs.Prelude.{codes}
use Rattle.lps_printer.specs.Items.{cond_text}
use Rattle.lps_printer.specs.Terms.{joined, listed}
use Rattle.lps_printer.proofs.items.append_conds.Given as goal

-- what is written, and the elements that are left
abbrev pub invariant-loop-cond : goal.invariant-loop-cond
invariant-loop-cond l = l.out.items ++ joined (codes ", ") l.later (map (cond_text l.names) (drop l.cond-index l.conds)) ≡ l.fn.out.items ++ listed (map (cond_text l.names) l.conds)
