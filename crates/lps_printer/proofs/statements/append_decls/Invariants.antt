use Rattle.std.proofs.Common.{◌≡◌, ◌++◌, map, drop, false}
use Rattle.std.specs.Prelude.{codes}
use Rattle.lps_printer.specs.Statements.{decl_text}
use Rattle.lps_printer.specs.Terms.{joined, listed}
use Rattle.lps_printer.proofs.statements.append_decls.Given as goal

-- what is written, and the elements that are left
abbrev pub invariant-loop-decl : goal.invariant-loop-decl
invariant-loop-decl l = l.out.items ++ joined (codes ", ") l.later (map decl_text (drop l.decl-index l.decls)) ≡ l.fn.out.items ++ listed (map decl_text l.decls)
