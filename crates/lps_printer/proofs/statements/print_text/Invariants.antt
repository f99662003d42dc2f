use Rattle.std.proofs.Common.{◌≡◌, ◌++◌, drop}
use Rattle.std.specs.List.{flat_map}
use Rattle.lps_printer.specs.Statements.{statement_text}
use Rattle.lps_printer.proofs.statements.print_text.Given as goal

-- what is written, and the statements that are left
abbrev pub invariant-loop-statement : goal.invariant-loop-statement
invariant-loop-statement l = l.out.items ++ flat_map statement_text (drop l.statement-index l.statement-items) ≡ flat_map statement_text l.statement-items
