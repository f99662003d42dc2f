use Rattle.std.proofs.Common.{take}
use Rattle.lps_index.specs.Table.{AreTables}
use Rattle.lps_index.proofs.tables.Tables.of.Given as goal

-- the tables of the statements so far
abbrev pub invariant-loop-statement : goal.invariant-loop-statement
invariant-loop-statement l = AreTables (take l.statement-index l.statement-items) l.tables
