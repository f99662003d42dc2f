use Rattle.std.proofs.Common.{take}
use Rattle.lps_model.specs.Table.{IsTableOf}
use Rattle.lps_model.proofs.table.Table.of.Given as goal

-- the declarations so far are noted
abbrev pub invariant-loop-decl : goal.invariant-loop-decl
invariant-loop-decl l = IsTableOf (take l.decl-index l.decls) l.table
