use Rattle.std.proofs.Common.{flat_map, take}
use Rattle.lps_terms.specs.declared.statement.Statement.{Statement}
use Rattle.lps_model.specs.Program.{declared_in}
use Rattle.lps_levels.specs.Names.{AreCalledAmong}
use Rattle.lps_levels.proofs.names.called_names.Given as goal

-- the names that the statements so far declare are there
abbrev pub invariant-loop-statement : goal.invariant-loop-statement
invariant-loop-statement l = AreCalledAmong l.kinds (flat_map (λ (statement : Statement). declared_in statement.body) (take l.statement-index l.statement-items)) l.names
