use Rattle.std.proofs.Common.{[], flat_map, take}
use Rattle.lps_terms.specs.declared.statement.Statement.{Statement}
use Rattle.lps_model.specs.Calls.{calls_in}
use Rattle.lps_levels.specs.Graphs.{AreAdded}
use Rattle.lps_levels.proofs.calls.calls.Given as goal

-- the calls of the statements so far are added
abbrev pub invariant-loop-statement : goal.invariant-loop-statement
invariant-loop-statement l = AreAdded l.names [] l.edges.items (flat_map (λ (statement : Statement). calls_in l.kinds statement.body) (take l.statement-index l.statements))
