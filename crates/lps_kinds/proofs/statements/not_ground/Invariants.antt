use Rattle.std.proofs.Common.{◌≡◌, drop}
use Rattle.lps_model.specs.KindRefusals.{not_ground}
use Rattle.lps_kinds.proofs.statements.not_ground.Given as goal

-- the statements so far are not refused
abbrev pub invariant-loop-statement : goal.invariant-loop-statement
invariant-loop-statement l = not_ground (drop l.statement-index l.statements) ≡ not_ground l.statements
