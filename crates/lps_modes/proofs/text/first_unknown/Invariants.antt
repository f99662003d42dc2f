use Rattle.std.proofs.Common.{◌≡◌, drop}
use Rattle.lps_model.specs.Known.{statements_unknown}
use Rattle.lps_modes.proofs.text.first_unknown.Given as goal

-- the statements that are left decide
abbrev pub invariant-loop-statement : goal.invariant-loop-statement
invariant-loop-statement l = statements_unknown l.kinds (drop l.statement-index l.statements) ≡ statements_unknown l.kinds l.statements
