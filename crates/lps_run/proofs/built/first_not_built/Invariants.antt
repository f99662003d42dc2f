use Rattle.std.proofs.Common.{◌≡◌, drop}
use Rattle.lps_run.specs.Built.{first_not_built}
use Rattle.lps_run.proofs.built.first_not_built.Given as goal

-- the statements so far are run
abbrev pub invariant-loop-statement : goal.invariant-loop-statement
invariant-loop-statement l = first_not_built l.text (drop l.statement-index l.statements) ≡ first_not_built l.text l.statements
