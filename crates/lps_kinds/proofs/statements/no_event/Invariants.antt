use Rattle.std.proofs.Common.{◌≡◌, drop}
use Rattle.lps_model.specs.KindRefusals.{no_event}
use Rattle.lps_kinds.proofs.statements.no_event.Given as goal

-- the statements so far are not refused
abbrev pub invariant-loop-statement : goal.invariant-loop-statement
invariant-loop-statement l = no_event (drop l.statement-index l.statements) ≡ no_event l.statements
