use Rattle.std.proofs.Common.{◌≡◌, drop}
use Rattle.lps_model.specs.Known.{alternatives_unknown}
use Rattle.lps_modes.proofs.statements.alternatives_unknown.Given as goal

-- the alternatives that are left decide
abbrev pub invariant-loop-items : goal.invariant-loop-items
invariant-loop-items l = alternatives_unknown l.kinds l.statement l.steps l.known (drop l.items-index l.alternatives) ≡ alternatives_unknown l.kinds l.statement l.steps l.known l.alternatives
