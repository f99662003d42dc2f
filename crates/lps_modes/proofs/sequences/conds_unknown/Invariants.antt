use Rattle.std.proofs.Common.{◌≡◌, drop}
use Rattle.lps_model.specs.Known.{conds_unknown}
use Rattle.lps_modes.specs.Scopes.{scope_of}
use Rattle.lps_modes.proofs.sequences.conds_unknown.Given as goal

-- what is left decides, with what is known so far
abbrev pub invariant-loop-cond : goal.invariant-loop-cond
invariant-loop-cond l = conds_unknown (scope_of l.scope) l.wanted l.known.items (drop l.cond-index l.conds) ≡ conds_unknown (scope_of l.scope) l.wanted l.fn.known.items l.conds
