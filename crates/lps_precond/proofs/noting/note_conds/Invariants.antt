use Rattle.std.proofs.Common.{◌≡◌, take}
use Rattle.lps_precond.specs.Stages.{vars_with}
use Rattle.lps_precond.proofs.noting.note_conds.Given as goal

-- the variables of the conditions so far are noted
abbrev pub invariant-loop-cond : goal.invariant-loop-cond
invariant-loop-cond l = l.variables.keys ≡ vars_with l.fn.variables.keys (take l.cond-index l.conds)
