use Rattle.std.proofs.Common.{take}
use Rattle.lps_precond.specs.Stages.{AreStarts}
use Rattle.lps_precond.proofs.start.starts_of.Given as goal

-- the starts from the conditions so far
abbrev pub invariant-loop-cond : goal.invariant-loop-cond
invariant-loop-cond l = AreStarts l.happen (take l.cond-index l.conds) l.starts.items
