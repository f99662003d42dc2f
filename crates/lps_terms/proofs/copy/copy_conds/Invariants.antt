use Rattle.std.proofs.Common.{◌≡◌, take}
use Rattle.lps_terms.proofs.copy.copy_conds.Given as goal

-- the copies are the conditions so far
abbrev pub invariant-loop-cond : goal.invariant-loop-cond
invariant-loop-cond l = l.copies.items ≡ take l.cond-index l.conds
