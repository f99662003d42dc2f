use Rattle.std.proofs.Common.{◌≡◌, take}
use Rattle.std.specs.List.{flat_map}
use Rattle.lps_precond.specs.Cut.{touch_of}
use Rattle.lps_precond.proofs.cutting.touches.Given as goal

-- the fluents of the conditions so far
abbrev pub invariant-loop-cond : goal.invariant-loop-cond
invariant-loop-cond l = l.touches.items ≡ flat_map (touch_of l.text) (take l.cond-index l.conds)
