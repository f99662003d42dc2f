use Rattle.std.proofs.Common.{◌≡◌, take}
use Rattle.lps_meaning.proofs.copy.copy_rest.Given as goal

-- the copies are the first of these
abbrev pub invariant-loop-left : goal.invariant-loop-left
invariant-loop-left l = l.copies.items ≡ take l.left-index l.rest
