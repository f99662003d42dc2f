use Rattle.std.proofs.Common.{◌≡◌, take}
use Rattle.lps_terms.proofs.copy.+copy.Given as goal

-- the copies are the arguments so far
abbrev pub invariant-copy_args-loop-arg : goal.invariant-copy_args-loop-arg
invariant-copy_args-loop-arg l = l.copies.items ≡ take l.arg-index l.arg-items
