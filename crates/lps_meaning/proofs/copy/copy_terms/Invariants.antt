use Rattle.std.proofs.Common.{◌≡◌, take}
use Rattle.lps_meaning.proofs.copy.copy_terms.Given as goal

-- the copies are the first of these
abbrev pub invariant-loop-term : goal.invariant-loop-term
invariant-loop-term l = l.copies.items ≡ take l.term-index l.terms
