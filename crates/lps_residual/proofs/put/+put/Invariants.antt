use Rattle.std.proofs.Common.{◌≡◌, map, take}
use Rattle.lps_terms.specs.Put.{put}
use Rattle.lps_residual.specs.Putting.{value_by}
use Rattle.lps_residual.proofs.put.+put.Given as goal

abbrev pub invariant-put_terms-loop-term : goal.invariant-put_terms-loop-term
invariant-put_terms-loop-term l = l.found.items ≡ map (put (value_by l.terms)) (take l.term-index l.list)
