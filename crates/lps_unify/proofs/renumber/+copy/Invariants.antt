use Rattle.std.proofs.Common.{◌≡◌, map, take}
use Rattle.lps_terms.specs.Put.{put}
use Rattle.lps_unify.specs.Canonical.{renumbered}
use Rattle.lps_unify.proofs.renumber.+copy.Given as goal

abbrev pub invariant-copy_all_renumbered-loop-term : goal.invariant-copy_all_renumbered-loop-term
invariant-copy_all_renumbered-loop-term l = l.copies.items ≡ map (put (renumbered l.seen)) (take l.term-index l.terms)
