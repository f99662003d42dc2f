use Rattle.std.proofs.Common.{refl}
use Rattle.lps_cycle.proofs.RoundsAsked.{none_rise}
use Rattle.lps_cycle.proofs.candidates.Candidates.new.Goals as goal

pub invariant_of-result : goal.invariant_of-result
invariant_of-result c = rw (c.new.ensures.items, c.new-2.ensures.items) (refl, none_rise)
