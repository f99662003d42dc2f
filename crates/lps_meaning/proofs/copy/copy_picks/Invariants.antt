use Rattle.std.proofs.Common.{◌≡◌, take}
use Rattle.lps_meaning.proofs.copy.copy_picks.Given as goal

-- the copies are the first of these
abbrev pub invariant-loop-pick : goal.invariant-loop-pick
invariant-loop-pick l = l.copies.items ≡ take l.pick-index l.picks
