use Rattle.std.proofs.Common.{◌≡◌, take}
use Rattle.std.specs.Prelude.{sum_by}
use Rattle.lps_sizes.specs.Sizes.{limited, pick_size}
use Rattle.lps_sizes.proofs.log.picks_symbols.Given as goal

-- the symbols of the picks so far
abbrev pub invariant-loop-pick : goal.invariant-loop-pick
invariant-loop-pick l = l.count ≡ limited (sum_by pick_size (take l.pick-index l.picks))
