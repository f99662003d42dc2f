use Rattle.std.proofs.Common.{◌≡◌, drop}
use Rattle.lps_model.specs.Known.{known_after}
use Rattle.lps_modes.proofs.sequences.learn_items.Given as goal

-- what there is, with that of the items that are left
abbrev pub invariant-loop-item : goal.invariant-loop-item
invariant-loop-item l = known_after l.known.items (drop l.item-index l.items) ≡ known_after l.fn.known.items l.items
