use Rattle.std.proofs.Common.{◌≡◌, drop}
use Rattle.lps_model.specs.Known.{steps_after}
use Rattle.lps_modes.proofs.sequences.learn_steps.Given as goal

-- what there is, with that of the items that are left
abbrev pub invariant-loop-item : goal.invariant-loop-item
invariant-loop-item l = steps_after l.steps.items (drop l.item-index l.items) ≡ steps_after l.fn.steps.items l.items
