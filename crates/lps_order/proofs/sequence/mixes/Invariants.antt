use Rattle.std.proofs.Common.{◌≡◌, None, drop}
use Rattle.lps_model.specs.Declarations.{kind_among}
use Rattle.lps_order.specs.Walking.{mixes}
use Rattle.lps_order.proofs.sequence.mixes.Given as goal

-- what is left decides
abbrev pub invariant-loop-item : goal.invariant-loop-item
invariant-loop-item l = mixes (kind_among l.kinds) l.prior (drop l.item-index l.items) ≡ mixes (kind_among l.kinds) None l.items
