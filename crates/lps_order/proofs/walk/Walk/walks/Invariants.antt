use Rattle.std.proofs.Common.{◌≡◌, drop}
use Rattle.lps_model.specs.Declarations.{kind_among}
use Rattle.lps_order.specs.Walking.{walks}
use Rattle.lps_order.proofs.walk.Walk.walks.Given as goal

-- what is left decides
abbrev pub invariant-loop-item : goal.invariant-loop-item
invariant-loop-item l = walks (kind_among l.kinds) l.self.occurred.items l.self.before l.self.prior (drop l.item-index l.items) ≡ walks (kind_among l.kinds) l.initial.self.occurred.items l.initial.self.before l.initial.self.prior l.items
