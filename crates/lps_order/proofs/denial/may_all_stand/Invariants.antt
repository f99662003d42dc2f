use Rattle.std.proofs.Common.{◌≡◌, false, drop}
use Rattle.lps_model.specs.Order.{may_all_stand}
use Rattle.lps_order.proofs.denial.may_all_stand.Given as goal

-- what is left decides
abbrev pub invariant-loop-item : goal.invariant-loop-item
invariant-loop-item l = may_all_stand l.first l.second l.late (drop l.item-index l.items) ≡ may_all_stand l.first l.second false l.items
