use Rattle.std.proofs.Common.{◌≡◌, drop}
use Rattle.lps_model.specs.Order.{span_in}
use Rattle.lps_order.proofs.denial.span_in.Given as goal

-- no event has stood so far
abbrev pub invariant-loop-item : goal.invariant-loop-item
invariant-loop-item l = span_in (drop l.item-index l.items) ≡ span_in l.items
