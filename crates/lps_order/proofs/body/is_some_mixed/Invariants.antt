use Rattle.std.proofs.Common.{◌≡◌, drop}
use Rattle.std.specs.List.{list_any}
use Rattle.lps_model.specs.Declarations.{kind_among}
use Rattle.lps_model.specs.Order.{has_mixed}
use Rattle.lps_order.proofs.body.is_some_mixed.Given as goal

-- what is left decides
abbrev pub invariant-loop-alternative : goal.invariant-loop-alternative
invariant-loop-alternative l = list_any (has_mixed (kind_among l.kinds)) (drop l.alternative-index l.alternatives) ≡ list_any (has_mixed (kind_among l.kinds)) l.alternatives
