use Rattle.std.proofs.Common.{◌≡◌, drop}
use Rattle.lps_model.specs.KindRefusals.{has_span}
use Rattle.lps_kinds.proofs.statements.has_span.Given as goal

-- no item so far goes from a time to a time
abbrev pub invariant-loop-item : goal.invariant-loop-item
invariant-loop-item l = has_span (drop l.item-index l.items) ≡ has_span l.items
