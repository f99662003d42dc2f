use Rattle.std.proofs.Common.{false, drop}
use Rattle.lps_model.specs.Calls.{calls_in_items}
use Rattle.lps_levels.proofs.Adding.{AreAddedBefore}
use Rattle.lps_levels.proofs.calls.add_items.Given as goal

-- the calls of the items so far are added
abbrev pub invariant-loop-item : goal.invariant-loop-item
invariant-loop-item l = AreAddedBefore l.names l.initial.edges.items l.edges.items l.kinds l.head l.guarded (drop l.item-index l.items) (calls_in_items l.kinds l.head false l.items)
