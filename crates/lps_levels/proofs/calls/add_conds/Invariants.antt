use Rattle.std.proofs.Common.{flat_map, take}
use Rattle.lps_model.specs.Calls.{call_in_cond}
use Rattle.lps_levels.specs.Graphs.{AreAdded}
use Rattle.lps_levels.proofs.calls.add_conds.Given as goal

-- the calls of the conditions so far are added
abbrev pub invariant-loop-cond : goal.invariant-loop-cond
invariant-loop-cond l = AreAdded l.names l.initial.edges.items l.edges.items (flat_map (call_in_cond l.kinds l.head) (take l.cond-index l.conds))
