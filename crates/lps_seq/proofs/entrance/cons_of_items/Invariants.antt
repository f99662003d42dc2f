use Rattle.std.proofs.Common.{◌≡◌, ◌++◌, drop}
use Rattle.std.specs.List.{flat_map}
use Rattle.lps_seq.specs.Starts.{con_whole_of}
use Rattle.lps_seq.proofs.entrance.cons_of_items.Given as goal

-- those so far and those of the items left are all
abbrev pub invariant-loop-item : goal.invariant-loop-item
invariant-loop-item l = l.limits.items ++ flat_map con_whole_of (drop l.item-index l.items) ≡ flat_map con_whole_of l.items
