use Rattle.std.proofs.Common.{◌≡◌, ◌++◌, drop}
use Rattle.std.specs.List.{flat_map}
use Rattle.lps_seq.specs.Starts.{left_whole_of}
use Rattle.lps_seq.proofs.entrance.left_of_items.Given as goal

-- those so far and those of the items left are all
abbrev pub invariant-loop-item : goal.invariant-loop-item
invariant-loop-item l = l.rest.items ++ flat_map left_whole_of (drop l.item-index l.items) ≡ flat_map left_whole_of l.items
