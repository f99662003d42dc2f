use Rattle.std.proofs.Common.{take}
use Rattle.lps_index.specs.Spoken.{of_items}
use Rattle.lps_index.specs.Table.{IsNotedIn}
use Rattle.lps_index.proofs.table.Table.with_items.Given as goal

-- the items so far are noted
abbrev pub invariant-loop-item : goal.invariant-loop-item
invariant-loop-item l = IsNotedIn l.fn.self l.table l.place (of_items (take l.item-index l.items))
