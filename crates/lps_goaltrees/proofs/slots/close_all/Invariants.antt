use Rattle.std.proofs.Common.{◌≡◌, ℕ}
use Rattle.lps_goaltrees.specs.declared.slot.Which.TheVariants.{Before}
use Rattle.lps_goaltrees.specs.declared.table.Table.{Table}
use Rattle.lps_goaltrees.specs.Slots.{AreRising, IsStored, goals_of, pending_goals}
use Rattle.lps_goaltrees.proofs.Settling.{AreClosedBut}
use Rattle.lps_goaltrees.proofs.slots.close_all.Given as goal

-- all goals are pending but for those that are left
abbrev pub invariant-loop-number : goal.invariant-loop-number
invariant-loop-number l = record {
  rising : AreRising l.slots.items;
  goals : pending_goals l.slots.items ≡ pending_goals l.fn.slots.items;
  before : goals_of Before l.slots.items ≡ goals_of Before l.fn.slots.items;
  stored : (limit next : ℕ) (table : Table) → IsStored Before limit next table l.changed.keys l.fn.slots.items →
      IsStored Before limit next table l.changed.keys l.slots.items × AreClosedBut l.number-iterator l.slots.items;
}
