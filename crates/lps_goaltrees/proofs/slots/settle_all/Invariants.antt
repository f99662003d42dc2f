use Rattle.std.proofs.Common.{◌≡◌, ℕ}
use Rattle.lps_goaltrees.specs.declared.table.Table.{Table}
use Rattle.lps_goaltrees.specs.Slots.{AreRising, IsStored, goals_of, version_at}
use Rattle.lps_goaltrees.proofs.slots.settle_all.Given as goal

-- the goals that are left are those that have changed
abbrev pub invariant-loop-number : goal.invariant-loop-number
invariant-loop-number l = record {
  rising : AreRising l.slots.items;
  goals : goals_of l.which l.slots.items ≡ goals_of l.which l.fn.slots.items;
  found : (number : ℕ) → version_at l.which l.slots.items number ≡ version_at l.which l.fn.slots.items number;
  stored : (limit next : ℕ) (table : Table) → IsStored l.which limit next table l.changed.keys l.fn.slots.items → IsStored l.which limit next table l.number-iterator l.slots.items;
}
