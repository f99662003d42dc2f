use Rattle.std.proofs.Common.{◌≡◌, ℕ, List}
use Rattle.lps_goaltrees.specs.declared.slot.Which.{Which}
use Rattle.lps_goaltrees.specs.Slots.{AreRising, IsStored, goals_of}
use Rattle.lps_goaltrees.proofs.slots.clean_all.Given as goal

-- all stays as it is
abbrev pub invariant-loop-number : goal.invariant-loop-number
invariant-loop-number l = record {
  rising : AreRising l.slots.items;
  goals : (which : Which) → goals_of which l.slots.items ≡ goals_of which l.fn.slots.items;
  stored : (which : Which) (limit next : ℕ) (noted : List ℕ) → IsStored which limit next l.fn.table noted l.fn.slots.items → IsStored which limit next l.table noted l.slots.items;
}
