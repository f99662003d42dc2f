use Rattle.std.proofs.Common.{◌≡◌, ◌++◌, ℕ, List}
use Rattle.std.specs.List.{AllZip, filter_map}
use Rattle.lps_facts.specs.Facts.{members}
use Rattle.lps_goaltrees.specs.declared.slot.Which.TheVariants.{Now}
use Rattle.lps_goaltrees.specs.Found.{IsAdvanced}
use Rattle.lps_goaltrees.specs.Pursued.{AreReadyGoals}
use Rattle.lps_goaltrees.specs.Slots.{version_at}
use Rattle.lps_goaltrees.proofs.following.advanced.Given as goal

-- those with some of the numbers are advanced, and the other numbers are left
abbrev pub invariant-loop-number : goal.invariant-loop-number
invariant-loop-number l = record {
  some : List ℕ;
  parts : some ++ l.number-iterator ≡ l.numbers.keys;
  same : l.bindings ≡ l.fn.bindings;
  ready : AreReadyGoals l.program l.next.items;
  all : AllZip (IsAdvanced l.program l.depth l.time (members l.facts) l.events) (filter_map (version_at Now l.slots) some) l.next.items;
}
