use Rattle.std.proofs.Common.{◌≡◌, take, false}
use Rattle.lps_facts.specs.Facts.{members}
use Rattle.lps_goaltrees.specs.Pursued.{IsReadyPursued, left_by_close}
use Rattle.lps_cycle.specs.Agenda.{AreAdded}
use Rattle.lps_cycle.proofs.agenda.add_all.Given as goal

-- goals with the first keys are added
abbrev pub invariant-loop-key : goal.invariant-loop-key
invariant-loop-key l = record {
  same : l.bindings ≡ l.fn.bindings;
  ready : IsReadyPursued l.program l.goals;
  before : left_by_close l.goals ≡ left_by_close l.fn.goals;
  unsettled : l.fn.goals.is_settled ≡ false → l.goals.is_settled ≡ false;
  adds : AreAdded l.program 100 (members l.facts) (take l.key-index l.keys) l.fn.goals.pursuit l.goals.pursuit l.created.items;
}
