use Rattle.std.proofs.Common.{◌≡◌}
use Rattle.lps_facts.specs.Facts.{members}
use Rattle.std.specs.Prelude.{Contains}
use Rattle.lps_residual.specs.Moments.{IsReady}
use Rattle.lps_antecedents.specs.declared.held.Held.{Held}
use Rattle.lps_antecedents.specs.Gathered.{IsGatheredAtFirst}
use Rattle.lps_antecedents.proofs.starting.started.Given as goal

abbrev pub invariant-loop-before : goal.invariant-loop-before
invariant-loop-before l = record {
  same : l.bindings ≡ l.fn.bindings;
  ready : (h : Held) → Contains l.gathered.held.items h → IsReady l.program h.node;
  gathered : IsGatheredAtFirst l.program (members l.facts) l.before l.gathered;
}
