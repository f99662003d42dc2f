use Rattle.std.proofs.Common.{ℕ, suc, ◌≡◌, ◌<◌}
use Rattle.lps_facts.specs.Facts.{members}
use Rattle.lps_goaltrees.specs.Followed.{InStateOf}
use Rattle.lps_goaltrees.specs.Found.{EndsAtOnce, Grows, IsEnteredNode}
use Rattle.lps_goaltrees.specs.Pursued.{AreReadyNodes}
use Rattle.lps_goaltrees.proofs.following.begun.Given as goal

-- the first alternatives are entered
abbrev pub invariant-loop-before : goal.invariant-loop-before
invariant-loop-before l = record {
  same : l.bindings ≡ l.fn.bindings;
  ready : AreReadyNodes l.program l.found.nodes.items;
  grows : InStateOf l.program l.key.time (members l.facts) (λ level trace. Grows l.initial.found l.found
      (λ node. (k : ℕ) × (k < l.before) × IsEnteredNode l.program level trace l.depth l.key (suc k) node) ((k : ℕ) × (k < l.before) × EndsAtOnce l.program level trace l.depth l.key (suc k)));
}
