use Rattle.std.proofs.Common.{◌≡◌, ℕ}
use Rattle.lps_terms.specs.declared.term.Term.{Term}
use Rattle.lps_terms.specs.Put.{put}
use Rattle.lps_unify.specs.Bindings.{Solves}
use Rattle.lps_unify.specs.Unified.{IsExtended, count_free}
use Rattle.lps_unify.proofs.settle.settle.Given as goal

-- what was bound has to be
abbrev pub invariant-loop-variable : goal.invariant-loop-variable
invariant-loop-variable l = record {
  extended : IsExtended l.fn.bindings l.bindings;
  follows : (s : ℕ → Term) → Solves s l.fn.bindings → put s l.a ≡ put s l.b → Solves s l.bindings;
}

abbrev pub decreases-loop-variable : goal.decreases-loop-variable
decreases-loop-variable l = count_free l.bindings
