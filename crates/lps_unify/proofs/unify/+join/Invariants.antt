use Rattle.lps_unify.specs.Unified.{AddsFirst, IsExtended}
use Rattle.lps_unify.proofs.unify.+join.Given as goal

-- the items so far are equal
abbrev pub invariant-join_all-loop-i : goal.invariant-join_all-loop-i
invariant-join_all-loop-i l = record {
  extended : IsExtended l.fn.bindings l.bindings;
  adds : AddsFirst l.i l.fn.bindings l.bindings l.xs l.ys;
}
