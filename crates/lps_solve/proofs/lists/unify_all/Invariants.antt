use Rattle.lps_unify.specs.Unified.{AddsFirst, IsExtended}
use Rattle.lps_solve.proofs.lists.unify_all.Given as goal

-- the items so far are equal
abbrev pub invariant-loop-i : goal.invariant-loop-i
invariant-loop-i l = record {
  extended : IsExtended l.fn.bindings l.bindings;
  adds : AddsFirst l.i l.fn.bindings l.bindings l.xs l.ys;
}
