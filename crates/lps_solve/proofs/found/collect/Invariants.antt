use Rattle.std.proofs.Common.{◌≡◌, ◌≤◌, map, take}
use Rattle.std.specs.List.{AllByRecursion}
use Rattle.lps_terms.specs.Symbols.{symbols_of}
use Rattle.lps_unify.specs.Bindings.{resolved}
use Rattle.lps_solve.proofs.found.collect.Given as goal

-- the terms so far are resolved, and small
abbrev pub invariant-loop-term : goal.invariant-loop-term
invariant-loop-term l = record {
  all : l.terms ≡ map (resolved l.bindings) (take l.term-index l.wanted);
  small : AllByRecursion (λ x. symbols_of x ≤ 1024) l.terms;
}
