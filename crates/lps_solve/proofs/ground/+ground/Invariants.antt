use Rattle.std.proofs.Common.{◌≡◌, drop}
use Rattle.std.specs.List.{list_all}
use Rattle.lps_derivation.specs.Ground.{is_ground}
use Rattle.lps_solve.proofs.ground.+ground.Given as goal

-- the terms that are left decide
abbrev pub invariant-are_ground-loop-term : goal.invariant-are_ground-loop-term
invariant-are_ground-loop-term l = list_all is_ground (drop l.term-index l.terms) ≡ list_all is_ground l.terms
