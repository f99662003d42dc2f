use Rattle.std.proofs.Common.{◌≡◌, take}
use Rattle.std.specs.List.{flat_map}
use Rattle.lps_model.specs.Clauses.{clause_in}
use Rattle.lps_solve.proofs.clauses.Clauses.new.Given as goal

-- the clauses of the statements so far
abbrev pub invariant-loop-statement : goal.invariant-loop-statement
invariant-loop-statement l = l.found ≡ flat_map (λ s. clause_in s.body) (take l.statement-index l.statement-items)
