use Rattle.std.proofs.Common.{ℕ, List, take, map}
use Rattle.lps_facts.specs.Facts.{members}
use Rattle.lps_model.specs.Clauses.{clauses}
use Rattle.lps_derivation.specs.Levels.{AreLevels}
use Rattle.lps_precond.specs.Stages.{HasOne, IsMetFrom}
use Rattle.lps_precond.proofs.stage.Stage.is_met_by_one.Given as goal

-- the conditions are met for none of the rows so far
abbrev pub invariant-loop-row : goal.invariant-loop-row
invariant-loop-row l = (level : List ℕ → ℕ) → AreLevels (clauses l.program) level → HasOne (IsMetFrom (clauses l.program) (members l.facts) level l.self) (map (λ v. v.0) (take l.row-index l.rows)) → ⊥
