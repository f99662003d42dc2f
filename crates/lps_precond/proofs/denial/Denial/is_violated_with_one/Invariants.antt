use Rattle.std.proofs.Common.{ℕ, List, take, map}
use Rattle.lps_facts.specs.Facts.{members}
use Rattle.lps_model.specs.Clauses.{clauses}
use Rattle.lps_derivation.specs.Levels.{AreLevels}
use Rattle.lps_precond.specs.Stages.{HasOne, IsViolatedWith}
use Rattle.lps_precond.proofs.denial.Denial.is_violated_with_one.Given as goal

-- the denial is violated with none of the rows so far
abbrev pub invariant-loop-row : goal.invariant-loop-row
invariant-loop-row l = (level : List ℕ → ℕ) → AreLevels (clauses l.program) level →
    HasOne (IsViolatedWith (clauses l.program) (members l.step.happened.now) (members l.step.before.now) (members l.step.after.now) level l.self l.start.rest.given) (map (λ v. v.0) (take l.row-index l.rows)) → ⊥
