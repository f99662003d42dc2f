use Rattle.std.proofs.Common.{ℕ, List, take}
use Rattle.lps_facts.specs.Facts.{members}
use Rattle.lps_model.specs.Clauses.{clauses}
use Rattle.lps_derivation.specs.Levels.{AreLevels}
use Rattle.lps_precond.specs.Stages.{IsViolatedByStart}
use Rattle.lps_precond.proofs.denial.Denial.is_violated_from_one.Given as goal

-- the denial is violated from none of the starts so far
abbrev pub invariant-loop-start : goal.invariant-loop-start
invariant-loop-start l = (level : List ℕ → ℕ) → AreLevels (clauses l.program) level →
    IsViolatedByStart (clauses l.program) (members l.new) (members l.step.happened.now) (members l.step.before.now) (members l.step.after.now) level l.self (take l.start-index l.starts) → ⊥
