use Rattle.std.proofs.Common.{ℕ, List, take}
use Rattle.std.specs.Prelude.{None}
use Rattle.lps_facts.specs.Facts.{members}
use Rattle.lps_model.specs.Clauses.{clauses}
use Rattle.lps_derivation.specs.Levels.{AreLevels}
use Rattle.lps_precond.specs.Judged.{IsLessened}
use Rattle.lps_precond.specs.Stages.{IsAt, IsViolatedBy}
use Rattle.lps_precond.proofs.denials.Denials.least_concerned.Given as goal

-- the least number for the events so far
abbrev pub invariant-loop-event : goal.invariant-loop-event
invariant-loop-event l = (level : List ℕ → ℕ) → AreLevels (clauses l.program) level →
    IsLessened (clauses l.program) (members l.step.happened.now) (members l.step.before.now) (members l.step.after.now) level l.self
    (IsAt l.self (λ denial. IsViolatedBy (clauses l.program) (take l.event-index l.step.new.now) (members l.step.happened.now) (members l.step.before.now) (members l.step.after.now) level denial denial.happen)) None l.least
