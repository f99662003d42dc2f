use Rattle.std.proofs.Common.{ℕ, List, take}
use Rattle.std.specs.Prelude.{Contains}
use Rattle.lps_facts.specs.Facts.{members}
use Rattle.lps_model.specs.Clauses.{clauses}
use Rattle.lps_derivation.specs.Levels.{AreLevels}
use Rattle.lps_precond.specs.Judged.{IsLessened}
use Rattle.lps_precond.specs.Stages.{IsAt, IsViolatedThrough}
use Rattle.lps_precond.proofs.denials.Denials.least_at.Given as goal

-- the least number for the places so far
abbrev pub invariant-loop-place : goal.invariant-loop-place
invariant-loop-place l = (level : List ℕ → ℕ) → AreLevels (clauses l.program) level →
    IsLessened (clauses l.program) (members l.step.happened.now) (members l.step.before.now) (members l.step.after.now) level l.self
    (λ j. Contains (take l.place-index l.places) j × IsAt l.self (λ denial. IsViolatedThrough (clauses l.program) (members l.step.happened.now) (members l.step.before.now) (members l.step.after.now) level denial l.through) j)
    l.fn.given l.least
