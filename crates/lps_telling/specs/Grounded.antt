-- Cycles and blocks whose atoms are ground and whose numbers have 64 bits.
use Rattle.std.specs.Prelude.{◌≡◌, ◌<◌, ◌^◌, IsTrue, length}
use Rattle.std.specs.List.{AllByRecursion}
use Rattle.lps_model.specs.declared.cycle.Cycle.{Cycle}
use Rattle.lps_model.specs.declared.cycle.Pick.{Pick}
use Rattle.lps_model.specs.declared.verdict.Verdict.{Verdict}
use Rattle.lps_model.specs.declared.verdict.Verdict.TheVariants.{Admitted, Rejected}
use Rattle.lps_derivation.specs.Ground.{is_ground}
use Rattle.lps_meaning.specs.declared.goal.Closed.{Closed}
use Rattle.lps_meaning.specs.declared.goal.GoalId.{GoalId}
use Rattle.lps_meaning.specs.declared.goal.NewGoal.{NewGoal}
use Rattle.lps_meaning.specs.Reports.{Block, IsGroundAtom}

-- the number of a denial that a verdict names has 64 bits
abbrev pub IsSmallVerdict : Verdict → Type 0
IsSmallVerdict Admitted = Unit {0}
IsSmallVerdict (Rejected denial) = denial < 2 ^ 64

-- the atoms of a pick are ground, and the number of its goal has 64 bits
abbrev pub IsGroundPick : Pick → Type 0
IsGroundPick pick = AllByRecursion IsGroundAtom pick.group.atoms × (pick.goal < 2 ^ 64)

-- All atoms of a cycle are ground, and all numbers have 64 bits: other numbers can have the same digits.
pub record IsGroundCycle (cycle : Cycle) : Type 0 where
  pub events : AllByRecursion IsGroundAtom cycle.events
  pub verdicts : AllByRecursion IsSmallVerdict cycle.verdicts
  pub picks : AllByRecursion IsGroundPick cycle.picks

-- all numbers of a cycle have 64 bits
pub record IsSmallCycle (cycle : Cycle) : Type 0 where
  pub verdicts : AllByRecursion IsSmallVerdict cycle.verdicts
  pub picks : AllByRecursion (λ (pick : Pick). pick.goal < 2 ^ 64) cycle.picks

-- the values of a new goal's key are ground, and its numbers have 64 bits
pub record IsGroundGoal (new : NewGoal) : Type 0 where
  pub goal : new.goal.0 < 2 ^ 64
  pub rule : new.key.rule < 2 ^ 64
  pub values : AllByRecursion (λ value. IsTrue (is_ground value)) new.key.values
  pub times : AllByRecursion (λ time. time < 2 ^ 64) new.key.times

-- all atoms and terms of a block are ground, all numbers have 64 bits, and there are as many verdicts as events
pub record IsGroundBlock (block : Block) : Type 0 where
  pub cycle : IsGroundCycle block.cycle
  pub paired : length block.cycle.events ≡ length block.cycle.verdicts
  pub facts : AllByRecursion IsGroundAtom block.facts
  pub created : AllByRecursion IsGroundGoal block.created
  pub closed : AllByRecursion (λ (goal : GoalId × Closed). goal.0.0 < 2 ^ 64) block.closed

-- the numbers of the goals and rules of a block have 64 bits
pub record IsSmallBlock (block : Block) : Type 0 where
  pub created : AllByRecursion (λ (new : NewGoal). (new.goal.0 < 2 ^ 64) × (new.key.rule < 2 ^ 64)) block.created
  pub closed : AllByRecursion (λ (goal : GoalId × Closed). goal.0.0 < 2 ^ 64) block.closed
