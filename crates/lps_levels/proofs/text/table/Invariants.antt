use Rattle.lps_levels.specs.Answers.{AreInTableTo}
use Rattle.lps_levels.proofs.text.table.Given as goal

-- the names so far have their levels
abbrev pub invariant-loop-number : goal.invariant-loop-number
invariant-loop-number l = AreInTableTo l.number l.names l.levels l.table
