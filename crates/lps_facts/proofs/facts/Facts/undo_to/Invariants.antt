use Rattle.std.proofs.Common.{◌≡◌, ◌≤◌, length}
use Rattle.lps_facts.specs.Facts.{back_to}
use Rattle.lps_facts.proofs.facts.Facts.undo_to.Given as goal

-- the mark is not past what is left, and what is left is the first part of what was there
abbrev pub invariant-loop-self : goal.invariant-loop-self
invariant-loop-self l = (l.mark ≤ length l.self.changes) × (length l.self.changes ≤ length l.fn.self.changes) × (l.self ≡ back_to (length l.self.changes) l.fn.self)

abbrev pub decreases-loop-self : goal.decreases-loop-self
decreases-loop-self l = length l.self.changes
