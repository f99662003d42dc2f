use Rattle.std.proofs.Common.{◌≡◌, ◌≤◌, take, length}
use Rattle.lps_unify.proofs.bindings.Bindings.undo_to.Given as goal

-- what stands before the mark stays
abbrev pub invariant-loop-self : goal.invariant-loop-self
invariant-loop-self l = record {
  first : l.self.first ≡ l.fn.self.first;
  kept : take l.mark l.self.added ≡ take l.mark l.fn.self.added;
  longer : l.mark ≤ length l.self.added;
}

abbrev pub decreases-loop-self : goal.decreases-loop-self
decreases-loop-self l = length l.self.added
