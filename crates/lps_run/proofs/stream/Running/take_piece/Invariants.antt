use Rattle.std.proofs.Common.{◌≡◌, ◌≤◌, ◌+◌, ◌++◌, ℕ, List, length}
use Rattle.lps_cycle.specs.Engine.{IsOfRun}
use Rattle.lps_run.specs.Running.{Standing}
use Rattle.lps_run.proofs.stream.Running.take_piece.Given as goal

abbrev pub decreases-loop : goal.decreases-loop
decreases-loop g l = length l.self.reader.left

abbrev pub invariant-loop : goal.invariant-loop
invariant-loop g l = record {
  text : l.self.engine.text ≡ l.fn.self.engine.text;
  run : IsOfRun l.self.engine;
  room : l.self.reader.lines + length l.self.reader.left ≤ l.fn.self.reader.lines + length l.fn.self.reader.left + length l.piece;
  told : (stream rest start : List ℕ) → Standing l.fn.self stream (l.piece ++ rest) start (g.D.Desk.printed l.fn.desk) → Standing l.self stream rest start (g.D.Desk.printed l.desk);
  counted : g.D.Desk.print_faults l.desk ≡ g.D.Desk.print_faults l.fn.desk;
}
