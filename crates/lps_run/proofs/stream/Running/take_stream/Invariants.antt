use Rattle.std.proofs.Common.{◌≡◌, ◌≤◌, ◌+◌, ◌^◌, ℕ, List, Some, length}
use Rattle.lps_outside.specs.Bytes.{Stream}
use Rattle.lps_cycle.specs.Engine.{IsOfRun}
use Rattle.lps_run.specs.Judged.{ended}
use Rattle.lps_run.specs.Running.{Standing, Reading}
use Rattle.lps_run.proofs.stream.Running.take_stream.Given as goal

abbrev pub invariant-loop-turn : goal.invariant-loop-turn
invariant-loop-turn g l = record {
  text : l.self.engine.text ≡ l.fn.self.engine.text;
  run : IsOfRun l.self.engine;
  room : l.self.reader.lines + length l.self.reader.left ≤ l.taken;
  told : (before : Stream) (start : List ℕ) → g.E.Source.stream l.fn.events ≡ Some before → Standing l.fn.self before.left (ended before.left) start (g.D.Desk.printed l.fn.desk) →
      Reading l.self before.left start (g.D.Desk.printed l.desk) (g.E.Source.stream l.events);
  bytes : (before : Stream) → g.E.Source.stream l.fn.events ≡ Some before → (now : Stream) × (g.E.Source.stream l.events ≡ Some now) × (length before.left ≡ l.taken + length now.left);
  turns : l.turn ≤ l.taken;
  limit : l.taken ≤ 2 ^ 36;
  reads : g.E.Source.faults l.events ≡ g.E.Source.faults l.fn.events;
  prints : g.D.Desk.print_faults l.desk ≡ g.D.Desk.print_faults l.fn.desk;
}
