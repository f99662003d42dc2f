use Rattle.std.proofs.Common.{◌≤◌, take}
use Rattle.lps_syntax.proofs.Verdicts.{LineSoFar}
use Rattle.lps_syntax.proofs.line.judge_line.Given as goal

abbrev pub invariant-loop-i : goal.invariant-loop-i
invariant-loop-i l = record {
  so_far : LineSoFar (take l.i l.toks) l.expected l.events l.symbols;
  few : l.events ≤ 1000;
  low : l.symbols ≤ 1024;
}
