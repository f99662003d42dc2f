use Rattle.std.proofs.Common.{◌≤◌, take}
use Rattle.lps_syntax.proofs.Verdicts.{TextSoFar}
use Rattle.lps_syntax.proofs.text.judge_text.Given as goal

abbrev pub invariant-loop-i : goal.invariant-loop-i
invariant-loop-i l = record {
  so_far : TextSoFar (take l.i l.toks) l.expected l.symbols;
  low : l.symbols ≤ 1024;
}
