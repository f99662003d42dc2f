use Rattle.std.proofs.Common.{◌≡◌, ◌≤◌, take, drop}
use Rattle.lps_numbering.specs.Numbers.{count_of, crowded_from, crowded_of}
use Rattle.lps_numbering.proofs.Folds.{AreNumbered}
use Rattle.lps_numbering.proofs.numbering.number.Given as goal

abbrev pub invariant-loop-i : goal.invariant-loop-i
invariant-loop-i l = record {
  so_far : AreNumbered l.bytes (take l.i l.tokens) l.progress.toks.items l.progress.statements.items l.progress.names;
  none_crowded : crowded_of l.bytes l.tokens ≡ crowded_from l.bytes l.progress.names l.i (drop l.i l.tokens);
  low : count_of l.progress.names ≤ 255;
}
