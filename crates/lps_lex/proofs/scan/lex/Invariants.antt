use Rattle.std.proofs.Common.{length, drop, ◌-◌, ◌+◌, ◌≡◌, ◌≤◌}
use Rattle.lps_lex.specs.Lexing.{after, lexed, lexed_from}
use Rattle.lps_lex.proofs.scan.lex.Given as goal

abbrev pub invariant-loop-at : goal.invariant-loop-at
invariant-loop-at l = record {
  so_far : lexed l.bytes ≡ after l.tokens.items (lexed_from (drop l.at l.bytes) 0 l.line l.at);
  within : l.at ≤ length l.bytes;
  lines : l.line ≤ l.at + 1;
}

abbrev pub decreases-loop-at : goal.decreases-loop-at
decreases-loop-at l = length l.bytes - l.at
