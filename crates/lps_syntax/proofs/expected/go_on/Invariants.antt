use Rattle.std.proofs.Common.{◌≡◌, reverse, length}
use Rattle.lps_syntax.specs.Runs.{step}
use Rattle.lps_syntax.specs.Runs.{taker}
use Rattle.lps_syntax.proofs.expected.go_on.Given as goal

abbrev pub invariant-loop-frame : goal.invariant-loop-frame
invariant-loop-frame l = record {
  goes_on : step (reverse l.fn.stack.items) l.tok ≡ step (reverse l.stack.items) l.tok;
  taken : taker (reverse l.fn.stack.items) l.tok ≡ taker (reverse l.stack.items) l.tok;
}

abbrev pub decreases-loop-frame : goal.decreases-loop-frame
decreases-loop-frame l = length l.stack.items
