use Rattle.std.proofs.Common.{◌≡◌, ◌≤◌, ◌++◌, ℕ, List, Some, length}
use Rattle.lps_run.proofs.loading.load.Given as goal

abbrev pub invariant-loop-turn : goal.invariant-loop-turn
invariant-loop-turn g l = record {
  told : (all : List ℕ) → g.T.Texts.text l.fn.texts l.name ≡ Some all → (rest : List ℕ) × (all ≡ l.bytes.items ++ rest);
  same : (other : List ℕ) → g.T.Texts.text l.texts other ≡ g.T.Texts.text l.fn.texts other;
  turns : l.turn ≤ length l.bytes.items;
  limit : length l.bytes.items ≤ 1048576;
  counted : g.T.Texts.faults l.texts l.name ≡ g.T.Texts.faults l.fn.texts l.name;
}
