use Rattle.lps_antecedents.specs.Waiting.{IsReadyWaiting}
use Rattle.lps_tests_sequences.proofs.antecedents.check_later.Given as goal

-- steps can be made on all that waits
abbrev pub invariant-loop-facts : goal.invariant-loop-facts
invariant-loop-facts g l = IsReadyWaiting l.program l.waiting
