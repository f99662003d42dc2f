use Rattle.std.proofs.Common.{◌≡◌, drop}
use Rattle.lps_model.specs.KindRefusals.{first_where}
use Rattle.lps_kinds.specs.Faults.{is_fault}
use Rattle.lps_kinds.proofs.fault.first_refusal.Given as goal

-- the occurrences so far do not have the fault
abbrev pub invariant-loop-occurrence : goal.invariant-loop-occurrence
invariant-loop-occurrence l = first_where (is_fault l.fault) l.kinds (drop l.occurrence-index l.occurrences) ≡ first_where (is_fault l.fault) l.kinds l.occurrences
