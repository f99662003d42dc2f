use Rattle.std.proofs.Common.{◌≡◌, take}
use Rattle.lps_model.specs.VariableLists.{args_vars}
use Rattle.lps_solve.specs.Answers.{with_vars}
use Rattle.lps_solve.proofs.variables.+note_term.Given as goal

-- the variables of the arguments so far are noted
abbrev pub invariant-loop-arg : goal.invariant-loop-arg
invariant-loop-arg l = l.variables.keys ≡ with_vars l.fn.variables.keys (args_vars (take l.arg-index l.arg-items))
