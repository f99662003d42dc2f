use Rattle.std.proofs.Common.{◌≡◌, take}
use Rattle.lps_model.specs.VariableLists.{args_vars}
use Rattle.lps_solve.specs.Answers.{with_vars}
use Rattle.lps_solve.proofs.variables.note_terms.Given as goal

-- the variables of the terms so far are noted
abbrev pub invariant-loop-term : goal.invariant-loop-term
invariant-loop-term l = l.variables.keys ≡ with_vars l.fn.variables.keys (args_vars (take l.term-index l.terms))
