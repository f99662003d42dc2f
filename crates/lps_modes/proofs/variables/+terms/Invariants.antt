use Rattle.std.proofs.Common.{◌≡◌, ◌++◌, drop}
use Rattle.lps_model.specs.VariableLists.{args_vars}
use Rattle.lps_modes.proofs.variables.+terms.Given as goal

-- the variables so far, and those of the arguments that are left
abbrev pub invariant-append_args-loop-arg : goal.invariant-append_args-loop-arg
invariant-append_args-loop-arg l = l.out.items ++ args_vars (drop l.arg-index l.args) ≡ l.fn.out.items ++ args_vars l.args
