use Rattle.std.proofs.Common.{◌≡◌, ◌++◌, map, take}
use Rattle.std.specs.Prelude.{codes}
use Rattle.lps_terms.specs.Printed.{printed, separated}
use Rattle.lps_terms.proofs.print.+print.Given as goal

-- the name, and the arguments so far
abbrev pub invariant-append_call-loop-i : goal.invariant-append_call-loop-i
invariant-append_call-loop-i l = l.out.items ≡ l.fn.out.items ++ l.name ++ codes "(" ++ separated (map printed (take l.i l.args))
