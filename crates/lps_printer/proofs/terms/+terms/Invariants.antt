use Rattle.std.proofs.Common.{◌≡◌, ◌++◌, map, drop, false}
use Rattle.std.specs.Prelude.{codes}
use Rattle.lps_printer.specs.Terms.{joined, listed, term_text}
use Rattle.lps_printer.proofs.terms.+terms.Given as goal

-- the name, the arguments so far, and those that are left
abbrev pub invariant-append_call-loop-arg : goal.invariant-append_call-loop-arg
invariant-append_call-loop-arg l = l.out.items ++ joined (codes ", ") l.later (map (term_text l.names) (drop l.arg-index l.args)) ≡ (l.fn.out.items ++ (l.name ++ codes "(")) ++ listed (map (term_text l.names) l.args)
