use Rattle.std.proofs.Common.{◌≡◌, take, min}
use Rattle.lps_terms.specs.Symbols.{symbols_of_all}
use Rattle.lps_solve.proofs.size.symbols_of_all.Given as goal

abbrev pub invariant-loop-term : goal.invariant-loop-term
invariant-loop-term l = l.count ≡ min (symbols_of_all (take l.term-index l.terms)) 18446744073709551615
