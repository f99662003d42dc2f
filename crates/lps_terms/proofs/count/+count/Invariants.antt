use Rattle.std.proofs.Common.{◌≡◌, min, ◌+◌, take}
use Rattle.lps_terms.specs.Symbols.{symbols_of_all}
use Rattle.lps_terms.proofs.count.+count.Given as goal

-- one, and the symbols of the arguments so far
abbrev pub invariant-symbols_with-loop-arg : goal.invariant-symbols_with-loop-arg
invariant-symbols_with-loop-arg l = l.count ≡ min (1 + symbols_of_all (take l.arg-index l.args)) 18446744073709551615
