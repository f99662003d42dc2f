use Rattle.std.proofs.Common.{◌≡◌, take}
use Rattle.lps_terms.specs.Symbols.{symbols_of_all}
use Rattle.lps_sizes.specs.Sizes.{limited}
use Rattle.lps_sizes.proofs.node.terms_symbols.Given as goal

-- the symbols of the terms so far
abbrev pub invariant-loop-term : goal.invariant-loop-term
invariant-loop-term l = l.count ≡ limited (symbols_of_all (take l.term-index l.terms))
