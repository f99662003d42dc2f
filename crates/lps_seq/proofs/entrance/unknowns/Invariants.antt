use Rattle.std.proofs.Common.{◌≡◌, map, take}
use Rattle.lps_meaning.specs.declared.when.When.TheVariants.{Unknown}
use Rattle.lps_seq.proofs.entrance.unknowns.Given as goal

abbrev pub invariant-loop-number : goal.invariant-loop-number
invariant-loop-number l = l.whens.items ≡ map (λ k. Unknown k) (take l.number-index l.numbers)
