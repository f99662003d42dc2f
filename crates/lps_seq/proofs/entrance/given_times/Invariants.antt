use Rattle.lps_meaning.specs.declared.when.When.TheVariants.{Unknown}
use Rattle.lps_seq.specs.Starts.{given_when}
use Rattle.lps_seq.proofs.Tables.{IsTable}
use Rattle.lps_seq.proofs.entrance.given_times.Given as goal

-- so far each time is what is given
abbrev pub invariant-loop-number : goal.invariant-loop-number
invariant-loop-number l = IsTable (λ k. Unknown k) (given_when l.shared l.times) l.whens.items l.number
