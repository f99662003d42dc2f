use Rattle.std.proofs.Common.{arith}
use Rattle.lps_meaning.specs.declared.when.When.TheVariants.{Unknown}
use Rattle.lps_seq.specs.Starts.{given_when}
use Rattle.lps_seq.proofs.Tables.{when_above, whole_table}
use Rattle.lps_seq.proofs.entrance.given_times.Goals as goal

pub returns : goal.returns
returns c =
    whole_table (λ k. Unknown k) (given_when c.args.shared.now c.args.times.now) c.loop-number.whens.items c.loop-number.number c.loop-number.invariant
    (λ k le. when_above c.args.shared.now c.args.times.now c.in_ok-number-end.number-end k c.requires c.in_ok-number-end.ensures (omega (arith, le, c.loop-number-test.false)))
