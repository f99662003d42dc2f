use Rattle.std.proofs.Common.{◌∙◌, sym}
use Rattle.lps_batches.proofs.Outcomes.{whole_end}
use Rattle.lps_batches.proofs.outcome.end_outcome.Goals as goal

pub returns-in-TooLong-clause-is : goal.returns-in-TooLong-clause-is
returns-in-TooLong-clause-is c =
    whole_end c.args.bytes.now c.outcome_of.result c.outcome_of.ensures.is (c.outcome_of.ensures.whole (λ part. let clash = sym c.in-TooLong.is ∙ part in absurd cc))

pub returns-in-Line-clause-is : goal.returns-in-Line-clause-is
returns-in-Line-clause-is c =
    whole_end c.args.bytes.now c.outcome_of-in-Line.result c.outcome_of-in-Line.ensures.is (c.outcome_of-in-Line.ensures.whole (λ part. let clash = sym c.in-Line.is ∙ part in absurd cc))
