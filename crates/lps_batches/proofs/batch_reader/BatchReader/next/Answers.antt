use Rattle.std.proofs.Common.{rules}
use Rattle.lps_batches.proofs.Parts.{nothing_new}
use Rattle.lps_batches.proofs.batch_reader.BatchReader.next.Goals as goal

pub returns-then-is_part-clause-answer : goal.returns-then-is_part-clause-answer
returns-then-is_part-clause-answer c =
    nothing_new c.args.self.now c.is_part.new.self c.is_part.ensures.same (search rules) (c.is_part.ensures.part c.if-is_part.true)
