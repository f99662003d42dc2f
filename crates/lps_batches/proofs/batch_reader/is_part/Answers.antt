use Rattle.lps_batches.proofs.Parts.{still_part}
use Rattle.lps_batches.proofs.batch_reader.is_part.Goals as goal

pub returns-then-bytes-le-LONGEST_LINE : goal.returns-then-bytes-le-LONGEST_LINE
returns-then-bytes-le-LONGEST_LINE c =
    still_part c.args.seen c.args.bytes.now c.rest_of.result.now c.has_no_feed.result c.if-bytes-le-LONGEST_LINE.true c.requires.seen c.rest_of.ensures c.has_no_feed.ensures
