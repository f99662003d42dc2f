use Rattle.std.proofs.Common.{arith, ◌+◌, length, subst}
use Rattle.std.proofs.lemmas.Result.{IfOk-weaker}
use Rattle.lps_batches.specs.declared.front.Front.TheVariants as front
use Rattle.lps_batches.specs.Outcomes.{FitsIn, IsOutcome, IsWhole}
use Rattle.lps_batches.proofs.Fronts.{Found, found_ahead}
use Rattle.lps_batches.proofs.Outcomes.{few_lines, line_within, long_outcome, part_outcome, read_fits, read_whole, whole_outcome, within}
use Rattle.lps_batches.proofs.outcome.outcome_of.Goals as goal

pub whole_outcome-requires : goal.whole_outcome-requires
whole_outcome-requires c =
    let b = c.args.bytes.now in
    let found : Found b c.args.found.lines c.args.found.bytes (front.Line c.in-Line.length) =
    subst (Found b c.args.found.lines c.args.found.bytes) c.in-Line.is (found_ahead b c.args.found c.requires) in
    line_within b c.args.found.lines c.args.found.bytes c.in-Line.length found

pub returns-in-Part-clause-is : goal.returns-in-Part-clause-is
returns-in-Part-clause-is c =
    let b = c.args.bytes.now in
    part_outcome b c.args.found.lines c.args.found.bytes (subst (Found b c.args.found.lines c.args.found.bytes) c.in-Part.is (found_ahead b c.args.found c.requires))

pub returns-in-Part-clause-fits : goal.returns-in-Part-clause-fits
returns-in-Part-clause-fits c =
    let b = c.args.bytes.now in
    let found = found_ahead b c.args.found c.requires in
    (few_lines b c.args.found.lines c.args.found.bytes c.args.found.front found, within b c.args.found.lines c.args.found.bytes c.args.found.front found)

pub returns-in-TooLong-clause-is : goal.returns-in-TooLong-clause-is
returns-in-TooLong-clause-is c =
    let b = c.args.bytes.now in
    long_outcome b c.args.found.lines c.args.found.bytes (subst (Found b c.args.found.lines c.args.found.bytes) c.in-TooLong.is (found_ahead b c.args.found c.requires))

pub returns-in-TooLong-clause-fits : goal.returns-in-TooLong-clause-fits
returns-in-TooLong-clause-fits c =
    let b = c.args.bytes.now in
    let found = found_ahead b c.args.found c.requires in
    omega (arith, few_lines b c.args.found.lines c.args.found.bytes c.args.found.front found, within b c.args.found.lines c.args.found.bytes c.args.found.front found)

pub returns-in-Line-clause-is : goal.returns-in-Line-clause-is
returns-in-Line-clause-is c =
    let b = c.args.bytes.now in
    let found : Found b c.args.found.lines c.args.found.bytes (front.Line c.in-Line.length) =
    subst (Found b c.args.found.lines c.args.found.bytes) c.in-Line.is (found_ahead b c.args.found c.requires) in
    IfOk-weaker c.whole_outcome.result _ (IsOutcome b) (whole_outcome b c.args.found.lines c.args.found.bytes c.in-Line.length found) c.whole_outcome.ensures

pub returns-in-Line-clause-fits : goal.returns-in-Line-clause-fits
returns-in-Line-clause-fits c =
    let b = c.args.bytes.now in
    let found : Found b c.args.found.lines c.args.found.bytes (front.Line c.in-Line.length) =
    subst (Found b c.args.found.lines c.args.found.bytes) c.in-Line.is (found_ahead b c.args.found c.requires) in
    let fits = line_within b c.args.found.lines c.args.found.bytes c.in-Line.length found in
    let few = few_lines b c.args.found.lines c.args.found.bytes (front.Line c.in-Line.length) found in
    IfOk-weaker c.whole_outcome.result _ (FitsIn (length b)) (λ o read. read_fits _ c.args.found.lines (c.args.found.bytes + c.in-Line.length + 1) (length b) o (omega arith) fits read) c.whole_outcome.ensures

pub returns-in-Line-clause-whole : goal.returns-in-Line-clause-whole
returns-in-Line-clause-whole c = λ no_part. IfOk-weaker c.whole_outcome.result _ IsWhole (read_whole _ _ _) c.whole_outcome.ensures
