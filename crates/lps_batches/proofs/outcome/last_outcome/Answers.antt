use Rattle.std.proofs.Common.{arith, ◌∙◌, sym, length, subst}
use Rattle.std.proofs.lemmas.Result.{IfOk-weaker}
use Rattle.lps_batches.specs.declared.front.Front.TheVariants as front
use Rattle.lps_batches.specs.Outcomes.{FitsIn, IsEndOutcome}
use Rattle.lps_batches.proofs.Fronts.{Found, found_ahead}
use Rattle.lps_batches.proofs.Outcomes.{few_lines, last_outcome, read_fits, skipped_outcome, some_last}
use Rattle.lps_batches.proofs.outcome.last_outcome.Goals as goal

pub returns-then-is_skipped-clause-is : goal.returns-then-is_skipped-clause-is
returns-then-is_skipped-clause-is c =
    let b = c.args.bytes.now in
    let found : Found b c.args.found.lines c.args.found.bytes front.Part =
    subst (Found b c.args.found.lines c.args.found.bytes) c.requires.part (found_ahead b c.args.found c.requires.found) in
    skipped_outcome b c.args.found.lines c.args.found.bytes found c.rest_of-line.result.now c.rest_of-line.ensures (sym c.is_skipped.ensures ∙ c.if-is_skipped.true)

pub returns-then-is_skipped-clause-fits : goal.returns-then-is_skipped-clause-fits
returns-then-is_skipped-clause-fits c =
    let b = c.args.bytes.now in
    let few = few_lines b c.args.found.lines c.args.found.bytes c.args.found.front (found_ahead b c.args.found c.requires.found) in
    (omega (arith, c.requires.within), omega arith)

pub returns-clause-is : goal.returns-clause-is
returns-clause-is c =
    let b = c.args.bytes.now in
    let found : Found b c.args.found.lines c.args.found.bytes front.Part =
    subst (Found b c.args.found.lines c.args.found.bytes) c.requires.part (found_ahead b c.args.found c.requires.found) in
    IfOk-weaker c.line_outcome.result _ (IsEndOutcome b)
    (last_outcome b c.args.found.lines c.args.found.bytes found c.rest_of-line.result.now c.rest_of-line.ensures (sym c.is_skipped.ensures ∙ c.if-is_skipped.false)) c.line_outcome.ensures

pub returns-clause-fits : goal.returns-clause-fits
returns-clause-fits c =
    let b = c.args.bytes.now in
    let found : Found b c.args.found.lines c.args.found.bytes front.Part =
    subst (Found b c.args.found.lines c.args.found.bytes) c.requires.part (found_ahead b c.args.found c.requires.found) in
    let some = some_last b c.args.found.lines c.args.found.bytes found c.rest_of-line.result.now c.rest_of-line.ensures (sym c.is_skipped.ensures ∙ c.if-is_skipped.false) in
    IfOk-weaker c.line_outcome.result _ (FitsIn (length b)) (λ o read. read_fits _ c.args.found.lines (length b) (length b) o some (omega arith) read) c.line_outcome.ensures
