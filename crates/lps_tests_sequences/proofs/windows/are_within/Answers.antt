use Rattle.std.proofs.Common.{sym}
use Rattle.std.proofs.lemmas.List.{take_all}
use Rattle.std.proofs.lemmas.List.Elements.{All-more, All-same}
use Rattle.lps_windows.specs.Windows.{IsWithin}
use Rattle.lps_tests_sequences.proofs.windows.are_within.Goals as goal

pub loop-condition-preserved : goal.loop-condition-preserved
loop-condition-preserved c =
    All-more (IsWithin 2) c.args.conditions.now c.loop-condition.condition-index _ c.loop-condition-test.true c.loop-condition.invariant (c.is_within.ensures c.if-not-is_within.false)

pub returns : goal.returns
returns c = λ holds. All-same (IsWithin 2) c.args.conditions.now _ (sym (take_all c.loop-condition.condition-index c.args.conditions.now c.loop-condition-test.false)) c.loop-condition.invariant
