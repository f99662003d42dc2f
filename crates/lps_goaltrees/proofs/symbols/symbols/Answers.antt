use Rattle.std.proofs.Common.{◌≡◌, ◌∙◌, ◌+◌, List, take, ap, sym}
use Rattle.lps_sizes.specs.Sizes.{limited}
use Rattle.lps_goaltrees.specs.declared.slot.Slot.{Slot}
use Rattle.lps_goaltrees.specs.declared.slot.Which.TheVariants.{Now}
use Rattle.lps_goaltrees.specs.Pursued.{goals_size}
use Rattle.lps_goaltrees.specs.Slots.{goals_of, size_now}
use Rattle.lps_goaltrees.proofs.Lists.{all_taken}
use Rattle.lps_goaltrees.proofs.Counting.{counted, size_next}
use Rattle.lps_goaltrees.proofs.symbols.symbols.Goals as goal

pub loop-slot-preserved : goal.loop-slot-preserved
loop-slot-preserved c =
    let slot : Slot = c.slot-item.result in
    let count = c.loop-slot.count in
    c.saturating_add-count.ensures ∙ ap (λ n. limited (count + n)) c.symbols_now.ensures ∙ ap (λ n. limited (n + limited (size_now slot))) c.loop-slot.invariant
    ∙ counted (goals_size (goals_of Now (take c.loop-slot.slot-index c.args.slots.now))) (size_now slot) ∙ ap limited (sym (size_next c.args.slots.now c.loop-slot.slot-index slot c.loop-slot-test.true c.slot-item.is))

pub returns : goal.returns
returns c = c.loop-slot.invariant ∙ ap (λ (ss : List Slot). limited (goals_size (goals_of Now ss))) (all_taken c.args.slots.now c.loop-slot.slot-index c.loop-slot-test.false)
