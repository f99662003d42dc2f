use Rattle.std.proofs.Common.{◌≡◌, ◌∙◌, ◌+◌, List, [], arith, drop, ap, sym}
use Rattle.std.proofs.lemmas.List.{drop_all}
use Rattle.lps_sizes.specs.Sizes.{limited}
use Rattle.lps_antecedents.specs.declared.slot.Slot.{Slot}
use Rattle.lps_antecedents.specs.Slots.{held_size, waiting_in}
use Rattle.lps_antecedents.proofs.Counting.{one_counted}
use Rattle.lps_antecedents.proofs.Lists.{rest_from}
use Rattle.lps_antecedents.proofs.symbols.symbols_in.Goals as goal

pub loop-slot-preserved : goal.loop-slot-preserved
loop-slot-preserved c =
    let slots = c.args.slots.now in
    let i = c.loop-slot.slot-index in
    let slot : Slot = c.slot-item.result in
    let count = c.loop-slot.count in
    let left = drop (i + 1) slots in
    let sum = c.saturating_add-count.ensures in
    record {
      counts = omega (arith, sum);
      all = ap (λ n. limited (n + held_size (waiting_in left))) (sum ∙ ap (λ n. limited (count + n)) c.symbols_now.ensures) ∙ one_counted count slot left
          ∙ ap (λ (ss : List Slot). limited (count + held_size (waiting_in ss))) (sym (rest_from slots i slot c.loop-slot-test.true c.slot-item.is)) ∙ c.loop-slot.invariant.all;
    }

pub returns : goal.returns
returns c =
    let slots = c.args.slots.now in
    let none : drop c.loop-slot.slot-index slots ≡ [] = drop_all c.loop-slot.slot-index slots (omega arith) in
    let same : c.loop-slot.count ≡ c.loop-slot.count + 0 = omega arith in
    sym c.loop-slot.invariant.counts ∙ ap limited same ∙ ap (λ (ss : List Slot). limited (c.loop-slot.count + held_size (waiting_in ss))) (sym none) ∙ c.loop-slot.invariant.all
