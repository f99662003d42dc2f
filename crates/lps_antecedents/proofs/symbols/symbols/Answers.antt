use Rattle.std.proofs.Common.{◌≡◌, ◌∙◌, ◌+◌, List, arith, ap, sym}
use Rattle.std.specs.declared.alloc.Global.{Global}
use Rattle.std.specs.declared.vec.Vec.{Vec}
use Rattle.lps_sizes.specs.Sizes.{limited}
use Rattle.lps_residual.specs.declared.waking.Wake.{Wake}
use Rattle.lps_antecedents.specs.declared.slot.Slot.{Slot}
use Rattle.lps_antecedents.specs.Buckets.{waiting}
use Rattle.lps_antecedents.specs.Slots.{held_size, waiting_in}
use Rattle.lps_antecedents.proofs.Counting.{counted, size_appended}
use Rattle.lps_antecedents.proofs.Focus.{values_as}
use Rattle.lps_antecedents.proofs.symbols.symbols.Goals as goal

pub loop-slots-preserved : goal.loop-slots-preserved
loop-slots-preserved c =
    let count = c.loop-slots.count in
    let here : List Slot = c.in-Some.slots.now.items in
    let left = waiting (values_as (λ (v : Vec Slot Global). v.items) c.next.new.self) in
    let sum = c.saturating_add-count.ensures in
    record {
      counts = omega (arith, sum);
      all = ap (λ n. limited (n + held_size left)) (sum ∙ ap (λ n. limited (count + n)) (c.symbols_in.ensures ∙ ap (λ (ss : List Slot). limited (held_size (waiting_in ss))) c.as_slice.ensures.value))
          ∙ counted count (held_size (waiting_in here)) (held_size left) ∙ ap (λ n. limited (count + n)) (sym (size_appended (waiting_in here) left))
          ∙ ap (λ (es : List (Wake × Vec Slot Global)). limited (count + held_size (waiting (values_as (λ v. v.items) es)))) (sym c.in-Some.ensures.steps) ∙ c.loop-slots.invariant.all;
    }

pub returns : goal.returns
returns c =
    let same : c.loop-slots.count ≡ c.loop-slots.count + 0 = omega arith in
    sym c.loop-slots.invariant.counts ∙ ap limited same
    ∙ ap (λ (es : List (Wake × Vec Slot Global)). limited (c.loop-slots.count + held_size (waiting (values_as (λ v. v.items) es)))) (sym c.in-None.ensures.steps.0) ∙ c.loop-slots.invariant.all
