use Rattle.std.proofs.Common.{rules, ◌≡◌, ap, sym, subst, arith, length}
use Rattle.std.specs.Prelude.{Contains}
use Rattle.lps_antecedents.specs.Buckets.{LiesIn, slots_of}
use Rattle.lps_antecedents.specs.Slots.{left_settled}
use Rattle.lps_antecedents.proofs.Focus.{none_at}
use Rattle.lps_antecedents.proofs.Lying.{lies_new}
use Rattle.lps_antecedents.proofs.Maps.{in_focus, no_slots, set_nothing, set_slots, slots_in_focus}
use Rattle.lps_antecedents.proofs.buckets.settle_bucket.Goals as goal

pub returns-in-Some-clause-slots : goal.returns-in-Some-clause-slots
returns-in-Some-clause-slots c =
    set_slots c.args.wake.now c.args.by_wake.now (c.get_mut.follows.lender c.settle.new.slots) c.in-Some.slots.now c.settle.new.slots (sym c.in-Some.ensures.value)
    (c.get_mut.follows.holds c.settle.new.slots).0 left_settled c.settle.ensures

pub returns-in-Some-clause-nothing : goal.returns-in-Some-clause-nothing
returns-in-Some-clause-nothing c = λ is slot lies.
    let wake = c.args.wake.now in
    let m = c.args.by_wake.now in
    let n = c.get_mut.follows.lender c.settle.new.slots in
    let written = (c.get_mut.follows.holds c.settle.new.slots).0 in
    let f = in_focus wake m n c.in-Some.slots.now c.settle.new.slots (sym c.in-Some.ensures.value) written c.requires in
    let whole = slots_in_focus wake m n c.in-Some.slots.now c.settle.new.slots (sym c.in-Some.ensures.value) written c.requires in
    let there : Contains c.settle.new.slots.items slot =
    lies_new wake (slots_of m) c.requires c.in-Some.slots.now.items c.settle.new.slots.items f slot (subst (λ bs. LiesIn bs wake slot) whole lies) in
    let empty : length c.settle.new.slots.items ≡ 0 = search rules in
    let lt = there.1 in omega (arith, empty, lt)

pub returns-in-None-clause-slots : goal.returns-in-None-clause-slots
returns-in-None-clause-slots c = set_nothing c.args.wake.now c.args.by_wake.now c.get_mut.follows.lender-at-none left_settled (sym c.in-None.ensures.value) c.get_mut.follows.holds-at-none

pub returns-in-None-clause-nothing : goal.returns-in-None-clause-nothing
returns-in-None-clause-nothing c = λ is slot lies.
    let lay = subst (λ bs. LiesIn bs c.args.wake.now slot) (ap slots_of c.get_mut.follows.holds-at-none) lies in
    none_at c.args.wake.now (slots_of c.args.by_wake.now) (no_slots c.args.wake.now c.args.by_wake.now (sym c.in-None.ensures.value)) lay.0 lay.1 lay.2
