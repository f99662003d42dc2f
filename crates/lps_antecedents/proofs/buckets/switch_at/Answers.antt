use Rattle.std.proofs.Common.{map, sym}
use Rattle.lps_antecedents.specs.Slots.{switched}
use Rattle.lps_antecedents.proofs.Maps.{set_nothing, set_slots}
use Rattle.lps_antecedents.proofs.buckets.switch_at.Goals as goal

pub returns-in-Some : goal.returns-in-Some
returns-in-Some c =
    set_slots c.args.wake.now c.args.by_wake.now (c.get_mut.follows.lender c.switch.new.slots) c.in-Some.slots.now c.switch.new.slots (sym c.in-Some.ensures.value)
    (c.get_mut.follows.holds c.switch.new.slots).0 (map (switched c.args.on)) c.switch.ensures

pub returns-in_default : goal.returns-in_default
returns-in_default c = set_nothing c.args.wake.now c.args.by_wake.now c.get_mut.follows.lender-at-none (map (switched c.args.on)) (sym c.in_default.ensures.value) c.get_mut.follows.holds-at-none
