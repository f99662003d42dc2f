use Rattle.std.proofs.Common.{sym}
use Rattle.lps_antecedents.proofs.Lists.{on_err_any}
use Rattle.lps_antecedents.proofs.Maps.{put_in, slots_same}
use Rattle.lps_antecedents.proofs.buckets.add_at.Goals as goal

pub returns-in_err-add-clause-err : goal.returns-in_err-add-clause-err
returns-in_err-add-clause-err c = on_err_any c.from_residual.result
    (slots_same c.args.wake.now c.args.by_wake.now (c.get_mut.follows.lender c.add.new.slots) c.in-Some.slots.now c.add.new.slots (sym c.in-Some.ensures.value) (c.get_mut.follows.holds c.add.new.slots).0 c.requires.sorted
    c.in_err-add.ensures.err)

pub returns-in_ok-add-clause-put : goal.returns-in_ok-add-clause-put
returns-in_ok-add-clause-put c =
    put_in c.args.wake.now c.args.by_wake.now (c.get_mut.follows.lender c.add.new.slots) c.in-Some.slots.now c.add.new.slots (sym c.in-Some.ensures.value) (c.get_mut.follows.holds c.add.new.slots).0 c.requires.sorted
    c.args.held c.in_ok-add.ensures.added
