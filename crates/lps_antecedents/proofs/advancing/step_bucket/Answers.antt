use Rattle.std.proofs.Common.{sym}
use Rattle.lps_facts.specs.Facts.{members}
use Rattle.lps_antecedents.proofs.Steps.{changes_there, held_there, stepped_nowhere, stepped_there}
use Rattle.lps_antecedents.proofs.advancing.step_bucket.Goals as goal

pub step_all-requires-clause-ready : goal.step_all-requires-clause-ready
step_all-requires-clause-ready c = λ h among.
    (c.requires.ready c.args.wake.now h (held_there c.args.wake.now c.args.by_wake.now c.in-Some.slots.now (sym c.in-Some.ensures.value) c.requires.ordered h among)).0

pub returns-in_err-step_all-clause-before : goal.returns-in_err-step_all-clause-before
returns-in_err-step_all-clause-before c =
    changes_there c.args.wake.now c.args.by_wake.now c.in-Some.slots.now (sym c.in-Some.ensures.value) c.requires.ordered (c.get_mut.follows.lender c.step_all.new.slots) c.step_all.new.slots
    (c.get_mut.follows.holds c.step_all.new.slots).0 c.step_all.ensures.before

pub returns-in_ok-step_all-clause-before : goal.returns-in_ok-step_all-clause-before
returns-in_ok-step_all-clause-before c =
    changes_there c.args.wake.now c.args.by_wake.now c.in-Some.slots.now (sym c.in-Some.ensures.value) c.requires.ordered (c.get_mut.follows.lender c.step_all.new.slots) c.step_all.new.slots
    (c.get_mut.follows.holds c.step_all.new.slots).0 c.step_all.ensures.before

pub returns-in_ok-step_all-clause-gathered : goal.returns-in_ok-step_all-clause-gathered
returns-in_ok-step_all-clause-gathered c =
    stepped_there c.args.wake.now c.args.by_wake.now c.in-Some.slots.now (sym c.in-Some.ensures.value) c.requires.ordered (c.get_mut.follows.lender c.step_all.new.slots) c.step_all.new.slots
    (c.get_mut.follows.holds c.step_all.new.slots).0 c.args.program.now c.args.time (members c.args.facts.now) c.args.events.now c.args.gathered.now c.step_all.new.gathered c.in_ok-step_all.ensures.gathered

pub returns-in_default-clause-gathered : goal.returns-in_default-clause-gathered
returns-in_default-clause-gathered c =
    stepped_nowhere c.args.wake.now c.args.by_wake.now c.get_mut.follows.lender-at-none (sym c.in_default.ensures.value) c.get_mut.follows.holds-at-none c.args.program.now c.args.time (members c.args.facts.now) c.args.events.now
    c.args.gathered.now
