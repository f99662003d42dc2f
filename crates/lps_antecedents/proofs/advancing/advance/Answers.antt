use Rattle.std.proofs.Common.{◌∙◌, false, List, subst, sym}
use Rattle.std.specs.Prelude.{Contains}
use Rattle.lps_facts.specs.Facts.{members}
use Rattle.lps_meaning.specs.declared.goal.GoalKey.{GoalKey}
use Rattle.lps_nodes.specs.Plans.{AreKeysOf}
use Rattle.lps_residual.specs.declared.waking.Wake.{Wake}
use Rattle.lps_antecedents.specs.declared.held.Held.{Held}
use Rattle.lps_antecedents.specs.Advancing.{IsGatheredFrom}
use Rattle.lps_antecedents.specs.Buckets.{AreReadyIn, AreSwitched, ChangesOnly, IsSound, kept, slots_of, waiting}
use Rattle.lps_antecedents.specs.Gathered.{HeldEndsWith}
use Rattle.lps_antecedents.specs.Lists.{ByOne, Gains, HasExactly}
use Rattle.lps_antecedents.specs.Waiting.{StandsFor}
use Rattle.lps_antecedents.proofs.Carrying.{are_off, carried, ended, half_way, one_wake}
use Rattle.lps_antecedents.proofs.Lying.{once_waiting, same_kept}
use Rattle.lps_antecedents.proofs.Settling.{settled_waiting}
use Rattle.lps_antecedents.proofs.Standing.{stand_after}
use Rattle.lps_antecedents.proofs.advancing.advance.Goals as goal

pub returns-in_err-buckets-clause-waited : goal.returns-in_err-buckets-clause-waited
returns-in_err-buckets-clause-waited c =
    let old = slots_of c.args.buckets.now.by_wake in
    sym (settled_waiting old c.args.buckets.now.watch (subst (IsSound old c.args.buckets.now.watch) c.requires.settled c.requires.sound))

pub advanced-requires-clause-off : goal.advanced-requires-clause-off
advanced-requires-clause-off c =
    let old = slots_of c.args.buckets.now.by_wake in
    let off = slots_of c.switch_all.new.by_wake in
    are_off c.as_slice-touched.result.now old off (subst (λ (ws : List Wake). AreSwitched false ws old off) (c.as_slice.ensures.value ∙ sym c.as_slice-touched.ensures.value) c.switch_all.ensures)

pub advanced-requires-clause-ready : goal.advanced-requires-clause-ready
advanced-requires-clause-ready c =
    subst (AreReadyIn c.args.program.now) (sym (same_kept (slots_of c.args.buckets.now.by_wake) (slots_of c.switch_all.new.by_wake) c.switch_all.ensures.only.before)) c.requires.ready

pub returns-in_err-gathered-clause-waited : goal.returns-in_err-gathered-clause-waited
returns-in_err-gathered-clause-waited c =
    let text = c.args.program.now in
    let old = slots_of c.args.buckets.now.by_wake in
    let off = slots_of c.switch_all.new.by_wake in
    let sound = subst (IsSound old c.args.buckets.now.watch) c.requires.settled c.requires.sound in
    let wakes : List Wake = c.in_ok-buckets.field-0.items in
    let switched = subst (λ (ws : List Wake). AreSwitched false ws old off) c.as_slice.ensures.value c.switch_all.ensures in
    let new = slots_of c.advanced.new.by_wake in
    let changes = subst (λ (ws : List Wake). ChangesOnly ws off new) c.as_slice-touched.ensures.value c.advanced.ensures.before in
    (half_way text wakes old off new c.args.buckets.now.watch sound c.requires.ready switched changes).0

pub returns-in_err-gathered-clause-sound : goal.returns-in_err-gathered-clause-sound
returns-in_err-gathered-clause-sound c =
    let text = c.args.program.now in
    let old = slots_of c.args.buckets.now.by_wake in
    let off = slots_of c.switch_all.new.by_wake in
    let sound = subst (IsSound old c.args.buckets.now.watch) c.requires.settled c.requires.sound in
    let wakes : List Wake = c.in_ok-buckets.field-0.items in
    let switched = subst (λ (ws : List Wake). AreSwitched false ws old off) c.as_slice.ensures.value c.switch_all.ensures in
    let new = slots_of c.advanced.new.by_wake in
    let changes = subst (λ (ws : List Wake). ChangesOnly ws off new) c.as_slice-touched.ensures.value c.advanced.ensures.before in
    (half_way text wakes old off new c.args.buckets.now.watch sound c.requires.ready switched changes).1

pub returns-in_err-gathered-clause-ready : goal.returns-in_err-gathered-clause-ready
returns-in_err-gathered-clause-ready c =
    let text = c.args.program.now in
    let old = slots_of c.args.buckets.now.by_wake in
    let off = slots_of c.switch_all.new.by_wake in
    let sound = subst (IsSound old c.args.buckets.now.watch) c.requires.settled c.requires.sound in
    let wakes : List Wake = c.in_ok-buckets.field-0.items in
    let switched = subst (λ (ws : List Wake). AreSwitched false ws old off) c.as_slice.ensures.value c.switch_all.ensures in
    let new = slots_of c.advanced.new.by_wake in
    let changes = subst (λ (ws : List Wake). ChangesOnly ws off new) c.as_slice-touched.ensures.value c.advanced.ensures.before in
    (half_way text wakes old off new c.args.buckets.now.watch sound c.requires.ready switched changes).2

pub returns-in_err-all-clause-waited : goal.returns-in_err-all-clause-waited
returns-in_err-all-clause-waited c =
    let text = c.args.program.now in
    let old = slots_of c.args.buckets.now.by_wake in
    let off = slots_of c.switch_all.new.by_wake in
    let sound = subst (IsSound old c.args.buckets.now.watch) c.requires.settled c.requires.sound in
    let wakes : List Wake = c.in_ok-buckets.field-0.items in
    let switched = subst (λ (ws : List Wake). AreSwitched false ws old off) c.as_slice.ensures.value c.switch_all.ensures in
    let new = slots_of c.advanced.new.by_wake in
    let changes = subst (λ (ws : List Wake). ChangesOnly ws off new) c.as_slice-touched.ensures.value c.advanced.ensures.before in
    (half_way text wakes old off new c.args.buckets.now.watch sound c.requires.ready switched changes).0

pub returns-in_err-all-clause-sound : goal.returns-in_err-all-clause-sound
returns-in_err-all-clause-sound c =
    let text = c.args.program.now in
    let old = slots_of c.args.buckets.now.by_wake in
    let off = slots_of c.switch_all.new.by_wake in
    let sound = subst (IsSound old c.args.buckets.now.watch) c.requires.settled c.requires.sound in
    let wakes : List Wake = c.in_ok-buckets.field-0.items in
    let switched = subst (λ (ws : List Wake). AreSwitched false ws old off) c.as_slice.ensures.value c.switch_all.ensures in
    let new = slots_of c.advanced.new.by_wake in
    let changes = subst (λ (ws : List Wake). ChangesOnly ws off new) c.as_slice-touched.ensures.value c.advanced.ensures.before in
    (half_way text wakes old off new c.args.buckets.now.watch sound c.requires.ready switched changes).1

pub returns-in_err-all-clause-ready : goal.returns-in_err-all-clause-ready
returns-in_err-all-clause-ready c =
    let text = c.args.program.now in
    let old = slots_of c.args.buckets.now.by_wake in
    let off = slots_of c.switch_all.new.by_wake in
    let sound = subst (IsSound old c.args.buckets.now.watch) c.requires.settled c.requires.sound in
    let wakes : List Wake = c.in_ok-buckets.field-0.items in
    let switched = subst (λ (ws : List Wake). AreSwitched false ws old off) c.as_slice.ensures.value c.switch_all.ensures in
    let new = slots_of c.advanced.new.by_wake in
    let changes = subst (λ (ws : List Wake). ChangesOnly ws off new) c.as_slice-touched.ensures.value c.advanced.ensures.before in
    (half_way text wakes old off new c.args.buckets.now.watch sound c.requires.ready switched changes).2

pub put_all-requires-clause-ready : goal.put_all-requires-clause-ready
put_all-requires-clause-ready c = λ h among. c.in_ok-gathered.ensures.ready h (subst (λ (hs : List Held). Contains hs h) c.in_ok-all.ensures.held among)

pub put_all-requires-clause-sound : goal.put_all-requires-clause-sound
put_all-requires-clause-sound c =
    let text = c.args.program.now in
    let old = slots_of c.args.buckets.now.by_wake in
    let off = slots_of c.switch_all.new.by_wake in
    let sound = subst (IsSound old c.args.buckets.now.watch) c.requires.settled c.requires.sound in
    let wakes : List Wake = c.in_ok-buckets.field-0.items in
    let switched = subst (λ (ws : List Wake). AreSwitched false ws old off) c.as_slice.ensures.value c.switch_all.ensures in
    let new = slots_of c.advanced.new.by_wake in
    let changes = subst (λ (ws : List Wake). ChangesOnly ws off new) c.as_slice-touched.ensures.value c.advanced.ensures.before in
    (half_way text wakes old off new c.args.buckets.now.watch sound c.requires.ready switched changes).1

pub put_all-requires-clause-kept : goal.put_all-requires-clause-kept
put_all-requires-clause-kept c =
    let text = c.args.program.now in
    let old = slots_of c.args.buckets.now.by_wake in
    let off = slots_of c.switch_all.new.by_wake in
    let sound = subst (IsSound old c.args.buckets.now.watch) c.requires.settled c.requires.sound in
    let wakes : List Wake = c.in_ok-buckets.field-0.items in
    let switched = subst (λ (ws : List Wake). AreSwitched false ws old off) c.as_slice.ensures.value c.switch_all.ensures in
    let new = slots_of c.advanced.new.by_wake in
    let changes = subst (λ (ws : List Wake). ChangesOnly ws off new) c.as_slice-touched.ensures.value c.advanced.ensures.before in
    (half_way text wakes old off new c.args.buckets.now.watch sound c.requires.ready switched changes).2

pub returns-in_err-put_all-clause-waited : goal.returns-in_err-put_all-clause-waited
returns-in_err-put_all-clause-waited c =
    let text = c.args.program.now in
    let old = slots_of c.args.buckets.now.by_wake in
    let off = slots_of c.switch_all.new.by_wake in
    let sound = subst (IsSound old c.args.buckets.now.watch) c.requires.settled c.requires.sound in
    let wakes : List Wake = c.in_ok-buckets.field-0.items in
    let switched = subst (λ (ws : List Wake). AreSwitched false ws old off) c.as_slice.ensures.value c.switch_all.ensures in
    let new = slots_of c.advanced.new.by_wake in
    let changes = subst (λ (ws : List Wake). ChangesOnly ws off new) c.as_slice-touched.ensures.value c.advanced.ensures.before in
    c.put_all.ensures.waited ∙ (half_way text wakes old off new c.args.buckets.now.watch sound c.requires.ready switched changes).0

pub returns-clause-waited : goal.returns-clause-waited
returns-clause-waited c =
    let text = c.args.program.now in
    let old = slots_of c.args.buckets.now.by_wake in
    let off = slots_of c.switch_all.new.by_wake in
    let sound = subst (IsSound old c.args.buckets.now.watch) c.requires.settled c.requires.sound in
    let wakes : List Wake = c.in_ok-buckets.field-0.items in
    let switched = subst (λ (ws : List Wake). AreSwitched false ws old off) c.as_slice.ensures.value c.switch_all.ensures in
    let new = slots_of c.advanced.new.by_wake in
    let changes = subst (λ (ws : List Wake). ChangesOnly ws off new) c.as_slice-touched.ensures.value c.advanced.ensures.before in
    c.put_all.ensures.waited ∙ (half_way text wakes old off new c.args.buckets.now.watch sound c.requires.ready switched changes).0

pub returns-clause-stands : goal.returns-clause-stands
returns-clause-stands c = λ level levels trace now at state happen stands.
    let text = c.args.program.now in
    let old = slots_of c.args.buckets.now.by_wake in
    let off = slots_of c.switch_all.new.by_wake in
    let sound = subst (IsSound old c.args.buckets.now.watch) c.requires.settled c.requires.sound in
    let wakes : List Wake = c.in_ok-buckets.field-0.items in
    let switched = subst (λ (ws : List Wake). AreSwitched false ws old off) c.as_slice.ensures.value c.switch_all.ensures in
    let new = slots_of c.advanced.new.by_wake in
    let changes = subst (λ (ws : List Wake). ChangesOnly ws off new) c.as_slice-touched.ensures.value c.advanced.ensures.before in
    let last = slots_of c.put_all.new.buckets.by_wake in
    let g = c.in_ok-gathered.gathered in
    let facts = members c.args.facts.now in
    let events = c.args.events.now in
    let time = c.args.time in
    let nodes = c.progress_law.ensures.waiting_nodes in
    let gathered = subst (λ (ws : List Wake). IsGatheredFrom text time facts events ws off new g) c.as_slice-touched.ensures.value c.in_ok-gathered.ensures.gathered in
    let gains = subst (λ (hs : List Held). Gains (waiting new) (waiting last) (Contains hs)) c.in_ok-all.ensures.held c.in_ok-put_all.ensures.waits in
    let held = carried text c.lawful.ensures.accepted c.rest_law.ensures nodes time c.requires.time.1 events old off c.args.buckets.now.watch wakes sound c.requires.ready switched c.in_ok-buckets.ensures.exact
    level levels trace now at happen stands facts state new last g gathered gains in
    let keys = ended text c.lawful.ensures.accepted c.rest_law.ensures nodes time c.requires.time.1 events old off c.args.buckets.now.watch wakes sound c.requires.ready switched c.in_ok-buckets.ensures.exact
    level levels trace now at happen stands facts state new last g gathered gains in
    let all = c.in_ok-put_all.ensures.sound in
    let once = once_waiting last all.ordered all.apart (one_wake c.wake_law.ensures text last c.in_ok-put_all.ensures.kept) in
    let after = stand_after text level trace (waiting last) c.in_ok-all.keys.items once c.in_ok-all.ensures.sorted c.lawful.ensures.accepted c.lawful.ensures.formed c.progress_law.ensures.nodes_come
    c.progress_law.ensures.ends_come nodes c.progress_law.ensures.key_ends now (waiting old) stands held
    (subst (λ (ks : List GoalKey). HasExactly ks (ByOne (waiting old) (HeldEndsWith text level trace now))) (sym c.in_ok-all.ensures.keys) keys) in
    subst (λ t. StandsFor text level trace t (waiting last) × AreKeysOf text level trace t c.in_ok-all.keys.items) (sym at) after
