use Rattle.std.proofs.Common.{◌≡◌, ◌≤◌, List, length, ap, subst, sym}
use Rattle.std.specs.Prelude.{Contains}
use Rattle.lps_model.specs.Rules.{rules}
use Rattle.lps_meaning.specs.declared.goal.GoalKey.{GoalKey}
use Rattle.lps_meaning.specs.Goals.{IsGoal}
use Rattle.lps_nodes.specs.Plans.{IsWaiting}
use Rattle.lps_antecedents.specs.declared.held.Held.{Held}
use Rattle.lps_antecedents.specs.Buckets.{slots_of, waiting}
use Rattle.lps_antecedents.specs.Lists.{Gains, HasExactly}
use Rattle.lps_antecedents.proofs.Carrying.{one_wake}
use Rattle.lps_antecedents.proofs.Gaining.{exactly_put}
use Rattle.lps_antecedents.proofs.Lying.{once_waiting}
use Rattle.lps_antecedents.proofs.Standing.{stand_at_first}
use Rattle.lps_antecedents.proofs.waiting.Waiting.start.Goals as goal

pub put_all-requires-clause-ready : goal.put_all-requires-clause-ready
put_all-requires-clause-ready c = λ h among. c.in_ok-gathered.ensures.ready h (subst (λ (hs : List Held). Contains hs h) c.in_ok-all.ensures.held among)

pub returns-clause-stands : goal.returns-clause-stands
returns-clause-stands c = λ level levels trace state.
    let text = c.args.program.now in
    let first = slots_of c.new-buckets.result.by_wake in
    let last = slots_of c.put_all.new.buckets.by_wake in
    let gathered = c.in_ok-gathered.ensures.gathered level levels trace state in
    let gains = subst (λ (hs : List Held). Gains (waiting first) (waiting last) (Contains hs)) c.in_ok-all.ensures.held c.in_ok-put_all.ensures.waits in
    let held = exactly_put (waiting first) (waiting last) c.in_ok-gathered.gathered.held.items (λ h. (h.rule ≤ length (rules text)) × IsWaiting text level trace 0 h.rule h.node)
    (ap waiting c.new-buckets.ensures.slots) gains gathered.0 in
    let all = c.in_ok-put_all.ensures.sound in
    let once = once_waiting last all.ordered all.apart (one_wake c.wake_law.ensures text last c.in_ok-put_all.ensures.kept) in
    stand_at_first text level trace (waiting last) c.in_ok-all.keys.items once c.in_ok-all.ensures.sorted held
    (subst (λ (ks : List GoalKey). HasExactly ks (λ key. (key.rule ≤ length (rules text)) × (key.time ≡ 0) × IsGoal text level trace key)) (sym c.in_ok-all.ensures.keys) gathered.1)
