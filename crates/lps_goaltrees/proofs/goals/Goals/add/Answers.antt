use Rattle.std.proofs.Common.{rules, ◌≡◌, ◌∙◌, [], ◌∷◌, ◌++◌, suc, ℕ, false, ap, sym, subst, inl, inr}
use Rattle.std.specs.Prelude.{Contains}
use Rattle.lps_facts.specs.Facts.{members}
use Rattle.lps_meaning.specs.declared.goal.GoalKey.{GoalKey}
use Rattle.lps_meaning.proofs.Occurrences.{all_joined}
use Rattle.lps_meeting.specs.Stages.{IsStateOf}
use Rattle.lps_goaltrees.specs.declared.goal.Goal.{Goal}
use Rattle.lps_goaltrees.specs.declared.slot.Slot.{Slot}
use Rattle.lps_goaltrees.specs.declared.slot.Which.TheVariants.{Before, Now}
use Rattle.lps_goaltrees.specs.Followed.{Pursues}
use Rattle.lps_goaltrees.specs.Pursued.{AreReadyGoals, IsReadyGoal, Pursued, Pursuit}
use Rattle.lps_goaltrees.specs.Slots.{IsStored, goals_of, new_slot}
use Rattle.lps_goaltrees.proofs.Keys.{is_enterable}
use Rattle.lps_goaltrees.proofs.Listed.{with_number}
use Rattle.lps_goaltrees.proofs.Pursuing.{is_added, left_unsettled}
use Rattle.lps_goaltrees.proofs.Putting.{added, added_before, added_now, more_noted, still_stored}
use Rattle.lps_goaltrees.proofs.Lists.{true_false}
use Rattle.lps_goaltrees.proofs.goals.Goals.add.Goals as goal
use Rattle.lps_goaltrees.proofs.goals.Goals.add.Goals.{After-self-1}

pub begun-requires-clause-key : goal.begun-requires-clause-key
begun-requires-clause-key c = is_enterable c.args.program.now c.lawful.ensures.accepted c.requires.key.0 c.requires.key.1 c.args.key c.requires.key.2 c.requires.time

pub invariant_of-self : goal.invariant_of-self
invariant_of-self c =
    let inside = c.self-2.inside in
    (still_stored inside.table c.find_by.new.table c.find_by.ensures.others Before inside.before inside.next inside.changed.keys inside.slots.items c.self-2.invariant.0, c.self-2.invariant.1)

pub invariant_of-self-in_err-insert : goal.invariant_of-self-in_err-insert
invariant_of-self-in_err-insert c =
    let inside = c.self-2.inside in
    let was = still_stored inside.table c.find_by.new.table c.find_by.ensures.others Before inside.before inside.next inside.changed.keys inside.slots.items c.self-2.invariant.0 in
    (rw c.in_err-insert.ensures.err was, c.self-2.invariant.1)

pub invariant_of-self-in_err-push : goal.invariant_of-self-in_err-push
invariant_of-self-in_err-push c =
    let inside = c.self-2.inside in
    let was = still_stored inside.table c.find_by.new.table c.find_by.ensures.others Before inside.before inside.next inside.changed.keys inside.slots.items c.self-2.invariant.0 in
    let wider : (n : ℕ) → Contains inside.changed.keys n → Contains c.insert.new.self.keys n = λ n there. (with_number c.self.inside.next inside.changed c.insert.new.self c.in_ok-insert.ensures.updates.0 n).1 (inl there) in
    rw c.in_err-push.ensures.items (more_noted Before inside.before inside.next c.find_by.new.table inside.changed.keys c.insert.new.self.keys inside.slots.items wider was, c.self-2.invariant.1)

unsettled : (c : After-self-1) → c.self-2.inside.is_settled ≡ false
unsettled c = ap (λ (p : Pursued). p.is_settled) c.self-2.view_is ∙ c.unsettle.ensures.settled

-- the next number is the one that was next
same_next : (c : After-self-1) → c.self-2.inside.next ≡ c.self.inside.next
same_next c = ap (λ (p : Pursued). p.pursuit.next) c.self-2.view_is ∙ ap (λ (p : Pursuit). p.next) c.unsettle.ensures.pursuit ∙ sym (ap (λ (p : Pursued). p.pursuit.next) c.self.view_is)

of_number : (c : After-self-1) → c.in_ok-goal.goal.goal.0 ≡ c.self.inside.next
of_number c = ap (λ n. n.0) c.in_ok-goal.ensures.number

later : (c : After-self-1) → c.in_ok-next.next ≡ suc c.self.inside.next
later c = search rules

pushed : (c : After-self-1) → c.push.new.self.items ≡ c.self-2.inside.slots.items ++ new_slot c.in_ok-goal.goal ∷ []
pushed c = c.in_ok-push.ensures.items ∙ ap (λ (s : Slot). c.self-2.inside.slots.items ++ s ∷ []) c.new.ensures

pub invariant_of-self-2 : goal.invariant_of-self-2
invariant_of-self-2 c =
    let inside = c.self-2.inside in
    let was = still_stored inside.table c.find_by.new.table c.find_by.ensures.others Before inside.before inside.next inside.changed.keys inside.slots.items c.self-2.invariant.0 in
    let one = with_number c.self.inside.next inside.changed c.insert.new.self c.in_ok-insert.ensures.updates.0 in
    let next : c.in_ok-next.next ≡ suc inside.next = later c ∙ ap suc (sym (same_next c)) in
    let stored : IsStored Before inside.before (suc inside.next) c.find_by.new.table c.insert.new.self.keys (inside.slots.items ++ new_slot c.in_ok-goal.goal ∷ []) =
    added inside.before inside.next c.find_by.new.table inside.changed.keys c.insert.new.self.keys inside.slots.items c.in_ok-goal.goal (of_number c ∙ sym (same_next c)) c.in_ok-find_by.ensures.found
    (λ n there. (one n).1 (inl there)) ((one inside.next).1 (inr (same_next c))) was in
    (rw (pushed c, next) stored, λ settled. absurd (true_false (sym settled ∙ unsettled c)))

goals_now : (c : After-self-1) → goals_of Now c.push.new.self.items ≡ c.args.self.now.pursuit.goals ++ c.in_ok-goal.goal ∷ []
goals_now c =
    ap (goals_of Now) (pushed c) ∙ added_now c.self-2.inside.slots.items c.in_ok-goal.goal
    ∙ ap (λ gs. gs ++ c.in_ok-goal.goal ∷ []) (ap (λ (p : Pursued). p.pursuit.goals) c.self-2.view_is ∙ ap (λ (p : Pursuit). p.goals) c.unsettle.ensures.pursuit)

goals_before : (c : After-self-1) → goals_of Before c.push.new.self.items ≡ c.unsettle.new.self.before.goals
goals_before c = ap (goals_of Before) (pushed c) ∙ added_before c.self-2.inside.slots.items c.in_ok-goal.goal ∙ ap (λ (p : Pursued). p.before.goals) c.self-2.view_is

pub returns-clause-pursues : goal.returns-clause-pursues
returns-clause-pursues c = λ level levels trace state keys was.
    let old : Pursuit = c.args.self.now.pursuit in
    let goal : Goal = c.in_ok-goal.goal in
    let new : Pursuit = record { goals = goals_of Now c.push.new.self.items; next = c.in_ok-next.next } in
    let first : c.self.inside.next ≡ old.next = ap (λ (p : Pursued). p.pursuit.next) c.self.view_is in
    subst (λ (k : GoalKey). Pursues c.args.program.now level trace c.args.depth k.time keys old → Pursues c.args.program.now level trace c.args.depth k.time (keys ++ k ∷ []) new) c.in_ok-goal.ensures.key
    (is_added c.args.program.now level trace c.args.depth keys old new goal (goals_now c) (later c ∙ ap suc first) (of_number c ∙ first)
    (c.in_ok-goal.ensures.begun level levels trace (subst (λ (k : GoalKey). IsStateOf c.args.program.now level trace k.time (members c.args.facts.now)) (sym c.in_ok-goal.ensures.key) state))) was

pub returns-clause-before : goal.returns-clause-before
returns-clause-before c =
    let goals = goals_before c in
    let next = ap (λ (p : Pursued). p.before.next) c.self-2.view_is in
    let before : Pursuit = record { goals = goals_of Before c.push.new.self.items; next = c.self-2.inside.before } in
    let is : before ≡ c.unsettle.new.self.before = λ i. record { goals = goals i; next = next i } in
    let new : Pursued = record { pursuit = record { goals = goals_of Now c.push.new.self.items; next = c.in_ok-next.next }; before = before; is_settled = c.self-2.inside.is_settled } in
    left_unsettled new (unsettled c) ∙ is ∙ c.unsettle.ensures.before

pub returns-clause-ready : goal.returns-clause-ready
returns-clause-ready c =
    let text = c.args.program.now in (
      subst (AreReadyGoals text) (sym (goals_now c)) (all_joined (IsReadyGoal text) c.args.self.now.pursuit.goals (c.in_ok-goal.goal ∷ []) c.requires.ready.0 (c.in_ok-goal.ensures.ready, tt)),
      subst (AreReadyGoals text) (sym (goals_before c)) (c.unsettle.ensures.ready text c.requires.ready).1,
    )
