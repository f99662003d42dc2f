use Rattle.std.proofs.Common.{◌≡◌, ◌∙◌, refl, sym, ap, subst, inr, cond}
use Rattle.std.specs.Prelude.{Some}
use Rattle.std.specs.BTreeMap.{get, is_at}
use Rattle.lps_residual.specs.declared.waking.Wake.{Wake}
use Rattle.lps_goaltrees.specs.Slots.{wake_cmp}
use Rattle.lps_goaltrees.proofs.Listed.{found_none, listed_after, listed_here, with_number}
use Rattle.lps_goaltrees.proofs.table.add_goal.Goals as goal

pub insert_goal-requires : goal.insert_goal-requires
insert_goal-requires c = sym c.contains_key.ensures ∙ c.if-contains_key.true

pub returns-clause-added : goal.returns-clause-added
returns-clause-added c =
    let numbers = c.insert.new.self in
    let after = subst (λ (k : Wake). (q : Wake) → get wake_cmp c.insert-2.new.self q ≡ cond (is_at (wake_cmp k) q) (Some numbers) (get wake_cmp c.args.goals.now q)) c.in_ok-copy_wake.ensures c.in_ok-insert-2.ensures.updates.0 in
    listed_here c.args.wake.now (Some numbers) c.args.goals.now c.insert-2.new.self after numbers c.args.goal refl
    ((with_number c.args.goal c.new-numbers.result numbers c.in_ok-insert.ensures.updates.0 c.args.goal).1 (inr refl))

pub returns-clause-others : goal.returns-clause-others
returns-clause-others c = λ w n was.
    let numbers = c.insert.new.self in
    let after = subst (λ (k : Wake). (q : Wake) → get wake_cmp c.insert-2.new.self q ≡ cond (is_at (wake_cmp k) q) (Some numbers) (get wake_cmp c.args.goals.now q)) c.in_ok-copy_wake.ensures c.in_ok-insert-2.ensures.updates.0 in
    listed_after c.args.wake.now (Some numbers) c.args.goals.now c.insert-2.new.self after w n was
    (λ same. absurd (found_none (get wake_cmp c.args.goals.now c.args.wake.now) was.numbers (sym c.contains_key.ensures ∙ c.if-contains_key.false) (ap (get wake_cmp c.args.goals.now) same ∙ was.found)))
