use Rattle.std.proofs.Common.{◌≡◌, ◌∙◌, ℕ, refl, sym, ap, subst, inl, inr}
use Rattle.std.specs.Prelude.{Some, Contains}
use Rattle.std.specs.BTreeMap.{get}
use Rattle.std.specs.BTreeSet.{BTreeSet}
use Rattle.std.specs.Option.{option_copied_mut}
use Rattle.lps_goaltrees.specs.Slots.{wake_cmp}
use Rattle.lps_goaltrees.proofs.Listed.{listed_after, listed_here, with_number}
use Rattle.lps_goaltrees.proofs.Lists.{some_same}
use Rattle.lps_goaltrees.proofs.table.insert_goal.Goals as goal

pub returns-in_err-insert-clause-others : goal.returns-in_err-insert-clause-others
returns-in_err-insert-clause-others c = λ w n was.
    let old = c.args.goals.now in
    let new = c.insert.new.self in
    let after = ((c.get_mut.follows.holds new).3 c.requires).0 in
    let here : get wake_cmp old c.args.wake.now ≡ Some c.in-Some.numbers.now = sym c.get_mut.ensures.value ∙ ap option_copied_mut c.in-Some.is in
    listed_after c.args.wake.now (Some new) old (c.get_mut.follows.lender new) after w n was (λ same.
    let numbers : was.numbers ≡ c.in-Some.numbers.now = some_same (sym was.found ∙ ap (get wake_cmp old) (sym same) ∙ here) in
    (new, refl, subst (λ ks. Contains ks n) (sym c.in_err-insert.ensures.err) (subst (λ (s : BTreeSet ℕ). Contains s.keys n) numbers was.among)))

pub returns-in_ok-insert-clause-added : goal.returns-in_ok-insert-clause-added
returns-in_ok-insert-clause-added c =
    let new = c.insert.new.self in
    let after = ((c.get_mut.follows.holds new).3 c.requires).0 in
    listed_here c.args.wake.now (Some new) c.args.goals.now (c.get_mut.follows.lender new) after new c.args.goal refl
    ((with_number c.args.goal c.in-Some.numbers.now new c.in_ok-insert.ensures.updates.0 c.args.goal).1 (inr refl))

pub returns-in_ok-insert-clause-others : goal.returns-in_ok-insert-clause-others
returns-in_ok-insert-clause-others c = λ w n was.
    let old = c.args.goals.now in
    let new = c.insert.new.self in
    let after = ((c.get_mut.follows.holds new).3 c.requires).0 in
    let here : get wake_cmp old c.args.wake.now ≡ Some c.in-Some.numbers.now = sym c.get_mut.ensures.value ∙ ap option_copied_mut c.in-Some.is in
    listed_after c.args.wake.now (Some new) old (c.get_mut.follows.lender new) after w n was (λ same.
    let numbers : was.numbers ≡ c.in-Some.numbers.now = some_same (sym was.found ∙ ap (get wake_cmp old) (sym same) ∙ here) in
    (new, refl, (with_number c.args.goal c.in-Some.numbers.now new c.in_ok-insert.ensures.updates.0 n).1 (inl (subst (λ (s : BTreeSet ℕ). Contains s.keys n) numbers was.among))))
