use Rattle.std.proofs.Common.{◌≡◌, ◌∙◌, ℕ, refl, sym, ap, subst}
use Rattle.std.specs.Prelude.{Some, Contains, is_some}
use Rattle.std.specs.BTreeMap.{get}
use Rattle.std.specs.BTreeSet.{BTreeSet}
use Rattle.std.specs.Option.{option_copied_mut}
use Rattle.lps_goaltrees.specs.Slots.{wake_cmp}
use Rattle.lps_goaltrees.proofs.Listed.{listed_after, without_number}
use Rattle.lps_goaltrees.proofs.Lists.{some_same}
use Rattle.lps_goaltrees.proofs.table.take_goal.Goals as goal

pub returns-in-Some : goal.returns-in-Some
returns-in-Some c = λ w n was apart.
    let old = c.args.goals.now in
    let new = c.remove.new.self in
    let here : get wake_cmp old c.args.wake.now ≡ Some c.in-Some.numbers.now = sym c.get_mut.ensures.value ∙ ap option_copied_mut c.in-Some.is in
    let after = ((c.get_mut.follows.holds new).3 (ap is_some here)).0 in
    listed_after c.args.wake.now (Some new) old (c.get_mut.follows.lender new) after w n was (λ same.
    let numbers : was.numbers ≡ c.in-Some.numbers.now = some_same (sym was.found ∙ ap (get wake_cmp old) (sym same) ∙ here) in
    (new, refl, (without_number c.args.goal c.in-Some.numbers.now new c.remove.ensures.updates.0 n).1 (subst (λ (s : BTreeSet ℕ). Contains s.keys n) numbers was.among, apart (sym same))))
