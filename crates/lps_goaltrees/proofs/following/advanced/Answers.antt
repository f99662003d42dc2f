use Rattle.std.proofs.Common.{◌≡◌, ◌∙◌, ◌++◌, ◌∷◌, [], append_assoc, ap, sym, subst, refl}
use Rattle.std.specs.Prelude.{Some, None}
use Rattle.std.specs.List.{AllZip, cons_option, filter_map}
use Rattle.std.specs.Option.{option_copied}
use Rattle.std.proofs.lemmas.List.Elements.{filter_map-append}
use Rattle.lps_facts.specs.Facts.{members}
use Rattle.lps_meaning.proofs.Lists.{of_element}
use Rattle.lps_meaning.proofs.Occurrences.{all_joined}
use Rattle.lps_goaltrees.specs.declared.goal.Goal.{Goal}
use Rattle.lps_goaltrees.specs.declared.slot.Slot.{Slot}
use Rattle.lps_goaltrees.specs.declared.slot.Which.TheVariants.{Now}
use Rattle.lps_goaltrees.specs.Found.{IsAdvanced}
use Rattle.lps_goaltrees.specs.Pursued.{IsReadyGoal}
use Rattle.lps_goaltrees.specs.Slots.{goals_of, version, version_at}
use Rattle.lps_goaltrees.proofs.Lists.{to_chosen, zip_pushed}
use Rattle.lps_goaltrees.proofs.Places.{of_version}
use Rattle.lps_goaltrees.proofs.Settling.{append_none}
use Rattle.lps_goaltrees.proofs.following.advanced.Goals as goal

pub loop-number-init : goal.loop-number-init
loop-number-init c = record {
  some = [];
  parts = c.into_iter-number-iterator.ensures.into_iter_gives ∙ c.iter-number-items.ensures.rest;
  same = refl;
  ready = rw c.new-next.ensures.items tt;
  all = rw c.new-next.ensures.items tt;
}

pub advance_goal-requires-clause-ready : goal.advance_goal-requires-clause-ready
advance_goal-requires-clause-ready c =
    let one : Goal = c.in-Some-goal_at.goal.now in
    let is : version_at Now c.args.slots.now c.in-Some.number.now ≡ Some one = sym c.goal_at.ensures ∙ ap option_copied c.in-Some-goal_at.is in
    let m = of_version Now c.args.slots.now c.in-Some.number.now one is in
    (of_element (IsReadyGoal c.args.program.now) (goals_of Now c.args.slots.now) one c.requires.ready (to_chosen (λ (s : Slot). version Now s.versions) c.args.slots.now m.0 one m.1 m.3)).nodes

pub loop-number-preserved-in_ok-push : goal.loop-number-preserved-in_ok-push
loop-number-preserved-in_ok-push c =
    let was = c.loop-number.invariant in
    let number = c.in-Some.number.now in
    let next : Goal = c.in_ok-advance_goal.field-0 in
    let done = c.in_ok-advance_goal.ensures in
    let f = version_at Now c.args.slots.now in
    let R = IsAdvanced c.args.program.now c.args.depth c.args.time (members c.args.facts.now) c.args.events.now in
    let is : f number ≡ Some c.in-Some-goal_at.goal.now = sym c.goal_at.ensures ∙ ap option_copied c.in-Some-goal_at.is in
    let chosen : filter_map f (was.some ++ number ∷ []) ≡ filter_map f was.some ++ c.in-Some-goal_at.goal.now ∷ [] =
    filter_map-append f was.some (number ∷ []) ∙ ap (λ o. filter_map f was.some ++ cons_option o []) is in
    record {
      some = was.some ++ number ∷ [];
      parts = append_assoc was.some (number ∷ []) c.next.new.self ∙ ap (λ left. was.some ++ left) (sym c.in-Some.ensures.steps) ∙ was.parts;
      same = done.same ∙ was.same;
      ready = rw c.in_ok-push.ensures.items (all_joined (IsReadyGoal c.args.program.now) c.loop-number.next.items (next ∷ []) was.ready (done.ready, tt));
      all = rw c.in_ok-push.ensures.items (subst (λ gs. AllZip R gs (c.loop-number.next.items ++ next ∷ [])) (sym chosen)
          (zip_pushed R (filter_map f was.some) c.loop-number.next.items c.in-Some-goal_at.goal.now next was.all done.advanced));
    }

pub loop-number-preserved : goal.loop-number-preserved
loop-number-preserved c =
    let was = c.loop-number.invariant in
    let number = c.in-Some.number.now in
    let f = version_at Now c.args.slots.now in
    let R = IsAdvanced c.args.program.now c.args.depth c.args.time (members c.args.facts.now) c.args.events.now in
    let is : f number ≡ None = sym c.goal_at.ensures ∙ ap option_copied c.in_default.is in
    let chosen : filter_map f (was.some ++ number ∷ []) ≡ filter_map f was.some =
    filter_map-append f was.some (number ∷ []) ∙ ap (λ o. filter_map f was.some ++ cons_option o []) is ∙ append_none (filter_map f was.some) in
    record {
      some = was.some ++ number ∷ [];
      parts = append_assoc was.some (number ∷ []) c.next.new.self ∙ ap (λ left. was.some ++ left) (sym c.in-Some.ensures.steps) ∙ was.parts;
      same = was.same;
      ready = was.ready;
      all = subst (λ gs. AllZip R gs c.loop-number.next.items) (sym chosen) was.all;
    }

pub returns-clause-advanced : goal.returns-clause-advanced
returns-clause-advanced c =
    let was = c.loop-number.invariant in
    let all : was.some ≡ c.args.numbers.now.keys = sym (append_none was.some) ∙ ap (λ left. was.some ++ left) (sym c.in-None.ensures.steps.0) ∙ was.parts in
    subst (λ ns. AllZip (IsAdvanced c.args.program.now c.args.depth c.args.time (members c.args.facts.now) c.args.events.now) (filter_map (version_at Now c.args.slots.now) ns) c.loop-number.next.items) all was.all
