use Rattle.std.proofs.Common.{◌≡◌, ◌∙◌, ◌+◌, ◌++◌, ◌∷◌, ◌⊎◌, List, [], arith, drop, take, ap, subst, sym, refl, inl, inr}
use Rattle.std.specs.Prelude.{Contains}
use Rattle.std.proofs.lemmas.List.{drop_all, take_more}
use Rattle.lps_model.proofs.Elements.{nothing_contained}
use Rattle.lps_residual.specs.declared.waking.Wake.{Wake}
use Rattle.lps_antecedents.specs.Advancing.{BySome, LiesInSome}
use Rattle.lps_antecedents.specs.Buckets.{AreReadyIn, ChangesOnly, LiesIn, kept, slots_of, waiting}
use Rattle.lps_antecedents.specs.Gathered.{HeldEndsWith, HeldGoesOnTo}
use Rattle.lps_antecedents.proofs.Gaining.{at_place, not_before, taken}
use Rattle.lps_antecedents.proofs.Lists.{at_contains, rest_from}
use Rattle.lps_antecedents.proofs.Lying.{changes_more, changes_then, nothing_changes, only_one, same_kept}
use Rattle.lps_antecedents.proofs.Steps.{some_had, some_more}
use Rattle.lps_antecedents.proofs.advancing.advanced.Goals as goal

pub loop-wake-init : goal.loop-wake-init
loop-wake-init c =
    let old = slots_of c.args.by_wake.now in
    record {
      same = refl;
      changes = nothing_changes [] old c.requires.ordered;
      ready = λ h there. absurd (nothing_contained h (subst (λ hs. Contains hs h) c.new-gathered.ensures.held there));
      gathered = λ level levels trace now at state happen waits. (
        (λ o. (
          λ sides. elim sides [ inl had ↦ elim had [ inl none ↦ absurd (nothing_contained o (subst (λ hs. Contains hs o) c.new-gathered.ensures.held none)) | inr there ↦ inl there ] | inr on ↦ inr on ],
          λ sides. elim sides [ inl there ↦ inl (inr there) | inr on ↦ inr on ],
        )),
        (λ key. (
          λ sides. elim sides [ inl none ↦ absurd (nothing_contained key (subst (λ ks. Contains ks key) c.new-gathered.ensures.keys none)) | inr end ↦ end ],
          λ end. inr end,
        )),
      );
    }

pub step_bucket-requires-clause-ready : goal.step_bucket-requires-clause-ready
step_bucket-requires-clause-ready c =
    subst (AreReadyIn c.args.program.now) (sym (same_kept (slots_of c.args.by_wake.now) (slots_of c.loop-wake.by_wake) c.loop-wake.invariant.changes.before)) c.requires.ready

pub returns-in_err-step_bucket-clause-before : goal.returns-in_err-step_bucket-clause-before
returns-in_err-step_bucket-clause-before c =
    let wakes = c.args.wakes.now in
    let i = c.loop-wake.wake-index in
    let wake : Wake = c.wake-item.result in
    let old = slots_of c.args.by_wake.now in
    let new = slots_of c.step_bucket.new.by_wake in
    let more : take (i + 1) wakes ≡ take i wakes ++ wake ∷ [] = take_more wakes i wake c.loop-wake-test.true ∙ ap (λ (w : Wake). take i wakes ++ w ∷ []) (sym c.wake-item.is) in
    changes_more (take (i + 1) wakes) wakes old new (taken wakes (i + 1))
    (subst (λ (ws : List Wake). ChangesOnly ws old new) (sym more) (changes_then (take i wakes) (wake ∷ []) old (slots_of c.loop-wake.by_wake) new c.loop-wake.invariant.changes c.step_bucket.ensures.before))

pub loop-wake-preserved : goal.loop-wake-preserved
loop-wake-preserved c =
    let wakes = c.args.wakes.now in
    let i = c.loop-wake.wake-index in
    let wake : Wake = c.wake-item.result in
    let old = slots_of c.args.by_wake.now in
    let middle = slots_of c.loop-wake.by_wake in
    let new = slots_of c.step_bucket.new.by_wake in
    let changes = c.loop-wake.invariant.changes in
    let more : take (i + 1) wakes ≡ take i wakes ++ wake ∷ [] = take_more wakes i wake c.loop-wake-test.true ∙ ap (λ (w : Wake). take i wakes ++ w ∷ []) (sym c.wake-item.is) in
    let rest : drop i wakes ≡ wake ∷ drop (i + 1) wakes = rest_from wakes i wake c.loop-wake-test.true c.wake-item.is in
    let among : Contains wakes wake = at_contains wakes wake i (at_place wakes i wake c.loop-wake-test.true c.wake-item.is) in
    let same = same_kept old middle changes.before in
    record {
      same = c.in_ok-step_bucket.ensures.same ∙ c.loop-wake.invariant.same;
      changes = subst (λ (ws : List Wake). ChangesOnly ws old new) (sym more) (changes_then (take i wakes) (wake ∷ []) old middle new changes c.in_ok-step_bucket.ensures.before);
      ready = c.in_ok-step_bucket.ensures.ready c.loop-wake.invariant.ready;
      gathered = λ level levels trace now at state happen waits.
          let so_far = c.loop-wake.invariant.gathered level levels trace now at state happen waits in
          let goes = HeldGoesOnTo c.args.program.now level trace now in
          let ends = HeldEndsWith c.args.program.now level trace now in
          let step = c.in_ok-step_bucket.ensures.gathered (λ other slot is lies. elim (changes.new_lie other slot lies) [
            | inl early ↦ absurd (not_before wakes i wake c.requires.once c.loop-wake-test.true c.wake-item.is (subst (Contains (take i wakes)) (only_one wake other is) early))
            | inr lay ↦ c.requires.off other slot (subst (Contains wakes) (sym (only_one wake other is)) among) lay
          ]) level levels trace now at state happen (λ h lies. waits h (wake, among, subst (λ bs. LiesIn bs wake h) same lies)) in (
            some_more (kept old) (kept middle) same goes wake (drop i wakes) (drop (i + 1) wakes) rest (λ o. Contains c.loop-wake.gathered.held.items o ⊎ Contains (waiting middle) o)
                (λ o. Contains c.step_bucket.new.gathered.held.items o ⊎ Contains (waiting new) o) (λ o. Contains (waiting old) o ⊎ BySome (LiesInSome wakes (kept old)) goes o) step.0 so_far.0,
            some_more (kept old) (kept middle) same ends wake (drop i wakes) (drop (i + 1) wakes) rest (Contains c.loop-wake.gathered.keys.keys) (Contains c.step_bucket.new.gathered.keys.keys)
                (λ key. BySome (LiesInSome wakes (kept old)) ends key) step.1 so_far.1,
          );
    }

pub returns-clause-gathered : goal.returns-clause-gathered
returns-clause-gathered c = λ level levels trace now at state happen waits.
    let all = c.loop-wake.invariant.gathered level levels trace now at state happen waits in
    let old = slots_of c.args.by_wake.now in
    let none : drop c.loop-wake.wake-index c.args.wakes.now ≡ [] = drop_all c.loop-wake.wake-index c.args.wakes.now (omega arith) in (
      some_had (kept old) (HeldGoesOnTo c.args.program.now level trace now) (drop c.loop-wake.wake-index c.args.wakes.now) none (λ o. Contains c.loop-wake.gathered.held.items o ⊎ Contains (waiting (slots_of c.loop-wake.by_wake)) o)
          (λ o. Contains (waiting old) o ⊎ BySome (LiesInSome c.args.wakes.now (kept old)) (HeldGoesOnTo c.args.program.now level trace now) o) all.0,
      some_had (kept old) (HeldEndsWith c.args.program.now level trace now) (drop c.loop-wake.wake-index c.args.wakes.now) none (Contains c.loop-wake.gathered.keys.keys)
          (λ key. BySome (LiesInSome c.args.wakes.now (kept old)) (HeldEndsWith c.args.program.now level trace now) key) all.1,
    )
