-- One step of a pass, and a pass step by step.
use Rattle.std.proofs.Common.{◌≡◌, ℕ, zero, suc, ◌<◌, ◌≤◌, ◌+◌, ◌-◌, Bool, true, false, List, [], ◌∷◌, ◌++◌, length, get_or, take, drop, refl, sym, ap, subst, ◌∙◌, arith, inl, inr, add-one, length-append, length-take}
use Rattle.std.specs.Prelude.{Contains}
use Rattle.std.proofs.lemmas.List.{drop-append-le, drop-drop, take-append-drop}
use Rattle.std.specs.List.{All, AllByRecursion}
use Rattle.std.proofs.lemmas.List.Elements.{All-head, All-tail}
use Rattle.lps_terms.specs.declared.prefer.Prefer.{Prefer}
use Rattle.lps_terms.specs.declared.prefer.Prefer.TheVariants.{Oldest, Newest}
use Rattle.lps_model.specs.declared.cycle.Group.{Group}
use Rattle.lps_model.specs.declared.cycle.Pick.{Pick}
use Rattle.lps_model.proofs.Elements.{first_or_later, first_is_contained, later_is_contained, nothing_contained}
use Rattle.lps_choice.specs.Choices.{Choice, Admits, Refuses, IsPick, Extends, IsPassedOver, pick_of}
use Rattle.lps_choice.specs.Passes.{IsFirst, IsGiven, Gives, Grows, Pass, AllPasses, last, more, in_order}
use Rattle.lps_choice.proofs.Extensions.{extends_further, extends_none, extends_one}
use Rattle.lps_choice.proofs.Lists.{all_dropped, all_joined, drop_all, drop_here, in_reverse, take_all, take_here}

pub in_order_has : (prefer : Prefer) (goals : List ℕ) (goal : ℕ) → Contains goals goal → Contains (in_order prefer goals) goal
in_order_has Oldest goals goal among = among
in_order_has Newest goals goal among = in_reverse goals goal among

-- what holds of a choice and some picks holds of those that are the same
pub carried : {F : Type 0} (choice : F → Choice) (P : Choice → List Pick → Type 0) (fixed same : F) (made also : List Pick) → fixed ≡ same → made ≡ also →
    P (choice fixed) made → P (choice same) also
carried choice P fixed same made also e d h = subst (λ f. P (choice f) also) e (subst (P (choice fixed)) d h)

-- what holds of each of the first elements of a list holds of each, where these are all
pub of_all : {X : Type 0} (P : X → Type 0) (xs : List X) (n : ℕ) → length xs ≤ n → All P (take n xs) → All P xs
of_all P xs n past h = subst (All P) (take_all xs n past) h

pub grown : (made all : List Pick) (n : ℕ) → Grows made all n → (n ≡ 0 → ⊥) → length made < length all
grown made all zero h other = absurd (other refl)
grown made all (suc n) h other = h

module _ (choice : Choice) where
  -- a proposal that is admitted, where all before it are refused, is the first
  pub first_at : (made : List Pick) (groups : List Group) (place : ℕ) (group : Group) → place < length groups → get_or groups place group ≡ group →
      All (Refuses choice made) (take place groups) → Admits choice made group → IsFirst choice made groups group
  first_at made [] place group lt is refused admitted = absurd (omega arith)
  first_at made (first ∷ groups) zero group lt is refused admitted = inl (sym is, subst (Admits choice made) (sym is) admitted)
  first_at made (first ∷ groups) (suc place) group lt is refused admitted =
      inr (
        All-head (Refuses choice made) first (take place groups) refused,
        first_at made groups place group (omega arith) is (All-tail (Refuses choice made) first (take place groups) refused) admitted,
      )

  first_is_proposed : (made : List Pick) (groups : List Group) (group : Group) → IsFirst choice made groups group → Contains groups group
  first_is_proposed made [] group h = absurd h
  first_is_proposed made (first ∷ groups) group (inl h) = subst (Contains (first ∷ groups)) (sym h.0) (first_is_contained first groups)
  first_is_proposed made (first ∷ groups) group (inr h) = later_is_contained first groups group (first_is_proposed made groups group h.1)

  first_is_admitted : (made : List Pick) (groups : List Group) (group : Group) → IsFirst choice made groups group → Admits choice made group
  first_is_admitted made [] group h = absurd h
  first_is_admitted made (first ∷ groups) group (inl h) = subst (Admits choice made) (sym h.0) h.1
  first_is_admitted made (first ∷ groups) group (inr h) = first_is_admitted made groups group h.1

  -- what a pass gives a pending goal may be picked
  pub given_is_pick : (made : List Pick) (goal : ℕ) (group : Group) → Contains choice.goals goal → IsGiven choice made goal group → IsPick choice made (pick_of goal group)
  given_is_pick made goal group pending given = record {
    pending = pending;
    free = given.free;
    proposed = first_is_proposed made (choice.proposals goal) group given.first;
    admitted = first_is_admitted made (choice.proposals goal) group given.first;
  }

  -- a goal that is passed over is not given a group
  pub not_given : (made : List Pick) (goal : ℕ) (group : Group) → IsPassedOver choice made goal → IsGiven choice made goal group → ⊥
  not_given made goal group (inl picked) given = given.free picked
  not_given made goal group (inr refused) given =
      let violated = refused group (first_is_proposed made (choice.proposals goal) group given.first) in
      first_is_admitted made (choice.proposals goal) group given.first violated.0 violated.1

  pub step_extends : (goal : ℕ) (made all : List Pick) (given : Bool) → Contains choice.goals goal → Gives choice goal made all given → Extends choice made all
  step_extends goal made all true pending h = extends_one choice made all (pick_of goal h.0) (given_is_pick made goal h.0 pending h.1) h.2
  step_extends goal made all false pending h = extends_none choice made all h.1

  -- a step, and then a pass over the goals that are left
  pub step_passes : (goal : ℕ) (goals : List ℕ) (made middle all : List Pick) (given : Bool) → Gives choice goal made middle given → Pass choice goals middle all →
      Pass choice (goal ∷ goals) made all
  step_passes goal goals made middle all true h pass = inr (h.0, h.1, subst (λ m. Pass choice goals m all) h.2 pass)
  step_passes goal goals made middle all false h pass = inl (h.0, subst (λ m. Pass choice goals m all) h.1 pass)

  -- a pass takes no pick away
  pass_longer : (goals : List ℕ) (made all : List Pick) → Pass choice goals made all → length made ≤ length all
  pass_longer [] made all h = omega (arith, ap length h)
  pass_longer (goal ∷ goals) made all (inl h) = pass_longer goals made all h.1
  pass_longer (goal ∷ goals) made all (inr h) =
      let longer = pass_longer goals (made ++ pick_of goal h.0 ∷ []) all h.2 in omega (arith, longer, length-append made (pick_of goal h.0 ∷ []))

  -- a pass that makes no pick passes each goal over
  pass_settles : (goals : List ℕ) (made : List Pick) → Pass choice goals made made → (goal : ℕ) → Contains goals goal → IsPassedOver choice made goal
  pass_settles [] made h goal among = absurd (nothing_contained goal among)
  pass_settles (first ∷ goals) made (inl h) goal among =
      elim (first_or_later first goals goal among) [
        | inl same ↦ subst (IsPassedOver choice made) same h.0
        | inr later ↦ pass_settles goals made h.1 goal later
      ]
  pass_settles (first ∷ goals) made (inr h) goal among =
      let longer = pass_longer goals (made ++ pick_of first h.0 ∷ []) made h.2 in absurd (omega (arith, longer, length-append made (pick_of first h.0 ∷ [])))

  -- after all passes no pick is left to be made
  pub passes_settle : (order : List ℕ) {made all : List Pick} → AllPasses choice order made all → (goal : ℕ) → Contains order goal → IsPassedOver choice all goal
  passes_settle order {made} {all} (last pass same) goal among = subst (λ m. IsPassedOver choice m goal) (sym same) (pass_settles order made pass goal among)
  passes_settle order {made} {all} (more next pass longer rest) goal among = passes_settle order rest goal among

  -- ---- where a pass stands

  pass_of_idle : (made : List Pick) (goals : List ℕ) → AllByRecursion (IsPassedOver choice made) goals → Pass choice goals made made
  pass_of_idle made [] h = refl
  pass_of_idle made (goal ∷ goals) h = inl (h.0, pass_of_idle made goals h.1)

  -- A pass over goals has come to a place, and to these picks: a pass over the goals left goes on from there, and those from `end` to the
  -- place get nothing.
  pub record Standing (goals : List ℕ) (start now : List Pick) (place end : ℕ) : Type 0 where
    pub legal : Extends choice start now
    pub passes : (all : List Pick) → Pass choice (drop place goals) now all → Pass choice goals start all
    pub grows : Grows start now end
    pub idle : AllByRecursion (IsPassedOver choice now) (drop end (take place goals))
    pub within : end ≤ place

  -- where a goal gets a pick
  pub standing_given : (goals : List ℕ) (start made now : List Pick) (place end : ℕ) → place < length goals → Contains choice.goals (get_or goals place 0) → Standing goals start made place end →
      Gives choice (get_or goals place 0) made now true → Standing goals start now (place + 1) (place + 1)
  standing_given goals start made now place end lt pending stands gives =
      let legal = extends_further choice start made now stands.legal (step_extends (get_or goals place 0) made now true pending gives) in
      record {
        legal = legal;
        passes = λ all pass. stands.passes all
            (subst (λ gs. Pass choice gs made all) (sym (drop_here goals place 0 lt)) (step_passes (get_or goals place 0) (drop (place + 1) goals) made now all true gives pass));
        grows = subst (Grows start now) (sym (add-one place))
            (omega (arith, ap length stands.legal.whole, length-append start stands.legal.more, ap length gives.2, length-append made (pick_of (get_or goals place 0) gives.0 ∷ [])));
        idle = subst (AllByRecursion (IsPassedOver choice now)) (sym (drop_all (take (place + 1) goals) (place + 1) (omega (arith, length-take (place + 1) goals)))) tt;
        within = omega arith;
      }

  -- where a goal gets none
  pub standing_passed : (goals : List ℕ) (start made now : List Pick) (place end : ℕ) → place < length goals → Standing goals start made place end →
      Gives choice (get_or goals place 0) made now false → Standing goals start now (place + 1) end
  standing_passed goals start made now place end lt stands gives = subst (λ m. Standing goals start m (place + 1) end) (sym gives.1) (record {
    legal = stands.legal;
    passes = λ all pass. stands.passes all (subst (λ gs. Pass choice gs made all) (sym (drop_here goals place 0 lt)) (inl (gives.0, pass)));
    grows = stands.grows;
    idle = subst (AllByRecursion (IsPassedOver choice made))
        (sym (ap (drop end) (take_here goals place 0 lt) ∙ drop-append-le end (take place goals) (get_or goals place 0 ∷ []) (omega (arith, length-take place goals, stands.within))))
        (all_joined (IsPassedOver choice made) (drop end (take place goals)) (get_or goals place 0 ∷ []) stands.idle (gives.0, tt));
    within = omega (arith, stands.within);
  })

  -- where no pick was made, and the goals from a place before on get nothing, none gets any
  pub idle_from : (goals : List ℕ) (start now : List Pick) (place asked : ℕ) → Standing goals start now place 0 → asked ≤ place →
      AllByRecursion (IsPassedOver choice start) (drop asked goals) → AllByRecursion (IsPassedOver choice now) goals
  idle_from goals start now place asked stands past idle =
      let left : AllByRecursion (IsPassedOver choice start) (drop place goals) = subst (AllByRecursion (IsPassedOver choice start))
      (drop-drop (place - asked) asked goals ∙ (let same : asked + (place - asked) ≡ place = omega arith in ap (λ n. drop n goals) same)) (all_dropped (IsPassedOver choice start) (place - asked) (drop asked goals) idle) in
      subst (AllByRecursion (IsPassedOver choice now)) (take-append-drop place goals)
      (all_joined (IsPassedOver choice now) (take place goals) (drop place goals) stands.idle (subst (λ m. AllByRecursion (IsPassedOver choice m) (drop place goals)) (sym stands.grows) left))

  -- where the goals left get nothing, the pass is over
  pub standing_passes : (goals : List ℕ) (start now : List Pick) (place end : ℕ) → Standing goals start now place end → AllByRecursion (IsPassedOver choice now) (drop place goals) → Pass choice goals start now
  standing_passes goals start now place end stands idle = stands.passes now (pass_of_idle now (drop place goals) idle)
