-- The starts of a denial: one for each of some conditions.
use Rattle.std.proofs.Common.{ℕ, Bool, true, false, ◌≡◌, ◌<◌, ◌+◌, List, [], ◌∷◌, ◌++◌, map, take, length, get_or, sym, ap, subst, ◌∙◌, inl, inr}
use Rattle.std.specs.Prelude.{◌↔◌, Contains}
use Rattle.std.specs.List.{AllByRecursion}
use Rattle.std.proofs.lemmas.List.{map-append}
use Rattle.std.proofs.lemmas.List.Elements.{Contains-push_cases}
use Rattle.lps_terms.specs.declared.atom.Atom.{Atom}
use Rattle.lps_terms.specs.declared.cond.Cond.{Cond}
use Rattle.lps_terms.specs.declared.text.Text.{Text}
use Rattle.lps_model.specs.Acceptance.{IsAccepted}
use Rattle.lps_model.specs.Clauses.{Clause}
use Rattle.lps_model.specs.Formed.{is_formed}
use Rattle.lps_model.proofs.Elements.{first_is_contained, first_or_later, later_is_contained, nothing_contained}
use Rattle.lps_meaning.proofs.Lists.{of_each, of_element}
use Rattle.lps_solve.proofs.Gaining.{take_more}
use Rattle.lps_solve.proofs.Vars.{all_append}
use Rattle.lps_precond.specs.declared.start.Start.{Start}
use Rattle.lps_precond.specs.Cut.{Cut, cuts}
use Rattle.lps_precond.specs.Stages.{AreStarts, IsAnswered, IsReadyStart, IsStart, IsViolated, IsViolatedBy, IsViolatedByFluent, IsViolatedByStart, IsViolatedFrom, firsts_of, single}
use Rattle.lps_precond.proofs.Asked.{start_ready}
use Rattle.lps_precond.proofs.Modes.{AreFreeConds, IsFreeCond}

image_contained : {X Y : Type 0} (f : X → Y) (xs : List X) (x : X) → Contains xs x → Contains (map f xs) (f x)
image_contained f [] x at = absurd (nothing_contained x at)
image_contained f (y ∷ xs) x at =
    elim (first_or_later y xs x at) [
      | inl same ↦ subst (λ z. Contains (map f (y ∷ xs)) (f z)) same (first_is_contained (f y) (map f xs))
      | inr later ↦ later_is_contained (f y) (map f xs) (f x) (image_contained f xs x later)
    ]

contained_image : {X Y : Type 0} (f : X → Y) (xs : List X) (y : Y) → Contains (map f xs) y → (x : X) × Contains xs x × (f x ≡ y)
contained_image f [] y at = absurd (nothing_contained y at)
contained_image f (x ∷ xs) y at =
    elim (first_or_later (f x) (map f xs) y at) [
      | inl same ↦ (x, first_is_contained x xs, same)
      | inr later ↦ let rest = contained_image f xs y later in (rest.0, later_is_contained x xs rest.0 rest.1, rest.2)
    ]

abbrev conds_of_first : Start → List Cond
conds_of_first start = start.first.conds

-- what the starts ask for first are the conditions that they are from
pub firsts_are : (starts : List Start) (conds : List Cond) → map (λ (start : Start). start.first.conds) starts ≡ map single conds → firsts_of starts ≡ conds
firsts_are starts conds e = flat starts ∙ ap joined e ∙ back conds
  where
    joined : List (List Cond) → List Cond
    joined [] = []
    joined (ks ∷ all) = ks ++ joined all

    flat : (starts : List Start) → firsts_of starts ≡ joined (map conds_of_first starts)
    flat [] = λ i. []
    flat (start ∷ starts) = ap (λ (ks : List Cond). start.first.conds ++ ks) (flat starts)

    back : (conds : List Cond) → joined (map single conds) ≡ conds
    back [] = λ i. []
    back (k ∷ conds) = ap (λ (ks : List Cond). k ∷ ks) (back conds)

module _ (happen conds : List Cond) (starts : List Start) (are : AreStarts happen conds starts) where
  start_of : (k : Cond) → Contains conds k → (start : Start) × Contains starts start × (start.first.conds ≡ single k)
  start_of k at = contained_image conds_of_first starts (single k) (subst (λ xs. Contains xs (single k)) (sym are.firsts) (image_contained single conds k at))

  cond_of_start : (start : Start) → Contains starts start → (k : Cond) × Contains conds k × (single k ≡ start.first.conds)
  cond_of_start start at = contained_image single conds start.first.conds (subst (λ xs. Contains xs start.first.conds) are.firsts (image_contained conds_of_first starts start at))

-- where nothing has to be known of the conditions the starts can be asked
pub starts_ready : (text : Text) (accepted : IsAccepted text) (formed : is_formed text ≡ true) (denial : Cut) (of_text : Contains (cuts text) denial) (conds : List Cond) → AreFreeConds text conds → (starts : List Start) →
    AreStarts denial.happen conds starts → AllByRecursion (IsReadyStart text denial) starts
starts_ready text accepted formed denial of_text conds free starts are =
    of_each (IsReadyStart text denial) starts (λ start at.
    let found = cond_of_start denial.happen conds starts are start at in
    start_ready text accepted formed denial of_text start (of_element (IsStart denial.happen) starts start are.each at)
    (λ k here. subst (IsFreeCond text) (only found.0 k (subst (λ (ks : List Cond). Contains ks k) (sym found.2) here)) (free found.0 found.1)))
  where
    only : (k other : Cond) → Contains (single k) other → k ≡ other
    only k other at = elim (first_or_later k [] other at) [ inl same ↦ same | inr none ↦ absurd (nothing_contained other none) ]

module _ (program : List Clause) (new events before after : List Atom) (level : List ℕ → ℕ) (denial : Cut) where
  -- what is answered of starts is answered of their conditions
  pub by_starts : (conds : List Cond) (starts : List Start) → AreStarts denial.happen conds starts → (answer : Bool) →
      IsAnswered program events before after level denial (IsViolatedByStart program new events before after level denial starts) answer →
      IsAnswered program events before after level denial (IsViolatedBy program new events before after level denial conds) answer
  by_starts conds starts are answer answered = record {
    sound = answered.sound;
    complete = λ h.
        let found = start_of denial.happen conds starts are h.cond h.among in
        answered.complete (record { start = found.0; among = found.1; violated = subst (IsViolatedFrom program new events before after level denial) (sym found.2) h.violated });
  }

  -- where nothing derived is asked for the conditions are those of fluents
  pub by_touches : denial.is_derived ≡ false → (answer : Bool) →
      IsAnswered program events before after level denial (IsViolatedBy program new events before after level denial denial.touches) answer → IsAnswered program events before after level denial (IsViolatedByFluent program new events before after level denial) answer
  by_touches plain answer answered = record { sound = answered.sound; complete = λ h. elim h [ inl derived ↦ absurd (let yes = derived.0 in cc) | inr by ↦ answered.complete by ] }

  -- what is answered of all instances is answered of these too
  pub by_all : (answer : Bool) → (answer ≡ true) ↔ IsViolated program events before after level denial → IsAnswered program events before after level denial (IsViolatedByFluent program new events before after level denial) answer
  by_all answer are = record {
    sound = are.0;
    complete = λ h. are.1 (elim h [
      | inl derived ↦ derived.1
      | inr by ↦ record { values = by.violated.values; happen = by.violated.happen; front = by.violated.front; back = by.violated.back }
    ]);
  }

  -- it is violated from none of one start more
  pub none_more_starts : (starts : List Start) (i : ℕ) (start : Start) → i < length starts → start ≡ get_or starts i start → (IsViolatedFrom program new events before after level denial start.first.conds → ⊥) →
      (IsViolatedByStart program new events before after level denial (take i starts) → ⊥) → IsViolatedByStart program new events before after level denial (take (i + 1) starts) → ⊥
  none_more_starts starts i start lt is never none h =
      elim (Contains-push_cases (take i starts) start h.start (subst (λ xs. Contains xs h.start) (take_more i starts start lt is) h.among)) [
        | inl old ↦ none (record { start = h.start; among = old; violated = h.violated })
        | inr same ↦ never (subst (λ (z : Start). IsViolatedFrom program new events before after level denial z.first.conds) (sym same) h.violated)
      ]

-- the starts with that of one condition more
pub one_start_more : (happen conds : List Cond) (i : ℕ) (cond : Cond) → i < length conds → cond ≡ get_or conds i cond → (starts more : List Start) (start : Start) → more ≡ starts ++ start ∷ [] → IsStart happen start →
    start.first.conds ≡ single cond → AreStarts happen (take i conds) starts → AreStarts happen (take (i + 1) conds) more
one_start_more happen conds i cond lt at starts more start is one first so_far = record {
  each = subst (AllByRecursion (λ (start : Start). IsStart happen start)) (sym is) (all_append (λ (start : Start). IsStart happen start) starts (start ∷ []) so_far.each (one, tt));
  firsts = ap (map conds_of_first) is ∙ map-append conds_of_first starts (start ∷ []) ∙ (λ j. so_far.firsts j ++ first j ∷ []) ∙ sym (ap (map single) (take_more i conds cond lt at) ∙ map-append single (take i conds) (cond ∷ []));
}
