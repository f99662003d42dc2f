-- The denials that have conditions on the state after, found place by place.
use Rattle.std.proofs.Common.{ℕ, Bool, true, false, refl, ◌≡◌, ◌≤◌, ◌<◌, ◌+◌, List, [], ◌∷◌, ◌++◌, ◌∙◌, sym, subst, ap, length, get_or, arith, inl, inr}
use Rattle.std.specs.Prelude.{◌⊎◌, ◌↔◌, Contains, Some, nat_lt, slice_get}
use Rattle.std.proofs.lemmas.Bool.Decides.{nat_tests}
use Rattle.std.proofs.lemmas.List.Elements.{Contains-append_left, Contains-append_right, Contains-push_cases}
use Rattle.std.proofs.lemmas.Option.{slice_get_within}
use Rattle.lps_model.proofs.Elements.{first_is_contained}
use Rattle.lps_precond.specs.Cut.{Cut}
use Rattle.lps_precond.specs.Stages.{AreLate, IsLate}
use Rattle.lps_precond.proofs.Judging.{got_item}

under_or_same : (m i : ℕ) → m < i + 1 → (m < i) ⊎ (m ≡ i)
under_or_same m i lt = by (nat_lt m i) refl
  where
    by : (less : Bool) → nat_lt m i ≡ less → (m < i) ⊎ (m ≡ i)
    by true e = inl (grind (arith, nat_tests))
    by false e = let not_less : i ≤ m = grind (arith, nat_tests) in inr (omega arith)

-- the places under a number of exactly these denials
abbrev pub AreLateUpTo : List Cut → ℕ → List ℕ → Type 0
AreLateUpTo denials count late = (place : ℕ) → Contains late place ↔ ((place < count) × IsLate denials place)

pub late_more : (denials : List Cut) (i : ℕ) (denial : Cut) → i < length denials → denial ≡ get_or denials i denial → (old new : List ℕ) →
    ((place : ℕ) → Contains new place ↔ (Contains old place ⊎ ((place ≡ i) × (denial.back ≡ [] → ⊥)))) → AreLateUpTo denials i old → AreLateUpTo denials (i + 1) new
late_more denials i denial lt is old new more so_far place = (
  λ h. elim ((more place).0 h) [
    | inl before ↦ let found = (so_far place).0 before in (omega (arith, found.0), found.1)
    | inr this ↦ (
      omega (arith, this.0),
      record { denial = denial; at = subst (λ k. slice_get denials k ≡ Some denial) (sym this.0) (got_item denials i denial denial lt is); holds = this.1 },
    )
  ],
  λ h. (more place).1 (elim (under_or_same place i h.0) [
    | inl less ↦ inl ((so_far place).1 (less, h.1))
    | inr same ↦ inr (same, here h.1 same)
  ]),
)
  where
    here : IsLate denials place → place ≡ i → denial.back ≡ [] → ⊥
    here late same none =
        let both : Some late.denial ≡ Some denial = sym late.at ∙ ap (slice_get denials) same ∙ got_item denials i denial denial lt is in
        let one : late.denial ≡ denial = cc in
        late.holds (ap (λ (d : Cut). d.back) one ∙ none)

pub late_all : (denials : List Cut) (count : ℕ) (late : List ℕ) → length denials ≤ count → AreLateUpTo denials count late → AreLate denials late
late_all denials count late all are place = (
  λ h. ((are place).0 h).1,
  λ h. (are place).1 (let within : place < length denials = slice_get_within denials place h.denial h.at in omega (arith, within, all), h),
)

-- the places with one more
pub one_late_more : (old new : List ℕ) (i : ℕ) (P : Type 0) → new ≡ old ++ i ∷ [] → P → (place : ℕ) → Contains new place ↔ (Contains old place ⊎ ((place ≡ i) × P))
one_late_more old new i P is so place = (
  λ h. elim (Contains-push_cases old i place (subst (λ (places : List ℕ). Contains places place) is h)) [ inl before ↦ inl before | inr same ↦ inr (sym same, so) ],
  λ h. subst (λ (places : List ℕ). Contains places place) (sym is) (elim h [
    | inl before ↦ Contains-append_left old (i ∷ []) place before
    | inr this ↦ Contains-append_right old (i ∷ []) place (subst (Contains (i ∷ [])) (sym this.0) (first_is_contained i []))
  ]),
)
