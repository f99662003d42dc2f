-- What is had and what is still to come, one more at a time.
use Rattle.std.proofs.Common.{ℕ, zero, suc, ◌≡◌, ◌∙◌, ◌<◌, Bool, true, false, cond, List, [], ◌∷◌, ◌++◌, length, take, get_or, refl, sym, ap, subst, arith, inl, inr}
use Rattle.std.specs.Prelude.{◌⊎◌, ◌↔◌, IsTrue, Contains, Some, slice_get}
use Rattle.std.proofs.lemmas.List.Elements.{Contains-append_cases, Contains-append_left, Contains-append_right}
use Rattle.lps_meaning.specs.declared.node.Node.{Node}
use Rattle.lps_model.proofs.Elements.{first_is_contained, later_is_contained, nothing_contained}
use Rattle.lps_residual.specs.declared.waking.Wake.{Wake}
use Rattle.lps_antecedents.specs.declared.held.Held.{Held}
use Rattle.lps_antecedents.specs.Advancing.{BySome, LiesInSome}
use Rattle.lps_antecedents.specs.Buckets.{LiesIn}
use Rattle.lps_antecedents.specs.Gathered.{IsLeftFor}
use Rattle.lps_antecedents.specs.Lists.{AreOnce, ByOne, Gains, HasExactly}
use Rattle.lps_antecedents.proofs.Lists.{at_contains}
use Rattle.lps_antecedents.proofs.Middles.{cases_first, is_first}

-- where what is had grows by the next of what is to come, both together stay
pub more_had : {X : Type 0} (Had Has Next Left Later All : X → Type 0) → ((x : X) → Has x ↔ (Had x ⊎ Next x)) → ((x : X) → Left x ↔ (Next x ⊎ Later x)) → ((x : X) → (Had x ⊎ Left x) ↔ All x) →
    (x : X) → (Has x ⊎ Later x) ↔ All x
more_had Had Has Next Left Later All gains parts all x = (
  λ h. elim h [
    | inl has ↦ elim ((gains x).0 has) [ inl had ↦ (all x).0 (inl had) | inr next ↦ (all x).0 (inr ((parts x).1 (inl next))) ]
    | inr later ↦ (all x).0 (inr ((parts x).1 (inr later)))
  ],
  λ a. elim ((all x).1 a) [
    | inl had ↦ inl ((gains x).1 (inl had))
    | inr left ↦ elim ((parts x).0 left) [ inl next ↦ inl ((gains x).1 (inr next)) | inr later ↦ inr later ]
  ],
)

-- where nothing is to come, all is had
pub all_had : {X : Type 0} (Has Left All : X → Type 0) → ((x : X) → Left x → ⊥) → ((x : X) → (Has x ⊎ Left x) ↔ All x) → (x : X) → Has x ↔ All x
all_had Has Left All none all x = (λ has. (all x).0 (inl has), λ a. elim ((all x).1 a) [ inl has ↦ has | inr left ↦ absurd (none x left) ])

module _ {X Y : Type 0} (R : Y → X → Type 0) where
  pub by_first : (y : Y) (ys : List Y) (x : X) → ByOne (y ∷ ys) R x ↔ (R y x ⊎ ByOne ys R x)
  by_first y ys x = (
    λ one. elim (cases_first y ys one.0 one.1) [ inl e ↦ inl (subst (λ z. R z x) e one.2) | inr later ↦ inr (one.0, later, one.2) ],
    λ h. elim h [ inl gives ↦ (y, first_is_contained y ys, gives) | inr later ↦ (later.0, later_is_contained y ys later.0 later.1, later.2) ],
  )

  pub by_nothing : (x : X) → ByOne [] R x → ⊥
  by_nothing x one = nothing_contained one.0 one.1

module _ {X : Type 0} (buckets : List (Wake × List Held)) (R : Held → X → Type 0) where
  pub some_first : (wake : Wake) (wakes : List Wake) (x : X) → BySome (LiesInSome (wake ∷ wakes) buckets) R x ↔ (BySome (LiesIn buckets wake) R x ⊎ BySome (LiesInSome wakes buckets) R x)
  some_first wake wakes x = (
    λ some. elim (cases_first wake wakes some.1.0 some.1.1) [
      | inl e ↦ inl (some.0, subst (λ w. LiesIn buckets w some.0) e some.1.2, some.2)
      | inr later ↦ inr (some.0, (some.1.0, later, some.1.2), some.2)
    ],
    λ h. elim h [
      | inl here ↦ (here.0, (wake, first_is_contained wake wakes, here.1), here.2)
      | inr later ↦ (later.0, (later.1.0, later_is_contained wake wakes later.1.0 later.1.1, later.1.2), later.2)
    ],
  )

  pub some_nothing : (x : X) → BySome (LiesInSome [] buckets) R x → ⊥
  some_nothing x some = nothing_contained some.1.0 some.1.1

-- ---- one of a list is not before its place

module _ {X : Type 0} where
  place_before : (xs : List X) (i : ℕ) (x : X) → Contains (take i xs) x → (j : ℕ) × (j < i) × (slice_get xs j ≡ Some x)
  place_before xs zero x there = absurd (nothing_contained x there)
  place_before [] (suc i) x there = absurd (nothing_contained x there)
  place_before (y ∷ ys) (suc i) x there = elim (cases_first y (take i ys) x there) [
    | inl e ↦ (zero, omega arith, ap (λ z. Some z) (sym e))
    | inr later ↦ let place = place_before ys i x later in (suc place.0, omega (arith, place.1), place.2)
  ]

  pub taken : (xs : List X) (i : ℕ) (x : X) → Contains (take i xs) x → Contains xs x
  taken xs i x there = let place = place_before xs i x there in at_contains xs x place.0 place.2

  pub at_place : (xs : List X) (i : ℕ) (x : X) → i < length xs → x ≡ get_or xs i x → slice_get xs i ≡ Some x
  at_place [] i x lt is = absurd (omega (arith, lt))
  at_place (y ∷ ys) zero x lt is = ap (λ z. Some z) (sym is)
  at_place (y ∷ ys) (suc i) x lt is = at_place ys i x (omega (arith, lt)) is

  pub not_before : (xs : List X) (i : ℕ) (x : X) → AreOnce xs → i < length xs → x ≡ get_or xs i x → Contains (take i xs) x → ⊥
  not_before xs i x once lt is there =
      let place = place_before xs i x there in
      let same : place.0 ≡ i = once place.0 i x place.2 (at_place xs i x lt is) in
      omega (arith, same, place.1)

-- ---- one that goes on as it is is set apart

module _ (h : Held) (nodes others : List Node) (stays : Bool) (takes : (x : Node) → Contains nodes x ↔ (Contains others x ⊎ (IsTrue stays × (x ≡ h.node)))) where
  left_apart : (o : Held) → IsLeftFor h.rule nodes o ↔ (IsLeftFor h.rule others o ⊎ ((stays ≡ true) × (o ≡ h)))
  left_apart o = (
    λ left. elim ((takes left.0).0 left.1) [
      | inl among ↦ inl (left.0, among, left.2)
      | inr own ↦ inr (own.0, left.2 ∙ ap (λ node. record { rule = h.rule; node = node }) own.1)
    ],
    λ sides. elim sides [
      | inl left ↦ (left.0, (takes left.0).1 (inl left.1), left.2)
      | inr own ↦ (h.node, (takes h.node).1 (inr (own.0, refl)), own.1)
    ],
  )

  in_cond : (b : Bool) (o : Held) → Contains (cond b (h ∷ []) []) o → (b ≡ true) × (o ≡ h)
  in_cond true o there = elim (cases_first h [] o there) [ inl e ↦ (refl, e) | inr none ↦ absurd (nothing_contained o none) ]
  in_cond false o there = absurd (nothing_contained o there)

  to_cond : (b : Bool) (o : Held) → b ≡ true → o ≡ h → Contains (cond b (h ∷ []) []) o
  to_cond true o is e = is_first o h [] e
  to_cond false o is e = absurd cc

  pub one_step : (old new waits now : List Held) → Gains old new (IsLeftFor h.rule others) → now ≡ waits ++ cond stays (h ∷ []) [] →
      (o : Held) → (Contains new o ⊎ Contains now o) ↔ ((Contains old o ⊎ Contains waits o) ⊎ IsLeftFor h.rule nodes o)
  one_step old new waits now gains is o = (
    λ sides. elim sides [
      | inl there ↦ elim ((gains o).0 there) [ inl before ↦ inl (inl before) | inr left ↦ inr ((left_apart o).1 (inl left)) ]
      | inr there ↦ elim (Contains-append_cases waits (cond stays (h ∷ []) []) o (subst (λ hs. Contains hs o) is there)) [
        | inl before ↦ inl (inr before)
        | inr own ↦ inr ((left_apart o).1 (inr (in_cond stays o own)))
      ]
    ],
    λ sides. elim sides [
      | inl before ↦ elim before [
        | inl there ↦ inl ((gains o).1 (inl there))
        | inr there ↦ inr (subst (λ hs. Contains hs o) (sym is) (Contains-append_left waits (cond stays (h ∷ []) []) o there))
      ]
      | inr left ↦ elim ((left_apart o).0 left) [
        | inl other ↦ inl ((gains o).1 (inr other))
        | inr own ↦ inr (subst (λ hs. Contains hs o) (sym is) (Contains-append_right waits (cond stays (h ∷ []) []) o (to_cond stays o own.0 own.1)))
      ]
    ],
  )

-- ---- what was gathered is put where nothing was

pub exactly_put : (old new gathered : List Held) (P : Held → Type 0) → old ≡ [] → Gains old new (Contains gathered) → HasExactly gathered P → HasExactly new P
exactly_put old new gathered P none gains exact h = (
  λ there. elim ((gains h).0 there) [ inl before ↦ absurd (nothing_contained h (subst (λ hs. Contains hs h) none before)) | inr among ↦ (exact h).0 among ],
  λ p. (gains h).1 (inr ((exact h).1 p)),
)
