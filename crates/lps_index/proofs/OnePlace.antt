-- What one place more is.
use Rattle.std.proofs.Common.{ℕ, Bool, true, false, ◌≡◌, ◌<◌, ◌-◌, ◌↔◌, List, [], ◌∷◌, ◌++◌, length, refl, sym, subst, arith, inl, inr}
use Rattle.std.specs.Prelude.{◌⊎◌, ◌&&◌, ◌==◌, IsTrue, nat_lt, slice_index_or, Contains, if◌then◌else◌}
use Rattle.std.proofs.lemmas.Bool.{eqb-true}
use Rattle.std.proofs.lemmas.Bool.Decides.{nat_tests}
use Rattle.std.proofs.lemmas.List.Elements.{Contains-get_or, Contains-push, Contains-push_cases, Contains-append_left}
use Rattle.lps_index.specs.Table.{is_last, with_place}

first_true : (a b : Bool) → (a && b) ≡ true → a ≡ true
first_true true b h = refl
first_true false b h = h

second_true : (a b : Bool) → (a && b) ≡ true → b ≡ true
second_true true b h = h
second_true false b h = absurd (cc)

positive : (n : ℕ) → nat_lt 0 n ≡ true → 0 < n
positive n e = grind (arith, nat_tests)

-- the last place is one of the places
last_is_there : (places : List ℕ) (place : ℕ) → is_last places place ≡ true → Contains places place
last_is_there places place h =
    let some : nat_lt 0 (length places) ≡ true = first_true (nat_lt 0 (length places)) (slice_index_or places (length places - 1) 0 == place) h in
    let lt : 0 < length places = positive (length places) some in
    let within : length places - 1 < length places = omega (arith, lt) in
    let same : slice_index_or places (length places - 1) 0 ≡ place = eqb-true (slice_index_or places (length places - 1) 0) place (second_true (nat_lt 0 (length places)) (slice_index_or places (length places - 1) 0 == place) h) in
    subst (Contains places) same (Contains-get_or places (length places - 1) 0 within)

by_last : (places : List ℕ) (place i : ℕ) (last : Bool) → is_last places place ≡ last → Contains (if last then places else places ++ place ∷ []) i ↔ (Contains places i ⊎ (i ≡ place))
by_last places place i true e = (
  λ h. inl h,
  λ h. elim h [ inl old ↦ old | inr new ↦ subst (Contains places) (sym new) (last_is_there places place e) ],
)
by_last places place i false e = (
  λ h. elim (Contains-push_cases places place i h) [ inl old ↦ inl old | inr new ↦ inr (sym new) ],
  λ h. elim h [ inl old ↦ Contains-append_left places (place ∷ []) i old | inr new ↦ subst (Contains (places ++ place ∷ [])) (sym new) (Contains-push places place) ],
)

pub one_more : (places : List ℕ) (place i : ℕ) → Contains (with_place places place) i ↔ (Contains places i ⊎ (i ≡ place))
one_more places place i = by_last places place i (is_last places place) refl

-- the same where a test holds
pub one_more_where : (places : List ℕ) (place i : ℕ) (here : Bool) → Contains (if here then with_place places place else places) i ↔ (Contains places i ⊎ ((i ≡ place) × IsTrue here))
one_more_where places place i true = (
  λ h. elim ((one_more places place i).0 h) [ inl old ↦ inl old | inr new ↦ inr (new, refl) ],
  λ h. elim h [ inl old ↦ (one_more places place i).1 (inl old) | inr new ↦ (one_more places place i).1 (inr new.0) ],
)
one_more_where places place i false = (λ h. inl h, λ h. elim h [ inl old ↦ old | inr new ↦ absurd (cc (new.1)) ])
