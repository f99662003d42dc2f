-- Passes come to an end: each but the last gives one of the goals its pick.
use Rattle.std.proofs.Common.{◌≡◌, ℕ, ◌<◌, ◌≤◌, ◌+◌, Bool, true, false, List, [], ◌∷◌, ◌++◌, length, cond, refl, sym, ap, subst, arith, inl, inr, length-append}
use Rattle.std.specs.Prelude.{◌⊎◌, ◌||◌, ◌==◌, Contains}
use Rattle.std.proofs.lemmas.Bool.{eqb-true, eq-eqb}
use Rattle.std.proofs.lemmas.List.{append-nil, map-append}
use Rattle.std.proofs.lemmas.List.Elements.{Contains-append_left, Contains-append_right}
use Rattle.lps_model.specs.declared.cycle.Pick.{Pick}
use Rattle.lps_model.proofs.Elements.{first_or_later, first_is_contained, later_is_contained, nothing_contained}
use Rattle.lps_choice.specs.Choices.{Choice, IsFree, ArePicks, Extends, goals_of}
use Rattle.lps_choice.proofs.Lists.{moved}

-- whether a number is one of some
abbrev pub is_among : List ℕ → ℕ → Bool
is_among [] n = false
is_among (m ∷ ms) n = (m == n) || is_among ms n

pub among_is : (ms : List ℕ) (n : ℕ) → is_among ms n ≡ true → Contains ms n
among_is [] n e = absurd cc
among_is (m ∷ ms) n e = by (m == n) refl e (among_is ms n) where
  by : (same : Bool) → (m == n) ≡ same → (same || is_among ms n) ≡ true → (is_among ms n ≡ true → Contains ms n) → Contains (m ∷ ms) n
  by true same e rest = subst (Contains (m ∷ ms)) (eqb-true m n same) (first_is_contained m ms)
  by false same e rest = later_is_contained m ms n (rest e)

pub is_among_of : (ms : List ℕ) (n : ℕ) → Contains ms n → is_among ms n ≡ true
is_among_of [] n among = absurd (nothing_contained n among)
is_among_of (m ∷ ms) n among =
    elim (first_or_later m ms n among) [
      | inl same ↦ rw (eq-eqb m n same) refl
      | inr later ↦ or_true (m == n) (is_among ms n) (is_among_of ms n later)
    ]
  where
    or_true : (a b : Bool) → b ≡ true → (a || b) ≡ true
    or_true true b e = refl
    or_true false b e = e

-- a number is one of some or is none of them
pub among_or_not : (ms : List ℕ) (n : ℕ) → Contains ms n ⊎ (Contains ms n → ⊥)
among_or_not ms n = by (is_among ms n) refl where
  by : (is : Bool) → is_among ms n ≡ is → Contains ms n ⊎ (Contains ms n → ⊥)
  by true e = inl (among_is ms n e)
  by false e = inr (λ among. let is = is_among_of ms n among in cc)

-- ---- how many goals have no pick

abbrev weight : List Pick → ℕ → ℕ
weight made goal = cond (is_among (goals_of made) goal) 0 1

-- how many of some goals have no pick
abbrev pub unpicked : List ℕ → List Pick → ℕ
unpicked [] made = 0
unpicked (goal ∷ goals) made = weight made goal + unpicked goals made

pub goals_joined : (made picks : List Pick) → goals_of (made ++ picks) ≡ goals_of made ++ goals_of picks
goals_joined made picks = map-append (λ (pick : Pick). pick.goal) made picks

weight_of_picked : (made : List Pick) (goal : ℕ) → Contains (goals_of made) goal → weight made goal ≡ 0
weight_of_picked made goal among = rw (is_among_of (goals_of made) goal among) refl

weight_of_free : (made : List Pick) (goal : ℕ) → IsFree made goal → weight made goal ≡ 1
weight_of_free made goal free = by (is_among (goals_of made) goal) refl where
  by : (is : Bool) → is_among (goals_of made) goal ≡ is → weight made goal ≡ 1
  by true e = absurd (free (among_is (goals_of made) goal e))
  by false e = rw e refl

weight_within : (made : List Pick) (goal : ℕ) → weight made goal ≤ 1
weight_within made goal = by (is_among (goals_of made) goal) where
  by : (is : Bool) → cond is 0 1 ≤ 1
  by true = omega arith
  by false = omega arith

still_picked : (made : List Pick) (pick : Pick) (goal : ℕ) → Contains (goals_of made) goal → Contains (goals_of (made ++ pick ∷ [])) goal
still_picked made pick goal among = rw (goals_joined made (pick ∷ [])) (Contains-append_left (goals_of made) (pick.goal ∷ []) goal among)

now_picked : (made : List Pick) (pick : Pick) → Contains (goals_of (made ++ pick ∷ [])) pick.goal
now_picked made pick = rw (goals_joined made (pick ∷ [])) (Contains-append_right (goals_of made) (pick.goal ∷ []) pick.goal (first_is_contained pick.goal []))

weight_falls : (made : List Pick) (pick : Pick) (goal : ℕ) → weight (made ++ pick ∷ []) goal ≤ weight made goal
weight_falls made pick goal =
    elim (among_or_not (goals_of made) goal) [
      | inl among ↦ let now = weight_of_picked (made ++ pick ∷ []) goal (still_picked made pick goal among) in omega (arith, now)
      | inr free ↦ let before = weight_of_free made goal free in omega (arith, before, weight_within (made ++ pick ∷ []) goal)
    ]

unpicked_within : (goals : List ℕ) (made : List Pick) (pick : Pick) → unpicked goals (made ++ pick ∷ []) ≤ unpicked goals made
unpicked_within [] made pick = omega arith
unpicked_within (goal ∷ goals) made pick = omega (arith, weight_falls made pick goal, unpicked_within goals made pick)

unpicked_falls : (goals : List ℕ) (made : List Pick) (pick : Pick) → Contains goals pick.goal → IsFree made pick.goal → unpicked goals (made ++ pick ∷ []) < unpicked goals made
unpicked_falls [] made pick among free = absurd (nothing_contained pick.goal among)
unpicked_falls (goal ∷ goals) made pick among free =
    elim (first_or_later goal goals pick.goal among) [
      | inl same ↦
          let before = weight_of_free made goal (subst (IsFree made) (sym same) free) in
          let now = weight_of_picked (made ++ pick ∷ []) goal (subst (Contains (goals_of (made ++ pick ∷ []))) (sym same) (now_picked made pick)) in
          omega (arith, before, now, unpicked_within goals made pick)
      | inr later ↦ omega (arith, weight_falls made pick goal, unpicked_falls goals made pick later free)
    ]

module _ (choice : Choice) where
  picks_fall : (made picks : List Pick) → ArePicks choice made picks → unpicked choice.goals (made ++ picks) + length picks ≤ unpicked choice.goals made
  picks_fall made [] h = rw append-nil (omega arith)
  picks_fall made (pick ∷ picks) h =
      let one = unpicked_falls choice.goals made pick h.0.pending h.0.free in
      let rest = picks_fall (made ++ pick ∷ []) picks h.1 in
      let same = ap (unpicked choice.goals) (moved made pick picks) in
      omega (arith, one, rest, same)

  -- where picks were made, fewer goals have none
  pub fewer_unpicked : (made all : List Pick) → Extends choice made all → length made < length all → unpicked choice.goals all < unpicked choice.goals made
  fewer_unpicked made all extends longer =
      let falls = picks_fall made extends.more extends.picks in
      let same = ap (unpicked choice.goals) extends.whole in
      let count = ap length extends.whole in
      omega (arith, falls, same, count, longer, length-append made extends.more)
