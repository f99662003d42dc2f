-- The order of what instances carry tells carries apart, and what a set of them and a list of nodes have with one more.
use Rattle.std.proofs.Common.{ℕ, ◌≡◌, ◌⊎◌, ◌↔◌, List, [], ◌∷◌, ◌++◌, drop, min, length, Contains, refl, sym, ap, subst, ◌∙◌, arith, inl, inr, Bool, true, false, IsTrue}
use Rattle.std.specs.Prelude.{zero, suc, Some, slice_get}
use Rattle.std.specs.BTreeSet.{insert_key}
use Rattle.std.specs.Cmp.Lexicographic.{slice_cmp}
use Rattle.std.specs.FinMap.{IsAntisymmetric, nat_cmp-IsAntisymmetric, slice_cmp-IsAntisymmetric}
use Rattle.std.specs.Ordering.{match_ordering, nat_cmp, ordering_then}
use Rattle.std.specs.declared.cmp.Ordering.{Ordering}
use Rattle.std.specs.declared.cmp.Ordering.TheVariants.{Less, Equal, Greater}
use Rattle.std.proofs.lemmas.List.Elements.{Contains-append_left, Contains-append_right, Contains-push, Contains-push_cases}
use Rattle.lps_facts.proofs.Sets.{true_not_false}
use Rattle.lps_model.proofs.Elements.{first_is_contained, first_or_later, nothing_contained}
use Rattle.lps_terms.specs.Order.{term_cmp}
use Rattle.lps_terms.specs.OrderLaws.{term_cmp-IsAntisymmetric}
use Rattle.lps_meaning.specs.declared.node.Carry.{Carry}
use Rattle.lps_meaning.specs.declared.node.Node.{Node}
use Rattle.lps_meaning.specs.declared.when.When.TheVariants.{Known, Unknown}
use Rattle.lps_seq.specs.Carries.{carry_cmp, when_cmp}
use Rattle.lps_seq.specs.Found.{AreOnce}

-- ---- the order

both_equal : (one other : Ordering) → ordering_then one other ≡ Equal → (one ≡ Equal) × (other ≡ Equal)
both_equal Less other e = absurd cc
both_equal Equal other e = (refl, e)
both_equal Greater other e = absurd cc

when_exact : IsAntisymmetric when_cmp
when_exact (Known n) (Known m) e = ap (λ k. Known k) (nat_cmp-IsAntisymmetric n m e)
when_exact (Known n) (Unknown m) e = absurd cc
when_exact (Unknown n) (Known m) e = absurd cc
when_exact (Unknown n) (Unknown m) e = ap (λ k. Unknown k) (nat_cmp-IsAntisymmetric n m e)

pub carry_exact : IsAntisymmetric carry_cmp
carry_exact c d e =
    let both = both_equal (slice_cmp term_cmp c.values d.values) (slice_cmp when_cmp c.times d.times) e in
    let values = slice_cmp-IsAntisymmetric term_cmp-IsAntisymmetric c.values d.values both.0 in
    let times = slice_cmp-IsAntisymmetric when_exact c.times d.times both.1 in
    λ i. record { values = values i; times = times i }

-- where one of two lists ends, their lengths decide
pub ends : {X : Type 0} (R : X → X → Ordering) (xs ys : List X) (i : ℕ) → i ≡ min (length xs) (length ys) → slice_cmp R (drop i xs) (drop i ys) ≡ nat_cmp (length xs) (length ys)
ends R [] [] zero e = refl
ends R [] (y ∷ ys) zero e = grind arith
ends R (x ∷ xs) [] zero e = grind arith
ends R (x ∷ xs) (y ∷ ys) zero e = absurd (omega (arith, e))
ends R [] ys (suc i) e = absurd (omega (arith, e))
ends R (x ∷ xs) [] (suc i) e = absurd (omega (arith, e))
ends R (x ∷ xs) (y ∷ ys) (suc i) e = ends R xs ys i (omega (arith, e)) ∙ grind arith

-- ---- elements

module _ {X : Type 0} where
  here : (x : X) (xs : List X) → Contains (x ∷ xs) x
  here x xs = first_is_contained x xs

  there : (y : X) (xs : List X) (x : X) → Contains xs x → Contains (y ∷ xs) x
  there y xs x h = Contains-append_right (y ∷ []) xs x h

  first_or : (y : X) (xs : List X) (x : X) → Contains (y ∷ xs) x → (x ≡ y) ⊎ Contains xs x
  first_or y xs x h = elim (first_or_later y xs x h) [
    | inl e ↦ inl (sym e)
    | inr more ↦ inr more
  ]

  swap_first : (x y : X) (P : Type 0) → (x ≡ y) ⊎ P → P ⊎ (x ≡ y)
  swap_first x y P (inl e) = inr e
  swap_first x y P (inr p) = inl p

-- ---- carries

-- one more is among them
pub among_more : (k : Carry) (xs : List Carry) (c : Carry) → Contains (insert_key carry_cmp xs k) c ↔ (Contains xs c ⊎ (c ≡ k))
among_more k [] c = (
  λ h. swap_first c k (Contains [] c) (first_or k [] c h),
  λ h. elim h [
    | inl none ↦ absurd (nothing_contained c none)
    | inr e ↦ subst (λ d. Contains (d ∷ []) c) e (here c [])
  ],
)
among_more k (x ∷ xs) c = by (among_more k xs c) (carry_cmp k x) refl where
  by : Contains (insert_key carry_cmp xs k) c ↔ (Contains xs c ⊎ (c ≡ k)) → (o : Ordering) → carry_cmp k x ≡ o → Contains (match_ordering o (k ∷ x ∷ xs) (x ∷ xs) (x ∷ insert_key carry_cmp xs k)) c ↔ (Contains (x ∷ xs) c ⊎ (c ≡ k))
  by more Less o = (
    λ h. swap_first c k (Contains (x ∷ xs) c) (first_or k (x ∷ xs) c h),
    λ h. elim h [
      | inl old ↦ there k (x ∷ xs) c old
      | inr e ↦ subst (λ d. Contains (d ∷ x ∷ xs) c) e (here c (x ∷ xs))
    ],
  )
  by more Equal o = (
    λ h. inl h,
    λ h. elim h [
      | inl old ↦ old
      | inr e ↦ subst (λ d. Contains (d ∷ xs) c) (e ∙ carry_exact k x o) (here c xs)
    ],
  )
  by more Greater o = (
    λ h. elim (first_or x (insert_key carry_cmp xs k) c h) [
      | inl e ↦ inl (subst (λ d. Contains (d ∷ xs) c) e (here c xs))
      | inr old ↦ elim (more.0 old) [
        | inl old ↦ inl (there x xs c old)
        | inr e ↦ inr e
      ]
    ],
    λ h. elim h [
      | inl old ↦ elim (first_or x xs c old) [
        | inl e ↦ subst (λ d. Contains (d ∷ insert_key carry_cmp xs k) c) e (here c (insert_key carry_cmp xs k))
        | inr old ↦ there x (insert_key carry_cmp xs k) c (more.1 (inl old))
      ]
      | inr e ↦ there x (insert_key carry_cmp xs k) c (more.1 (inr e))
    ],
  )

-- ---- nodes

pub among_pushed : {X : Type 0} (xs : List X) (y x : X) → Contains (xs ++ y ∷ []) x ↔ (Contains xs x ⊎ (x ≡ y))
among_pushed xs y x = (
  λ h. elim (Contains-push_cases xs y x h) [
    | inl old ↦ inl old
    | inr e ↦ inr (sym e)
  ],
  λ h. elim h [
    | inl old ↦ Contains-append_left xs (y ∷ []) x old
    | inr e ↦ subst (λ d. Contains (xs ++ d ∷ []) x) e (Contains-push xs x)
  ],
)

-- one that is there already adds nothing
pub among_old : {X : Type 0} (xs : List X) (y x : X) → Contains xs y → Contains xs x ↔ (Contains xs x ⊎ (x ≡ y))
among_old xs y x there = (
  λ h. inl h,
  λ h. elim h [
    | inl old ↦ old
    | inr e ↦ subst (Contains xs) (sym e) there
  ],
)

-- a place of a list with one more is a place of the list, or the last
at_pushed : {X : Type 0} (xs : List X) (y x : X) (i : ℕ) → slice_get (xs ++ y ∷ []) i ≡ Some x → (slice_get xs i ≡ Some x) ⊎ ((i ≡ length xs) × (y ≡ x))
at_pushed [] y x zero e = inr (refl, cc)
at_pushed [] y x (suc i) e = absurd cc
at_pushed (z ∷ xs) y x zero e = inl e
at_pushed (z ∷ xs) y x (suc i) e = elim (at_pushed xs y x i e) [
  | inl old ↦ inl old
  | inr last ↦ inr (ap suc last.0, last.1)
]

at_contains : {X : Type 0} (xs : List X) (x : X) (i : ℕ) → slice_get xs i ≡ Some x → Contains xs x
at_contains [] x i e = absurd cc
at_contains (y ∷ xs) x zero e = let same : y ≡ x = cc in subst (λ z. Contains (z ∷ xs) x) (sym same) (here x xs)
at_contains (y ∷ xs) x (suc i) e = there y xs x (at_contains xs x i e)

pub once_more : (nodes : List Node) (node : Node) → (Contains nodes node → ⊥) → AreOnce nodes → AreOnce (nodes ++ node ∷ [])
once_more nodes node new once i j x at_i at_j = elim (at_pushed nodes node x i at_i) [
  | inl old ↦ elim (at_pushed nodes node x j at_j) [
    | inl other ↦ once i j x old other
    | inr last ↦ absurd (new (subst (Contains nodes) (sym last.1) (at_contains nodes x i old)))
  ]
  | inr last ↦ elim (at_pushed nodes node x j at_j) [
    | inl other ↦ absurd (new (subst (Contains nodes) (sym last.1) (at_contains nodes x j other)))
    | inr other ↦ last.0 ∙ sym other.0
  ]
]

-- ---- tests

pub is_not : {P : Type 0} (r : Bool) → r ≡ false → IsTrue r ↔ P → P → ⊥
is_not r e test p = true_not_false (sym (test.1 p) ∙ e)

pub is_so : {P : Type 0} (r : Bool) → r ≡ true → IsTrue r ↔ P → P
is_so r e test = test.0 e
