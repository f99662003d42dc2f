-- What is gained, step by step.
use Rattle.std.proofs.Common.{ℕ, ◌≡◌, ◌+◌, ◌≤◌, ◌<◌, List, [], ◌∷◌, ◌++◌, sym, ap, subst, arith, refl, inl, inr, ◌∙◌, take, length, get_or}
use Rattle.std.specs.Prelude.{zero, suc, Contains, ◌⊎◌}
use Rattle.std.specs.declared.cmp.Ordering.{Ordering}
use Rattle.std.specs.declared.cmp.Ordering.TheVariants.{Less, Equal, Greater}
use Rattle.std.specs.BTreeSet.{insert_key}
use Rattle.std.specs.Cmp.Lexicographic.{slice_cmp}
use Rattle.std.specs.FinMap.{slice_cmp-IsAntisymmetric}
use Rattle.std.proofs.lemmas.List.Elements.{Contains-push, Contains-push_cases, Contains-append_left, Contains-append_right, Contains-append_cases}
use Rattle.lps_terms.specs.declared.term.Term.{Term}
use Rattle.lps_terms.specs.Order.{term_cmp}
use Rattle.lps_terms.specs.OrderLaws.{term_cmp-IsAntisymmetric}
use Rattle.lps_model.proofs.Elements.{first_or_later, first_is_contained, later_is_contained, nothing_contained}
pub use Rattle.lps_solve.specs.Found.{ByOne}
use Rattle.lps_solve.specs.Found.{Gains}

pub Gains-none : (xs : List (List Term)) (P : List Term → Type 0) → ((x : List Term) → P x → ⊥) → Gains xs xs P
Gains-none xs P none = λ x. (λ h. inl h, λ e. elim e [ inl h ↦ h | inr h ↦ absurd (none x h) ])

pub Gains-same : (xs ys : List (List Term)) (P Q : List Term → Type 0) → ((x : List Term) → P x → Q x) → ((x : List Term) → Q x → P x) → Gains xs ys P → Gains xs ys Q
Gains-same xs ys P Q to from h = λ x. (
  λ g. elim ((h x).0 g) [ inl e ↦ inl e | inr e ↦ inr (to x e) ],
  λ g. (h x).1 (elim g [ inl e ↦ inl e | inr e ↦ inr (from x e) ]),
)

take_one : {X : Type 0} (i : ℕ) (xs : List X) (d : X) → i < length xs → take (suc i) xs ≡ take i xs ++ get_or xs i d ∷ []
take_one i [] d h = absurd (omega arith)
take_one zero (x ∷ xs) d h = refl
take_one (suc i) (x ∷ xs) d h = ap (λ ys. x ∷ ys) (take_one i xs d (omega arith))

pub take_more : {X : Type 0} (i : ℕ) (xs : List X) (y : X) → i < length xs → y ≡ get_or xs i y → take (i + 1) xs ≡ take i xs ++ y ∷ []
take_more i xs y h is = let e : i + 1 ≡ suc i = omega arith in ap (λ n. take n xs) e ∙ take_one i xs y h ∙ ap (λ z. take i xs ++ z ∷ []) (sym is)

pub take_whole : {X : Type 0} (i : ℕ) (xs : List X) → length xs ≤ i → take i xs ≡ xs
take_whole zero [] h = refl
take_whole zero (x ∷ xs) h = absurd (omega arith)
take_whole (suc i) [] h = refl
take_whole (suc i) (x ∷ xs) h = ap (λ ys. x ∷ ys) (take_whole i xs (omega arith))

-- an item that there is does not depend on what stands for missing ones
pub default_free : {X : Type 0} (xs : List X) (i : ℕ) (d e : X) → i < length xs → get_or xs i d ≡ get_or xs i e
default_free [] i d e h = absurd (omega arith)
default_free (x ∷ xs) zero d e h = refl
default_free (x ∷ xs) (suc i) d e h = default_free xs i d e (omega arith)

-- ---- what some element of a list gives

pub ByOne-none : {X : Type 0} (ys : List X) (R : X → List Term → Type 0) (xs : List (List Term)) → Gains xs xs (ByOne (take 0 ys) R)
ByOne-none ys R xs = Gains-none xs (ByOne (take 0 ys) R) (λ x h. absurd (nothing_contained h.0 h.1))

pub ByOne-more : {X : Type 0} (i : ℕ) (ys : List X) (y : X) (R : X → List Term → Type 0) (us bs cs : List (List Term)) → i < length ys → y ≡ get_or ys i y →
    Gains us bs (ByOne (take i ys) R) → Gains bs cs (R y) → Gains us cs (ByOne (take (i + 1) ys) R)
ByOne-more i ys y R us bs cs lt is g h =
    let e = take_more i ys y lt is in
    λ x. (
      λ inside. elim ((h x).0 inside) [
        | inl b ↦ elim ((g x).0 b) [ inl a ↦ inl a | inr one ↦ inr (one.0, subst (λ zs. Contains zs one.0) (sym e) (Contains-append_left (take i ys) (y ∷ []) one.0 one.1), one.2) ]
        | inr r ↦ inr (y, subst (λ zs. Contains zs y) (sym e) (Contains-push (take i ys) y), r)
      ],
      λ given. elim given [
        | inl a ↦ (h x).1 (inl ((g x).1 (inl a)))
        | inr one ↦ elim (Contains-push_cases (take i ys) y one.0 (subst (λ zs. Contains zs one.0) e one.1)) [
          | inl old ↦ (h x).1 (inl ((g x).1 (inr (one.0, old, one.2))))
          | inr new ↦ (h x).1 (inr (subst (λ z. R z x) (sym new) one.2))
        ]
      ],
    )

-- what some element of the one list gives, and then of the other
pub ByOne-both : {X : Type 0} (xs ys : List X) (R : X → List Term → Type 0) (us bs cs : List (List Term)) → Gains us bs (ByOne xs R) → Gains bs cs (ByOne ys R) → Gains us cs (ByOne (xs ++ ys) R)
ByOne-both xs ys R us bs cs g h = λ x. (
  λ inside. elim ((h x).0 inside) [
    | inl b ↦ elim ((g x).0 b) [ inl a ↦ inl a | inr one ↦ inr (one.0, Contains-append_left xs ys one.0 one.1, one.2) ]
    | inr one ↦ inr (one.0, Contains-append_right xs ys one.0 one.1, one.2)
  ],
  λ given. elim given [
    | inl a ↦ (h x).1 (inl ((g x).1 (inl a)))
    | inr one ↦ elim (Contains-append_cases xs ys one.0 one.1) [
      | inl left ↦ (h x).1 (inl ((g x).1 (inr (one.0, left, one.2))))
      | inr right ↦ (h x).1 (inr (one.0, right, one.2))
    ]
  ],
)

pub ByOne-all : {X : Type 0} (i : ℕ) (ys : List X) (R : X → List Term → Type 0) (us bs : List (List Term)) → length ys ≤ i → Gains us bs (ByOne (take i ys) R) → Gains us bs (ByOne ys R)
ByOne-all i ys R us bs le g = subst (λ zs. Gains us bs (ByOne zs R)) (take_whole i ys le) g

-- ---- a row put into a set

abbrev row_cmp : List Term → List Term → Ordering
row_cmp = slice_cmp term_cmp

-- a list with a row before it
cons_cases : (y : List Term) (ys : List (List Term)) (x : List Term) → Contains (y ∷ ys) x → (x ≡ y) ⊎ Contains ys x
cons_cases y ys x h = elim (first_or_later y ys x h) [ inl e ↦ inl (sym e) | inr later ↦ inr later ]

cons_here : (y : List Term) (ys : List (List Term)) (x : List Term) → x ≡ y → Contains (y ∷ ys) x
cons_here y ys x e = subst (Contains (y ∷ ys)) (sym e) (first_is_contained y ys)

abbrev placed : List Term → List (List Term) → List Term → List (List Term) → Ordering → List (List Term)
placed y ys k rest Less = k ∷ y ∷ ys
placed y ys k rest Equal = y ∷ ys
placed y ys k rest Greater = y ∷ rest

module _ (y : List Term) (ys : List (List Term)) (k : List Term) (deeper : Gains ys (insert_key row_cmp ys k) (λ x. x ≡ k)) where
  each : (o : Ordering) → row_cmp k y ≡ o → Gains (y ∷ ys) (placed y ys k (insert_key row_cmp ys k) o) (λ x. x ≡ k)
  each Less e = λ x. (
    λ h. elim (cons_cases k (y ∷ ys) x h) [ inl a ↦ inr a | inr a ↦ inl a ],
    λ h. elim h [ inl a ↦ later_is_contained k (y ∷ ys) x a | inr a ↦ cons_here k (y ∷ ys) x a ],
  )
  each Equal e = λ x. (λ h. inl h, λ h. elim h [ inl a ↦ a | inr a ↦ cons_here y ys x (a ∙ slice_cmp-IsAntisymmetric term_cmp-IsAntisymmetric k y e) ])
  each Greater e = λ x. (
    λ h. elim (cons_cases y (insert_key row_cmp ys k) x h) [
      | inl a ↦ inl (cons_here y ys x a)
      | inr a ↦ elim ((deeper x).0 a) [ inl b ↦ inl (later_is_contained y ys x b) | inr b ↦ inr b ]
    ],
    λ h. elim h [
      | inl a ↦ elim (cons_cases y ys x a) [
        | inl b ↦ cons_here y (insert_key row_cmp ys k) x b
        | inr b ↦ later_is_contained y (insert_key row_cmp ys k) x ((deeper x).1 (inl b))
      ]
      | inr a ↦ later_is_contained y (insert_key row_cmp ys k) x ((deeper x).1 (inr a))
    ],
  )

  at : (o : Ordering) → row_cmp k y ≡ o → Gains (y ∷ ys) (insert_key row_cmp (y ∷ ys) k) (λ x. x ≡ k)
  at Less e = rw e (each Less e)
  at Equal e = rw e (each Equal e)
  at Greater e = rw e (each Greater e)

pub insert_gains : (ks : List (List Term)) (k : List Term) → Gains ks (insert_key row_cmp ks k) (λ x. x ≡ k)
insert_gains [] k = λ x. (
  λ h. elim (cons_cases k [] x h) [ inl e ↦ inr e | inr e ↦ inl e ],
  λ h. elim h [ inl e ↦ later_is_contained k [] x e | inr e ↦ cons_here k [] x e ],
)
insert_gains (y ∷ ys) k = at y ys k (insert_gains ys k) (row_cmp k y) refl
