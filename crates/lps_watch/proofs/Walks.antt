-- A walk along keys in order, up to the first that is no longer asked for.
use Rattle.std.proofs.Common.{ℕ, ◌≡◌, ◌⊎◌, ◌↔◌, ◌<◌, ◌+◌, List, [], ◌∷◌, ◌++◌, length, take, Contains, refl, sym, ap, subst, ◌∙◌, arith, inl, inr, Bool, true, false, cond}
use Rattle.std.specs.Prelude.{⊤, zero, suc, slice_index_or}
use Rattle.std.specs.List.{AllByRecursion, filter}
use Rattle.std.specs.List.Sorted.{IsStrictlySortedBy}
use Rattle.std.specs.declared.cmp.Ordering.{Ordering}
use Rattle.std.specs.declared.cmp.Ordering.TheVariants.{Less}
use Rattle.std.proofs.lemmas.Map.Keys.{sorted_head, sorted_tail}
use Rattle.std.proofs.lemmas.List.{take_more}
use Rattle.std.proofs.lemmas.List.Elements.{All-contains, All-from_recursion, Contains-append_left, Contains-push, Contains-push_cases}
use Rattle.lps_residual.specs.declared.waking.Wake.{Wake}
use Rattle.lps_watch.specs.Watches.{Adds}

-- ---- elements

module _ {X : Type 0} where
  by_place : (x : X) (xs : List X) (q : X) (k : ℕ) → k < length (x ∷ xs) → slice_index_or (x ∷ xs) k q ≡ q → (x ≡ q) ⊎ Contains xs q
  by_place x xs q zero lt e = inl e
  by_place x xs q (suc k) lt e = inr (k, omega arith, e)

  pub first_or_later : (x : X) (xs : List X) (q : X) → Contains (x ∷ xs) q → (x ≡ q) ⊎ Contains xs q
  first_or_later x xs q c = by_place x xs q c.0 c.1 c.2

  pub first : (x : X) (xs : List X) → Contains (x ∷ xs) x
  first x xs = (0, omega arith, refl)

  pub later : (x : X) (xs : List X) (q : X) → Contains xs q → Contains (x ∷ xs) q
  later x xs q c = (suc c.0, omega (arith, c.1), c.2)

  pub nothing : (q : X) → Contains [] q → ⊥
  nothing q c = omega (arith, c.1)

  -- those that pass
  pub passing : (test : X → Bool) (xs : List X) (q : X) → test q ≡ true → Contains xs q → Contains (filter test xs) q
  passing test [] q passes there = there
  passing test (x ∷ xs) q passes there = by (passing test xs q passes) (test x) refl (first_or_later x xs q there) where
    by : (Contains xs q → Contains (filter test xs) q) → (b : Bool) → test x ≡ b → (x ≡ q) ⊎ Contains xs q → Contains (cond b (x ∷ filter test xs) (filter test xs)) q
    by rest true e (inl is) = subst (λ y. Contains (y ∷ filter test xs) q) (sym is) (first q (filter test xs))
    by rest true e (inr more) = later x (filter test xs) q (rest more)
    by rest false e (inl is) = absurd (let no : test q ≡ false = ap test (sym is) ∙ e in cc (no, passes))
    by rest false e (inr more) = rest more

  pub from_passing : (test : X → Bool) (xs : List X) (q : X) → Contains (filter test xs) q → Contains xs q
  from_passing test [] q there = there
  from_passing test (x ∷ xs) q there = by (from_passing test xs q) (test x) there where
    by : (Contains (filter test xs) q → Contains xs q) → (b : Bool) → Contains (cond b (x ∷ filter test xs) (filter test xs)) q → Contains (x ∷ xs) q
    by rest true h = elim (first_or_later x (filter test xs) q h) [
      | inl is ↦ subst (λ y. Contains (y ∷ xs) q) (sym is) (first q xs)
      | inr more ↦ later x xs q (rest more)
    ]
    by rest false h = later x xs q (rest h)

  -- an element more of those that a loop has seen
  pub taken_more : (xs : List X) (i : ℕ) (x : X) → i < length xs → x ≡ slice_index_or xs i x → (q : X) → Contains (take (i + 1) xs) q ↔ (Contains (take i xs) q ⊎ (x ≡ q))
  taken_more xs i x within is q =
      let more : take (i + 1) xs ≡ take i xs ++ x ∷ [] = take_more xs i x within ∙ ap (λ y. take i xs ++ y ∷ []) (sym is) in (
        λ h. Contains-push_cases (take i xs) x q (subst (λ ys. Contains ys q) more h),
        λ h. subst (λ ys. Contains ys q) (sym more) (elim h [
          | inl old ↦ Contains-append_left (take i xs) (x ∷ []) q old
          | inr same ↦ subst (Contains (take i xs ++ x ∷ [])) same (Contains-push (take i xs) x)
        ]),
      )

  -- what holds of each
  pub of_each : (P : X → Type 0) → ((x : X) → P x) → (xs : List X) → AllByRecursion P xs
  of_each P all [] = tt
  of_each P all (x ∷ xs) = (all x, of_each P all xs)

-- ---- where a walk may stop

-- behind one that is not asked for there is none
abbrev pub MayStop : {K : Type 0} → (K → Type 0) → List K → Type 0
MayStop P [] = ⊤
MayStop P (x ∷ xs) = ((P x → ⊥) → (q : _) → Contains (x ∷ xs) q → P q → ⊥) × MayStop P xs

module _ {K : Type 0} (R : K → K → Ordering) (P Q : K → Type 0) (between : (x y : K) → Q x → R x y ≡ Less → P y → P x) where
  pub may_stop : (xs : List K) → IsStrictlySortedBy R xs → AllByRecursion Q xs → MayStop P xs
  may_stop [] sorted all = tt
  may_stop (x ∷ xs) sorted all = (
    λ other q there holds. elim (first_or_later x xs q there) [
      | inl is ↦ other (subst P (sym is) holds)
      | inr more ↦ other (between x q all.0 (All-contains (λ y. R x y ≡ Less) xs q (All-from_recursion (λ y. R x y ≡ Less) xs (sorted_head R x xs sorted)) more) holds)
    ],
    may_stop xs (sorted_tail R x xs sorted) all.1,
  )

-- ---- what is found so far

module _ {K : Type 0} (key : Wake → K) (P : K → Type 0) (whole : List K) (before : List Wake) where
  -- what is found, and what is asked for of those that are left
  abbrev pub Walked : List K → List Wake → Type 0
  Walked left found = (w : Wake) → (Contains found w ⊎ (Contains left (key w) × P (key w))) ↔ (Contains before w ⊎ (Contains whole (key w) × P (key w)))

  pub one_found : (k : K) (left : List K) (found more : List Wake) (wake : Wake) → Walked (k ∷ left) found → P k → ((w : Wake) → (k ≡ key w) ↔ (w ≡ wake)) → Adds found more (λ w. w ≡ wake) → Walked left more
  one_found k left found more wake walked holds is added w = (
    λ h. elim h [
      | inl there ↦ elim ((added w).0 there) [
        | inl old ↦ (walked w).0 (inl old)
        | inr same ↦
            let here : k ≡ key w = (is w).1 same in
            (walked w).0 (inr (subst (Contains (k ∷ left)) here (first k left), subst P here holds))
      ]
      | inr ahead ↦ (walked w).0 (inr (later k left (key w) ahead.0, ahead.1))
    ],
    λ h. elim ((walked w).1 h) [
      | inl old ↦ inl ((added w).1 (inl old))
      | inr ahead ↦ elim (first_or_later k left (key w) ahead.0) [
        | inl here ↦ inl ((added w).1 (inr ((is w).0 here)))
        | inr further ↦ inr (further, ahead.1)
      ]
    ],
  )

  -- where nothing that is left is asked for
  pub all_found : (left : List K) (found : List Wake) → Walked left found → ((q : K) → Contains left q → P q → ⊥) → Adds before found (λ w. Contains whole (key w) × P (key w))
  all_found left found walked none w = (
    λ h. (walked w).0 (inl h),
    λ h. elim ((walked w).1 h) [
      | inl there ↦ there
      | inr ahead ↦ absurd (none (key w) ahead.0 ahead.1)
    ],
  )
