-- Lists of which one element is set apart.
use Rattle.std.proofs.Common.{◌≡◌, Bool, true, false, cond, List, [], ◌∷◌, ◌++◌, map, refl, sym, ap, subst, inl, inr}
use Rattle.std.specs.Prelude.{◌⊎◌, Contains}
use Rattle.std.specs.List.{AllByRecursion, flat_map}
use Rattle.std.proofs.lemmas.List.Elements.{Contains-append_cases, Contains-append_left, Contains-append_right}
use Rattle.lps_model.proofs.Elements.{first_or_later, first_is_contained, later_is_contained, nothing_contained}

module _ {X : Type 0} where
  pub cases_first : (y : X) (ys : List X) (x : X) → Contains (y ∷ ys) x → (x ≡ y) ⊎ Contains ys x
  cases_first y ys x h = elim (first_or_later y ys x h) [ inl e ↦ inl (sym e) | inr later ↦ inr later ]

  pub is_first : (x y : X) (ys : List X) → x ≡ y → Contains (y ∷ ys) x
  is_first x y ys e = subst (Contains (y ∷ ys)) (sym e) (first_is_contained y ys)

  module _ (front back : List X) (m : X) where
    pub cases_middle : (x : X) → Contains (front ++ m ∷ back) x → Contains (front ++ back) x ⊎ (x ≡ m)
    cases_middle x h = elim (Contains-append_cases front (m ∷ back) x h) [
      | inl early ↦ inl (Contains-append_left front back x early)
      | inr late ↦ elim (cases_first m back x late) [ inl e ↦ inr e | inr later ↦ inl (Contains-append_right front back x later) ]
    ]

    pub in_middle : Contains (front ++ m ∷ back) m
    in_middle = Contains-append_right front (m ∷ back) m (first_is_contained m back)

    pub beside_middle : (x : X) → Contains (front ++ back) x → Contains (front ++ m ∷ back) x
    beside_middle x h = elim (Contains-append_cases front back x h) [
      | inl early ↦ Contains-append_left front (m ∷ back) x early
      | inr late ↦ Contains-append_right front (m ∷ back) x (later_is_contained m back x late)
    ]

  module _ {Y : Type 0} (f : X → Y) where
    pub map_middle : (front back : List X) (m n : X) → f m ≡ f n → map f (front ++ m ∷ back) ≡ map f (front ++ n ∷ back)
    map_middle [] back m n e = ap (λ y. y ∷ map f back) e
    map_middle (x ∷ front) back m n e = ap (λ ys. f x ∷ ys) (map_middle front back m n e)

  module _ {Y : Type 0} (f : X → List Y) where
    pub flat_middle : (front back : List X) (m n : X) → f m ≡ f n → flat_map f (front ++ m ∷ back) ≡ flat_map f (front ++ n ∷ back)
    flat_middle [] back m n e = ap (λ ys. ys ++ flat_map f back) e
    flat_middle (x ∷ front) back m n e = ap (λ ys. f x ++ ys) (flat_middle front back m n e)

    pub flat_without : (front back : List X) (m : X) → f m ≡ [] → flat_map f (front ++ m ∷ back) ≡ flat_map f (front ++ back)
    flat_without [] back m e = ap (λ ys. ys ++ flat_map f back) e
    flat_without (x ∷ front) back m e = ap (λ ys. f x ++ ys) (flat_without front back m e)

    pub among_all : (xs : List X) (x : X) (y : Y) → Contains xs x → Contains (f x) y → Contains (flat_map f xs) y
    among_all [] x y h there = absurd (nothing_contained x h)
    among_all (z ∷ xs) x y h there = elim (cases_first z xs x h) [
      | inl e ↦ Contains-append_left (f z) (flat_map f xs) y (subst (λ w. Contains (f w) y) e there)
      | inr later ↦ Contains-append_right (f z) (flat_map f xs) y (among_all xs x y later there)
    ]

    pub among_one : (xs : List X) (y : Y) → Contains (flat_map f xs) y → (x : X) × Contains xs x × Contains (f x) y
    among_one [] y h = absurd (nothing_contained y h)
    among_one (x ∷ xs) y h = elim (Contains-append_cases (f x) (flat_map f xs) y h) [
      | inl first ↦ (x, first_is_contained x xs, first)
      | inr later ↦ let found = among_one xs y later in (found.0, later_is_contained x xs found.0 found.1, found.2)
    ]

  -- what holds of each, with another in the middle
  module _ (P : X → Type 0) where
    pub all_middle : (front back : List X) (m n : X) → (P m → P n) → AllByRecursion P (front ++ m ∷ back) → AllByRecursion P (front ++ n ∷ back)
    all_middle [] back m n more all = (more all.0, all.1)
    all_middle (x ∷ front) back m n more all = (all.0, all_middle front back m n more all.1)

    pub all_without : (front back : List X) (m : X) → AllByRecursion P (front ++ m ∷ back) → AllByRecursion P (front ++ back)
    all_without [] back m all = all.1
    all_without (x ∷ front) back m all = (all.0, all_without front back m all.1)

    pub all_with : (front back : List X) (m : X) → P m → AllByRecursion P (front ++ back) → AllByRecursion P (front ++ m ∷ back)
    all_with [] back m is all = (is, all)
    all_with (x ∷ front) back m is all = (all.0, all_with front back m is all.1)

module _ {X Y : Type 0} (f : X → Y) where
  pub mapped : (xs : List X) (x : X) → Contains xs x → Contains (map f xs) (f x)
  mapped [] x h = absurd (nothing_contained x h)
  mapped (y ∷ ys) x h = elim (cases_first y ys x h) [
    | inl e ↦ is_first (f x) (f y) (map f ys) (ap f e)
    | inr later ↦ later_is_contained (f y) (map f ys) (f x) (mapped ys x later)
  ]

  pub mapped_back : (xs : List X) (y : Y) → Contains (map f xs) y → (x : X) × Contains xs x × (f x ≡ y)
  mapped_back [] y h = absurd (nothing_contained y h)
  mapped_back (x ∷ xs) y h = elim (cases_first (f x) (map f xs) y h) [
    | inl e ↦ (x, first_is_contained x xs, sym e)
    | inr later ↦ let found = mapped_back xs y later in (found.0, later_is_contained x xs found.0 found.1, found.2)
  ]

-- ---- one that is there where a test says so

module _ {X : Type 0} where
  pub cond_cases : (b : Bool) (y x : X) (ys : List X) → Contains (cond b (y ∷ ys) ys) x → ((b ≡ true) × (x ≡ y)) ⊎ Contains ys x
  cond_cases true y x ys there = elim (cases_first y ys x there) [ inl e ↦ inl (refl, e) | inr more ↦ inr more ]
  cond_cases false y x ys there = inr there

  pub cond_first : (b : Bool) (y x : X) (ys : List X) → b ≡ true → x ≡ y → Contains (cond b (y ∷ ys) ys) x
  cond_first true y x ys at e = is_first x y ys e
  cond_first false y x ys at e = absurd cc

  pub cond_later : (b : Bool) (y x : X) (ys : List X) → Contains ys x → Contains (cond b (y ∷ ys) ys) x
  cond_later true y x ys there = later_is_contained y ys x there
  cond_later false y x ys there = there

  pub cond_appended : (b : Bool) (y : X) (xs ys zs : List X) → zs ≡ xs ++ ys → cond b (y ∷ zs) zs ≡ cond b (y ∷ xs) xs ++ ys
  cond_appended true y xs ys zs e = ap (λ more. y ∷ more) e
  cond_appended false y xs ys zs e = e

pub map_cond : {X Y : Type 0} (f : X → Y) (b : Bool) (x : X) (xs : List X) → map f (cond b (x ∷ xs) xs) ≡ cond b (f x ∷ map f xs) (map f xs)
map_cond f true x xs = refl
map_cond f false x xs = refl
