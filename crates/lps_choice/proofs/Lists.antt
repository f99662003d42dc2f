-- Elements of lists, and lists cut at a place.
use Rattle.std.proofs.Common.{◌≡◌, ℕ, zero, suc, ◌<◌, ◌≤◌, ◌+◌, List, [], ◌∷◌, ◌++◌, length, map, get_or, take, drop, reverse, refl, sym, ap, subst, ◌∙◌, arith, inl, inr, add-one, drop-cons, append_assoc, length-append}
use Rattle.std.specs.Prelude.{Contains}
use Rattle.std.specs.List.{AllByRecursion}
use Rattle.std.proofs.Math.Seq.{take-suc}
use Rattle.std.proofs.lemmas.List.{reverse-append}
use Rattle.std.proofs.lemmas.List.Elements.{Contains-append_left, Contains-append_right, Contains-append_cases}
use Rattle.lps_model.proofs.Elements.{first_or_later, first_is_contained, later_is_contained, nothing_contained}

-- what is among those from a place on, and not at the place, is among those from the next place on
pub left_after : {X : Type 0} (xs : List X) (i : ℕ) (x q : X) → i < length xs → x ≡ get_or xs i x → (x ≡ q → ⊥) → Contains (drop i xs) q → Contains (drop (i + 1) xs) q
left_after xs i x q lt is other among =
    rw add-one
    (elim (first_or_later (get_or xs i x) (drop (suc i) xs) q (subst (λ ys. Contains ys q) (drop-cons xs i x lt) among)) [
      | inl same ↦ absurd (other (is ∙ same))
      | inr later ↦ later
    ])

-- one place more is one element more
pub take_here : {X : Type 0} (xs : List X) (i : ℕ) (d : X) → i < length xs → take (i + 1) xs ≡ take i xs ++ get_or xs i d ∷ []
take_here xs i d lt = rw add-one (take-suc xs i d lt)

pub take_one_more : {X : Type 0} (xs : List X) (i : ℕ) (x : X) → i < length xs → x ≡ get_or xs i x → take (i + 1) xs ≡ take i xs ++ x ∷ []
take_one_more xs i x lt is = take_here xs i x lt ∙ ap (λ y. take i xs ++ y ∷ []) (sym is)

-- an element of a map is the image of one
pub of_image : {X Y : Type 0} (f : X → Y) (xs : List X) (y : Y) → Contains (map f xs) y → (x : X) × Contains xs x × (f x ≡ y)
of_image f [] y among = absurd (nothing_contained y among)
of_image f (x ∷ xs) y among =
    elim (first_or_later (f x) (map f xs) y among) [
      | inl same ↦ (x, first_is_contained x xs, same)
      | inr later ↦ let found = of_image f xs y later in (found.0, later_is_contained x xs found.0 found.1, found.2)
    ]

-- the image of an element is one of the map
pub image_of : {X Y : Type 0} (f : X → Y) (xs : List X) (x : X) → Contains xs x → Contains (map f xs) (f x)
image_of f [] x among = absurd (nothing_contained x among)
image_of f (first ∷ xs) x among =
    elim (first_or_later first xs x among) [
      | inl same ↦ subst (λ y. Contains (f first ∷ map f xs) y) (ap f same) (first_is_contained (f first) (map f xs))
      | inr later ↦ later_is_contained (f first) (map f xs) (f x) (image_of f xs x later)
    ]

pub reverse_first : {X : Type 0} (x : X) (xs : List X) → reverse (x ∷ xs) ≡ reverse xs ++ x ∷ []
reverse_first x xs = reverse-append (x ∷ []) xs

-- the elements of a list that is turned round are those of the list
pub of_reverse : {X : Type 0} (xs : List X) (q : X) → Contains (reverse xs) q → Contains xs q
of_reverse [] q among = among
of_reverse (x ∷ xs) q among =
    elim (Contains-append_cases (reverse xs) (x ∷ []) q (subst (λ ys. Contains ys q) (reverse_first x xs) among)) [
      | inl before ↦ later_is_contained x xs q (of_reverse xs q before)
      | inr last ↦ elim (first_or_later x [] q last) [
        | inl same ↦ subst (Contains (x ∷ xs)) same (first_is_contained x xs)
        | inr later ↦ absurd (nothing_contained q later)
      ]
    ]

pub in_reverse : {X : Type 0} (xs : List X) (q : X) → Contains xs q → Contains (reverse xs) q
in_reverse [] q among = among
in_reverse (x ∷ xs) q among =
    subst (λ ys. Contains ys q) (sym (reverse_first x xs))
    (elim (first_or_later x xs q among) [
      | inl same ↦ Contains-append_right (reverse xs) (x ∷ []) q (subst (Contains (x ∷ [])) same (first_is_contained x []))
      | inr later ↦ Contains-append_left (reverse xs) (x ∷ []) q (in_reverse xs q later)
    ])

-- one more, and then the rest
pub moved : {X : Type 0} (xs : List X) (x : X) (ys : List X) → (xs ++ x ∷ []) ++ ys ≡ xs ++ x ∷ ys
moved xs x ys = append_assoc xs (x ∷ []) ys

-- what is added to a list to give the list is nothing
pub nothing_added : {X : Type 0} (xs ys : List X) → xs ≡ xs ++ ys → ys ≡ []
nothing_added xs [] e = refl
nothing_added xs (y ∷ ys) e = absurd (omega (arith, ap length e, length-append xs (y ∷ ys)))

-- as many elements as there are, or more, are all
pub take_all : {X : Type 0} (xs : List X) (n : ℕ) → length xs ≤ n → take n xs ≡ xs
take_all [] zero past = refl
take_all [] (suc n) past = refl
take_all (x ∷ xs) zero past = absurd (omega arith)
take_all (x ∷ xs) (suc n) past = ap (λ ys. x ∷ ys) (take_all xs n (omega arith))

-- from a place on there is the element at the place, and those from the next place on
pub drop_here : {X : Type 0} (xs : List X) (i : ℕ) (d : X) → i < length xs → drop i xs ≡ get_or xs i d ∷ drop (i + 1) xs
drop_here xs i d lt = rw add-one (drop-cons xs i d lt)

-- past the end nothing is left
pub drop_all : {X : Type 0} (xs : List X) (n : ℕ) → length xs ≤ n → drop n xs ≡ []
drop_all [] zero past = refl
drop_all [] (suc n) past = refl
drop_all (x ∷ xs) zero past = absurd (omega arith)
drop_all (x ∷ xs) (suc n) past = drop_all xs n (omega arith)

pub all_joined : {X : Type 0} (P : X → Type 0) (xs ys : List X) → AllByRecursion P xs → AllByRecursion P ys → AllByRecursion P (xs ++ ys)
all_joined P [] ys h k = k
all_joined P (x ∷ xs) ys h k = (h.0, all_joined P xs ys h.1 k)

pub all_dropped : {X : Type 0} (P : X → Type 0) (n : ℕ) (xs : List X) → AllByRecursion P xs → AllByRecursion P (drop n xs)
all_dropped P zero xs h = h
all_dropped P (suc n) [] h = tt
all_dropped P (suc n) (x ∷ xs) h = all_dropped P n xs h.1
