-- The numbers that an antecedent shares, found by where numbers first occur.
use Rattle.std.proofs.Common.{ℕ, ◌≡◌, ◌+◌, ◌==◌, Bool, true, false, not, cond, nat_eq, nat_lt, List, [], ◌∷◌, ◌++◌, length, refl, sym, ap, subst, ◌∙◌, arith}
use Rattle.std.specs.Prelude.{◌||◌, if◌then◌else◌, suc}
use Rattle.std.specs.List.{filter, flat_map}
use Rattle.std.proofs.lemmas.Bool.Decides.{nat_tests}
use Rattle.lps_terms.specs.declared.item.Item.{Item}
use Rattle.lps_model.specs.Order.{occurs}
use Rattle.lps_model.specs.Rules.{Rule}
use Rattle.lps_meaning.specs.Goals.{distinct, shared}
use Rattle.lps_unify.specs.Canonical.{first_seen, place_of, with_variable}

-- ---- tests

or_none : (b : Bool) → (b || false) ≡ b
or_none true = refl
or_none false = refl

swapped : (a b : Bool) → (a || (b || false)) ≡ (b || a)
swapped true true = refl
swapped true false = refl
swapped false true = refl
swapped false false = refl

tested : (x v : ℕ) (b : Bool) → (x == v) ≡ b → nat_eq x v ≡ b
tested x v true e = grind (arith, nat_tests)
tested x v false e = grind (arith, nat_tests)

first_less : (n : ℕ) → nat_lt 0 (suc n) ≡ true
first_less n = grind (arith, nat_tests)

less_more : (p n : ℕ) → nat_lt (1 + p) (suc n) ≡ nat_lt p n
less_more p n = by (nat_lt p n) refl where
  by : (b : Bool) → nat_lt p n ≡ b → nat_lt (1 + p) (suc n) ≡ b
  by true e = grind (arith, nat_tests)
  by false e = grind (arith, nat_tests)

-- the place of a number is one of the list exactly where the number occurs in it
pub seen_is : (xs : List ℕ) (v : ℕ) → nat_lt (place_of xs v) (length xs) ≡ occurs v xs
seen_is [] v = refl
seen_is (x ∷ xs) v = by (x == v) refl (seen_is xs v) where
  by : (b : Bool) → (x == v) ≡ b → nat_lt (place_of xs v) (length xs) ≡ occurs v xs → nat_lt (place_of (x ∷ xs) v) (length (x ∷ xs)) ≡ (b || occurs v xs)
  by true e rest = ap (λ c. nat_lt (cond (not c) (1 + place_of xs v) 0) (suc (length xs))) (tested x v true e) ∙ first_less (length xs)
  by false e rest = ap (λ c. nat_lt (cond (not c) (1 + place_of xs v) 0) (suc (length xs))) (tested x v false e) ∙ less_more (place_of xs v) (length xs) ∙ rest

occurs_push : (v w : ℕ) (xs : List ℕ) → occurs v (xs ++ w ∷ []) ≡ (occurs v xs || ((w == v) || false))
occurs_push v w [] = refl
occurs_push v w (x ∷ xs) = by (x == v) (occurs_push v w xs) where
  by : (b : Bool) → occurs v (xs ++ w ∷ []) ≡ (occurs v xs || ((w == v) || false)) → (b || occurs v (xs ++ w ∷ [])) ≡ ((b || occurs v xs) || ((w == v) || false))
  by true e = refl
  by false e = e

append_one : (xs : List ℕ) (v : ℕ) (ys : List ℕ) → (xs ++ v ∷ []) ++ ys ≡ xs ++ v ∷ ys
append_one [] v ys = refl
append_one (x ∷ xs) v ys = ap (λ zs. x ∷ zs) (append_one xs v ys)

append_none : (xs : List ℕ) → xs ++ [] ≡ xs
append_none [] = refl
append_none (x ∷ xs) = ap (λ zs. x ∷ zs) (append_none xs)

-- ---- numbers by where they first occur

with_old : (seen : List ℕ) (v : ℕ) → occurs v seen ≡ true → with_variable seen v ≡ seen
with_old seen v e = ap (λ b. if b then seen else seen ++ v ∷ []) (seen_is seen v ∙ e)

with_new : (seen : List ℕ) (v : ℕ) → occurs v seen ≡ false → with_variable seen v ≡ seen ++ v ∷ []
with_new seen v e = ap (λ b. if b then seen else seen ++ v ∷ []) (seen_is seen v ∙ e)

-- they are those without repetitions
distinct_from : (seen others vs : List ℕ) → ((v : ℕ) → occurs v seen ≡ occurs v others) → first_seen seen vs ≡ seen ++ distinct others vs
distinct_from seen others [] same = sym (append_none seen)
distinct_from seen others (v ∷ vs) same = by (occurs v others) refl (distinct_from seen others vs same) (distinct_from (seen ++ v ∷ []) (v ∷ others) vs more) where
  more : (w : ℕ) → occurs w (seen ++ v ∷ []) ≡ ((v == w) || occurs w others)
  more w = occurs_push w v seen ∙ ap (λ b. b || ((v == w) || false)) (same w) ∙ swapped (occurs w others) (v == w)

  by : (b : Bool) → occurs v others ≡ b → first_seen seen vs ≡ seen ++ distinct others vs → first_seen (seen ++ v ∷ []) vs ≡ (seen ++ v ∷ []) ++ distinct (v ∷ others) vs →
      first_seen (with_variable seen v) vs ≡ seen ++ cond b (distinct others vs) (v ∷ distinct (v ∷ others) vs)
  by true e old new = ap (λ xs. first_seen xs vs) (with_old seen v (same v ∙ e)) ∙ old
  by false e old new = ap (λ xs. first_seen xs vs) (with_new seen v (same v ∙ e)) ∙ new ∙ append_one seen v (distinct (v ∷ others) vs)

pub first_distinct : (vs : List ℕ) → first_seen [] vs ≡ distinct [] vs
first_distinct vs = distinct_from [] [] vs (λ v. refl)

all_in : (a b : Bool) → ((a || true) || b) ≡ (a || true)
all_in true b = refl
all_in false b = refl

same_number : (n m : ℕ) → (n == m) ≡ true → n ≡ m
same_number n m e = grind (arith, nat_tests)

-- and those that occur
pub occurs_from : (seen vs : List ℕ) (v : ℕ) → occurs v (first_seen seen vs) ≡ (occurs v seen || occurs v vs)
occurs_from seen [] v = sym (or_none (occurs v seen))
occurs_from seen (w ∷ vs) v = by (occurs w seen) refl (w == v) refl (occurs_from seen vs v) (occurs_from (seen ++ w ∷ []) vs v) where
  by : (b : Bool) → occurs w seen ≡ b → (c : Bool) → (w == v) ≡ c → occurs v (first_seen seen vs) ≡ (occurs v seen || occurs v vs) →
      occurs v (first_seen (seen ++ w ∷ []) vs) ≡ (occurs v (seen ++ w ∷ []) || occurs v vs) → occurs v (first_seen (with_variable seen w) vs) ≡ (occurs v seen || (c || occurs v vs))
  by true e true f old new =
      let there : occurs v seen ≡ true = subst (λ u. occurs u seen ≡ true) (same_number w v f) e in
      ap (λ xs. occurs v (first_seen xs vs)) (with_old seen w e) ∙ old ∙ ap (λ b. b || occurs v vs) there ∙ sym (ap (λ b. b || true) there)
  by true e false f old new = ap (λ xs. occurs v (first_seen xs vs)) (with_old seen w e) ∙ old
  by false e true f old new =
      ap (λ xs. occurs v (first_seen xs vs)) (with_new seen w e) ∙ new ∙ ap (λ b. b || occurs v vs) (occurs_push v w seen ∙ ap (λ c. occurs v seen || (c || false)) f)
      ∙ all_in (occurs v seen) (occurs v vs)
  by false e false f old new =
      ap (λ xs. occurs v (first_seen xs vs)) (with_new seen w e) ∙ new
      ∙ ap (λ b. b || occurs v vs) (occurs_push v w seen ∙ ap (λ c. occurs v seen || (c || false)) f ∙ or_none (occurs v seen))

kept_same : (f g : ℕ → Bool) (xs : List ℕ) → ((v : ℕ) → f v ≡ g v) → filter f xs ≡ filter g xs
kept_same f g xs same = λ i. filter (λ v. same v i) xs

-- what is shared is what is seen of the antecedent and among the others
pub is_shared : (parts : Item → List ℕ) (rule : Rule) (seen others : List ℕ) → seen ≡ first_seen [] (flat_map parts rule.antecedent) → others ≡ first_seen [] (flat_map (flat_map parts) rule.alternatives) →
    filter (λ v. nat_lt (place_of others v) (length others)) seen ≡ shared parts rule
is_shared parts rule seen others is are =
    ap (filter (λ v. nat_lt (place_of others v) (length others))) (is ∙ first_distinct (flat_map parts rule.antecedent))
    ∙ kept_same (λ v. nat_lt (place_of others v) (length others)) (λ v. occurs v (flat_map (flat_map parts) rule.alternatives)) (distinct [] (flat_map parts rule.antecedent))
    (λ v. seen_is others v ∙ ap (occurs v) are ∙ occurs_from [] (flat_map (flat_map parts) rule.alternatives) v)
