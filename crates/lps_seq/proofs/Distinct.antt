-- What is given for numbers without repetitions: each has what is given for it, and all others stand for themselves.
use Rattle.std.proofs.Common.{ℕ, ◌≡◌, ◌⊎◌, ◌+◌, ◌<◌, ◌≤◌, ◌==◌, Bool, true, false, not, cond, nat_eq, IsTrue, List, [], ◌∷◌, ◌++◌, get_or, length, map, refl, sym, ap, subst, ◌∙◌, arith, inl, inr}
use Rattle.std.specs.Prelude.{◌||◌, suc, zero}
use Rattle.std.specs.List.{AllByRecursion, filter, flat_map}
use Rattle.std.proofs.lemmas.Bool.Decides.{nat_tests}
use Rattle.lps_terms.specs.declared.item.Item.{Item}
use Rattle.lps_terms.specs.declared.term.Term.{Term}
use Rattle.lps_terms.specs.declared.term.Term.TheVariants as t
use Rattle.lps_terms.specs.Put.{put, put-Var}
use Rattle.lps_facts.proofs.Sets.{true_not_false}
use Rattle.lps_model.specs.Order.{occurs}
use Rattle.lps_model.specs.Rules.{Rule}
use Rattle.lps_model.specs.VariableLists.{term_vars}
use Rattle.lps_derivation.specs.Ground.{is_ground}
use Rattle.lps_meaning.specs.declared.when.When.{When}
use Rattle.lps_meaning.specs.declared.when.When.TheVariants.{Known, Unknown}
use Rattle.lps_meaning.specs.Goals.{distinct, shared}
use Rattle.lps_nodes.specs.Shapes.{put_when}
use Rattle.lps_unify.specs.Canonical.{place_of}
use Rattle.lps_solve.proofs.Vars.{no_vars}
use Rattle.lps_solve.proofs.Closed.{closed_stays}
use Rattle.lps_seq.specs.Starts.{given_value, given_when}
use Rattle.lps_seq.proofs.Sharing.{first_distinct, occurs_from, seen_is}
use Rattle.lps_seq.proofs.Tables.{beyond}
use Rattle.lps_seq.proofs.Waiting.{at_place}

-- ---- tests

either : (x y : Bool) → (x || y) ≡ true → (x ≡ true) ⊎ (y ≡ true)
either true y e = inl refl
either false y e = inr e

neither : (x y : Bool) → (x || y) ≡ false → (x ≡ false) × (y ≡ false)
neither true y e = cc
neither false y e = (refl, e)

both_false : (x y : Bool) → x ≡ false → y ≡ false → (x || y) ≡ false
both_false true y e f = cc
both_false false y e f = f

or_left : (x y : Bool) → x ≡ true → (x || y) ≡ true
or_left x y e = ap (λ b. b || y) e

or_right : (x y : Bool) → y ≡ true → (x || y) ≡ true
or_right true y e = refl
or_right false y e = e

same_number : (n m : ℕ) → (n == m) ≡ true → n ≡ m
same_number n m e = grind (arith, nat_tests)

same_self : (n : ℕ) → (n == n) ≡ true
same_self n = grind (arith, nat_tests)

-- ---- occurrences

pub occurs_front : (v : ℕ) (xs ys : List ℕ) → occurs v xs ≡ true → occurs v (xs ++ ys) ≡ true
occurs_front v [] ys e = absurd (true_not_false (sym e))
occurs_front v (x ∷ xs) ys e = elim (either (x == v) (occurs v xs) e) [ inl here ↦ or_left (x == v) (occurs v (xs ++ ys)) here | inr later ↦ or_right (x == v) (occurs v (xs ++ ys)) (occurs_front v xs ys later) ]

pub occurs_behind : (v : ℕ) (xs ys : List ℕ) → occurs v ys ≡ true → occurs v (xs ++ ys) ≡ true
occurs_behind v [] ys e = e
occurs_behind v (x ∷ xs) ys e = or_right (x == v) (occurs v (xs ++ ys)) (occurs_behind v xs ys e)

-- what holds of all of them holds of each that occurs
pub occurring : (P : ℕ → Type 0) (xs : List ℕ) → AllByRecursion P xs → (v : ℕ) → occurs v xs ≡ true → P v
occurring P [] all v e = absurd (true_not_false (sym e))
occurring P (x ∷ xs) all v e = elim (either (x == v) (occurs v xs) e) [ inl here ↦ subst P (same_number x v here) all.0 | inr later ↦ occurring P xs all.1 v later ]

-- each occurs
pub all_occur : (xs : List ℕ) → AllByRecursion (λ v. occurs v xs ≡ true) xs
all_occur [] = tt
all_occur (x ∷ xs) = (or_left (x == x) (occurs x xs) (same_self x), all_later xs (all_occur xs)) where
  all_later : (vs : List ℕ) → AllByRecursion (λ v. occurs v xs ≡ true) vs → AllByRecursion (λ v. occurs v (x ∷ xs) ≡ true) vs
  all_later [] h = tt
  all_later (v ∷ vs) h = (or_right (x == v) (occurs v xs) h.0, all_later vs h.1)

occurs_kept : (v : ℕ) (test : ℕ → Bool) (xs : List ℕ) → test v ≡ true → occurs v xs ≡ true → occurs v (filter test xs) ≡ true
occurs_kept v test [] passes e = absurd (true_not_false (sym e))
occurs_kept v test (x ∷ xs) passes e = by (occurs_kept v test xs passes) (test x) refl (either (x == v) (occurs v xs) e) where
  by : (occurs v xs ≡ true → occurs v (filter test xs) ≡ true) → (kept : Bool) → test x ≡ kept → ((x == v) ≡ true) ⊎ (occurs v xs ≡ true) → occurs v (cond kept (x ∷ filter test xs) (filter test xs)) ≡ true
  by more true is (inl here) = or_left (x == v) (occurs v (filter test xs)) here
  by more true is (inr later) = or_right (x == v) (occurs v (filter test xs)) (more later)
  by more false is (inl here) = absurd (true_not_false (sym (ap test (same_number x v here) ∙ passes) ∙ is))
  by more false is (inr later) = more later

-- only what occurs is kept
kept_occurs : (v : ℕ) (test : ℕ → Bool) (xs : List ℕ) → occurs v (filter test xs) ≡ true → occurs v xs ≡ true
kept_occurs v test [] e = e
kept_occurs v test (x ∷ xs) e = by (kept_occurs v test xs) (test x) e where
  by : (occurs v (filter test xs) ≡ true → occurs v xs ≡ true) → (kept : Bool) → occurs v (cond kept (x ∷ filter test xs) (filter test xs)) ≡ true → occurs v (x ∷ xs) ≡ true
  by more true h = elim (either (x == v) (occurs v (filter test xs)) h) [ inl here ↦ or_left (x == v) (occurs v xs) here | inr later ↦ or_right (x == v) (occurs v xs) (more later) ]
  by more false h = or_right (x == v) (occurs v xs) (more h)

distinct_occurs : (vs : List ℕ) (v : ℕ) → occurs v (distinct [] vs) ≡ occurs v vs
distinct_occurs vs v = ap (occurs v) (sym (first_distinct vs)) ∙ occurs_from [] vs v

-- what is shared occurs in the antecedent, and what occurs in it and in an alternative is shared
pub shared_occurs : (parts : Item → List ℕ) (rule : Rule) (v : ℕ) → occurs v (shared parts rule) ≡ true → occurs v (flat_map parts rule.antecedent) ≡ true
shared_occurs parts rule v e =
    sym (distinct_occurs (flat_map parts rule.antecedent) v) ∙ kept_occurs v (λ v. occurs v (flat_map (flat_map parts) rule.alternatives)) (distinct [] (flat_map parts rule.antecedent)) e

pub is_shared : (parts : Item → List ℕ) (rule : Rule) (v : ℕ) → occurs v (flat_map parts rule.antecedent) ≡ true → occurs v (flat_map (flat_map parts) rule.alternatives) ≡ true → occurs v (shared parts rule) ≡ true
is_shared parts rule v one other =
    occurs_kept v (λ v. occurs v (flat_map (flat_map parts) rule.alternatives)) (distinct [] (flat_map parts rule.antecedent)) other (distinct_occurs (flat_map parts rule.antecedent) v ∙ one)

-- ---- without repetitions

abbrev pub AreDistinct : List ℕ → Type 0
AreDistinct [] = Unit {0}
AreDistinct (x ∷ xs) = (occurs x xs ≡ false) × AreDistinct xs

not_seen : (v : ℕ) (seen vs : List ℕ) → occurs v seen ≡ true → occurs v (distinct seen vs) ≡ false
not_seen v seen [] e = refl
not_seen v seen (w ∷ vs) e = by (occurs w seen) refl (not_seen v seen vs e) (not_seen v (w ∷ seen) vs (or_right (w == v) (occurs v seen) e)) where
  by : (b : Bool) → occurs w seen ≡ b → occurs v (distinct seen vs) ≡ false → occurs v (distinct (w ∷ seen) vs) ≡ false → occurs v (cond b (distinct seen vs) (w ∷ distinct (w ∷ seen) vs)) ≡ false
  by true is old new = old
  by false is old new = both_false (w == v) (occurs v (distinct (w ∷ seen) vs)) (other (w == v) refl) new where
    other : (b : Bool) → (w == v) ≡ b → b ≡ false
    other true same = absurd (true_not_false (sym (subst (λ u. occurs u seen ≡ true) (sym (same_number w v same)) e) ∙ is))
    other false same = refl

distinct_is : (seen vs : List ℕ) → AreDistinct (distinct seen vs)
distinct_is seen [] = tt
distinct_is seen (w ∷ vs) = by (occurs w seen) (distinct_is seen vs) (distinct_is (w ∷ seen) vs) where
  by : (b : Bool) → AreDistinct (distinct seen vs) → AreDistinct (distinct (w ∷ seen) vs) → AreDistinct (cond b (distinct seen vs) (w ∷ distinct (w ∷ seen) vs))
  by true old new = old
  by false old new = (not_seen w (w ∷ seen) vs (or_left (w == w) (occurs w seen) (same_self w)), new)

kept_distinct : (test : ℕ → Bool) (xs : List ℕ) → AreDistinct xs → AreDistinct (filter test xs)
kept_distinct test [] h = tt
kept_distinct test (x ∷ xs) h = by (test x) (kept_distinct test xs h.1) where
  absent : (b : Bool) → occurs x (filter test xs) ≡ b → b ≡ false
  absent true e = absurd (true_not_false (sym (kept_occurs x test xs e) ∙ h.0))
  absent false e = refl

  by : (b : Bool) → AreDistinct (filter test xs) → AreDistinct (cond b (x ∷ filter test xs) (filter test xs))
  by true rest = (absent (occurs x (filter test xs)) refl, rest)
  by false rest = rest

pub shared_distinct : (parts : Item → List ℕ) (rule : Rule) → AreDistinct (shared parts rule)
shared_distinct parts rule = kept_distinct (λ v. occurs v (flat_map (flat_map parts) rule.alternatives)) (distinct [] (flat_map parts rule.antecedent)) (distinct_is [] (flat_map parts rule.antecedent))

-- ---- what stands for them

place_first : (x : ℕ) (xs : List ℕ) → place_of (x ∷ xs) x ≡ 0
place_first x xs = let same : nat_eq x x ≡ true = grind (arith, nat_tests) in ap (λ b. cond (not b) (1 + place_of xs x) 0) same

place_later : (x v : ℕ) (xs : List ℕ) → (x == v) ≡ false → place_of (x ∷ xs) v ≡ suc (place_of xs v)
place_later x v xs e =
    let other : nat_eq x v ≡ false = grind (arith, nat_tests) in
    let next : 1 + place_of xs v ≡ suc (place_of xs v) = omega arith in
    ap (λ b. cond (not b) (1 + place_of xs v) 0) other ∙ next

none_is : (x : ℕ) (xs : List ℕ) → occurs x xs ≡ false → AllByRecursion (λ v. (x == v) ≡ false) xs
none_is x [] e = tt
none_is x (v ∷ xs) e = let parts = neither (v == x) (occurs x xs) e in (turned (v == x) refl parts.0, none_is x xs parts.1) where
  turned : (b : Bool) → (v == x) ≡ b → b ≡ false → (x == v) ≡ false
  turned true is f = cc
  turned false is f = grind (arith, nat_tests)

module _ {X : Type 0} (d : ℕ → X) where
  at_later : (x : ℕ) (y : X) (xs : List ℕ) (ys : List X) (vs : List ℕ) → AllByRecursion (λ v. (x == v) ≡ false) vs →
      map (λ v. get_or (y ∷ ys) (place_of (x ∷ xs) v) (d v)) vs ≡ map (λ v. get_or ys (place_of xs v) (d v)) vs
  at_later x y xs ys [] h = refl
  at_later x y xs ys (v ∷ vs) h = λ i. ap (λ p. get_or (y ∷ ys) p (d v)) (place_later x v xs h.0) i ∷ at_later x y xs ys vs h.1 i

  -- each has what is given for it
  pub all_given : (xs : List ℕ) (ys : List X) → AreDistinct xs → length ys ≡ length xs → map (λ v. get_or ys (place_of xs v) (d v)) xs ≡ ys
  all_given [] [] h e = refl
  all_given [] (y ∷ ys) h e = absurd (omega (arith, e))
  all_given (x ∷ xs) [] h e = absurd (omega (arith, e))
  all_given (x ∷ xs) (y ∷ ys) h e =
      λ i. ap (λ p. get_or (y ∷ ys) p (d x)) (place_first x xs) i ∷ (at_later x y xs ys xs (none_is x xs h.0) ∙ all_given xs ys h.1 (omega (arith, e))) i

pub all_at : {X : Type 0} (P : X → Type 0) (xs : List X) (i : ℕ) (d : X) → AllByRecursion P xs → i < length xs → P (get_or xs i d)
all_at P [] i d h below = absurd (omega (arith, below))
all_at P (x ∷ xs) zero d h below = h.0
all_at P (x ∷ xs) (suc i) d h below = all_at P xs i d h.1 (omega (arith, below))

at_mapped : {X Y : Type 0} (f : X → Y) (xs : List X) (i : ℕ) (d : X) (e : Y) → i < length xs → get_or (map f xs) i e ≡ f (get_or xs i d)
at_mapped f [] i d e below = absurd (omega (arith, below))
at_mapped f (x ∷ xs) zero d e below = refl
at_mapped f (x ∷ xs) (suc i) d e below = at_mapped f xs i d e (omega (arith, below))

-- a number that occurs has a place, and any other none
pub has_place : (xs : List ℕ) (v : ℕ) → occurs v xs ≡ true → place_of xs v < length xs
has_place xs v e = let test = seen_is xs v ∙ e in grind (arith, nat_tests)

no_place : (xs : List ℕ) (v : ℕ) → occurs v xs ≡ false → length xs ≤ place_of xs v
no_place xs v e = let test = seen_is xs v ∙ e in grind (arith, nat_tests)

module _ (xs : List ℕ) (values : List Term) (same : length values ≡ length xs) (ground : AllByRecursion (λ v. IsTrue (is_ground v)) values) where
  -- the value given is closed
  pub given_closed : (v : ℕ) → occurs v xs ≡ true → term_vars (given_value xs values v) ≡ []
  given_closed v e = no_vars (given_value xs values v) (all_at (λ v. IsTrue (is_ground v)) values (place_of xs v) (t.Var v) ground (subst (λ n. place_of xs v < n) (sym same) (has_place xs v e)))

  pub not_given : (v : ℕ) → occurs v xs ≡ false → given_value xs values v ≡ t.Var v
  not_given v e = beyond values (place_of xs v) (t.Var v) (subst (λ n. n ≤ place_of xs v) (sym same) (no_place xs v e))

  -- under other values that give the same, what is put in stands for each
  pub others_same : (u : ℕ → Term) → map u xs ≡ values → (v : ℕ) → put u (given_value xs values v) ≡ u v
  others_same u e v = by (occurs v xs) refl where
    by : (b : Bool) → occurs v xs ≡ b → put u (given_value xs values v) ≡ u v
    by true is =
        let below = has_place xs v is in
        closed_stays u (given_value xs values v) (given_closed v is)
        ∙ ap (λ ys. get_or ys (place_of xs v) (t.Var v)) (sym e) ∙ at_mapped u xs (place_of xs v) 0 (t.Var v) below ∙ ap u (at_place xs v below)
    by false is = ap (put u) (not_given v is) ∙ put-Var u v

module _ (xs times : List ℕ) (same : length times ≡ length xs) where
  known_count : (ns : List ℕ) → length (map (λ n. Known n) ns) ≡ length ns
  known_count [] = refl
  known_count (n ∷ ns) = ap suc (known_count ns)

  pub given_known : (k : ℕ) → occurs k xs ≡ true → given_when xs times k ≡ Known (get_or times (place_of xs k) 0)
  given_known k e = at_mapped (λ n. Known n) times (place_of xs k) 0 (Unknown k) (subst (λ n. place_of xs k < n) (sym same) (has_place xs k e))

  pub not_known : (k : ℕ) → occurs k xs ≡ false → given_when xs times k ≡ Unknown k
  not_known k e = beyond (map (λ n. Known n) times) (place_of xs k) (Unknown k) (subst (λ n. n ≤ place_of xs k) (sym (known_count times ∙ same)) (no_place xs k e))

  pub others_same_times : (w : ℕ → When) → map w xs ≡ map (λ n. Known n) times → (k : ℕ) → put_when w (given_when xs times k) ≡ w k
  others_same_times w e k = by (occurs k xs) refl where
    by : (b : Bool) → occurs k xs ≡ b → put_when w (given_when xs times k) ≡ w k
    by true is =
        let below = has_place xs k is in
        ap (put_when w) (given_known k is) ∙ sym (given_known k is)
        ∙ ap (λ ys. get_or ys (place_of xs k) (Unknown k)) (sym e) ∙ at_mapped w xs (place_of xs k) 0 (Unknown k) below ∙ ap w (at_place xs k below)
    by false is = ap (put_when w) (not_known k is)
