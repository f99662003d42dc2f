-- The goals of a trace are one list; later goals get later numbers.
use Rattle.std.proofs.Common.{◌≡◌, ◌≤◌, ℕ, zero, suc, List, [], ◌∷◌, refl, sym, ap, ◌∙◌, arith, inl, inr}
use Rattle.std.specs.Prelude.{◌⊎◌, Contains, Option, Some, None, slice_get}
use Rattle.std.specs.declared.cmp.Ordering.{Ordering}
use Rattle.std.specs.declared.cmp.Ordering.TheVariants.{Less, Equal, Greater}
use Rattle.std.specs.Cmp.{IsTotalOrder, nat_cmp_is}
use Rattle.std.specs.FinMap.{IsAntisymmetric, nat_cmp-IsAntisymmetric, slice_cmp-IsAntisymmetric}
use Rattle.std.specs.List.Sorted.{IsStrictlySortedBy}
use Rattle.std.specs.Ordering.{nat_cmp, ordering_then, ordering_reverse}
use Rattle.std.proofs.lemmas.Cmp.{then_total, on_total, lists_total, nat_cmp_total, tied_itself}
use Rattle.std.proofs.lemmas.List.Elements.{All-from_recursion, All-contains}
use Rattle.std.proofs.lemmas.Map.Keys.{sorted_head, sorted_tail}
use Rattle.lps_terms.specs.declared.text.Text.{Text}
use Rattle.lps_terms.specs.OrderLaws.{term_cmp_total, term_cmp-IsAntisymmetric}
use Rattle.lps_model.specs.declared.trace.Trace.{Trace}
use Rattle.lps_model.proofs.Elements.{first_or_later, first_is_contained, later_is_contained, nothing_contained, sorted_same}
use Rattle.lps_meaning.specs.declared.goal.GoalKey.{GoalKey}
use Rattle.lps_meaning.specs.Cycles.{key_cmp, AreGoals}
use Rattle.lps_model.specs.Rules.{numbered}
use Rattle.lps_meaning.proofs.Splits.{le_or_lt}

pub both_equal : (r s : Ordering) → ordering_then r s ≡ Equal → (r ≡ Equal) × (s ≡ Equal)
both_equal Less s e = absurd (cc)
both_equal Equal s e = (refl, e)
both_equal Greater s e = absurd (cc)

pub key_cmp_total : IsTotalOrder key_cmp
key_cmp_total = then_total (on_total (λ k. k.time) nat_cmp_total) (then_total (on_total (λ k. k.rule) nat_cmp_total)
    (then_total (on_total (λ k. k.values) (lists_total term_cmp_total)) (on_total (λ k. k.times) (lists_total nat_cmp_total))))

pub key_cmp-IsAntisymmetric : IsAntisymmetric key_cmp
key_cmp-IsAntisymmetric a b e =
    let time = both_equal _ _ e in
    let rule = both_equal _ _ time.1 in
    let values = both_equal _ _ rule.1 in
    let t : a.time ≡ b.time = nat_cmp-IsAntisymmetric _ _ time.0 in
    let r : a.rule ≡ b.rule = nat_cmp-IsAntisymmetric _ _ rule.0 in
    let v : a.values ≡ b.values = slice_cmp-IsAntisymmetric term_cmp-IsAntisymmetric _ _ values.0 in
    let ts : a.times ≡ b.times = slice_cmp-IsAntisymmetric nat_cmp-IsAntisymmetric _ _ values.1 in
    λ i. record { rule = r i; values = v i; times = ts i; time = t i }

-- a trace has one list of goals
pub goals_unique : (text : Text) (level : List ℕ → ℕ) (trace : Trace) (now : ℕ) (keys others : List GoalKey) →
    AreGoals text level trace now keys → AreGoals text level trace now others → keys ≡ others
goals_unique text level trace now keys others s t =
    sorted_same key_cmp_total key_cmp-IsAntisymmetric keys others s.sorted t.sorted
    (λ q among. (t.exact q).1 ((s.exact q).0 among)) (λ q among. (s.exact q).1 ((t.exact q).0 among))

-- ---- elements by number

pub some_same : {X : Type 0} {x y : X} → Some x ≡ Some y → x ≡ y
some_same {x} e = ap (or_else x) e
  where
    or_else : {X : Type 0} → X → Option X → X
    or_else d (Some x) = x
    or_else d None = d

pub numbered_one : {X : Type 0} (xs : List X) (n : ℕ) (x y : X) → numbered xs n ≡ Some x → numbered xs n ≡ Some y → x ≡ y
numbered_one xs n x y e f = some_same (sym e ∙ f)

-- ---- numbers stay

less_then : (r s : Ordering) → ordering_then r s ≡ Less → (r ≡ Less) ⊎ (r ≡ Equal)
less_then Less s e = inl refl
less_then Equal s e = inr refl
less_then Greater s e = absurd (cc)

below_or_equal : (m n : ℕ) → (nat_cmp m n ≡ Less) ⊎ (nat_cmp m n ≡ Equal) → m ≤ n
below_or_equal m n (inl e) =
    elim (le_or_lt m n) [ inl le ↦ le | inr lt ↦ let over : Greater ≡ nat_cmp m n = nat_cmp_is m n Greater lt in absurd (cc) ]
below_or_equal m n (inr e) = let is : m ≡ n = nat_cmp-IsAntisymmetric m n e in omega (arith, is)

no_later : (a b : GoalKey) → key_cmp a b ≡ Less → a.time ≤ b.time
no_later a b e = below_or_equal a.time b.time (less_then _ _ e)

-- of two sorted lists, one with the elements of the other that are early, the one is a front of the other
module _ {K : Type 0} {cmp : K → K → Ordering} (total : IsTotalOrder cmp) (ties : IsAntisymmetric cmp) (IsEarly : K → Type 0)
    (down : (x y : K) → cmp x y ≡ Less → IsEarly y → IsEarly x) where
  not_below : (x y : K) → cmp x y ≡ Less → x ≡ y → ⊥
  not_below x y less same = let tie : cmp x y ≡ Equal = (λ i. cmp x ((sym same) i)) ∙ tied_itself total x in cc (less, tie)

  not_both : (x y : K) → cmp x y ≡ Less → cmp y x ≡ Less → ⊥
  not_both x y one other = let under : cmp x y ≡ Greater = total.antisymm x y ∙ ap ordering_reverse other in cc (one, under)

  above_first : (x : K) (xs : List K) (q : K) → IsStrictlySortedBy cmp (x ∷ xs) → Contains xs q → cmp x q ≡ Less
  above_first x xs q s c = All-contains (λ y. cmp x y ≡ Less) xs q (All-from_recursion (λ y. cmp x y ≡ Less) xs (sorted_head cmp x xs s)) c

  module _ (x y : K) (xs ys : List K) (s : IsStrictlySortedBy cmp (x ∷ xs)) (t : IsStrictlySortedBy cmp (y ∷ ys)) where
    same_first : IsEarly x → Contains (y ∷ ys) x → (IsEarly y → Contains (x ∷ xs) y) → y ≡ x
    same_first early within back =
        elim (first_or_later y ys x within) [
          | inl e ↦ e
          | inr later ↦ let under = above_first y ys x t later in
              elim (first_or_later x xs y (back (down y x under early))) [
                | inl e ↦ sym e
                | inr also ↦ absurd (not_both x y (above_first x xs y s also) under)
              ]
        ]

    rest_within : y ≡ x → (q : K) → Contains xs q → Contains (y ∷ ys) q → Contains ys q
    rest_within same q among within =
        elim (first_or_later y ys q within) [
          | inl e ↦ absurd (not_below x q (above_first x xs q s among) (sym same ∙ e))
          | inr later ↦ later
        ]

    rest_back : y ≡ x → (q : K) → Contains ys q → Contains (x ∷ xs) q → Contains xs q
    rest_back same q among within =
        elim (first_or_later x xs q within) [
          | inl e ↦ absurd (not_below y q (above_first y ys q t among) (same ∙ e))
          | inr later ↦ later
        ]

  is_front : (xs ys : List K) → IsStrictlySortedBy cmp xs → IsStrictlySortedBy cmp ys → ((q : K) → Contains xs q → IsEarly q) →
      ((q : K) → Contains xs q → Contains ys q) → ((q : K) → Contains ys q → IsEarly q → Contains xs q) → (n : ℕ) (x : K) → slice_get xs n ≡ Some x → slice_get ys n ≡ Some x
  is_front [] ys s t early within back n x is = absurd (cc)
  is_front (x ∷ xs) [] s t early within back n z is = absurd (nothing_contained x (within x (first_is_contained x xs)))
  is_front (x ∷ xs) (y ∷ ys) s t early within back zero z is =
      ap (λ q. Some q) (same_first x y xs ys s t (early x (first_is_contained x xs)) (within x (first_is_contained x xs)) (λ e. back y (first_is_contained y ys) e)) ∙ is
  is_front (x ∷ xs) (y ∷ ys) s t early within back (suc n) z is =
      let same = same_first x y xs ys s t (early x (first_is_contained x xs)) (within x (first_is_contained x xs)) (λ e. back y (first_is_contained y ys) e) in
      is_front xs ys (sorted_tail cmp x xs s) (sorted_tail cmp y ys t) (λ q among. early q (later_is_contained x xs q among))
      (λ q among. rest_within x y xs ys s t same q among (within q (later_is_contained x xs q among)))
      (λ q among e. rest_back x y xs ys s t same q among (back q (later_is_contained y ys q among) e)) n z is

-- a goal keeps its number
pub number_stays : (text : Text) (level : List ℕ → ℕ) (trace : Trace) (now later : ℕ) (keys more : List GoalKey) → now ≤ later →
    AreGoals text level trace now keys → AreGoals text level trace later more → (n : ℕ) (key : GoalKey) → numbered keys n ≡ Some key → numbered more n ≡ Some key
number_stays text level trace now later keys more le s t zero key is = absurd (cc)
number_stays text level trace now later keys more le s t (suc n) key is =
    is_front key_cmp_total key_cmp-IsAntisymmetric (λ k. k.time ≤ now) (λ a b less upto. let x = no_later a b less in omega arith) keys more s.sorted t.sorted
    (λ q among. ((s.exact q).0 among).0)
    (λ q among. let h = (s.exact q).0 among in (t.exact q).1 (let x = h.0 in omega arith, h.1))
    (λ q among early. (s.exact q).1 (early, ((t.exact q).0 among).1)) n key is
