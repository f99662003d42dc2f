-- Unifying two lists item by item.
use Rattle.std.proofs.Common.{ℕ, Bool, true, false, ◌≡◌, ◌+◌, ◌<◌, List, [], ◌∷◌, ◌++◌, map, get_or, length, refl, sym, ap, ◌∙◌, arith, subst, below_more, append_assoc}
use Rattle.std.specs.Prelude.{suc}
use Rattle.lps_terms.specs.declared.term.Term.{Term}
use Rattle.lps_terms.specs.declared.term.Term.TheVariants as t
use Rattle.lps_terms.specs.Put.{put, put-App, put-Var}
use Rattle.lps_unify.specs.declared.added.Added.{Added}
use Rattle.lps_unify.specs.declared.added.Added.TheVariants.{Bind}
use Rattle.lps_unify.specs.Weights.{IsWithin}
use Rattle.lps_unify.specs.Bindings.{TrailedBindings, standing, count_of, Solves, IsBindable}
use Rattle.lps_unify.specs.Slots.{IsFree}
use Rattle.lps_unify.specs.Unified.{IsExtended, JoinsOn, JoinsAllOn, AddsFirst, OccursOn}
use Rattle.lps_unify.proofs.Standings.{each_split}
use Rattle.lps_unify.proofs.Joins.{then_bind, solves_bind}
use Rattle.lps_unify.proofs.Steps.{same_all, any_item, item_of_map}

-- ---- one after another

pub extended_more : (old mid new : TrailedBindings) → IsExtended old mid → IsExtended mid new → IsExtended old new
extended_more old mid new h g = record {
  first = g.first ∙ h.first;
  count = g.count ∙ h.count;
  more = h.more ++ g.more;
  kept = g.kept ∙ ap (λ (xs : List Added). xs ++ g.more) h.kept ∙ append_assoc old.added h.more g.more;
}

items_make_map : (f : Term → Term) (xs ys : List Term) → length xs ≡ length ys → ((k : ℕ) → k < length xs → (d : Term) → f (get_or xs k d) ≡ f (get_or ys k d)) → map f xs ≡ map f ys
items_make_map f [] [] count each = refl
items_make_map f [] (y ∷ ys) count each = absurd (omega (arith, count))
items_make_map f (x ∷ xs) [] count each = absurd (omega (arith, count))
items_make_map f (x ∷ xs) (y ∷ ys) count each =
    let first : f x ≡ f y = each 0 (omega arith) x in
    let rest : map f xs ≡ map f ys = items_make_map f xs ys (omega (arith, count)) (λ k lt d. each (suc k) (omega arith) d) in
    λ i. first i ∷ rest i

items_of_map : (f : Term → Term) (xs ys : List Term) → length xs ≡ length ys → map f xs ≡ map f ys → (k : ℕ) → k < length xs → (d : Term) → f (get_or xs k d) ≡ f (get_or ys k d)
items_of_map f xs ys count e k lt d =
    item_of_map f xs k d lt ∙ ap (λ (zs : List Term). get_or zs k (f d)) e ∙ sym (item_of_map f ys k d (omega (arith, count)))

pub first_start : (b : TrailedBindings) (xs ys : List Term) → AddsFirst 0 b b xs ys
first_start b xs ys s = (λ solves. (solves, λ k lt d. absurd (omega arith)), λ both. both.0)

module _ (old mid new : TrailedBindings) (xs ys : List Term) (i : ℕ) (x y : Term) (count : length xs ≡ length ys) (lt : i < length xs) (x_is : x ≡ get_or xs i x)
    (y_is : y ≡ get_or ys i y) (first : AddsFirst i old mid xs ys) where
  at_item : (s : ℕ → Term) → put s x ≡ put s y → (d : Term) → put s (get_or xs i d) ≡ put s (get_or ys i d)
  at_item s is d = ap (put s) (any_item xs i d x lt ∙ sym x_is) ∙ is ∙ ap (put s) (y_is ∙ any_item ys i y d (omega (arith, count)))

  item_at : (s : ℕ → Term) → ((d : Term) → put s (get_or xs i d) ≡ put s (get_or ys i d)) → put s x ≡ put s y
  item_at s is = ap (put s) x_is ∙ is x ∙ ap (put s) (any_item ys i x y (omega (arith, count)) ∙ sym y_is)

  pub first_more : JoinsOn true mid new x y → AddsFirst (i + 1) old new xs ys
  first_more one s = (
    λ solves.
        let both = (one s).0 solves in
        let earlier = (first s).0 both.0 in
        (earlier.0, below_more (λ k. (d : Term) → put s (get_or xs k d) ≡ put s (get_or ys k d)) i earlier.1 (at_item s both.1)),
    λ both. (one s).1 ((first s).1 (both.0, λ k below d. both.1 k (omega arith) d), item_at s (both.1 i (omega arith))),
  )

  pub first_fails : JoinsOn false mid new x y → JoinsAllOn false old new xs ys
  first_fails one s solves all =
      let each = items_of_map (put s) xs ys count all in
      one s ((first s).1 (solves, λ k below d. each k (omega (arith, below, lt)) d)) (item_at s (each i lt))

pub first_whole : (old new : TrailedBindings) (xs ys : List Term) → length xs ≡ length ys → AddsFirst (length xs) old new xs ys → JoinsAllOn true old new xs ys
first_whole old new xs ys count first s = (
  λ solves. let both = (first s).0 solves in (both.0, items_make_map (put s) xs ys count both.1),
  λ both. (first s).1 (both.0, items_of_map (put s) xs ys count both.1),
)

-- ---- two terms

pub joins_args : (found : Bool) (old new : TrailedBindings) (n m : List ℕ) (xs ys : List Term) → n ≡ m → JoinsAllOn found old new xs ys →
    JoinsOn found old new (t.App n xs) (t.App m ys)
joins_args true old new n m xs ys same all = λ s. (
  λ solves. let both = (all s).0 solves in (both.0, put-App s n xs ∙ (λ i. t.App (same i) (both.1 i)) ∙ sym (put-App s m ys)),
  λ both. (all s).1 (both.0, same_all s n m xs ys both.1),
)
joins_args false old new n m xs ys same all = λ s solves e. all s solves (same_all s n m xs ys e)

pub joins_swap : (found : Bool) (old new : TrailedBindings) (x y : Term) → JoinsOn found old new x y → JoinsOn found old new y x
joins_swap true old new x y h = λ s. (λ solves. let both = (h s).0 solves in (both.0, sym both.1), λ both. (h s).1 (both.0, sym both.1))
joins_swap false old new x y h = λ s solves e. h s solves (sym e)

pub bindable : (b : TrailedBindings) (v : ℕ) (u : Term) → IsFree b v → v < count_of b → IsWithin (count_of b) u → OccursOn false b v u → IsBindable (standing b) v u
bindable b v u h range within absent = record { in_range = range; free = h.unbound; within = within; absent = absent }

pub joins_free : (b new : TrailedBindings) (v : ℕ) (u : Term) → new ≡ then_bind b v u → JoinsOn true b new (t.Var v) u
joins_free b new v u e s = (
  λ solves.
      let both = each_split (λ w x. s w ≡ put s x) b.added (Bind v u ∷ []) (subst (Solves s) e solves) in
      (both.0, put-Var s v ∙ both.1.0),
  λ both. solves_bind b new v u e s both.0 (sym (put-Var s v) ∙ both.1),
)
