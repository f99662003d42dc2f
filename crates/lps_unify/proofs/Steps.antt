-- The steps on the way to a unifier.
use Rattle.std.proofs.Common.{Bor, ℕ, Bool, true, false, cond, ◌≡◌, ◌+◌, ◌<◌, ◌≤◌, List, [], ◌∷◌, ◌++◌, map, get_or, length, take, refl, sym, ap, ◌∙◌, arith, subst}
use Rattle.std.specs.Prelude.{zero, suc, not}
use Rattle.lps_terms.specs.declared.term.Term.{Term}
use Rattle.lps_terms.specs.declared.term.Term.TheVariants as t
use Rattle.lps_terms.specs.Forms.{term_ind}
use Rattle.lps_terms.specs.Order.{args_of, args_of-App, name_eq, term_cmp}
use Rattle.lps_terms.specs.OrderLaws.{name_eq-decides, term_cmp-IsAntisymmetric}
use Rattle.lps_terms.specs.Put.{put, put-App, put-Var, put-Int, put-Sym}
use Rattle.lps_terms.specs.Symbols.{symbols_of}
use Rattle.lps_unify.specs.declared.step.Step.{Step}
use Rattle.lps_unify.specs.declared.step.Step.TheVariants.{Same, Clash, Bind}
use Rattle.lps_unify.specs.Weights.{occurrences, weigh-Int, weigh-Sym}
use Rattle.lps_unify.specs.Bindings.{TrailedBindings, standing, resolved, Solves}
use Rattle.lps_unify.specs.Slots.{IsBound, IsFree}
use Rattle.lps_unify.specs.Unified.{HasNoUnifier, IsSame, IsSameAll, IsStep, IsStepOfAll, Binds, BindsAll, IsNoVariable, AreSame, pair_cmp}
use Rattle.std.specs.BTreeMap.{is_at}
use Rattle.std.specs.BTreeSet.{BTreeSet, contains}
use Rattle.std.specs.Cmp.{Equal-is}
use Rattle.std.specs.FinMap.{nat_cmp-IsAntisymmetric}
use Rattle.std.specs.Ordering.{nat_cmp, ordering_then, is_eq}
use Rattle.std.specs.declared.cmp.Ordering.{Ordering}
use Rattle.std.specs.declared.cmp.Ordering.TheVariants as o
use Rattle.lps_unify.proofs.Sums.{stands_within}
use Rattle.lps_unify.proofs.Arguments.{map_more, take_whole}

-- ---- the occurs check

below_itself : (a b c : ℕ) → a < b → b ≡ c → a ≡ c → ⊥
below_itself a b c lt e f = absurd (omega arith)

-- a variable that stands in a term is not that term
pub occurs_clash : (b : TrailedBindings) (v : ℕ) → IsFree b v → (x : Term) → IsNoVariable x → 1 ≤ occurrences v (resolved b x) → HasNoUnifier b (t.Var v) x
occurs_clash b v h = term_ind (λ x. IsNoVariable x → 1 ≤ occurrences v (resolved b x) → HasNoUnifier b (t.Var v) x)
    (λ z none stands. absurd (omega (arith, stands, ap (occurrences v) (put-Int (standing b).value z) ∙ weigh-Int _ z)))
    (λ n none stands. absurd (omega (arith, stands, ap (occurrences v) (put-Sym (standing b).value n) ∙ weigh-Sym _ n)))
    (λ n ts is none stands s solves e.
    let args = map (put (standing b).value) ts in
    let there : 1 ≤ occurrences v (t.App n args) = subst (λ y. 1 ≤ occurrences v y) (put-App (standing b).value n ts) stands in
    below_itself (symbols_of (s v)) (symbols_of (put s (t.App n args))) (symbols_of (put s (t.App n ts))) (stands_within s v n args there)
    (ap (λ y. symbols_of (put s y)) (sym (put-App (standing b).value n ts)) ∙ ap symbols_of (h.through s solves (t.App n ts)))
    (ap symbols_of (sym (put-Var s v) ∙ e)))
    (λ w none stands. absurd (let some : 1 ≤ 0 = none in omega arith))

-- ---- two terms

pub step_swap : (b : TrailedBindings) (x y : Term) (step : Step) → IsStep b x y step → IsStep b y x step
step_swap b x y Same h = λ s solves. sym (h s solves)
step_swap b x y Clash h = λ s solves e. h s solves (sym e)
step_swap b x y (Bind v u) h = record { bindable = h.bindable; follows = λ s solves e. h.follows s solves (sym e) }

-- a term in place of one that is the same under each solution
pub step_same : (b : TrailedBindings) (x z y : Term) (step : Step) → IsSame b x z → IsStep b z y step → IsStep b x y step
step_same b x z y Same same h = λ s solves. same s solves ∙ h s solves
step_same b x z y Clash same h = λ s solves e. h s solves (sym (same s solves) ∙ e)
step_same b x z y (Bind v u) same h = record { bindable = h.bindable; follows = λ s solves e. h.follows s solves (sym (same s solves) ∙ e) }

bound_same : (b : TrailedBindings) (v : ℕ) (u : Term) → IsBound b v u → IsSame b (t.Var v) u
bound_same b v u h = λ s solves. put-Var s v ∙ h.solved s solves

-- the term that a variable is bound to in its place
pub step_bound : (b : TrailedBindings) (v : ℕ) (u y : Term) (step : Step) → IsBound b v u → IsStep b u y step → IsStep b (t.Var v) y step
step_bound b v u y step h = step_same b (t.Var v) u y step (bound_same b v u h)

pub step_bound_right : (b : TrailedBindings) (x : Term) (w : ℕ) (u : Term) (step : Step) → IsBound b w u → IsStep b x u step → IsStep b x (t.Var w) step
step_bound_right b x w u step h g = step_swap b (t.Var w) x step (step_bound b w u x step h (step_swap b x u step g))

-- ---- two functions

same_args : (n m : List ℕ) (xs ys : List Term) → t.App n xs ≡ t.App m ys → xs ≡ ys
same_args n m xs ys e = sym (args_of-App n xs) ∙ ap args_of e ∙ args_of-App m ys

pub same_all : (s : ℕ → Term) (n m : List ℕ) (xs ys : List Term) → put s (t.App n xs) ≡ put s (t.App m ys) → map (put s) xs ≡ map (put s) ys
same_all s n m xs ys e = same_args n m (map (put s) xs) (map (put s) ys) (sym (put-App s n xs) ∙ e ∙ put-App s m ys)

pub length_map : (f : Term → Term) (xs : List Term) → length (map f xs) ≡ length xs
length_map f [] = refl
length_map f (x ∷ xs) = ap suc (length_map f xs)

pub count_clash : (b : TrailedBindings) (n m : List ℕ) (xs ys : List Term) → (length xs ≡ length ys → ⊥) → HasNoUnifier b (t.App n xs) (t.App m ys)
count_clash b n m xs ys differ s solves e = differ (sym (length_map (put s) xs) ∙ ap length (same_all s n m xs ys e) ∙ length_map (put s) ys)

pub step_of_args : (b : TrailedBindings) (n m : List ℕ) (xs ys : List Term) (step : Step) → n ≡ m → IsStepOfAll b xs ys step → IsStep b (t.App n xs) (t.App m ys) step
step_of_args b n m xs ys Same same h = λ s solves. put-App s n xs ∙ (λ i. t.App (same i) (h s solves i)) ∙ sym (put-App s m ys)
step_of_args b n m xs ys Clash same h = λ s solves e. h s solves (same_all s n m xs ys e)
step_of_args b n m xs ys (Bind v u) same h = record { bindable = h.bindable; follows = λ s solves e. h.follows s solves (same_all s n m xs ys e) }

-- names that no test tells apart
pub named_same : (n m : List ℕ) → false ≡ not (name_eq n m) → n ≡ m
named_same n m e = by (name_eq n m) refl
  where
    by : (same : Bool) → name_eq n m ≡ same → n ≡ m
    by true tied = (name_eq-decides n m).0 tied
    by false tied = absurd (let no : false ≡ true = e ∙ ap not tied in cc)

-- ---- two lists

pub item_of_map : (f : Term → Term) (xs : List Term) (k : ℕ) (d : Term) → k < length xs → f (get_or xs k d) ≡ get_or (map f xs) k (f d)
item_of_map f [] k d lt = absurd (omega arith)
item_of_map f (x ∷ xs) zero d lt = refl
item_of_map f (x ∷ xs) (suc k) d lt = item_of_map f xs k d (omega arith)

pub any_item : (xs : List Term) (k : ℕ) (d e : Term) → k < length xs → get_or xs k d ≡ get_or xs k e
any_item [] k d e lt = absurd (omega arith)
any_item (x ∷ xs) zero d e lt = refl
any_item (x ∷ xs) (suc k) d e lt = any_item xs k d e (omega arith)

module _ (b : TrailedBindings) (xs ys : List Term) (i : ℕ) (x y : Term) (lt : i < length xs) (count : length xs ≡ length ys) (x_is : x ≡ get_or xs i x) (y_is : y ≡ get_or ys i y) where
  -- lists that are the same have the same items
  at_item : (s : ℕ → Term) → map (put s) xs ≡ map (put s) ys → put s x ≡ put s y
  at_item s e =
      let there : i < length (map (put s) ys) = omega (arith, length_map (put s) ys) in
      ap (put s) x_is ∙ item_of_map (put s) xs i x lt ∙ ap (λ zs. get_or zs i (put s x)) e ∙ any_item (map (put s) ys) i (put s x) (put s y) there
      ∙ sym (item_of_map (put s) ys i y (omega arith)) ∙ ap (put s) (sym y_is)

  pub item_clash : HasNoUnifier b x y → (s : ℕ → Term) → Solves s b → map (put s) xs ≡ map (put s) ys → ⊥
  item_clash h s solves e = h s solves (at_item s e)

  pub item_binds : (v : ℕ) (u : Term) → Binds b x y v u → BindsAll b xs ys v u
  item_binds v u h = record { bindable = h.bindable; follows = λ s solves e. h.follows s solves (at_item s e) }

  pub items_more : IsSameAll b (take i xs) (take i ys) → IsSame b x y → IsSameAll b (take (i + 1) xs) (take (i + 1) ys)
  items_more earlier here s solves =
      map_more (put s) i xs x lt x_is ∙ (λ j. earlier s solves j ++ here s solves j ∷ []) ∙ sym (map_more (put s) i ys y (omega arith) y_is)

pub items_all : (b : TrailedBindings) (xs ys : List Term) (i : ℕ) → length xs ≤ i → length xs ≡ length ys → IsSameAll b (take i xs) (take i ys) → IsSameAll b xs ys
items_all b xs ys i le count h s solves =
    ap (map (put s)) (sym (take_whole i xs le)) ∙ h s solves ∙ ap (map (put s)) (take_whole i ys (omega arith))

-- ---- pairs that were seen

both_tied : (r s : Ordering) → is_eq (ordering_then r s) ≡ true → (is_eq r ≡ true) × (is_eq s ≡ true)
both_tied o.Less s e = absurd (cc)
both_tied o.Equal s e = (refl, e)
both_tied o.Greater s e = absurd (cc)

-- one pair more
pub pair_same : (b : TrailedBindings) (v : ℕ) (x : Bor Term) (old new : BTreeSet (ℕ × Bor Term)) → AreSame b old →
    ((q : ℕ × Bor Term) → contains pair_cmp new q ≡ cond (is_at (pair_cmp (v, x)) q) true (contains pair_cmp old q)) → IsSame b (t.Var v) x.now → AreSame b new
pair_same b v x old new earlier updates here w y has = by (is_at (pair_cmp (v, x)) (w, y)) refl
  where
    by : (tied : Bool) → is_at (pair_cmp (v, x)) (w, y) ≡ tied → IsSame b (t.Var w) y.now
    by true e =
        let both = both_tied (nat_cmp v w) (term_cmp x.now y.now) e in
        let variable : v ≡ w = nat_cmp-IsAntisymmetric v w ((Equal-is (nat_cmp v w)).0 both.0) in
        let term : x.now ≡ y.now = term_cmp-IsAntisymmetric x.now y.now ((Equal-is (term_cmp x.now y.now)).0 both.1) in
        subst (λ k. IsSame b (t.Var k) y.now) variable (subst (λ z. IsSame b (t.Var v) z) term here)
    by false e = earlier w y (sym (updates (w, y) ∙ ap (λ tied. cond tied true (contains pair_cmp old (w, y))) e) ∙ has)
