-- How bindings stand after additions: the values solve them and are most general, and ranks fall along bindings.
use Rattle.std.proofs.Common.{ℕ, Bool, true, false, nat_eq, cond, ◌≡◌, ◌+◌, ◌*◌, ◌<◌, ◌≤◌, List, [], ◌∷◌, ◌++◌, length, get_or, refl, sym, ap, ◌∙◌, arith, subst, append_assoc}
use Rattle.std.specs.Prelude.{zero, suc, ◌||◌}
use Rattle.std.proofs.lemmas.Bool.Decides.{nat_tests}
use Rattle.lps_terms.specs.declared.term.Term.{Term}
use Rattle.lps_terms.specs.declared.term.Term.TheVariants as t
use Rattle.lps_terms.specs.Put.{put, put-Var, put-put, after}
use Rattle.lps_unify.specs.declared.added.Added.{Added}
use Rattle.lps_unify.specs.declared.added.Added.TheVariants.{Bind, More}
use Rattle.lps_unify.specs.Weights.{size, occurrences, IsWithin}
use Rattle.lps_unify.specs.Bindings.{TrailedBindings, Standing, one, start, next, over, standing, resolved, EachBind, SolvesAll, Solves, IsBindable, IsNext, AreNext, IsLawful}
use Rattle.lps_unify.proofs.Sums.{weigh-put, size_more, within_more, one_self, one_other, occurs_itself, put_absent, put_pointwise, put-put_one}

-- ---- lists of additions

pub each_append : (P : ℕ → Term → Type 0) (xs ys : List Added) → EachBind P xs → EachBind P ys → EachBind P (xs ++ ys)
each_append P [] ys p q = q
each_append P (Bind v u ∷ xs) ys p q = (p.0, each_append P xs ys p.1 q)
each_append P (More n ∷ xs) ys p q = each_append P xs ys p q

pub each_split : (P : ℕ → Term → Type 0) (xs ys : List Added) → EachBind P (xs ++ ys) → EachBind P xs × EachBind P ys
each_split P [] ys h = (tt, h)
each_split P (Bind v u ∷ xs) ys h = let both = each_split P xs ys h.1 in ((h.0, both.0), both.1)
each_split P (More n ∷ xs) ys h = each_split P xs ys h

pub each_more : (P Q : ℕ → Term → Type 0) → ((v : ℕ) (u : Term) → P v u → Q v u) → (xs : List Added) → EachBind P xs → EachBind Q xs
each_more P Q f [] h = tt
each_more P Q f (Bind v u ∷ xs) h = (f v u h.0, each_more P Q f xs h.1)
each_more P Q f (More n ∷ xs) h = each_more P Q f xs h

-- what each binding meets, the one at i meets
pub each_at : (P : ℕ → Term → Type 0) (xs : List Added) (i : ℕ) (d : Added) (v : ℕ) (u : Term) → EachBind P xs → i < length xs → get_or xs i d ≡ Bind v u → P v u
each_at P [] i d v u h lt e = absurd (omega arith)
each_at P (Bind w x ∷ xs) zero d v u h lt e =
    let variable : w ≡ v = cc in
    let term : x ≡ u = cc in
    subst (λ a. P a u) variable (subst (λ a. P w a) term h.0)
each_at P (More n ∷ xs) zero d v u h lt e = absurd (cc)
each_at P (Bind w x ∷ xs) (suc i) d v u h lt e = each_at P xs i d v u h.1 (omega arith) e
each_at P (More n ∷ xs) (suc i) d v u h lt e = each_at P xs i d v u h (omega arith) e

pub over_append : (st : Standing) (xs ys : List Added) → over st (xs ++ ys) ≡ over (over st xs) ys
over_append st [] ys = refl
over_append st (entry ∷ xs) ys = over_append (next st entry) xs ys

pub are_next_append : (st : Standing) (xs ys : List Added) → AreNext st xs → AreNext (over st xs) ys → AreNext st (xs ++ ys)
are_next_append st [] ys p q = q
are_next_append st (entry ∷ xs) ys p q = (p.0, are_next_append (next st entry) xs ys p.1 q)

pub are_next_split : (st : Standing) (xs ys : List Added) → AreNext st (xs ++ ys) → AreNext st xs × AreNext (over st xs) ys
are_next_split st [] ys h = (tt, h)
are_next_split st (entry ∷ xs) ys h = let both = are_next_split (next st entry) xs ys h.1 in ((h.0, both.0), both.1)

-- ---- one addition

-- v is bound to u
pub record IsPlaced (st : Standing) (v : ℕ) (u : Term) : Type 0 where
  pub in_range : v < st.count
  pub within : IsWithin st.count u
  pub value : st.value v ≡ put st.value u
  pub smaller : size st.rank u < st.rank v
  pub bound : st.is_bound v ≡ true

-- the values solve what was added and are most general
pub record IsSound (st : Standing) (added : List Added) : Type 0 where
  pub placed : EachBind (IsPlaced st) added
  pub through : (s : ℕ → Term) → SolvesAll s added → (w : ℕ) → put s (st.value w) ≡ s w
  pub free : (w : ℕ) → st.is_bound w ≡ false → st.value w ≡ t.Var w
  pub beyond : (w : ℕ) → st.count ≤ w → st.is_bound w ≡ false

pub both_false : (a b : Bool) → a ≡ false → b ≡ false → (a || b) ≡ false
both_false true b e f = absurd (cc)
both_false false b e f = f

or_true : (a b : Bool) → b ≡ true → (a || b) ≡ true
or_true true b e = refl
or_true false b e = e

pub or_false : (a b : Bool) → (a || b) ≡ false → (a ≡ false) × (b ≡ false)
or_false true b e = absurd (cc)
or_false false b e = (refl, e)

still_less : (a b c d k : ℕ) → a < b → c ≡ a + k → d ≡ b + k → c < d
still_less a b c d k lt e f = omega arith

module _ (st : Standing) (z : ℕ) (y : Term) where
  abbrev then_bound : Standing
  then_bound = next st (Bind z y)

  abbrev more_rank : ℕ
  more_rank = suc (size st.rank y)

  -- how ranks grow
  rank_of_term : (x : Term) → size then_bound.rank x ≡ size st.rank x + more_rank * occurrences z (put st.value x)
  rank_of_term x =
      size_more st.rank (λ w. occurrences z (st.value w)) more_rank x
      ∙ ap (λ n. size st.rank x + more_rank * n) (sym (weigh-put (λ w. cond (nat_eq z w) 1 0) st.value x))

  placed_still : (v : ℕ) (u : Term) → IsPlaced st v u → IsPlaced then_bound v u
  placed_still v u h = record {
    in_range = h.in_range;
    within = h.within;
    value = ap (put (one z (put st.value y))) h.value ∙ put-put (one z (put st.value y)) st.value u;
    smaller = still_less (size st.rank u) (st.rank v) (size then_bound.rank u) (then_bound.rank v) (more_rank * occurrences z (put st.value u)) h.smaller (rank_of_term u)
        (ap (λ x. st.rank v + more_rank * occurrences z x) h.value);
    bound = or_true (nat_eq z v) (st.is_bound v) h.bound;
  }

  just_more : (a b c d k : ℕ) → c ≡ a + suc a * 0 → d ≡ b + suc a * 1 → c < d
  just_more a b c d k e f = omega arith

  placed_new : IsBindable st z y → st.value z ≡ t.Var z → IsPlaced then_bound z y
  placed_new h itself = record {
    in_range = h.in_range;
    within = h.within;
    value = ap (put (one z (put st.value y))) itself ∙ put-Var (one z (put st.value y)) z ∙ one_self z (put st.value y)
        ∙ sym (put_absent z (put st.value y) (put st.value y) h.absent) ∙ put-put (one z (put st.value y)) st.value y;
    smaller = just_more (size st.rank y) (st.rank z) (size then_bound.rank y) (then_bound.rank z) 0
        (rank_of_term y ∙ ap (λ n. size st.rank y + more_rank * n) h.absent)
        (ap (λ n. st.rank z + more_rank * n) (ap (occurrences z) itself ∙ occurs_itself z));
    bound = ap (λ b. b || st.is_bound z) (let same : nat_eq z z ≡ true = grind (arith, nat_tests) in same);
  }

  sound_bound : (added : List Added) → IsSound st added → IsBindable st z y → IsSound then_bound (added ++ Bind z y ∷ [])
  sound_bound added h here = record {
    placed = each_append (IsPlaced then_bound) added (Bind z y ∷ []) (each_more (IsPlaced st) (IsPlaced then_bound) placed_still added h.placed)
        (placed_new here (h.free z here.free), tt);
    through = λ s solves w.
        let both = each_split (λ v u. s v ≡ put s u) added (Bind z y ∷ []) solves in
        let term : s z ≡ put s (put st.value y) = both.1.0 ∙ sym (put_pointwise (after s st.value) s (h.through s both.0) y) ∙ sym (put-put s st.value y) in
        put-put_one s z (put st.value y) (st.value w) term ∙ h.through s both.0 w;
    free = λ w e.
        let both = or_false (nat_eq z w) (st.is_bound w) e in
        ap (put (one z (put st.value y))) (h.free w both.1) ∙ put-Var (one z (put st.value y)) w ∙ one_other z (put st.value y) w both.0;
    beyond = λ w le.
        let range = here.in_range in
        let differs : nat_eq z w ≡ false = let less : z < w = omega arith in grind (arith, nat_tests) in
        both_false (nat_eq z w) (st.is_bound w) differs (h.beyond w le);
  }

placed_more : (st : Standing) (n v : ℕ) (u : Term) → IsPlaced st v u → IsPlaced (next st (More n)) v u
placed_more st n v u h = record {
  in_range = let lt = h.in_range in omega arith;
  within = within_more st.count (st.count + n) u (omega arith) h.within;
  value = h.value;
  smaller = h.smaller;
  bound = h.bound;
}

sound_more : (st : Standing) (n : ℕ) (added : List Added) → IsSound st added → IsSound (next st (More n)) (added ++ More n ∷ [])
sound_more st n added h = record {
  placed = each_append (IsPlaced (next st (More n))) added (More n ∷ []) (each_more (IsPlaced st) (IsPlaced (next st (More n))) (placed_more st n) added h.placed) tt;
  through = λ s solves w. h.through s (each_split (λ v u. s v ≡ put s u) added (More n ∷ []) solves).0 w;
  free = h.free;
  beyond = λ w le. h.beyond w (omega arith);
}

sound_next : (st : Standing) (added : List Added) (entry : Added) → IsSound st added → IsNext st entry → IsSound (next st entry) (added ++ entry ∷ [])
sound_next st added (Bind z y) h here = sound_bound st z y added h here
sound_next st added (More n) h here = sound_more st n added h

-- ---- all additions

sound_over : (st : Standing) (before added : List Added) → IsSound st before → AreNext st added → IsSound (over st added) (before ++ added)
sound_over st before [] h are = subst (IsSound st) (sym (append_nil before)) h
  where
    append_nil : (xs : List Added) → xs ++ [] ≡ xs
    append_nil [] = refl
    append_nil (x ∷ xs) = ap (λ ys. x ∷ ys) (append_nil xs)
sound_over st before (entry ∷ added) h are =
    subst (IsSound (over (next st entry) added)) (append_assoc before (entry ∷ []) added)
    (sound_over (next st entry) (before ++ entry ∷ []) added (sound_next st before entry h are.0) are.1)

pub sound : (b : TrailedBindings) → IsLawful b → IsSound (standing b) b.added
sound b lawful = sound_over (start b.first) [] b.added (record { placed = tt; through = λ s solves w. put-Var s w; free = λ w e. refl; beyond = λ w le. refl }) lawful

-- ---- a solution of their own, and most general

pub solves_itself : (b : TrailedBindings) → IsLawful b → Solves (standing b).value b
solves_itself b lawful = each_more (IsPlaced (standing b)) (λ v u. (standing b).value v ≡ put (standing b).value u) (λ v u h. h.value) b.added (sound b lawful).placed

pub goes_through : (b : TrailedBindings) → IsLawful b → (s : ℕ → Term) → Solves s b → (x : Term) → put s (resolved b x) ≡ put s x
goes_through b lawful s solves x = put-put s (standing b).value x ∙ put_pointwise (after s (standing b).value) s ((sound b lawful).through s solves) x
