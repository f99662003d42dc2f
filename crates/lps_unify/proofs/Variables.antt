-- Which variables solutions and resolved terms depend on.
use Rattle.std.proofs.Common.{ℕ, Bool, true, false, nat_eq, nat_lt, cond, ◌≡◌, ◌+◌, ◌<◌, ◌≤◌, List, [], ◌∷◌, refl, sym, ap, ◌∙◌, arith, subst}
use Rattle.std.specs.Prelude.{◌||◌, sum_by}
use Rattle.std.specs.List.{AllByRecursion}
use Rattle.std.proofs.lemmas.List.Sums.{sum_by-cons}
use Rattle.lps_terms.specs.Forms.{term_ind}
use Rattle.std.proofs.lemmas.Bool.Decides.{nat_tests}
use Rattle.lps_terms.specs.declared.term.Term.{Term}
use Rattle.lps_terms.specs.declared.term.Term.TheVariants as t
use Rattle.lps_terms.specs.Put.{put, put-Var}
use Rattle.lps_unify.specs.declared.added.Added.{Added}
use Rattle.lps_unify.specs.declared.added.Added.TheVariants.{Bind, More}
use Rattle.lps_unify.specs.Weights.{weigh, occurrences, outside, IsWithin, weigh-Int, weigh-Sym, weigh-App, weigh-Var}
use Rattle.lps_unify.specs.Bindings.{TrailedBindings, Standing, one, start, next, over, standing, count_of, resolved, EachBind, SolvesAll, Solves, IsBindable, AreNext, IsLawful}
use Rattle.lps_unify.proofs.Sums.{weigh-put, weigh_le, within_more, put_within, one_other, occurs_other}
use Rattle.lps_unify.proofs.Standings.{IsPlaced, sound}

-- ---- solutions

agree_all : (st : Standing) (s r : ℕ → Term) → ((w : ℕ) → w < st.count → s w ≡ r w) → (added : List Added) → EachBind (IsPlaced st) added → SolvesAll s added → SolvesAll r added
agree_all st s r same [] placed solves = tt
agree_all st s r same (Bind v u ∷ added) placed solves =
    (sym (same v placed.0.in_range) ∙ solves.0 ∙ put_within s r st.count same u placed.0.within, agree_all st s r same added placed.1 solves.1)
agree_all st s r same (More n ∷ added) placed solves = agree_all st s r same added placed solves

pub solutions_agree : (b : TrailedBindings) → IsLawful b → (s r : ℕ → Term) → ((w : ℕ) → w < count_of b → s w ≡ r w) → Solves s b → Solves r b
solutions_agree b lawful s r same solves = agree_all (standing b) s r same b.added (sound b lawful).placed solves

-- ---- resolved terms

module _ (f : ℕ → ℕ) (none : (w : ℕ) → f w ≡ 0) where
  weigh_none_all : (ts : List Term) → AllByRecursion (λ x. weigh f x ≡ 0) ts → sum_by (weigh f) ts ≡ 0
  weigh_none_all [] is = refl
  weigh_none_all (x ∷ xs) is = let rest = weigh_none_all xs is.1 in let one = is.0 in omega (arith, sum_by-cons (weigh f) x xs)

  weigh_none : (x : Term) → weigh f x ≡ 0
  weigh_none = term_ind (λ x. weigh f x ≡ 0) (weigh-Int f) (weigh-Sym f) (λ n ts is. weigh-App f n ts ∙ weigh_none_all ts is) (λ w. weigh-Var f w ∙ none w)

-- no bound variable stands in a value, and values are of the variables that there are
record IsClean (st : Standing) : Type 0 where
  gone : (v w : ℕ) → st.is_bound v ≡ true → occurrences v (st.value w) ≡ 0
  within : (w : ℕ) → weigh (outside st.count) (st.value w) ≤ outside st.count w
  beyond : (w : ℕ) → st.count ≤ w → st.value w ≡ t.Var w

either : (a b : Bool) → (a || b) ≡ true → (a ≡ true → ⊥) → b ≡ true
either true b e never = absurd (never refl)
either false b e never = e

module _ (st : Standing) (z : ℕ) (y : Term) (h : IsClean st) (here : IsBindable st z y) where
  abbrev term : Term
  term = put st.value y

  -- what is put in for z, where v is z
  itself : (x : ℕ) (b : Bool) → nat_eq z x ≡ b → occurrences z (cond b term (t.Var x)) ≡ 0
  itself x true e = here.absent
  itself x false e = occurs_other z x e

  gone_before : (v : ℕ) → st.is_bound v ≡ true → occurrences v term ≡ 0
  gone_before v e = weigh-put (λ w. cond (nat_eq v w) 1 0) st.value y ∙ weigh_none (λ w. occurrences v (st.value w)) (λ w. h.gone v w e) y

  other : (v : ℕ) → st.is_bound v ≡ true → (x : ℕ) (b : Bool) → occurrences v (cond b term (t.Var x)) ≤ cond (nat_eq v x) 1 0
  other v e x true = omega (arith, gone_before v e)
  other v e x false = omega (arith, weigh-Var (λ w. cond (nat_eq v w) 1 0) x)

  gone_then : (v w : ℕ) (b : Bool) → nat_eq z v ≡ b → (nat_eq z v || st.is_bound v) ≡ true → occurrences v (put (one z term) (st.value w)) ≡ 0
  gone_then v w true is e =
      let same : z ≡ v = grind (arith, nat_tests) in
      subst (λ k. occurrences k (put (one z term) (st.value w)) ≡ 0) same
      (weigh-put (λ x. cond (nat_eq z x) 1 0) (one z term) (st.value w)
      ∙ weigh_none (λ x. occurrences z (one z term x)) (λ x. itself x (nat_eq z x) refl) (st.value w))
  gone_then v w false is e =
      let bound : st.is_bound v ≡ true = either (nat_eq z v) (st.is_bound v) e (λ yes. absurd (let no : true ≡ false = sym yes ∙ is in cc)) in
      let less = weigh_le (λ x. occurrences v (one z term x)) (λ x. cond (nat_eq v x) 1 0) (λ x. other v bound x (nat_eq z x)) (st.value w) in
      omega (arith, less, weigh-put (λ x. cond (nat_eq v x) 1 0) (one z term) (st.value w), h.gone v w bound)

  term_within : weigh (outside st.count) term ≡ 0
  term_within =
      let less = weigh_le (λ w. weigh (outside st.count) (st.value w)) (outside st.count) h.within y in
      omega (arith, less, weigh-put (outside st.count) st.value y, here.within)

  part_within : (x : ℕ) (b : Bool) → weigh (outside st.count) (cond b term (t.Var x)) ≤ outside st.count x
  part_within x true = omega (arith, term_within)
  part_within x false = omega (arith, weigh-Var (outside st.count) x)

  clean_bound : IsClean (next st (Bind z y))
  clean_bound = record {
    gone = λ v w e. gone_then v w (nat_eq z v) refl e;
    within = λ w.
        let less = weigh_le (λ x. weigh (outside st.count) (one z term x)) (outside st.count) (λ x. part_within x (nat_eq z x)) (st.value w) in
        omega (arith, less, weigh-put (outside st.count) (one z term) (st.value w), h.within w);
    beyond = λ w le.
        let range = here.in_range in
        let differs : nat_eq z w ≡ false = let less : z < w = omega arith in grind (arith, nat_tests) in
        ap (put (one z term)) (h.beyond w le) ∙ put-Var (one z term) w ∙ one_other z term w differs;
  }

more_within : (st : Standing) (n w : ℕ) (b : Bool) → nat_lt w st.count ≡ b → IsClean st → weigh (outside (st.count + n)) (st.value w) ≤ outside (st.count + n) w
more_within st n w true e h =
    let small : outside st.count w ≡ 0 = ap (λ b. cond b 0 1) e in
    let before : IsWithin st.count (st.value w) = omega (arith, h.within w, small) in
    let after : IsWithin (st.count + n) (st.value w) = within_more st.count (st.count + n) (st.value w) (omega arith) before in
    omega (arith, after)
more_within st n w false e h =
    let le : st.count ≤ w = grind (arith, nat_tests) in
    omega (arith, ap (weigh (outside (st.count + n))) (h.beyond w le) ∙ weigh-Var (outside (st.count + n)) w)

clean_more : (st : Standing) (n : ℕ) → IsClean st → IsClean (next st (More n))
clean_more st n h = record { gone = h.gone; within = λ w. more_within st n w (nat_lt w st.count) refl h; beyond = λ w le. h.beyond w (omega arith) }

clean_over : (st : Standing) (added : List Added) → IsClean st → AreNext st added → IsClean (over st added)
clean_over st [] h are = h
clean_over st (Bind z y ∷ added) h are = clean_over (next st (Bind z y)) added (clean_bound st z y h are.0) are.1
clean_over st (More n ∷ added) h are = clean_over (next st (More n)) added (clean_more st n h) are.1

clean : (b : TrailedBindings) → IsLawful b → IsClean (standing b)
clean b lawful = clean_over (start b.first) b.added (record {
  gone = λ v w e. absurd (let no : false ≡ true = e in cc);
  within = λ w. omega (arith, weigh-Var (outside b.first) w);
  beyond = λ w le. refl;
}) lawful

pub resolved_within : (b : TrailedBindings) → IsLawful b → (x : Term) → IsWithin (count_of b) x → IsWithin (count_of b) (resolved b x)
resolved_within b lawful x h =
    let less = weigh_le (λ w. weigh (outside (count_of b)) ((standing b).value w)) (outside (count_of b)) (clean b lawful).within x in
    omega (arith, less, h, weigh-put (outside (count_of b)) (standing b).value x)

pub resolved_free : (b : TrailedBindings) → IsLawful b → (x : Term) (v : ℕ) → (standing b).is_bound v ≡ true → occurrences v (resolved b x) ≡ 0
resolved_free b lawful x v e =
    weigh-put (λ w. cond (nat_eq v w) 1 0) (standing b).value x
    ∙ weigh_none (λ w. occurrences v ((standing b).value w)) (λ w. (clean b lawful).gone v w e) x
