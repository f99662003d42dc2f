-- Sums over terms: what is put in, two sums at once, and the parts of a term.
use Rattle.std.proofs.Common.{ℕ, Bool, true, false, nat_eq, nat_lt, cond, ◌≡◌, ◌+◌, ◌*◌, ◌<◌, ◌≤◌, List, [], ◌∷◌, map, refl, sym, ap, ◌∙◌, arith, subst}
use Rattle.std.specs.Prelude.{zero, suc, sum_by}
use Rattle.std.specs.List.{AllByRecursion}
use Rattle.std.proofs.lemmas.Bool.Decides.{nat_tests}
use Rattle.std.proofs.lemmas.List.Sums.{sum_by-cons}
use Rattle.lps_terms.specs.declared.term.Term.{Term}
use Rattle.lps_terms.specs.declared.term.Term.TheVariants as t
use Rattle.lps_terms.specs.Forms.{term_ind}
use Rattle.lps_terms.specs.Put.{put, put-Int, put-Sym, put-App, put-Var, put-put, after}
use Rattle.lps_terms.specs.Symbols.{symbols_of, symbols_of_all, symbols_of-Int, symbols_of-Sym, symbols_of-App, symbols_of_all-cons}
use Rattle.lps_unify.specs.Weights.{weigh, size, occurrences, outside, IsWithin, weigh-Int, weigh-Sym, weigh-App, weigh-Var, size-Int, size-Sym, size-App, size-Var}
use Rattle.lps_unify.specs.Bindings.{one}

pub sum_by_same : (f g : Term → ℕ) (ts : List Term) → AllByRecursion (λ x. f x ≡ g x) ts → sum_by f ts ≡ sum_by g ts
sum_by_same f g [] h = refl
sum_by_same f g (x ∷ xs) h = sum_by-cons f x xs ∙ (λ i. h.0 i + sum_by_same f g xs h.1 i) ∙ sym (sum_by-cons g x xs)

pub sum_by_map : (f : Term → ℕ) (g : Term → Term) (ts : List Term) → sum_by f (map g ts) ≡ sum_by (λ x. f (g x)) ts
sum_by_map f g [] = refl
sum_by_map f g (x ∷ xs) = sum_by-cons f (g x) (map g xs) ∙ ap (λ n. f (g x) + n) (sum_by_map f g xs) ∙ sym (sum_by-cons (λ x. f (g x)) x xs)

-- ---- what is put in

-- a sum over the variables of what is put in
pub weigh-put : (f : ℕ → ℕ) (r : ℕ → Term) (x : Term) → weigh f (put r x) ≡ weigh (λ w. weigh f (r w)) x
weigh-put f r = term_ind (λ x. weigh f (put r x) ≡ weigh (λ w. weigh f (r w)) x)
    (λ z. ap (weigh f) (put-Int r z) ∙ weigh-Int f z ∙ sym (weigh-Int (λ w. weigh f (r w)) z))
    (λ n. ap (weigh f) (put-Sym r n) ∙ weigh-Sym f n ∙ sym (weigh-Sym (λ w. weigh f (r w)) n))
    (λ n ts is.
    ap (weigh f) (put-App r n ts) ∙ weigh-App f n (map (put r) ts) ∙ sum_by_map (weigh f) (put r) ts
    ∙ sum_by_same (λ x. weigh f (put r x)) (weigh (λ w. weigh f (r w))) ts is
    ∙ sym (weigh-App (λ w. weigh f (r w)) n ts))
    (λ v. ap (weigh f) (put-Var r v) ∙ sym (weigh-Var (λ w. weigh f (r w)) v))

-- the symbols with terms put in
pub symbols-put : (r : ℕ → Term) (x : Term) → symbols_of (put r x) ≡ size (λ w. symbols_of (r w)) x
symbols-put r = term_ind (λ x. symbols_of (put r x) ≡ size (λ w. symbols_of (r w)) x)
    (λ z. ap symbols_of (put-Int r z) ∙ symbols_of-Int z ∙ sym (size-Int (λ w. symbols_of (r w)) z))
    (λ n. ap symbols_of (put-Sym r n) ∙ symbols_of-Sym n ∙ sym (size-Sym (λ w. symbols_of (r w)) n))
    (λ n ts is.
    ap symbols_of (put-App r n ts) ∙ symbols_of-App n (map (put r) ts)
    ∙ ap (λ k. 1 + k) (sum_by_map symbols_of (put r) ts ∙ sum_by_same (λ x. symbols_of (put r x)) (size (λ w. symbols_of (r w))) ts is)
    ∙ sym (size-App (λ w. symbols_of (r w)) n ts))
    (λ v. ap symbols_of (put-Var r v) ∙ sym (size-Var (λ w. symbols_of (r w)) v))

-- ---- two sums at once

four : (a b c d k : ℕ) → (a + k * b) + (c + k * d) ≡ (a + c) + k * (b + d)
four a b c d k = grind arith

-- sizes where each variable counts more
module _ (f g : ℕ → ℕ) (k : ℕ) where
  abbrev more : ℕ → ℕ
  more w = f w + k * g w

  no_more : (n : ℕ) → n ≡ n + k * 0
  no_more n = omega arith

  size_more_all : (ts : List Term) → AllByRecursion (λ x. size more x ≡ size f x + k * weigh g x) ts →
      sum_by (size more) ts ≡ sum_by (size f) ts + k * sum_by (weigh g) ts
  size_more_all [] is = no_more 0
  size_more_all (x ∷ xs) is =
      sum_by-cons (size more) x xs ∙ (λ i. is.0 i + size_more_all xs is.1 i) ∙ four (size f x) (weigh g x) (sum_by (size f) xs) (sum_by (weigh g) xs) k
      ∙ (λ i. sym (sum_by-cons (size f) x xs) i + k * sym (sum_by-cons (weigh g) x xs) i)

  one_more : (a b : ℕ) → 1 + (a + b) ≡ (1 + a) + b
  one_more a b = omega arith

  pub size_more : (x : Term) → size (λ w. f w + k * g w) x ≡ size f x + k * weigh g x
  size_more = term_ind (λ x. size more x ≡ size f x + k * weigh g x)
      (λ z. size-Int more z ∙ no_more 1 ∙ (λ i. sym (size-Int f z) i + k * sym (weigh-Int g z) i))
      (λ n. size-Sym more n ∙ no_more 1 ∙ (λ i. sym (size-Sym f n) i + k * sym (weigh-Sym g n) i))
      (λ n ts is.
      size-App more n ts ∙ ap (λ j. 1 + j) (size_more_all ts is) ∙ one_more (sum_by (size f) ts) (k * sum_by (weigh g) ts)
      ∙ (λ i. sym (size-App f n ts) i + k * sym (weigh-App g n ts) i))
      (λ v. size-Var more v ∙ (λ i. sym (size-Var f v) i + k * sym (weigh-Var g v) i))

module _ (f g : ℕ → ℕ) (less : (w : ℕ) → f w ≤ g w) where
  weigh_le_all : (ts : List Term) → AllByRecursion (λ x. weigh f x ≤ weigh g x) ts → sum_by (weigh f) ts ≤ sum_by (weigh g) ts
  weigh_le_all [] is = omega arith
  weigh_le_all (x ∷ xs) is = let rest = weigh_le_all xs is.1 in let one = is.0 in omega (arith, sum_by-cons (weigh f) x xs, sum_by-cons (weigh g) x xs)

  pub weigh_le : (x : Term) → weigh f x ≤ weigh g x
  weigh_le = term_ind (λ x. weigh f x ≤ weigh g x) (λ z. omega (arith, weigh-Int f z)) (λ n. omega (arith, weigh-Sym f n))
      (λ n ts is. let all = weigh_le_all ts is in omega (arith, weigh-App f n ts, weigh-App g n ts))
      (λ v. let one = less v in omega (arith, weigh-Var f v, weigh-Var g v))

-- variables of the first so many are of the first more
pub within_more : (n m : ℕ) (x : Term) → n ≤ m → IsWithin n x → IsWithin m x
within_more n m x le h =
    let less = weigh_le (outside m) (outside n) (λ w. at w (nat_lt w n) (nat_lt w m) refl refl) x in
    omega (arith, less, h)
  where
    at : (w : ℕ) (a b : Bool) → nat_lt w n ≡ a → nat_lt w m ≡ b → cond b 0 1 ≤ cond a 0 1
    at w a true e f = omega arith
    at w true false e f = absurd (let below : w < n = grind (arith, nat_tests) in let above : m ≤ w = grind (arith, nat_tests) in omega arith)
    at w false false e f = omega arith

-- ---- one variable

pub nat_eq_self : (v : ℕ) → nat_eq v v ≡ true
nat_eq_self v = grind (arith, nat_tests)

pub one_self : (v : ℕ) (u : Term) → one v u v ≡ u
one_self v u = ap (λ b. cond b u (t.Var v)) (nat_eq_self v)

pub one_other : (v : ℕ) (u : Term) (w : ℕ) → nat_eq v w ≡ false → one v u w ≡ t.Var w
one_other v u w e = ap (λ b. cond b u (t.Var w)) e

pub occurs_itself : (v : ℕ) → occurrences v (t.Var v) ≡ 1
occurs_itself v = weigh-Var (λ w. cond (nat_eq v w) 1 0) v ∙ ap (λ b. cond b 1 0) (nat_eq_self v)

pub occurs_other : (v w : ℕ) → nat_eq v w ≡ false → occurrences v (t.Var w) ≡ 0
occurs_other v w e = weigh-Var (λ w. cond (nat_eq v w) 1 0) w ∙ ap (λ b. cond b 1 0) e

-- where a variable does not stand, nothing is put in for it
module _ (v : ℕ) (u : Term) where
  absent_all : (ts : List Term) → AllByRecursion (λ x. occurrences v x ≡ 0 → put (one v u) x ≡ x) ts → sum_by (occurrences v) ts ≡ 0 → map (put (one v u)) ts ≡ ts
  absent_all [] is h = refl
  absent_all (x ∷ xs) is h =
      let here : occurrences v x ≡ 0 = omega (arith, h, sum_by-cons (occurrences v) x xs) in
      let there : sum_by (occurrences v) xs ≡ 0 = omega (arith, h, sum_by-cons (occurrences v) x xs) in
      λ i. is.0 here i ∷ absent_all xs is.1 there i

  absent_variable : (w : ℕ) (b : Bool) → nat_eq v w ≡ b → occurrences v (t.Var w) ≡ 0 → one v u w ≡ t.Var w
  absent_variable w true e h = absurd (let one : occurrences v (t.Var w) ≡ 1 = weigh-Var (λ w. cond (nat_eq v w) 1 0) w ∙ ap (λ b. cond b 1 0) e in omega arith)
  absent_variable w false e h = one_other v u w e

  pub put_absent : (x : Term) → occurrences v x ≡ 0 → put (one v u) x ≡ x
  put_absent = term_ind (λ x. occurrences v x ≡ 0 → put (one v u) x ≡ x) (λ z h. put-Int (one v u) z) (λ n h. put-Sym (one v u) n)
      (λ n ts is h. put-App (one v u) n ts ∙ ap (t.App n) (absent_all ts is (sym (weigh-App (λ w. cond (nat_eq v w) 1 0) n ts) ∙ h)))
      (λ w h. put-Var (one v u) w ∙ absent_variable w (nat_eq v w) refl h)

-- substitutions that agree
pub put_pointwise : (s r : ℕ → Term) → ((w : ℕ) → s w ≡ r w) → (x : Term) → put s x ≡ put r x
put_pointwise s r same x = ap (λ f. put f x) (λ i w. same w i)

-- where s makes v and u equal, u may stand for v
pub put-put_one : (s : ℕ → Term) (v : ℕ) (u x : Term) → s v ≡ put s u → put s (put (one v u) x) ≡ put s x
put-put_one s v u x e = put-put s (one v u) x ∙ put_pointwise (after s (one v u)) s (λ w. at w (nat_eq v w) refl) x
  where
    at : (w : ℕ) (b : Bool) → nat_eq v w ≡ b → put s (cond b u (t.Var w)) ≡ s w
    at w true is = sym e ∙ ap s (let same : v ≡ w = grind (arith, nat_tests) in same)
    at w false is = put-Var s w

-- ---- the occurs check

-- the value of a variable is no larger than that of a term in which it stands
module _ (s : ℕ → Term) (v : ℕ) where
  abbrev Holds : Term → Type 0
  Holds x = 1 ≤ occurrences v x → symbols_of (s v) ≤ symbols_of (put s x)

  stands_in_all : (ts : List Term) → AllByRecursion Holds ts → 1 ≤ sum_by (occurrences v) ts → symbols_of (s v) ≤ symbols_of_all (map (put s) ts)
  stands_in_all [] is h = absurd (omega (arith, h))
  stands_in_all (x ∷ xs) is h = at (occurrences v x) refl (stands_in_all xs is.1)
    where
      at : (n : ℕ) → occurrences v x ≡ n → (1 ≤ sum_by (occurrences v) xs → symbols_of (s v) ≤ symbols_of_all (map (put s) xs)) →
          symbols_of (s v) ≤ symbols_of_all (map (put s) (x ∷ xs))
      at zero e rest =
          let there : 1 ≤ sum_by (occurrences v) xs = omega (arith, h, e, sum_by-cons (occurrences v) x xs) in
          omega (arith, rest there, symbols_of_all-cons (put s x) (map (put s) xs))
      at (suc n) e rest =
          let here : 1 ≤ occurrences v x = omega (arith, e) in
          omega (arith, is.0 here, symbols_of_all-cons (put s x) (map (put s) xs))

  pub stands_in : (x : Term) → Holds x
  stands_in = term_ind Holds (λ z h. absurd (omega (arith, h, weigh-Int (λ w. cond (nat_eq v w) 1 0) z)))
      (λ n h. absurd (omega (arith, h, weigh-Sym (λ w. cond (nat_eq v w) 1 0) n)))
      (λ n ts is h.
      let all = stands_in_all ts is (subst (λ k. 1 ≤ k) (weigh-App (λ w. cond (nat_eq v w) 1 0) n ts) h) in
      omega (arith, all, ap symbols_of (put-App s n ts) ∙ symbols_of-App n (map (put s) ts)))
      (λ w h. at w (nat_eq v w) refl h)
    where
      at : (w : ℕ) (b : Bool) → nat_eq v w ≡ b → Holds (t.Var w)
      at w true e h = omega (arith, ap symbols_of (put-Var s w ∙ ap s (let same : w ≡ v = grind (arith, nat_tests) in same)))
      at w false e h = absurd (omega (arith, h, occurs_other v w e))

  every : (ts : List Term) → AllByRecursion Holds ts
  every [] = tt
  every (x ∷ xs) = (stands_in x, every xs)

  -- and smaller than that of a function in which it stands
  pub stands_within : (n : List ℕ) (ts : List Term) → 1 ≤ occurrences v (t.App n ts) → symbols_of (s v) < symbols_of (put s (t.App n ts))
  stands_within n ts h =
      let all = stands_in_all ts (every ts) (subst (λ k. 1 ≤ k) (weigh-App (λ w. cond (nat_eq v w) 1 0) n ts) h) in
      omega (arith, all, ap symbols_of (put-App s n ts) ∙ symbols_of-App n (map (put s) ts))

-- ---- within

module _ (s r : ℕ → Term) (n : ℕ) (same : (w : ℕ) → w < n → s w ≡ r w) where
  same_all : (ts : List Term) → AllByRecursion (λ x. IsWithin n x → put s x ≡ put r x) ts → sum_by (weigh (outside n)) ts ≡ 0 → map (put s) ts ≡ map (put r) ts
  same_all [] is h = refl
  same_all (x ∷ xs) is h =
      let here : IsWithin n x = omega (arith, h, sum_by-cons (weigh (outside n)) x xs) in
      let there : sum_by (weigh (outside n)) xs ≡ 0 = omega (arith, h, sum_by-cons (weigh (outside n)) x xs) in
      λ i. is.0 here i ∷ same_all xs is.1 there i

  same_variable : (w : ℕ) (b : Bool) → nat_lt w n ≡ b → IsWithin n (t.Var w) → s w ≡ r w
  same_variable w true e h = same w (let below : w < n = grind (arith, nat_tests) in below)
  same_variable w false e h = absurd (let one : weigh (outside n) (t.Var w) ≡ 1 = weigh-Var (outside n) w ∙ ap (λ b. cond b 0 1) e in omega (arith, one, h))

  -- substitutions that agree on the first so many variables
  pub put_within : (x : Term) → IsWithin n x → put s x ≡ put r x
  put_within = term_ind (λ x. IsWithin n x → put s x ≡ put r x) (λ z h. put-Int s z ∙ sym (put-Int r z)) (λ m h. put-Sym s m ∙ sym (put-Sym r m))
      (λ m ts is h. put-App s m ts ∙ ap (t.App m) (same_all ts is (sym (weigh-App (outside n) m ts) ∙ h)) ∙ sym (put-App r m ts))
      (λ w h. put-Var s w ∙ same_variable w (nat_lt w n) refl h ∙ sym (put-Var r w))
