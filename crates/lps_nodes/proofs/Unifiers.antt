-- Equations between terms that have a solution have a most general one. The symbols of the solution bound the steps.
use Rattle.std.proofs.Common.{ℕ, ℤ, zero, suc, Bool, true, false, cond, ◌≡◌, ◌≤◌, List, [], ◌∷◌, ◌++◌, ◌∙◌, map, refl, sym, ap, arith, inl, inr}
use Rattle.std.specs.Prelude.{◌⊎◌, ◌+◌, ◌||◌, nat_eq}
use Rattle.std.specs.List.{AllByRecursion}
use Rattle.std.proofs.lemmas.Bool.Decides.{nat_tests}
use Rattle.lps_terms.specs.declared.term.Term.{Term}
use Rattle.lps_terms.specs.declared.term.Term.TheVariants as t
use Rattle.lps_terms.specs.Forms.{term_ind}
use Rattle.lps_terms.specs.Order.{rank_of, is_function, name_of, args_of, args_of-App}
use Rattle.lps_terms.specs.Put.{put, put-put, put-Int, put-Sym, put-App, put-Var, put-Var_each}
use Rattle.lps_terms.specs.Symbols.{symbols_of, symbols_of_all, symbols_of_all-cons, symbols_of-Int, symbols_of-Sym, symbols_of-App, symbols_of-Var}
use Rattle.lps_model.specs.VariableLists.{term_vars, args_vars}
use Rattle.lps_meaning.proofs.Occurrences.{all_front, all_behind, all_joined, all_to, vars-Int, vars-Sym, vars-App, vars-Var, same_put}

abbrev pub Pair : Type 0
Pair = Term × Term

abbrev pub Solves : (ℕ → Term) → List Pair → Type 0
Solves s es = AllByRecursion (λ e. put s e.0 ≡ put s e.1) es

-- a solution through which every solution factors
pub record Unifier (es : List Pair) : Type 0 where
  pub sub : ℕ → Term
  pub solves : Solves sub es
  pub general : (r : ℕ → Term) → Solves r es → (n : ℕ) → put r (sub n) ≡ r n

-- ---- sizes

abbrev weight : (ℕ → Term) → List Pair → ℕ
weight s [] = 0
weight s (e ∷ es) = symbols_of (put s e.0) + weight s es

one_at_least : (x : Term) → 1 ≤ symbols_of x
one_at_least = term_ind (λ x. 1 ≤ symbols_of x) (λ z. let e = symbols_of-Int z in omega (arith, e)) (λ n. let e = symbols_of-Sym n in omega (arith, e))
    (λ n ts each. let e = symbols_of-App n ts in omega (arith, e)) (λ v. let e = symbols_of-Var v in omega (arith, e))

weight_append : (s : ℕ → Term) (xs ys : List Pair) → weight s (xs ++ ys) ≡ weight s xs + weight s ys
weight_append s [] ys = omega arith
weight_append s (x ∷ xs) ys = let more = weight_append s xs ys in omega (arith, more)

-- ---- occurrence

abbrev pub is_in : ℕ → List ℕ → Bool
is_in x [] = false
is_in x (v ∷ vs) = nat_eq v x || is_in x vs

or_false : (a b : Bool) → (a || b) ≡ false → (a ≡ false) × (b ≡ false)
or_false true b e = absurd (cc)
or_false false b e = (refl, e)

or_true : (a b : Bool) → (a || b) ≡ true → (a ≡ true) ⊎ (b ≡ true)
or_true true b e = inl refl
or_true false b e = inr e

not_in : (x : ℕ) (vs : List ℕ) → is_in x vs ≡ false → AllByRecursion (λ v. nat_eq v x ≡ false) vs
not_in x [] e = tt
not_in x (v ∷ vs) e = let q = or_false (nat_eq v x) (is_in x vs) e in (q.0, not_in x vs q.1)

in_append : (x : ℕ) (vs ws : List ℕ) → is_in x (vs ++ ws) ≡ true → (is_in x vs ≡ true) ⊎ (is_in x ws ≡ true)
in_append x [] ws e = inr e
in_append x (v ∷ vs) ws e =
    elim (or_true (nat_eq v x) (is_in x (vs ++ ws)) e) [
      | inl here ↦ inl (ap (λ b. b || is_in x vs) here)
      | inr later ↦ elim (in_append x vs ws later) [ inl q ↦ inl (or_right (nat_eq v x) (is_in x vs) q) | inr q ↦ inr q ]
    ]
  where
    or_right : (a b : Bool) → b ≡ true → (a || b) ≡ true
    or_right true b e = refl
    or_right false b e = e

is_equal : (v x : ℕ) → nat_eq v x ≡ true → v ≡ x
is_equal v x e = grind (arith, nat_tests)

equals_self : (x : ℕ) → nat_eq x x ≡ true
equals_self x = grind (arith, nat_tests)

module _ (s : ℕ → Term) (x : ℕ) where
  abbrev IsWithinPut : Term → Type 0
  IsWithinPut b = is_in x (term_vars b) ≡ true → symbols_of (s x) ≤ symbols_of (put s b)

  args_within : (ts : List Term) → AllByRecursion IsWithinPut ts → is_in x (args_vars ts) ≡ true → symbols_of (s x) ≤ symbols_of_all (map (put s) ts)
  args_within [] each e = absurd (cc)
  args_within (y ∷ ys) each e =
      let sum = symbols_of_all-cons (put s y) (map (put s) ys) in
      elim (in_append x (term_vars y) (args_vars ys) e) [
        | inl here ↦ let q = each.0 here in omega (arith, q, sum)
        | inr later ↦ let q = args_within ys each.1 later in omega (arith, q, sum)
      ]

  within : (b : Term) → IsWithinPut b
  within = term_ind IsWithinPut (λ z e. absurd (empty (sym (ap (is_in x) (vars-Int z)) ∙ e))) (λ n e. absurd (empty (sym (ap (is_in x) (vars-Sym n)) ∙ e)))
      (λ n ts each e.
      let more = args_within ts each (sym (ap (is_in x) (vars-App n ts)) ∙ e) in
      let size : symbols_of (put s (t.App n ts)) ≡ 1 + symbols_of_all (map (put s) ts) = ap symbols_of (put-App s n ts) ∙ symbols_of-App n (map (put s) ts) in
      omega (arith, more, size))
      (λ v e.
      let same : v ≡ x = elim (or_true (nat_eq v x) false (sym (ap (is_in x) (vars-Var v)) ∙ e)) [ inl q ↦ is_equal v x q | inr q ↦ absurd (empty q) ] in
      let size : symbols_of (s x) ≡ symbols_of (put s (t.Var v)) = ap (λ k. symbols_of (s k)) (sym same) ∙ sym (ap symbols_of (put-Var s v)) in
      omega (arith, size))
    where
      empty : false ≡ true → ⊥
      empty e = cc

  every_within : (ts : List Term) → AllByRecursion IsWithinPut ts
  every_within [] = tt
  every_within (y ∷ ys) = (within y, every_within ys)

-- ---- single equations

false_true : false ≡ true → ⊥
false_true e = cc

-- an equation between equal terms says nothing
skip : (a b : Term) (es : List Pair) → a ≡ b → Unifier es → Unifier ((a, b) ∷ es)
skip a b es same m = record { sub = m.sub; solves = (ap (put m.sub) same, m.solves); general = λ r h n. m.general r h.1 n }

-- the sides of an equation may be exchanged
turned : (a b : Term) (es : List Pair) → Unifier ((b, a) ∷ es) → Unifier ((a, b) ∷ es)
turned a b es m = record { sub = m.sub; solves = (sym m.solves.0, m.solves.1); general = λ r h n. m.general r (sym h.0, h.1) n }

-- b in the place of x
abbrev at : ℕ → Term → ℕ → Term
at x b n = cond (nat_eq n x) b (t.Var n)

at_self : (x : ℕ) (b : Term) → at x b x ≡ b
at_self x b = ap (λ c. cond c b (t.Var x)) (equals_self x)

at_other : (x : ℕ) (b : Term) (n : ℕ) → nat_eq n x ≡ false → at x b n ≡ t.Var n
at_other x b n e = ap (λ c. cond c b (t.Var n)) e

-- a solution of x = b does not see b in the place of x
module _ (r : ℕ → Term) (x : ℕ) (b : Term) (solves : put r (t.Var x) ≡ put r b) where
  unseen_at : (n : ℕ) → put r (at x b n) ≡ r n
  unseen_at n = by (nat_eq n x) refl
    where
      by : (c : Bool) → nat_eq n x ≡ c → put r (cond c b (t.Var n)) ≡ r n
      by true e = sym solves ∙ put-Var r x ∙ ap r (sym (is_equal n x e))
      by false e = put-Var r n

  unseen : (y : Term) → put r (put (at x b) y) ≡ put r y
  unseen y = put-put r (at x b) y ∙ ap (λ q. put q y) (λ i n. unseen_at n i)

  abbrev bound : List Pair → List Pair
  bound es = map (λ e. (put (at x b) e.0, put (at x b) e.1)) es

  still_solves : (es : List Pair) → Solves r es → Solves r (bound es)
  still_solves [] h = tt
  still_solves (e ∷ es) h = (unseen e.0 ∙ h.0 ∙ sym (unseen e.1), still_solves es h.1)

  same_weight : (es : List Pair) → weight r (bound es) ≡ weight r es
  same_weight [] = refl
  same_weight (e ∷ es) = let one = ap symbols_of (unseen e.0) in let more = same_weight es in omega (arith, one, more)

-- x = b, where x does not occur in b
bind : (x : ℕ) (b : Term) (es : List Pair) (s : ℕ → Term) (solves : put s (t.Var x) ≡ put s b) → is_in x (term_vars b) ≡ false → Unifier (bound s x b solves es) → Unifier ((t.Var x, b) ∷ es)
bind x b es s solves free m = record {
  sub = λ n. put m.sub (at x b n);
  solves = (first, rest es m.solves);
  general = λ r h n.
      let through : (y : Term) → put r (put m.sub y) ≡ put r y = λ y. put-put r m.sub y ∙ ap (λ q. put q y) (λ i k. m.general r (still_solves r x b h.0 es h.1) k i) in
      through (at x b n) ∙ unseen_at r x b h.0 n;
}
  where
    abbrev_sub : ℕ → Term
    abbrev_sub n = put m.sub (at x b n)

    own : put (at x b) b ≡ b
    own = same_put (at x b) (λ n. t.Var n) b (all_to (λ v. nat_eq v x ≡ false) (λ v. at x b v ≡ t.Var v) (λ v e. at_other x b v e) (term_vars b) (not_in x (term_vars b) free)) ∙ put-Var_each b

    first : put (λ n. put m.sub (at x b n)) (t.Var x) ≡ put (λ n. put m.sub (at x b n)) b
    first = put-Var (λ n. put m.sub (at x b n)) x ∙ ap (put m.sub) (at_self x b) ∙ sym (ap (put m.sub) own) ∙ put-put m.sub (at x b) b

    rest : (es : List Pair) → Solves m.sub (bound s x b solves es) → Solves (λ n. put m.sub (at x b n)) es
    rest [] h = tt
    rest (e ∷ es) h = (sym (put-put m.sub (at x b) e.0) ∙ h.0 ∙ put-put m.sub (at x b) e.1, rest es h.1)

-- ---- lists of arguments

abbrev pub pairs : List Term → List Term → List Pair
pairs (x ∷ xs) (y ∷ ys) = (x, y) ∷ pairs xs ys
pairs _ _ = []

abbrev head_or : Term → List Term → Term
head_or d [] = d
head_or d (x ∷ xs) = x

abbrev behind : List Term → List Term
behind [] = []
behind (x ∷ xs) = xs

pub pairs_solved : (r : ℕ → Term) (xs ys : List Term) → map (put r) xs ≡ map (put r) ys → Solves r (pairs xs ys)
pairs_solved r [] [] e = tt
pairs_solved r [] (y ∷ ys) e = tt
pairs_solved r (x ∷ xs) [] e = tt
pairs_solved r (x ∷ xs) (y ∷ ys) e = (ap (head_or (t.Var 0)) e, pairs_solved r xs ys (ap behind e))

is_nil : List Term → Bool
is_nil [] = true
is_nil (x ∷ xs) = false

nil_cons : (x : Term) (xs : List Term) → ◌≡◌ {A = List Term} [] (x ∷ xs) → ⊥
nil_cons x xs e = cc

-- s only says that the lists are of one length
pub pairs_equal : (s r : ℕ → Term) (xs ys : List Term) → map (put s) xs ≡ map (put s) ys → Solves r (pairs xs ys) → map (put r) xs ≡ map (put r) ys
pairs_equal s r [] [] e h = refl
pairs_equal s r [] (y ∷ ys) e h = absurd (nil_cons (put s y) (map (put s) ys) e)
pairs_equal s r (x ∷ xs) [] e h = absurd (nil_cons (put s x) (map (put s) xs) (sym e))
pairs_equal s r (x ∷ xs) (y ∷ ys) e h = λ i. h.0 i ∷ pairs_equal s r xs ys (ap behind e) h.1 i

pairs_weight : (s : ℕ → Term) (xs ys : List Term) → weight s (pairs xs ys) ≤ symbols_of_all (map (put s) xs)
pairs_weight s [] ys = omega arith
pairs_weight s (x ∷ xs) [] = omega arith
pairs_weight s (x ∷ xs) (y ∷ ys) = let more = pairs_weight s xs ys in let sum = symbols_of_all-cons (put s x) (map (put s) xs) in omega (arith, more, sum)

-- ---- all equations

abbrev Solver : ℕ → Type 0
Solver n = (es : List Pair) (s : ℕ → Term) → Solves s es → weight s es ≤ n → Unifier es

module _ (n : ℕ) (solve : Solver n) (es : List Pair) (s : ℕ → Term) (solved : Solves s es) where
  -- the first equation has at most n + 1 symbols together with the others
  abbrev Fits : Term → Type 0
  Fits a = symbols_of (put s a) + weight s es ≤ suc n

  others : (a : Term) → Fits a → Unifier es
  others a fits = solve es s solved (let one = one_at_least (put s a) in omega (arith, one, fits))

  solve_var : (x : ℕ) (b : Term) → put s (t.Var x) ≡ put s b → Fits (t.Var x) → Unifier ((t.Var x, b) ∷ es)
  solve_var x b e fits = by (is_in x (term_vars b)) refl
    where
      inside : (b : Term) → put s (t.Var x) ≡ put s b → is_in x (term_vars b) ≡ true → t.Var x ≡ b
      inside = term_ind (λ b. put s (t.Var x) ≡ put s b → is_in x (term_vars b) ≡ true → t.Var x ≡ b)
          (λ z e is. absurd (false_true (sym (ap (is_in x) (vars-Int z)) ∙ is))) (λ m e is. absurd (false_true (sym (ap (is_in x) (vars-Sym m)) ∙ is)))
          (λ m ts each e is.
          let more = args_within s x ts (every_within s x ts) (sym (ap (is_in x) (vars-App m ts)) ∙ is) in
          let size : symbols_of (put s (t.App m ts)) ≡ 1 + symbols_of_all (map (put s) ts) = ap symbols_of (put-App s m ts) ∙ symbols_of-App m (map (put s) ts) in
          let same : symbols_of (s x) ≡ symbols_of (put s (t.App m ts)) = ap symbols_of (sym (put-Var s x) ∙ e) in
          absurd (omega (arith, more, size, same)))
          (λ v e is. elim (or_true (nat_eq v x) false (sym (ap (is_in x) (vars-Var v)) ∙ is)) [ inl q ↦ ap t.Var (sym (is_equal v x q)) | inr q ↦ absurd (false_true q) ])

      by : (c : Bool) → is_in x (term_vars b) ≡ c → Unifier ((t.Var x, b) ∷ es)
      by true is = skip (t.Var x) b es (inside b e is) (others (t.Var x) fits)
      by false is =
          bind x b es s e is (solve (bound s x b e es) s (still_solves s x b e es solved)
          (let one = one_at_least (put s (t.Var x)) in let same = same_weight s x b e es in omega (arith, one, same, fits)))

  -- with a variable on the right
  solve_turned : (a : Term) (y : ℕ) → put s a ≡ put s (t.Var y) → Fits a → Unifier ((a, t.Var y) ∷ es)
  solve_turned a y e fits = turned a (t.Var y) es (solve_var y a (sym e) (let same = ap symbols_of e in omega (arith, same, fits)))

  ranks : {a b : Term} → a ≡ b → rank_of a ≡ rank_of b
  ranks e = ap rank_of e

  solve_int : (z : ℤ) (b : Term) → put s (t.Int z) ≡ put s b → Fits (t.Int z) → Unifier ((t.Int z, b) ∷ es)
  solve_int z = term_ind (λ b. put s (t.Int z) ≡ put s b → Fits (t.Int z) → Unifier ((t.Int z, b) ∷ es))
      (λ y e fits. skip (t.Int z) (t.Int y) es (sym (put-Int s z) ∙ e ∙ put-Int s y) (others (t.Int z) fits))
      (λ m e fits. let r : ◌≡◌ {A = ℕ} 1 2 = ap rank_of (sym (put-Int s z) ∙ e ∙ put-Sym s m) in absurd (omega arith))
      (λ m ts each e fits. let r : ◌≡◌ {A = ℕ} 1 2 = ap rank_of (sym (put-Int s z) ∙ e ∙ put-App s m ts) in absurd (omega arith))
      (λ y e fits. solve_turned (t.Int z) y e fits)

  solve_sym : (k : List ℕ) (b : Term) → put s (t.Sym k) ≡ put s b → Fits (t.Sym k) → Unifier ((t.Sym k, b) ∷ es)
  solve_sym k = term_ind (λ b. put s (t.Sym k) ≡ put s b → Fits (t.Sym k) → Unifier ((t.Sym k, b) ∷ es))
      (λ y e fits. let r : ◌≡◌ {A = ℕ} 2 1 = ap rank_of (sym (put-Sym s k) ∙ e ∙ put-Int s y) in absurd (omega arith))
      (λ m e fits. skip (t.Sym k) (t.Sym m) es (sym (put-Sym s k) ∙ e ∙ put-Sym s m) (others (t.Sym k) fits))
      (λ m ts each e fits. let r : ◌≡◌ {A = ℕ} 0 1 = ap is_function (sym (put-Sym s k) ∙ e ∙ put-App s m ts) in absurd (omega arith))
      (λ y e fits. solve_turned (t.Sym k) y e fits)

  -- two functions: their arguments are equal one by one
  solve_args : (k m : List ℕ) (ts us : List Term) → put s (t.App k ts) ≡ put s (t.App m us) → Fits (t.App k ts) → Unifier ((t.App k ts, t.App m us) ∷ es)
  solve_args k m ts us e fits =
      let same : t.App k (map (put s) ts) ≡ t.App m (map (put s) us) = sym (put-App s k ts) ∙ e ∙ put-App s m us in
      let names : k ≡ m = ap name_of same in
      let args : map (put s) ts ≡ map (put s) us = sym (args_of-App k (map (put s) ts)) ∙ ap args_of same ∙ args_of-App m (map (put s) us) in
      let size : symbols_of (put s (t.App k ts)) ≡ 1 + symbols_of_all (map (put s) ts) = ap symbols_of (put-App s k ts) ∙ symbols_of-App k (map (put s) ts) in
      let q : Unifier (pairs ts us ++ es) = solve (pairs ts us ++ es) s (all_joined (λ p. put s p.0 ≡ put s p.1) (pairs ts us) es (pairs_solved s ts us args) solved)
      (let sum = weight_append s (pairs ts us) es in let few = pairs_weight s ts us in omega (arith, sum, few, size, fits)) in
      record {
        sub = q.sub;
        solves = (
          put-App q.sub k ts
              ∙ (λ i. t.App (names i) (pairs_equal s q.sub ts us args (all_front (λ p. put q.sub p.0 ≡ put q.sub p.1) (pairs ts us) es q.solves) i)) ∙ sym (put-App q.sub m us),
          all_behind (λ p. put q.sub p.0 ≡ put q.sub p.1) (pairs ts us) es q.solves,
        );
        general = λ r h j.
            q.general r (all_joined (λ p. put r p.0 ≡ put r p.1) (pairs ts us) es
            (pairs_solved r ts us (sym (args_of-App k (map (put r) ts)) ∙ ap args_of (sym (put-App r k ts) ∙ h.0 ∙ put-App r m us) ∙ args_of-App m (map (put r) us))) h.1) j;
      }

  solve_app : (k : List ℕ) (ts : List Term) (b : Term) → put s (t.App k ts) ≡ put s b → Fits (t.App k ts) → Unifier ((t.App k ts, b) ∷ es)
  solve_app k ts = term_ind (λ b. put s (t.App k ts) ≡ put s b → Fits (t.App k ts) → Unifier ((t.App k ts, b) ∷ es))
      (λ y e fits. let r : ◌≡◌ {A = ℕ} 2 1 = ap rank_of (sym (put-App s k ts) ∙ e ∙ put-Int s y) in absurd (omega arith))
      (λ m e fits. let r : ◌≡◌ {A = ℕ} 1 0 = ap is_function (sym (put-App s k ts) ∙ e ∙ put-Sym s m) in absurd (omega arith))
      (λ m us each e fits. solve_args k m ts us e fits)
      (λ y e fits. solve_turned (t.App k ts) y e fits)

  solve_first : (a b : Term) → put s a ≡ put s b → Fits a → Unifier ((a, b) ∷ es)
  solve_first = term_ind (λ a. (b : Term) → put s a ≡ put s b → Fits a → Unifier ((a, b) ∷ es)) solve_int solve_sym
      (λ k ts each b e fits. solve_app k ts b e fits) (λ x b e fits. solve_var x b e fits)

solver : (n : ℕ) → Solver n
solver zero [] s solved fits = record { sub = λ n. t.Var n; solves = tt; general = λ r h n. put-Var r n }
solver zero (e ∷ es) s solved fits = absurd (let one = one_at_least (put s e.0) in omega (arith, one, fits))
solver (suc n) [] s solved fits = record { sub = λ n. t.Var n; solves = tt; general = λ r h n. put-Var r n }
solver (suc n) (e ∷ es) s solved fits = solve_first n (solver n) es s solved.1 e.0 e.1 solved.0 fits

-- equations with a solution have a most general one
pub unifier : (es : List Pair) (s : ℕ → Term) → Solves s es → Unifier es
unifier es s solved = solver (weight s es) es s solved (omega arith)
