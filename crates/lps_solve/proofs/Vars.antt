-- The variables of terms, and of what is put in for them.
use Rattle.std.proofs.Common.{ℕ, ℤ, Bool, true, false, nat_lt, cond, ◌≡◌, ◌+◌, ◌<◌, List, [], ◌∷◌, ◌++◌, map, refl, sym, ap, ◌∙◌, arith, subst}
use Rattle.std.specs.Prelude.{sum_by, ◌&&◌}
use Rattle.std.specs.List.{AllByRecursion, list_all}
use Rattle.std.proofs.lemmas.Bool.Decides.{nat_tests}
use Rattle.std.proofs.lemmas.List.Sums.{sum_by-cons, sum_by-append}
use Rattle.std.proofs.lemmas.List.Folds.{flat_map-map}
use Rattle.lps_terms.specs.declared.built.Built.{Built}
use Rattle.lps_terms.specs.declared.built.Built.TheVariants as b
use Rattle.lps_terms.specs.declared.cond.Cond.{Cond}
use Rattle.lps_terms.specs.declared.cond.Cond.TheVariants as c
use Rattle.lps_terms.specs.declared.expr.Expr.{Expr}
use Rattle.lps_terms.specs.declared.expr.Expr.TheVariants as e
use Rattle.lps_terms.specs.declared.expr.Expr.TheFolds.{fold-roll-Expr}
use Rattle.lps_terms.specs.declared.op.Op.{Op}
use Rattle.lps_terms.specs.declared.term.Term.{Term}
use Rattle.lps_terms.specs.declared.term.Term.TheVariants as t
use Rattle.lps_terms.specs.Forms.{term_ind, fold-Int, fold-Sym, fold-App, fold-Var}
use Rattle.lps_terms.specs.Put.{put, put-Int, put-Sym, put-App, put-Var}
use Rattle.lps_model.specs.VariableLists.{args_vars, built_vars, cond_vars, expr_vars, operands_step, term_vars, vars_step}
use Rattle.lps_derivation.specs.Expressions.{put_expr, put_expr-Leaf, put_expr-Apply, expr_ind}
use Rattle.lps_derivation.specs.Ground.{is_ground, is_ground-App, is_ground-Var}
use Rattle.lps_derivation.specs.Instances.{put_built, put_cond}
use Rattle.lps_unify.specs.Weights.{weigh, outside, IsWithin, weigh-Int, weigh-Sym, weigh-App, weigh-Var}
use Rattle.lps_unify.specs.Unified.{AreWithin}
use Rattle.lps_unify.specs.Bindings.{TrailedBindings, standing, count_of, IsLawful}
use Rattle.lps_unify.proofs.Variables.{resolved_within}
use Rattle.lps_solve.specs.Placed.{values_in, AreBelow}

-- ---- lists

module _ {X : Type 0} (P : X → Type 0) where
  pub all_append : (xs ys : List X) → AllByRecursion P xs → AllByRecursion P ys → AllByRecursion P (xs ++ ys)
  all_append [] ys one two = two
  all_append (x ∷ xs) ys one two = (one.0, all_append xs ys one.1 two)

  pub all_first : (xs ys : List X) → AllByRecursion P (xs ++ ys) → AllByRecursion P xs
  all_first [] ys h = tt
  all_first (x ∷ xs) ys h = (h.0, all_first xs ys h.1)

  pub all_second : (xs ys : List X) → AllByRecursion P (xs ++ ys) → AllByRecursion P ys
  all_second [] ys h = h
  all_second (x ∷ xs) ys h = all_second xs ys h.1

pub all_weaker : {X : Type 0} (P Q : X → Type 0) → ((x : X) → P x → Q x) → (xs : List X) → AllByRecursion P xs → AllByRecursion Q xs
all_weaker P Q f [] h = tt
all_weaker P Q f (x ∷ xs) h = (f x h.0, all_weaker P Q f xs h.1)

-- ---- the variables of each form

pub vars_of-Int : (z : ℤ) → term_vars (t.Int z) ≡ []
vars_of-Int = fold-Int (List ℕ) vars_step

pub vars_of-Sym : (n : List ℕ) → term_vars (t.Sym n) ≡ []
vars_of-Sym = fold-Sym (List ℕ) vars_step

pub vars_of-App : (n : List ℕ) (ts : List Term) → term_vars (t.App n ts) ≡ args_vars ts
vars_of-App n ts = fold-App (List ℕ) vars_step n ts ∙ flat_map-map (λ part. part) term_vars ts

pub vars_of-Var : (v : ℕ) → term_vars (t.Var v) ≡ v ∷ []
vars_of-Var = fold-Var (List ℕ) vars_step

pub vars_of-Leaf : (x : Term) → expr_vars (e.Leaf x) ≡ term_vars x
vars_of-Leaf x = ap expr_vars (sym (e.rolls-Leaf x)) ∙ fold-roll-Expr (List ℕ) operands_step _

pub vars_of-Apply : (op : Op) (x y : Expr) → expr_vars (e.Apply op x y) ≡ expr_vars x ++ expr_vars y
vars_of-Apply op x y = ap expr_vars (sym (e.rolls-Apply op x y)) ∙ fold-roll-Expr (List ℕ) operands_step _

-- ---- the variables of what is put in

module _ (P : ℕ → Type 0) (s : ℕ → Term) where
  -- the variables of what stands for v
  abbrev pub Inside : ℕ → Type 0
  Inside v = AllByRecursion P (term_vars (s v))

  abbrev Puts : Term → Type 0
  Puts x = AllByRecursion Inside (term_vars x) → AllByRecursion P (term_vars (put s x))

  puts_all : (ts : List Term) → AllByRecursion Puts ts → AllByRecursion Inside (args_vars ts) → AllByRecursion P (args_vars (map (put s) ts))
  puts_all [] is h = tt
  puts_all (x ∷ xs) is h =
      all_append P (term_vars (put s x)) (args_vars (map (put s) xs)) (is.0 (all_first Inside (term_vars x) (args_vars xs) h)) (puts_all xs is.1 (all_second Inside (term_vars x) (args_vars xs) h))

  pub put_vars : (x : Term) → Puts x
  put_vars = term_ind Puts
      (λ z h. subst (AllByRecursion P) (sym (ap term_vars (put-Int s z) ∙ vars_of-Int z)) tt)
      (λ n h. subst (AllByRecursion P) (sym (ap term_vars (put-Sym s n) ∙ vars_of-Sym n)) tt)
      (λ n ts is h.
      subst (AllByRecursion P) (sym (ap term_vars (put-App s n ts) ∙ vars_of-App n (map (put s) ts))) (puts_all ts is (subst (AllByRecursion Inside) (vars_of-App n ts) h)))
      (λ v h. subst (AllByRecursion P) (sym (ap term_vars (put-Var s v))) (subst (AllByRecursion Inside) (vars_of-Var v) h).0)

  every : (ts : List Term) → AllByRecursion Puts ts
  every [] = tt
  every (x ∷ xs) = (put_vars x, every xs)

  pub put_args_vars : (ts : List Term) → AllByRecursion Inside (args_vars ts) → AllByRecursion P (args_vars (map (put s) ts))
  put_args_vars ts h = puts_all ts (every ts) h

  pub put_expr_vars : (x : Expr) → AllByRecursion Inside (expr_vars x) → AllByRecursion P (expr_vars (put_expr s x))
  put_expr_vars = expr_ind (λ x. AllByRecursion Inside (expr_vars x) → AllByRecursion P (expr_vars (put_expr s x)))
      (λ x h. subst (AllByRecursion P) (sym (ap expr_vars (put_expr-Leaf s x) ∙ vars_of-Leaf (put s x))) (put_vars x (subst (AllByRecursion Inside) (vars_of-Leaf x) h)))
      (λ op x y one two h.
      let both = subst (AllByRecursion Inside) (vars_of-Apply op x y) h in
      subst (AllByRecursion P) (sym (ap expr_vars (put_expr-Apply s op x y) ∙ vars_of-Apply op (put_expr s x) (put_expr s y)))
      (all_append P (expr_vars (put_expr s x)) (expr_vars (put_expr s y)) (one (all_first Inside (expr_vars x) (expr_vars y) both)) (two (all_second Inside (expr_vars x) (expr_vars y) both))))

  pub put_built_vars : (x : Built) → AllByRecursion Inside (built_vars x) → AllByRecursion P (built_vars (put_built s x))
  put_built_vars (b.Same x y) h = all_append P (term_vars (put s x)) (term_vars (put s y)) (put_vars x (all_first Inside (term_vars x) (term_vars y) h)) (put_vars y (all_second Inside (term_vars x) (term_vars y) h))
  put_built_vars (b.Differ x y) h = all_append P (term_vars (put s x)) (term_vars (put s y)) (put_vars x (all_first Inside (term_vars x) (term_vars y) h)) (put_vars y (all_second Inside (term_vars x) (term_vars y) h))
  put_built_vars (b.Is x y) h = all_append P (term_vars (put s x)) (expr_vars (put_expr s y)) (put_vars x (all_first Inside (term_vars x) (expr_vars y) h)) (put_expr_vars y (all_second Inside (term_vars x) (expr_vars y) h))
  put_built_vars (b.Compare rel x y) h = all_append P (expr_vars (put_expr s x)) (expr_vars (put_expr s y)) (put_expr_vars x (all_first Inside (expr_vars x) (expr_vars y) h)) (put_expr_vars y (all_second Inside (expr_vars x) (expr_vars y) h))

  pub put_cond_vars : (x : Cond) → AllByRecursion Inside (cond_vars x) → AllByRecursion P (cond_vars (put_cond s x))
  put_cond_vars (c.Lit l) h = put_args_vars l.atom.args h
  put_cond_vars (c.Built x) h = put_built_vars x h

-- ---- variables below a number

abbrev pub IsBelow : ℕ → ℕ → Type 0
IsBelow n v = v < n

weigh_vars_all : (f : ℕ → ℕ) (ts : List Term) → AllByRecursion (λ x. weigh f x ≡ sum_by f (term_vars x)) ts → sum_by (weigh f) ts ≡ sum_by f (args_vars ts)
weigh_vars_all f [] is = refl
weigh_vars_all f (x ∷ xs) is =
    sum_by-cons (weigh f) x xs ∙ (λ i. is.0 i + weigh_vars_all f xs is.1 i) ∙ sym (sum_by-append f (term_vars x) (args_vars xs))

weigh_vars : (f : ℕ → ℕ) (x : Term) → weigh f x ≡ sum_by f (term_vars x)
weigh_vars f = term_ind (λ x. weigh f x ≡ sum_by f (term_vars x))
    (λ z. weigh-Int f z ∙ sym (ap (sum_by f) (vars_of-Int z)))
    (λ n. weigh-Sym f n ∙ sym (ap (sum_by f) (vars_of-Sym n)))
    (λ n ts is. weigh-App f n ts ∙ weigh_vars_all f ts is ∙ sym (ap (sum_by f) (vars_of-App n ts)))
    (λ v. let one : sum_by f (v ∷ []) ≡ f v = omega (arith, sum_by-cons f v []) in weigh-Var f v ∙ sym (ap (sum_by f) (vars_of-Var v) ∙ one))

inside_is : (n v : ℕ) → v < n → outside n v ≡ 0
inside_is n v lt = let yes : nat_lt v n ≡ true = grind (arith, nat_tests) in ap (λ b. cond b 0 1) yes

abbrev zero_or_one : Bool → ℕ
zero_or_one b = cond b 0 1

is_inside : (n v : ℕ) (b : Bool) → nat_lt v n ≡ b → zero_or_one b ≡ 0 → v < n
is_inside n v true e h = grind (arith, nat_tests)
is_inside n v false e h = absurd (omega (arith, h))

sum_none : (n : ℕ) (vars : List ℕ) → AllByRecursion (IsBelow n) vars → sum_by (outside n) vars ≡ 0
sum_none n [] h = refl
sum_none n (v ∷ vars) h = let one = inside_is n v h.0 in let rest = sum_none n vars h.1 in omega (arith, sum_by-cons (outside n) v vars, one, rest)

none_sum : (n : ℕ) (vars : List ℕ) → sum_by (outside n) vars ≡ 0 → AllByRecursion (IsBelow n) vars
none_sum n [] h = tt
none_sum n (v ∷ vars) h =
    let one : outside n v ≡ 0 = omega (arith, sum_by-cons (outside n) v vars, h) in
    let rest : sum_by (outside n) vars ≡ 0 = omega (arith, sum_by-cons (outside n) v vars, h) in
    (is_inside n v (nat_lt v n) refl one, none_sum n vars rest)

pub within_of : (n : ℕ) (x : Term) → AllByRecursion (IsBelow n) (term_vars x) → IsWithin n x
within_of n x h = weigh_vars (outside n) x ∙ sum_none n (term_vars x) h

pub of_within : (n : ℕ) (x : Term) → IsWithin n x → AllByRecursion (IsBelow n) (term_vars x)
of_within n x h = none_sum n (term_vars x) (sym (weigh_vars (outside n) x) ∙ h)

all_weighed : (f : ℕ → ℕ) (ts : List Term) → AllByRecursion (λ x. weigh f x ≡ sum_by f (term_vars x)) ts
all_weighed f [] = tt
all_weighed f (x ∷ xs) = (weigh_vars f x, all_weighed f xs)

pub are_within : (n : ℕ) (xs : List Term) → AllByRecursion (IsBelow n) (args_vars xs) → AreWithin n xs
are_within n xs h = weigh_vars_all (outside n) xs (all_weighed (outside n) xs) ∙ sum_none n (args_vars xs) h

pub of_are_within : (n : ℕ) (xs : List Term) → AreWithin n xs → AllByRecursion (IsBelow n) (args_vars xs)
of_are_within n xs h = none_sum n (args_vars xs) (sym (weigh_vars_all (outside n) xs (all_weighed (outside n) xs)) ∙ h)

-- ---- ground terms

second_of : (a b : Bool) → (a && b) ≡ true → b ≡ true
second_of true b h = h
second_of false b h = absurd (cc)

first_of_two : (a b : Bool) → (a && b) ≡ true → a ≡ true
first_of_two true b h = refl
first_of_two false b h = absurd (cc)

no_vars_all : (ts : List Term) → AllByRecursion (λ x. is_ground x ≡ true → term_vars x ≡ []) ts → list_all is_ground ts ≡ true → args_vars ts ≡ []
no_vars_all [] is h = refl
no_vars_all (x ∷ xs) is h =
    let one : term_vars x ≡ [] = is.0 (first_of_two (is_ground x) (list_all is_ground xs) h) in
    let rest : args_vars xs ≡ [] = no_vars_all xs is.1 (second_of (is_ground x) (list_all is_ground xs) h) in
    (λ i. one i ++ rest i)

pub no_vars : (x : Term) → is_ground x ≡ true → term_vars x ≡ []
no_vars = term_ind (λ x. is_ground x ≡ true → term_vars x ≡ []) (λ z h. vars_of-Int z) (λ n h. vars_of-Sym n)
    (λ n ts is h. vars_of-App n ts ∙ no_vars_all ts is (second_of _ (list_all is_ground ts) (sym (is_ground-App n ts) ∙ h)))
    (λ v h. absurd (let no : is_ground (t.Var v) ≡ false = is_ground-Var v in cc))

no_vars_each : (ts : List Term) → AllByRecursion (λ x. is_ground x ≡ true → term_vars x ≡ []) ts
no_vars_each [] = tt
no_vars_each (x ∷ xs) = (no_vars x, no_vars_each xs)

pub no_vars_list : (xs : List Term) → list_all is_ground xs ≡ true → args_vars xs ≡ []
no_vars_list xs h = no_vars_all xs (no_vars_each xs) h

pub ground_within : (n : ℕ) (xs : List Term) → list_all is_ground xs ≡ true → AreWithin n xs
ground_within n xs h = are_within n xs (subst (AllByRecursion (IsBelow n)) (sym (no_vars_all xs (no_vars_each xs) h)) tt)

-- ---- placed terms

pub value_below : (b : TrailedBindings) → IsLawful b → (w : ℕ) → w < count_of b → AllByRecursion (IsBelow (count_of b)) (term_vars ((standing b).value w))
value_below b lawful w lt =
    let inside : IsWithin (count_of b) (t.Var w) = weigh-Var (outside (count_of b)) w ∙ inside_is (count_of b) w lt in
    of_within (count_of b) ((standing b).value w) (subst (IsWithin (count_of b)) (put-Var (standing b).value w) (resolved_within b lawful (t.Var w) inside))

pub values_below : (b : TrailedBindings) → IsLawful b → (base : ℕ) (vars : List ℕ) → AreBelow (count_of b) base vars → AllByRecursion (Inside (IsBelow (count_of b)) (values_in b base)) vars
values_below b lawful base vars h = all_weaker (λ v. base + v < count_of b) (Inside (IsBelow (count_of b)) (values_in b base)) (λ v lt. value_below b lawful (base + v) lt) vars h

pub shift_below : (count base : ℕ) (vars : List ℕ) → AreBelow count base vars → AllByRecursion (Inside (IsBelow count) (λ v. t.Var (base + v))) vars
shift_below count base vars h = all_weaker (λ v. base + v < count) (Inside (IsBelow count) (λ v. t.Var (base + v)))
    (λ v lt. subst (AllByRecursion (IsBelow count)) (sym (vars_of-Var (base + v))) (lt, tt)) vars h
