-- The variables of conditions: what is put in for them decides the conditions, is ground where these are, and is no larger.
use Rattle.std.proofs.Common.{ℕ, true, ◌≡◌, ◌≤◌, ◌<◌, List, [], ◌∷◌, map, refl, sym, ap, subst, ◌∙◌, arith}
use Rattle.std.specs.Prelude.{IsTrue, ◌&&◌}
use Rattle.std.specs.BTreeSet.{insert_key}
use Rattle.std.specs.declared.cmp.Ordering.{Ordering}
use Rattle.std.specs.declared.cmp.Ordering.TheVariants.{Less, Equal, Greater}
use Rattle.std.specs.FinMap.{nat_cmp-IsAntisymmetric}
use Rattle.std.specs.Ordering.{nat_cmp}
use Rattle.std.specs.List.{AllByRecursion, list_all}
use Rattle.lps_terms.specs.declared.built.Built.{Built}
use Rattle.lps_terms.specs.declared.built.Built.TheVariants as b
use Rattle.lps_terms.specs.declared.cond.Cond.{Cond}
use Rattle.lps_terms.specs.declared.cond.Cond.TheVariants as c
use Rattle.lps_terms.specs.declared.expr.Expr.{Expr}
use Rattle.lps_terms.specs.declared.term.Term.{Term}
use Rattle.lps_terms.specs.Forms.{term_ind}
use Rattle.lps_terms.specs.Put.{put, put-App, put-Var}
use Rattle.lps_terms.specs.Symbols.{symbols_of, symbols_of_all, symbols_of_all-cons, symbols_of-App}
use Rattle.lps_model.specs.VariableLists.{args_vars, built_vars, cond_vars, expr_vars, term_vars}
use Rattle.lps_derivation.specs.Expressions.{put_expr, put_expr-Leaf, put_expr-Apply, expr_ind, expr_symbols_of, expr_symbols_of-Leaf, expr_symbols_of-Apply}
use Rattle.lps_derivation.specs.Ground.{is_ground, is_ground-App}
use Rattle.lps_derivation.specs.Instances.{IsSmallBuilt, IsSmallCond, put_built, put_cond}
use Rattle.lps_meaning.proofs.Occurrences.{Agree, same_built, same_lit}
use Rattle.lps_solve.specs.Answers.{with_vars}
use Rattle.lps_solve.specs.Met.{IsGroundBuilt, IsGroundCond, is_ground_expr}
use Rattle.lps_solve.proofs.Grounds.{first_of_two, ground_apply, ground_leaf, second_of}
use Rattle.lps_solve.proofs.Vars.{all_append, all_weaker, vars_of-App, vars_of-Apply, vars_of-Int, vars_of-Leaf, vars_of-Sym, vars_of-Var}

-- ---- the same put in gives the same

pub same_cond : (s r : ℕ → Term) (k : Cond) → Agree s r (cond_vars k) → put_cond s k ≡ put_cond r k
same_cond s r (c.Lit lit) h = ap (λ l. c.Lit l) (same_lit s r lit h)
same_cond s r (c.Built built) h = ap (λ x. c.Built x) (same_built s r built h)

-- ---- what is put in is ground where what comes out is

module _ (s : ℕ → Term) where
  abbrev pub HasGround : ℕ → Type 0
  HasGround v = IsTrue (is_ground (s v))

  abbrev IsGroundIn : Term → Type 0
  IsGroundIn x = is_ground (put s x) ≡ true → AllByRecursion HasGround (term_vars x)

  ground_in_all : (ts : List Term) → AllByRecursion IsGroundIn ts → list_all is_ground (map (put s) ts) ≡ true → AllByRecursion HasGround (args_vars ts)
  ground_in_all [] each h = tt
  ground_in_all (x ∷ xs) each h =
      all_append HasGround (term_vars x) (args_vars xs) (each.0 (first_of_two (is_ground (put s x)) (list_all is_ground (map (put s) xs)) h))
      (ground_in_all xs each.1 (second_of (is_ground (put s x)) (list_all is_ground (map (put s) xs)) h))

  ground_in : (x : Term) → IsGroundIn x
  ground_in = term_ind IsGroundIn (λ z h. subst (AllByRecursion HasGround) (sym (vars_of-Int z)) tt) (λ n h. subst (AllByRecursion HasGround) (sym (vars_of-Sym n)) tt)
      (λ n ts each h.
      subst (AllByRecursion HasGround) (sym (vars_of-App n ts))
      (ground_in_all ts each (second_of _ (list_all is_ground (map (put s) ts)) (sym (ap is_ground (put-App s n ts) ∙ is_ground-App n (map (put s) ts)) ∙ h))))
      (λ v h. subst (AllByRecursion HasGround) (sym (vars_of-Var v)) (sym (ap is_ground (put-Var s v)) ∙ h, tt))

  every_ground_in : (ts : List Term) → AllByRecursion IsGroundIn ts
  every_ground_in [] = tt
  every_ground_in (x ∷ xs) = (ground_in x, every_ground_in xs)

  ground_in_expr : (x : Expr) → is_ground_expr (put_expr s x) ≡ true → AllByRecursion HasGround (expr_vars x)
  ground_in_expr = expr_ind (λ x. is_ground_expr (put_expr s x) ≡ true → AllByRecursion HasGround (expr_vars x))
      (λ x h. subst (AllByRecursion HasGround) (sym (vars_of-Leaf x)) (ground_in x (sym (ap is_ground_expr (put_expr-Leaf s x) ∙ ground_leaf (put s x)) ∙ h)))
      (λ op x y one two h.
      let both : (is_ground_expr (put_expr s x) && is_ground_expr (put_expr s y)) ≡ true = sym (ap is_ground_expr (put_expr-Apply s op x y) ∙ ground_apply op (put_expr s x) (put_expr s y)) ∙ h in
      subst (AllByRecursion HasGround) (sym (vars_of-Apply op x y))
      (all_append HasGround (expr_vars x) (expr_vars y) (one (first_of_two (is_ground_expr (put_expr s x)) (is_ground_expr (put_expr s y)) both))
      (two (second_of (is_ground_expr (put_expr s x)) (is_ground_expr (put_expr s y)) both))))

  ground_in_built : (x : Built) → IsGroundBuilt (put_built s x) → AllByRecursion HasGround (built_vars x)
  ground_in_built (b.Same x y) h = all_append HasGround (term_vars x) (term_vars y) (ground_in x h.0) (ground_in y h.1)
  ground_in_built (b.Differ x y) h = all_append HasGround (term_vars x) (term_vars y) (ground_in x h.0) (ground_in y h.1)
  ground_in_built (b.Is x y) h = all_append HasGround (term_vars x) (expr_vars y) (ground_in x h.0) (ground_in_expr y h.1)
  ground_in_built (b.Compare rel x y) h = all_append HasGround (expr_vars x) (expr_vars y) (ground_in_expr x h.0) (ground_in_expr y h.1)

  pub ground_in_cond : (k : Cond) → IsGroundCond (put_cond s k) → AllByRecursion HasGround (cond_vars k)
  ground_in_cond (c.Lit l) h = ground_in_all l.atom.args (every_ground_in l.atom.args) h
  ground_in_cond (c.Built x) h = ground_in_built x h

-- ---- what is put in is no larger than what comes out

module _ (s : ℕ → Term) (most : ℕ) where
  abbrev Fits : ℕ → Type 0
  Fits v = symbols_of (s v) ≤ most

  abbrev AreNoLarger : Term → Type 0
  AreNoLarger x = symbols_of (put s x) ≤ most → AllByRecursion Fits (term_vars x)

  fits_all : (ts : List Term) → AllByRecursion AreNoLarger ts → symbols_of_all (map (put s) ts) ≤ most → AllByRecursion Fits (args_vars ts)
  fits_all [] each h = tt
  fits_all (x ∷ xs) each h =
      all_append Fits (term_vars x) (args_vars xs) (each.0 (omega (arith, h, symbols_of_all-cons (put s x) (map (put s) xs))))
      (fits_all xs each.1 (omega (arith, h, symbols_of_all-cons (put s x) (map (put s) xs))))

  fits : (x : Term) → AreNoLarger x
  fits = term_ind AreNoLarger (λ z h. subst (AllByRecursion Fits) (sym (vars_of-Int z)) tt) (λ n h. subst (AllByRecursion Fits) (sym (vars_of-Sym n)) tt)
      (λ n ts each h.
      let size = ap symbols_of (put-App s n ts) in
      subst (AllByRecursion Fits) (sym (vars_of-App n ts)) (fits_all ts each (omega (arith, h, size, symbols_of-App n (map (put s) ts)))))
      (λ v h. subst (AllByRecursion Fits) (sym (vars_of-Var v)) (subst (λ y. symbols_of y ≤ most) (put-Var s v) h, tt))

  every_fits : (ts : List Term) → AllByRecursion AreNoLarger ts
  every_fits [] = tt
  every_fits (x ∷ xs) = (fits x, every_fits xs)

  fits_expr : (x : Expr) → expr_symbols_of (put_expr s x) ≤ most → AllByRecursion Fits (expr_vars x)
  fits_expr = expr_ind (λ x. expr_symbols_of (put_expr s x) ≤ most → AllByRecursion Fits (expr_vars x))
      (λ x h. let size = ap expr_symbols_of (put_expr-Leaf s x) in
      subst (AllByRecursion Fits) (sym (vars_of-Leaf x)) (fits x (omega (arith, h, size, expr_symbols_of-Leaf (put s x)))))
      (λ op x y one two h.
      let size = ap expr_symbols_of (put_expr-Apply s op x y) in
      subst (AllByRecursion Fits) (sym (vars_of-Apply op x y))
      (all_append Fits (expr_vars x) (expr_vars y) (one (omega (arith, h, size, expr_symbols_of-Apply op (put_expr s x) (put_expr s y))))
      (two (omega (arith, h, size, expr_symbols_of-Apply op (put_expr s x) (put_expr s y))))))

fits_built : (s : ℕ → Term) (x : Built) → IsSmallBuilt (put_built s x) → AllByRecursion (Fits s 1024) (built_vars x)
fits_built s (b.Same x y) h = all_append (Fits s 1024) (term_vars x) (term_vars y) (fits s 1024 x h.0) (fits s 1024 y h.1)
fits_built s (b.Differ x y) h = all_append (Fits s 1024) (term_vars x) (term_vars y) (fits s 1024 x h.0) (fits s 1024 y h.1)
fits_built s (b.Is x y) h = all_append (Fits s 1024) (term_vars x) (expr_vars y) (fits s 1024 x h.0) (fits_expr s 1024 y h.1)
fits_built s (b.Compare rel x y) h = all_append (Fits s 1024) (expr_vars x) (expr_vars y) (fits_expr s 1024 x h.0) (fits_expr s 1024 y h.1)

pub fits_cond : (s : ℕ → Term) (k : Cond) → IsSmallCond (put_cond s k) → AllByRecursion (λ v. symbols_of (s v) ≤ 1024) (cond_vars k)
fits_cond s (c.Lit l) h = fits_all s 1024 l.atom.args (every_fits s 1024 l.atom.args) (omega (arith, h))
fits_cond s (c.Built x) h = fits_built s x h

-- ---- variables in order

-- variables below a number are below a larger one
pub below_more : (n m : ℕ) (vars : List ℕ) → n ≤ m → AllByRecursion (λ v. v < n) vars → AllByRecursion (λ v. v < m) vars
below_more n m vars le h = all_weaker (λ v. v < n) (λ v. v < m) (λ v lt. omega (arith, lt, le)) vars h

module _ (P : ℕ → Type 0) where
  put_in_by : (known : List ℕ) (v w : ℕ) (o : Ordering) → nat_cmp v w ≡ o → P w → P v → AllByRecursion P known → AllByRecursion P (insert_key nat_cmp known v) →
      AllByRecursion P (insert_key nat_cmp (w ∷ known) v)
  put_in_by known v w Less is one new all rest = rw is (new, (one, all))
  put_in_by known v w Equal is one new all rest = rw is (one, all)
  put_in_by known v w Greater is one new all rest = rw is (one, rest)

  put_in : (known : List ℕ) (v : ℕ) → P v → AllByRecursion P known → AllByRecursion P (insert_key nat_cmp known v)
  put_in [] v new all = (new, tt)
  put_in (w ∷ known) v new all = put_in_by known v w (nat_cmp v w) refl all.0 new all.1 (put_in known v new all.1)

  -- what holds of some variables and of others holds of both in order
  pub with_all : (known vars : List ℕ) → AllByRecursion P known → AllByRecursion P vars → AllByRecursion P (with_vars known vars)
  with_all known [] all more = all
  with_all known (v ∷ vars) all more = with_all (insert_key nat_cmp known v) vars (put_in known v more.0 all) more.1

  -- what holds of some variables holds of them in order
  pub all_in_order : (vars : List ℕ) → AllByRecursion P vars → AllByRecursion P (with_vars [] vars)
  all_in_order vars all = with_all [] vars tt all

  taken_by : (known : List ℕ) (v w : ℕ) (o : Ordering) → nat_cmp v w ≡ o → (nat_cmp v w ≡ Equal → v ≡ w) → AllByRecursion P (insert_key nat_cmp (w ∷ known) v) →
      (AllByRecursion P (insert_key nat_cmp known v) → P v × AllByRecursion P known) → P v × AllByRecursion P (w ∷ known)
  taken_by known v w Less is ties all rest = let these : AllByRecursion P (v ∷ w ∷ known) = rw is at all in (these.0, these.1)
  taken_by known v w Equal is ties all rest = let these : AllByRecursion P (w ∷ known) = rw is at all in (subst P (sym (ties is)) these.0, these)
  taken_by known v w Greater is ties all rest =
      let these : AllByRecursion P (w ∷ insert_key nat_cmp known v) = rw is at all in let both = rest these.1 in (both.0, (these.0, both.1))

  taken : (known : List ℕ) (v : ℕ) → AllByRecursion P (insert_key nat_cmp known v) → P v × AllByRecursion P known
  taken [] v all = (all.0, tt)
  taken (w ∷ known) v all = taken_by known v w (nat_cmp v w) refl (nat_cmp-IsAntisymmetric v w) all (taken known v)

  -- and the other way round
  pub without : (known vars : List ℕ) → AllByRecursion P (with_vars known vars) → AllByRecursion P known × AllByRecursion P vars
  without known [] all = (all, tt)
  without known (v ∷ vars) all =
      let later = without (insert_key nat_cmp known v) vars all in
      let both = taken known v later.0 in
      (both.1, (both.0, later.1))

  -- what holds of the variables in order holds of them
  pub all_as_written : (vars : List ℕ) → AllByRecursion P (with_vars [] vars) → AllByRecursion P vars
  all_as_written vars all = (without [] vars all).1

-- values that make up one row agree
pub agree_in : (s r : ℕ → Term) (vars : List ℕ) → map s vars ≡ map r vars → Agree s r vars
agree_in s r [] same = tt
agree_in s r (v ∷ vars) same = (ap first same, agree_in s r vars (ap rest same))
  where
    first : List Term → Term
    first [] = s v
    first (x ∷ xs) = x

    rest : List Term → List Term
    rest [] = []
    rest (x ∷ xs) = xs

pub row_of_agreeing : (s r : ℕ → Term) (vars : List ℕ) → Agree s r vars → map s vars ≡ map r vars
row_of_agreeing s r [] same = refl
row_of_agreeing s r (v ∷ vars) same = λ i. same.0 i ∷ row_of_agreeing s r vars same.1 i
