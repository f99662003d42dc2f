-- Terms without variables, and what is put in for the variables of terms.
use Rattle.std.proofs.Common.{ℕ, true, ◌≡◌, List, [], ◌∷◌, ◌++◌, map, refl, sym, ap, ◌∙◌, subst}
use Rattle.std.specs.Prelude.{◌&&◌}
use Rattle.std.specs.List.{AllByRecursion}
use Rattle.lps_terms.specs.declared.built.Built.{Built}
use Rattle.lps_terms.specs.declared.built.Built.TheVariants as b
use Rattle.lps_terms.specs.declared.cond.Cond.{Cond}
use Rattle.lps_terms.specs.declared.cond.Cond.TheVariants as c
use Rattle.lps_terms.specs.declared.expr.Expr.{Expr}
use Rattle.lps_terms.specs.declared.expr.Expr.TheVariants as e
use Rattle.lps_terms.specs.declared.term.Term.{Term}
use Rattle.lps_terms.specs.declared.term.Term.TheVariants as t
use Rattle.lps_terms.specs.Forms.{term_ind}
use Rattle.lps_terms.specs.Put.{put, put-Int, put-Sym, put-App, put-Var}
use Rattle.lps_model.specs.VariableLists.{args_vars, built_vars, cond_vars, expr_vars, term_vars}
use Rattle.lps_derivation.specs.Expressions.{put_expr, put_expr-Leaf, put_expr-Apply, expr_ind}
use Rattle.lps_derivation.specs.Ground.{is_ground}
use Rattle.lps_derivation.specs.Instances.{put_built, put_cond}
use Rattle.lps_solve.specs.Met.{is_ground_expr, IsGroundBuilt, IsGroundCond}
use Rattle.lps_solve.specs.Moded.{IsClosed}
use Rattle.lps_solve.proofs.Grounds.{first_of_two, second_of, ground_leaf, ground_apply}
use Rattle.lps_solve.proofs.Vars.{all_append, all_first, all_second, all_weaker, no_vars, no_vars_list, put_vars, put_args_vars, put_expr_vars, vars_of-Int, vars_of-Sym, vars_of-App, vars_of-Var, vars_of-Leaf, vars_of-Apply}

-- ---- lists without elements

abbrev Never : ℕ → Type 0
Never v = ⊥

none_of : (vs : List ℕ) → AllByRecursion Never vs → vs ≡ []
none_of [] h = refl
none_of (v ∷ vs) h = absurd (h.0)

of_none : (vs : List ℕ) → vs ≡ [] → AllByRecursion Never vs
of_none vs none = subst (AllByRecursion Never) (sym none) tt

pub no_left : (xs ys : List ℕ) → (xs ++ ys) ≡ [] → xs ≡ []
no_left xs ys none = none_of xs (all_first Never xs ys (of_none (xs ++ ys) none))

pub no_right : (xs ys : List ℕ) → (xs ++ ys) ≡ [] → ys ≡ []
no_right xs ys none = none_of ys (all_second Never xs ys (of_none (xs ++ ys) none))

-- ---- closed values make closed terms

module _ (s : ℕ → Term) where
  abbrev pub IsClosedAt : ℕ → Type 0
  IsClosedAt v = IsClosed (s v)

  each_closed : (vs : List ℕ) → AllByRecursion IsClosedAt vs → AllByRecursion (λ v. AllByRecursion Never (term_vars (s v))) vs
  each_closed = all_weaker IsClosedAt (λ v. AllByRecursion Never (term_vars (s v))) (λ v none. of_none (term_vars (s v)) none)

  pub closed_put : (x : Term) → AllByRecursion IsClosedAt (term_vars x) → IsClosed (put s x)
  closed_put x h = none_of (term_vars (put s x)) (put_vars Never s x (each_closed (term_vars x) h))

  pub closed_put_args : (xs : List Term) → AllByRecursion IsClosedAt (args_vars xs) → args_vars (map (put s) xs) ≡ []
  closed_put_args xs h = none_of (args_vars (map (put s) xs)) (put_args_vars Never s xs (each_closed (args_vars xs) h))

  pub closed_put_expr : (x : Expr) → AllByRecursion IsClosedAt (expr_vars x) → expr_vars (put_expr s x) ≡ []
  closed_put_expr x h = none_of (expr_vars (put_expr s x)) (put_expr_vars Never s x (each_closed (expr_vars x) h))

  -- ---- closed terms come of closed values

  abbrev Comes : Term → Type 0
  Comes x = IsClosed (put s x) → AllByRecursion IsClosedAt (term_vars x)

  all_come : (ts : List Term) → AllByRecursion Comes ts → args_vars (map (put s) ts) ≡ [] → AllByRecursion IsClosedAt (args_vars ts)
  all_come [] is none = tt
  all_come (x ∷ xs) is none =
      all_append IsClosedAt (term_vars x) (args_vars xs) (is.0 (no_left (term_vars (put s x)) (args_vars (map (put s) xs)) none))
      (all_come xs is.1 (no_right (term_vars (put s x)) (args_vars (map (put s) xs)) none))

  pub put_closed : (x : Term) → Comes x
  put_closed = term_ind Comes
      (λ z none. subst (AllByRecursion IsClosedAt) (sym (vars_of-Int z)) tt)
      (λ n none. subst (AllByRecursion IsClosedAt) (sym (vars_of-Sym n)) tt)
      (λ n ts is none.
      subst (AllByRecursion IsClosedAt) (sym (vars_of-App n ts)) (all_come ts is (sym (ap term_vars (put-App s n ts) ∙ vars_of-App n (map (put s) ts)) ∙ none)))
      (λ v none. subst (AllByRecursion IsClosedAt) (sym (vars_of-Var v)) (sym (ap term_vars (put-Var s v)) ∙ none, tt))

  every : (ts : List Term) → AllByRecursion Comes ts
  every [] = tt
  every (x ∷ xs) = (put_closed x, every xs)

  pub put_args_closed : (ts : List Term) → args_vars (map (put s) ts) ≡ [] → AllByRecursion IsClosedAt (args_vars ts)
  put_args_closed ts none = all_come ts (every ts) none

  pub put_expr_closed : (x : Expr) → expr_vars (put_expr s x) ≡ [] → AllByRecursion IsClosedAt (expr_vars x)
  put_expr_closed = expr_ind (λ x. expr_vars (put_expr s x) ≡ [] → AllByRecursion IsClosedAt (expr_vars x))
      (λ x none. subst (AllByRecursion IsClosedAt) (sym (vars_of-Leaf x)) (put_closed x (sym (ap expr_vars (put_expr-Leaf s x) ∙ vars_of-Leaf (put s x)) ∙ none)))
      (λ op x y one two none.
      let both : (expr_vars (put_expr s x) ++ expr_vars (put_expr s y)) ≡ [] = sym (ap expr_vars (put_expr-Apply s op x y) ∙ vars_of-Apply op (put_expr s x) (put_expr s y)) ∙ none in
      subst (AllByRecursion IsClosedAt) (sym (vars_of-Apply op x y))
      (all_append IsClosedAt (expr_vars x) (expr_vars y) (one (no_left (expr_vars (put_expr s x)) (expr_vars (put_expr s y)) both)) (two (no_right (expr_vars (put_expr s x)) (expr_vars (put_expr s y)) both))))

  -- ---- closed terms stay

  abbrev Stays : Term → Type 0
  Stays x = IsClosed x → put s x ≡ x

  all_stay : (ts : List Term) → AllByRecursion Stays ts → args_vars ts ≡ [] → map (put s) ts ≡ ts
  all_stay [] is none = refl
  all_stay (x ∷ xs) is none = λ i. is.0 (no_left (term_vars x) (args_vars xs) none) i ∷ all_stay xs is.1 (no_right (term_vars x) (args_vars xs) none) i

  pub closed_stays : (x : Term) → Stays x
  closed_stays = term_ind Stays (λ z none. put-Int s z) (λ n none. put-Sym s n)
      (λ n ts is none. put-App s n ts ∙ ap (t.App n) (all_stay ts is (sym (vars_of-App n ts) ∙ none)))
      (λ v none. absurd (let one : (v ∷ []) ≡ [] = sym (vars_of-Var v) ∙ none in cc))

  every_stays : (ts : List Term) → AllByRecursion Stays ts
  every_stays [] = tt
  every_stays (x ∷ xs) = (closed_stays x, every_stays xs)

  pub closed_args_stay : (ts : List Term) → args_vars ts ≡ [] → map (put s) ts ≡ ts
  closed_args_stay ts none = all_stay ts (every_stays ts) none

  pub closed_expr_stays : (x : Expr) → expr_vars x ≡ [] → put_expr s x ≡ x
  closed_expr_stays = expr_ind (λ x. expr_vars x ≡ [] → put_expr s x ≡ x)
      (λ x none. put_expr-Leaf s x ∙ ap (λ y. e.Leaf y) (closed_stays x (sym (vars_of-Leaf x) ∙ none)))
      (λ op x y one two none.
      let both : (expr_vars x ++ expr_vars y) ≡ [] = sym (vars_of-Apply op x y) ∙ none in
      put_expr-Apply s op x y ∙ (λ i. e.Apply op (one (no_left (expr_vars x) (expr_vars y) both) i) (two (no_right (expr_vars x) (expr_vars y) both) i)))

-- ---- ground is closed

pub ground_expr_closed : (x : Expr) → is_ground_expr x ≡ true → expr_vars x ≡ []
ground_expr_closed = expr_ind (λ x. is_ground_expr x ≡ true → expr_vars x ≡ [])
    (λ x h. vars_of-Leaf x ∙ no_vars x (sym (ground_leaf x) ∙ h))
    (λ op x y one two h.
    let both : (is_ground_expr x && is_ground_expr y) ≡ true = sym (ground_apply op x y) ∙ h in
    vars_of-Apply op x y ∙ (λ i. one (first_of_two (is_ground_expr x) (is_ground_expr y) both) i ++ two (second_of (is_ground_expr x) (is_ground_expr y) both) i))

module _ (s : ℕ → Term) where
  two_come : (xs ys : List ℕ) → AllByRecursion (IsClosedAt s) xs → AllByRecursion (IsClosedAt s) ys → AllByRecursion (IsClosedAt s) (xs ++ ys)
  two_come xs ys = all_append (IsClosedAt s) xs ys

  term_comes : (x : Term) → is_ground (put s x) ≡ true → AllByRecursion (IsClosedAt s) (term_vars x)
  term_comes x h = put_closed s x (no_vars (put s x) h)

  expr_comes : (x : Expr) → is_ground_expr (put_expr s x) ≡ true → AllByRecursion (IsClosedAt s) (expr_vars x)
  expr_comes x h = put_expr_closed s x (ground_expr_closed (put_expr s x) h)

  built_comes : (x : Built) → IsGroundBuilt (put_built s x) → AllByRecursion (IsClosedAt s) (built_vars x)
  built_comes (b.Same x y) h = two_come (term_vars x) (term_vars y) (term_comes x h.0) (term_comes y h.1)
  built_comes (b.Differ x y) h = two_come (term_vars x) (term_vars y) (term_comes x h.0) (term_comes y h.1)
  built_comes (b.Is x y) h = two_come (term_vars x) (expr_vars y) (term_comes x h.0) (expr_comes y h.1)
  built_comes (b.Compare rel x y) h = two_come (expr_vars x) (expr_vars y) (expr_comes x h.0) (expr_comes y h.1)

  -- where a condition is ground, what stands for its variables is closed
  pub cond_comes : (x : Cond) → IsGroundCond (put_cond s x) → AllByRecursion (IsClosedAt s) (cond_vars x)
  cond_comes (c.Lit l) h = put_args_closed s l.atom.args (no_vars_list (map (put s) l.atom.args) h)
  cond_comes (c.Built x) h = built_comes x h
