-- What is put in for the variables that occur decides what comes out, and the other way round.
use Rattle.std.proofs.Common.{ℕ, ℤ, ◌≡◌, List, [], ◌∷◌, ◌++◌, map, refl, sym, ap, subst, ◌∙◌}
use Rattle.std.specs.List.{AllByRecursion, flat_map}
use Rattle.std.proofs.lemmas.Grind.{flat_map-append}
use Rattle.std.proofs.lemmas.List.{map-append}
use Rattle.std.proofs.lemmas.List.Folds.{flat_map-map}
use Rattle.lps_terms.specs.declared.atom.Atom.{Atom}
use Rattle.lps_terms.specs.declared.built.Built.{Built}
use Rattle.lps_terms.specs.declared.built.Built.TheVariants as b
use Rattle.lps_terms.specs.declared.expr.Expr.{Expr}
use Rattle.lps_terms.specs.declared.expr.Expr.TheVariants as e
use Rattle.lps_terms.specs.declared.expr.Expr.TheOpen.{Expr-F}
use Rattle.lps_terms.specs.declared.expr.Expr.TheFolds.{fold-Expr, fold-roll-Expr}
use Rattle.lps_terms.specs.declared.lit.Lit.{Lit}
use Rattle.lps_terms.specs.declared.op.Op.{Op}
use Rattle.lps_terms.specs.declared.term.Term.{Term}
use Rattle.lps_terms.specs.declared.term.Term.TheVariants as t
use Rattle.lps_terms.specs.Forms.{term_ind, fold-Int, fold-Sym, fold-App, fold-Var}
use Rattle.lps_terms.specs.Order.{args_of, args_of-App}
use Rattle.lps_terms.specs.Put.{put, put_atom, put-Int, put-Sym, put-App, put-Var}
use Rattle.lps_model.specs.VariableLists.{term_vars, args_vars, expr_vars, built_vars, vars_step, operands_step}
use Rattle.lps_derivation.specs.Expressions.{put_expr, put_expr-Leaf, put_expr-Apply, expr_ind}
use Rattle.lps_derivation.specs.Instances.{put_lit, put_built}

-- ---- lists

pub all_front : {X : Type 0} (P : X → Type 0) (xs ys : List X) → AllByRecursion P (xs ++ ys) → AllByRecursion P xs
all_front P [] ys h = tt
all_front P (x ∷ xs) ys h = (h.0, all_front P xs ys h.1)

pub all_behind : {X : Type 0} (P : X → Type 0) (xs ys : List X) → AllByRecursion P (xs ++ ys) → AllByRecursion P ys
all_behind P [] ys h = h
all_behind P (x ∷ xs) ys h = all_behind P xs ys h.1

pub all_joined : {X : Type 0} (P : X → Type 0) (xs ys : List X) → AllByRecursion P xs → AllByRecursion P ys → AllByRecursion P (xs ++ ys)
all_joined P [] ys h k = k
all_joined P (x ∷ xs) ys h k = (h.0, all_joined P xs ys h.1 k)

pub all_to : {X : Type 0} (P Q : X → Type 0) → ((x : X) → P x → Q x) → (xs : List X) → AllByRecursion P xs → AllByRecursion Q xs
all_to P Q f [] h = tt
all_to P Q f (x ∷ xs) h = (f x h.0, all_to P Q f xs h.1)

-- ---- variables of forms

pub vars-Int : (z : ℤ) → term_vars (t.Int z) ≡ []
vars-Int = fold-Int (List ℕ) vars_step

pub vars-Sym : (n : List ℕ) → term_vars (t.Sym n) ≡ []
vars-Sym = fold-Sym (List ℕ) vars_step

pub vars-App : (n : List ℕ) (ts : List Term) → term_vars (t.App n ts) ≡ args_vars ts
vars-App n ts = fold-App (List ℕ) vars_step n ts ∙ flat_map-map (λ part. part) term_vars ts

pub vars-Var : (v : ℕ) → term_vars (t.Var v) ≡ v ∷ []
vars-Var = fold-Var (List ℕ) vars_step

expr_vars-Leaf : (x : Term) → expr_vars (e.Leaf x) ≡ term_vars x
expr_vars-Leaf x = ap expr_vars (sym (e.rolls-Leaf x)) ∙ fold-roll-Expr (List ℕ) operands_step _

expr_vars-Apply : (op : Op) (x y : Expr) → expr_vars (e.Apply op x y) ≡ expr_vars x ++ expr_vars y
expr_vars-Apply op x y = ap expr_vars (sym (e.rolls-Apply op x y)) ∙ fold-roll-Expr (List ℕ) operands_step _

-- ---- the same put in gives the same

module _ (s r : ℕ → Term) where
  abbrev pub Agree : List ℕ → Type 0
  Agree vs = AllByRecursion (λ v. s v ≡ r v) vs

  abbrev SamePut : Term → Type 0
  SamePut x = Agree (term_vars x) → put s x ≡ put r x

  all_same_put : (ts : List Term) → AllByRecursion SamePut ts → Agree (args_vars ts) → map (put s) ts ≡ map (put r) ts
  all_same_put [] each h = refl
  all_same_put (x ∷ xs) each h =
      λ i. each.0 (all_front (λ v. s v ≡ r v) (term_vars x) (args_vars xs) h) i ∷ all_same_put xs each.1 (all_behind (λ v. s v ≡ r v) (term_vars x) (args_vars xs) h) i

  pub same_put : (x : Term) → Agree (term_vars x) → put s x ≡ put r x
  same_put = term_ind SamePut (λ z h. put-Int s z ∙ sym (put-Int r z)) (λ n h. put-Sym s n ∙ sym (put-Sym r n))
      (λ n ts each h. put-App s n ts ∙ ap (t.App n) (all_same_put ts each (subst Agree (vars-App n ts) h)) ∙ sym (put-App r n ts))
      (λ v h. put-Var s v ∙ (subst Agree (vars-Var v) h).0 ∙ sym (put-Var r v))

  every_same : (ts : List Term) → AllByRecursion SamePut ts
  every_same [] = tt
  every_same (x ∷ xs) = (same_put x, every_same xs)

  pub same_puts : (ts : List Term) → Agree (args_vars ts) → map (put s) ts ≡ map (put r) ts
  same_puts ts = all_same_put ts (every_same ts)

  pub same_atom : (a : Atom) → Agree (args_vars a.args) → put_atom s a ≡ put_atom r a
  same_atom a h = ap (λ args. record { name = a.name; args = args }) (same_puts a.args h)

  pub same_lit : (lit : Lit) → Agree (args_vars lit.atom.args) → put_lit s lit ≡ put_lit r lit
  same_lit lit h = ap (λ a. record { negated = lit.negated; atom = a }) (same_atom lit.atom h)

  same_expr : (x : Expr) → Agree (expr_vars x) → put_expr s x ≡ put_expr r x
  same_expr = expr_ind (λ x. Agree (expr_vars x) → put_expr s x ≡ put_expr r x)
      (λ x h. put_expr-Leaf s x ∙ ap (λ y. e.Leaf y) (same_put x (subst Agree (expr_vars-Leaf x) h)) ∙ sym (put_expr-Leaf r x))
      (λ op x y one two h.
      let both = subst Agree (expr_vars-Apply op x y) h in
      let left = one (all_front (λ v. s v ≡ r v) (expr_vars x) (expr_vars y) both) in
      let right = two (all_behind (λ v. s v ≡ r v) (expr_vars x) (expr_vars y) both) in
      put_expr-Apply s op x y ∙ (λ i. e.Apply op (left i) (right i)) ∙ sym (put_expr-Apply r op x y))

  pub same_built : (x : Built) → Agree (built_vars x) → put_built s x ≡ put_built r x
  same_built (b.Same x y) h =
      let left = same_put x (all_front (λ v. s v ≡ r v) (term_vars x) (term_vars y) h) in
      let right = same_put y (all_behind (λ v. s v ≡ r v) (term_vars x) (term_vars y) h) in λ i. b.Same (left i) (right i)
  same_built (b.Differ x y) h =
      let left = same_put x (all_front (λ v. s v ≡ r v) (term_vars x) (term_vars y) h) in
      let right = same_put y (all_behind (λ v. s v ≡ r v) (term_vars x) (term_vars y) h) in λ i. b.Differ (left i) (right i)
  same_built (b.Is x y) h =
      let left = same_put x (all_front (λ v. s v ≡ r v) (term_vars x) (expr_vars y) h) in
      let right = same_expr y (all_behind (λ v. s v ≡ r v) (term_vars x) (expr_vars y) h) in λ i. b.Is (left i) (right i)
  same_built (b.Compare rel x y) h =
      let left = same_expr x (all_front (λ v. s v ≡ r v) (expr_vars x) (expr_vars y) h) in
      let right = same_expr y (all_behind (λ v. s v ≡ r v) (expr_vars x) (expr_vars y) h) in λ i. b.Compare rel (left i) (right i)

  -- ---- what gives the same had the same put in

  abbrev SameVars : Term → Type 0
  SameVars x = put s x ≡ put r x → Agree (term_vars x)

  abbrev head_term : List Term → Term
  head_term [] = t.Var 0
  head_term (x ∷ xs) = x

  abbrev tail_terms : List Term → List Term
  tail_terms [] = []
  tail_terms (x ∷ xs) = xs

  all_same_vars : (ts : List Term) → AllByRecursion SameVars ts → map (put s) ts ≡ map (put r) ts → Agree (args_vars ts)
  all_same_vars [] each e = tt
  all_same_vars (x ∷ xs) each e =
      all_joined (λ v. s v ≡ r v) (term_vars x) (args_vars xs) (each.0 (ap head_term e)) (all_same_vars xs each.1 (ap tail_terms e))

  pub same_vars : (x : Term) → put s x ≡ put r x → Agree (term_vars x)
  same_vars = term_ind SameVars (λ z e. subst Agree (sym (vars-Int z)) tt) (λ n e. subst Agree (sym (vars-Sym n)) tt)
      (λ n ts each e. subst Agree (sym (vars-App n ts)) (all_same_vars ts each
      (sym (args_of-App n (map (put s) ts)) ∙ ap args_of (sym (put-App s n ts) ∙ e ∙ put-App r n ts) ∙ args_of-App n (map (put r) ts))))
      (λ v e. subst Agree (sym (vars-Var v)) (sym (put-Var s v) ∙ e ∙ put-Var r v, tt))

  every_vars : (ts : List Term) → AllByRecursion SameVars ts
  every_vars [] = tt
  every_vars (x ∷ xs) = (same_vars x, every_vars xs)

  pub same_args : (ts : List Term) → map (put s) ts ≡ map (put r) ts → Agree (args_vars ts)
  same_args ts = all_same_vars ts (every_vars ts)

-- ---- the variables of what comes out

module _ (s : ℕ → Term) where
  abbrev PutVars : Term → Type 0
  PutVars x = term_vars (put s x) ≡ flat_map (λ v. term_vars (s v)) (term_vars x)

  all_put_vars : (ts : List Term) → AllByRecursion PutVars ts → args_vars (map (put s) ts) ≡ flat_map (λ v. term_vars (s v)) (args_vars ts)
  all_put_vars [] each = refl
  all_put_vars (x ∷ xs) each =
      (λ i. each.0 i ++ all_put_vars xs each.1 i) ∙ sym (flat_map-append (λ v. term_vars (s v)) (term_vars x) (args_vars xs))

  pub put_vars : (x : Term) → PutVars x
  put_vars = term_ind PutVars
      (λ z. ap term_vars (put-Int s z) ∙ vars-Int z ∙ sym (ap (flat_map (λ v. term_vars (s v))) (vars-Int z)))
      (λ n. ap term_vars (put-Sym s n) ∙ vars-Sym n ∙ sym (ap (flat_map (λ v. term_vars (s v))) (vars-Sym n)))
      (λ n ts each. ap term_vars (put-App s n ts) ∙ vars-App n (map (put s) ts) ∙ all_put_vars ts each ∙ sym (ap (flat_map (λ v. term_vars (s v))) (vars-App n ts)))
      (λ v. ap term_vars (put-Var s v) ∙ sym (ap (flat_map (λ w. term_vars (s w))) (vars-Var v) ∙ one (term_vars (s v))))
    where
      one : (vs : List ℕ) → vs ++ [] ≡ vs
      one [] = refl
      one (v ∷ vs) = ap (λ ws. v ∷ ws) (one vs)

  every_put : (ts : List Term) → AllByRecursion PutVars ts
  every_put [] = tt
  every_put (x ∷ xs) = (put_vars x, every_put xs)

  pub args_put_vars : (ts : List Term) → args_vars (map (put s) ts) ≡ flat_map (λ v. term_vars (s v)) (args_vars ts)
  args_put_vars ts = all_put_vars ts (every_put ts)

-- ---- the terms of built-ins

abbrev leaves_step : Expr-F (List Term) → List Term
leaves_step (Expr-F.Leaf x) = x ∷ []
leaves_step (Expr-F.Apply op x y) = x ++ y

abbrev leaves : Expr → List Term
leaves = fold-Expr (List Term) leaves_step

leaves-Leaf : (x : Term) → leaves (e.Leaf x) ≡ x ∷ []
leaves-Leaf x = ap leaves (sym (e.rolls-Leaf x)) ∙ fold-roll-Expr (List Term) leaves_step _

leaves-Apply : (op : Op) (x y : Expr) → leaves (e.Apply op x y) ≡ leaves x ++ leaves y
leaves-Apply op x y = ap leaves (sym (e.rolls-Apply op x y)) ∙ fold-roll-Expr (List Term) leaves_step _

leaves_put : (s : ℕ → Term) (x : Expr) → leaves (put_expr s x) ≡ map (put s) (leaves x)
leaves_put s = expr_ind (λ x. leaves (put_expr s x) ≡ map (put s) (leaves x))
    (λ x. ap leaves (put_expr-Leaf s x) ∙ leaves-Leaf (put s x) ∙ sym (ap (map (put s)) (leaves-Leaf x)))
    (λ op x y one two. ap leaves (put_expr-Apply s op x y) ∙ leaves-Apply op (put_expr s x) (put_expr s y) ∙ (λ i. one i ++ two i)
    ∙ sym (map-append (put s) (leaves x) (leaves y)) ∙ sym (ap (map (put s)) (leaves-Apply op x y)))

args_append : (xs ys : List Term) → args_vars (xs ++ ys) ≡ args_vars xs ++ args_vars ys
args_append xs ys = flat_map-append term_vars xs ys

append_nil : (vs : List ℕ) → vs ++ [] ≡ vs
append_nil [] = refl
append_nil (v ∷ vs) = ap (λ ws. v ∷ ws) (append_nil vs)

leaves_vars : (x : Expr) → expr_vars x ≡ args_vars (leaves x)
leaves_vars = expr_ind (λ x. expr_vars x ≡ args_vars (leaves x))
    (λ x. expr_vars-Leaf x ∙ sym (append_nil (term_vars x)) ∙ sym (ap args_vars (leaves-Leaf x)))
    (λ op x y one two. expr_vars-Apply op x y ∙ (λ i. one i ++ two i) ∙ sym (args_append (leaves x) (leaves y)) ∙ sym (ap args_vars (leaves-Apply op x y)))

-- the terms of a built-in from the left
abbrev pub built_terms : Built → List Term
built_terms (b.Same x y) = x ∷ y ∷ []
built_terms (b.Differ x y) = x ∷ y ∷ []
built_terms (b.Is x y) = x ∷ leaves y
built_terms (b.Compare rel x y) = leaves x ++ leaves y

pub built_terms_put : (s : ℕ → Term) (x : Built) → built_terms (put_built s x) ≡ map (put s) (built_terms x)
built_terms_put s (b.Same x y) = refl
built_terms_put s (b.Differ x y) = refl
built_terms_put s (b.Is x y) = ap (λ ts. put s x ∷ ts) (leaves_put s y)
built_terms_put s (b.Compare rel x y) = (λ i. leaves_put s x i ++ leaves_put s y i) ∙ sym (map-append (put s) (leaves x) (leaves y))

pub built_terms_vars : (x : Built) → built_vars x ≡ args_vars (built_terms x)
built_terms_vars (b.Same x y) = ap (λ vs. term_vars x ++ vs) (sym (append_nil (term_vars y)))
built_terms_vars (b.Differ x y) = ap (λ vs. term_vars x ++ vs) (sym (append_nil (term_vars y)))
built_terms_vars (b.Is x y) = ap (λ vs. term_vars x ++ vs) (leaves_vars y)
built_terms_vars (b.Compare rel x y) = (λ i. leaves_vars x i ++ leaves_vars y i) ∙ sym (args_append (leaves x) (leaves y))
