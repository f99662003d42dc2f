-- Values that are ground where they have to be, and ground terms elsewhere.
use Rattle.std.proofs.Common.{ℕ, Bool, true, false, ◌≡◌, List, [], ◌∷◌, map, refl, sym, ap, ◌∙◌}
use Rattle.std.specs.Prelude.{◌&&◌, IsTrue, pos, nat_lt, nat_le, length}
use Rattle.std.specs.List.{AllByRecursion, list_all}
use Rattle.lps_terms.specs.declared.built.Built.{Built}
use Rattle.lps_terms.specs.declared.built.Built.TheVariants as b
use Rattle.lps_terms.specs.declared.cond.Cond.{Cond}
use Rattle.lps_terms.specs.declared.cond.Cond.TheVariants as c
use Rattle.lps_terms.specs.declared.expr.Expr.{Expr}
use Rattle.lps_terms.specs.declared.expr.Expr.TheVariants as e
use Rattle.lps_terms.specs.declared.expr.Expr.TheFolds.{fold-roll-Expr}
use Rattle.lps_terms.specs.declared.op.Op.{Op}
use Rattle.lps_terms.specs.declared.term.Term.{Term}
use Rattle.lps_terms.specs.declared.term.Term.TheVariants as t
use Rattle.lps_terms.specs.Forms.{term_ind}
use Rattle.lps_terms.specs.Names.{is_proper_name}
use Rattle.lps_terms.specs.Put.{put, put-Int, put-Sym, put-App, put-Var}
use Rattle.lps_derivation.specs.Expressions.{put_expr, put_expr-Leaf, put_expr-Apply, expr_ind}
use Rattle.lps_derivation.specs.Ground.{is_ground, is_ground-Int, is_ground-App}
use Rattle.lps_derivation.specs.Instances.{put_built, put_cond}
use Rattle.lps_derivation.proofs.Puts.{ground_stays}
use Rattle.lps_solve.specs.Met.{AreGround, is_ground_expr, ground_expr_step, IsGroundBuilt, IsGroundCond}

pub second_of : (a b : Bool) → (a && b) ≡ true → b ≡ true
second_of true b h = h
second_of false b h = absurd (cc)

pub first_of_two : (a b : Bool) → (a && b) ≡ true → a ≡ true
first_of_two true b h = refl
first_of_two false b h = absurd (cc)

pub ground_leaf : (x : Term) → is_ground_expr (e.Leaf x) ≡ is_ground x
ground_leaf x = ap is_ground_expr (sym (e.rolls-Leaf x)) ∙ fold-roll-Expr Bool ground_expr_step _

pub ground_apply : (op : Op) (x y : Expr) → is_ground_expr (e.Apply op x y) ≡ (is_ground_expr x && is_ground_expr y)
ground_apply op x y = ap is_ground_expr (sym (e.rolls-Apply op x y)) ∙ fold-roll-Expr Bool ground_expr_step _

-- a function is ground where its name is proper and its 1 to 64 arguments are ground
pub ground_app : (n : List ℕ) (ts : List Term) → is_proper_name n ≡ true → nat_lt 0 (length ts) ≡ true → nat_le (length ts) 64 ≡ true → is_ground (t.App n ts) ≡ list_all is_ground ts
ground_app n ts named some few = is_ground-App n ts ∙ (λ i. named i && some i && few i && list_all is_ground ts)

-- ---- ground terms stay

module _ (s : ℕ → Term) where
  pub list_stays : (xs : List Term) → AreGround xs → map (put s) xs ≡ xs
  list_stays [] h = refl
  list_stays (x ∷ xs) h = λ i. ground_stays s x (first_of_two (is_ground x) (list_all is_ground xs) h) i ∷ list_stays xs (second_of (is_ground x) (list_all is_ground xs) h) i

  pub expr_stays : (x : Expr) → is_ground_expr x ≡ true → put_expr s x ≡ x
  expr_stays = expr_ind (λ x. is_ground_expr x ≡ true → put_expr s x ≡ x)
      (λ x h. put_expr-Leaf s x ∙ ap (λ y. e.Leaf y) (ground_stays s x (sym (ground_leaf x) ∙ h)))
      (λ op x y one two h.
      let both : (is_ground_expr x && is_ground_expr y) ≡ true = sym (ground_apply op x y) ∙ h in
      put_expr-Apply s op x y ∙ (λ i. e.Apply op (one (first_of_two (is_ground_expr x) (is_ground_expr y) both) i) (two (second_of (is_ground_expr x) (is_ground_expr y) both) i)))

-- ---- settled values

-- the term where it is ground, and else a ground one
abbrev settle : Bool → Term → Term
settle true x = x
settle false x = t.Int (pos 0)

abbrev pub settled : (ℕ → Term) → ℕ → Term
settled s v = settle (is_ground (s v)) (s v)

settle_ground : (x : Term) (b : Bool) → is_ground x ≡ b → is_ground (settle b x) ≡ true
settle_ground x true e = e
settle_ground x false e = is_ground-Int (pos 0)

pub settled_ground : (s : ℕ → Term) (v : ℕ) → IsTrue (is_ground (settled s v))
settled_ground s v = settle_ground (s v) (is_ground (s v)) refl

module _ (s : ℕ → Term) where
  abbrev Settles : Term → Type 0
  Settles x = is_ground (put s x) ≡ true → put (settled s) x ≡ put s x

  settles_all : (ts : List Term) → AllByRecursion Settles ts → list_all is_ground (map (put s) ts) ≡ true → map (put (settled s)) ts ≡ map (put s) ts
  settles_all [] is h = refl
  settles_all (x ∷ xs) is h = λ i.
      is.0 (first_of_two (is_ground (put s x)) (list_all is_ground (map (put s) xs)) h) i ∷ settles_all xs is.1 (second_of (is_ground (put s x)) (list_all is_ground (map (put s) xs)) h) i

  settles_var : (v : ℕ) → is_ground (s v) ≡ true → settled s v ≡ s v
  settles_var v h = ap (λ b. settle b (s v)) h

  pub settles : (x : Term) → Settles x
  settles = term_ind Settles (λ z h. put-Int (settled s) z ∙ sym (put-Int s z)) (λ n h. put-Sym (settled s) n ∙ sym (put-Sym s n))
      (λ n ts is h.
      put-App (settled s) n ts
      ∙ ap (t.App n) (settles_all ts is (second_of _ (list_all is_ground (map (put s) ts)) (sym (ap is_ground (put-App s n ts) ∙ is_ground-App n (map (put s) ts)) ∙ h)))
      ∙ sym (put-App s n ts))
      (λ v h. put-Var (settled s) v ∙ settles_var v (sym (ap is_ground (put-Var s v)) ∙ h) ∙ sym (put-Var s v))

  every : (ts : List Term) → AllByRecursion Settles ts
  every [] = tt
  every (x ∷ xs) = (settles x, every xs)

  pub settles_list : (ts : List Term) → AreGround (map (put s) ts) → map (put (settled s)) ts ≡ map (put s) ts
  settles_list ts h = settles_all ts (every ts) h

  pub settles_expr : (x : Expr) → is_ground_expr (put_expr s x) ≡ true → put_expr (settled s) x ≡ put_expr s x
  settles_expr = expr_ind (λ x. is_ground_expr (put_expr s x) ≡ true → put_expr (settled s) x ≡ put_expr s x)
      (λ x h.
      put_expr-Leaf (settled s) x ∙ ap (λ y. e.Leaf y) (settles x (sym (ap is_ground_expr (put_expr-Leaf s x) ∙ ground_leaf (put s x)) ∙ h)) ∙ sym (put_expr-Leaf s x))
      (λ op x y one two h.
      let both : (is_ground_expr (put_expr s x) && is_ground_expr (put_expr s y)) ≡ true = sym (ap is_ground_expr (put_expr-Apply s op x y) ∙ ground_apply op (put_expr s x) (put_expr s y)) ∙ h in
      put_expr-Apply (settled s) op x y
      ∙ (λ i. e.Apply op (one (first_of_two (is_ground_expr (put_expr s x)) (is_ground_expr (put_expr s y)) both) i) (two (second_of (is_ground_expr (put_expr s x)) (is_ground_expr (put_expr s y)) both) i))
      ∙ sym (put_expr-Apply s op x y))

  settles_built : (x : Built) → IsGroundBuilt (put_built s x) → put_built (settled s) x ≡ put_built s x
  settles_built (b.Same x y) h = λ i. b.Same (settles x h.0 i) (settles y h.1 i)
  settles_built (b.Differ x y) h = λ i. b.Differ (settles x h.0 i) (settles y h.1 i)
  settles_built (b.Is x y) h = λ i. b.Is (settles x h.0 i) (settles_expr y h.1 i)
  settles_built (b.Compare rel x y) h = λ i. b.Compare rel (settles_expr x h.0 i) (settles_expr y h.1 i)

  pub settles_cond : (x : Cond) → IsGroundCond (put_cond s x) → put_cond (settled s) x ≡ put_cond s x
  settles_cond (c.Lit l) h = λ i. c.Lit (record { negated = l.negated; atom = record { name = l.atom.name; args = settles_list l.atom.args h i } })
  settles_cond (c.Built x) h = ap (λ y. c.Built y) (settles_built x h)
