-- Substitutions of clauses one after the other are one, and ground terms stay as they are.
use Rattle.std.proofs.Common.{◌≡◌, ℕ, Bool, true, false, List, [], ◌∷◌, map, refl, sym, ap, ◌∙◌}
use Rattle.std.specs.Prelude.{IsTrue, ◌&&◌}
use Rattle.std.specs.List.{AllByRecursion, list_all}
use Rattle.lps_terms.specs.declared.built.Built.{Built}
use Rattle.lps_terms.specs.declared.built.Built.TheVariants as b
use Rattle.lps_terms.specs.declared.cond.Cond.{Cond}
use Rattle.lps_terms.specs.declared.cond.Cond.TheVariants as c
use Rattle.lps_terms.specs.declared.expr.Expr.{Expr}
use Rattle.lps_terms.specs.declared.expr.Expr.TheVariants as e
use Rattle.lps_terms.specs.declared.term.Term.{Term}
use Rattle.lps_terms.specs.declared.term.Term.TheVariants as t
use Rattle.lps_terms.specs.Forms.{term_ind}
use Rattle.lps_terms.specs.Put.{put, after, put-Int, put-Sym, put-App, put-put, put_atom-put_atom}
use Rattle.lps_derivation.specs.Expressions.{put_expr, put_expr-Leaf, put_expr-Apply, expr_ind}
use Rattle.lps_derivation.specs.Ground.{is_ground, is_ground-App, is_ground-Var}
use Rattle.lps_derivation.specs.Instances.{put_built, put_cond}

module _ (s r : ℕ → Term) where
  pub put_expr-put_expr : (x : Expr) → put_expr s (put_expr r x) ≡ put_expr (after s r) x
  put_expr-put_expr = expr_ind (λ x. put_expr s (put_expr r x) ≡ put_expr (after s r) x)
      (λ x. ap (put_expr s) (put_expr-Leaf r x) ∙ put_expr-Leaf s (put r x) ∙ ap (λ y. e.Leaf y) (put-put s r x) ∙ sym (put_expr-Leaf (after s r) x))
      (λ op x y one two.
      ap (put_expr s) (put_expr-Apply r op x y) ∙ put_expr-Apply s op (put_expr r x) (put_expr r y) ∙ (λ i. e.Apply op (one i) (two i))
      ∙ sym (put_expr-Apply (after s r) op x y))

  pub put_built-put_built : (x : Built) → put_built s (put_built r x) ≡ put_built (after s r) x
  put_built-put_built (b.Same x y) = λ i. b.Same (put-put s r x i) (put-put s r y i)
  put_built-put_built (b.Differ x y) = λ i. b.Differ (put-put s r x i) (put-put s r y i)
  put_built-put_built (b.Is x sum) = λ i. b.Is (put-put s r x i) (put_expr-put_expr sum i)
  put_built-put_built (b.Compare rel x y) = λ i. b.Compare rel (put_expr-put_expr x i) (put_expr-put_expr y i)

  pub put_cond-put_cond : (x : Cond) → put_cond s (put_cond r x) ≡ put_cond (after s r) x
  put_cond-put_cond (c.Lit l) = λ i. c.Lit (record { negated = l.negated; atom = put_atom-put_atom s r l.atom i })
  put_cond-put_cond (c.Built x) = ap (λ y. c.Built y) (put_built-put_built x)

-- ---- ground terms

second_of : (a b : Bool) → (a && b) ≡ true → b ≡ true
second_of true b h = h
second_of false b h = absurd (cc)

first_of_two : (a b : Bool) → (a && b) ≡ true → a ≡ true
first_of_two true b h = refl
first_of_two false b h = absurd (cc)

module _ (s : ℕ → Term) where
  abbrev Stays : Term → Type 0
  Stays x = IsTrue (is_ground x) → put s x ≡ x

  all_stay : (ts : List Term) → AllByRecursion Stays ts → list_all is_ground ts ≡ true → map (put s) ts ≡ ts
  all_stay [] each h = refl
  all_stay (x ∷ xs) each h = λ i. each.0 (first_of_two (is_ground x) (list_all is_ground xs) h) i ∷ all_stay xs each.1 (second_of (is_ground x) (list_all is_ground xs) h) i

  pub ground_stays : (x : Term) → Stays x
  ground_stays = term_ind Stays (λ z h. put-Int s z) (λ n h. put-Sym s n)
      (λ n ts each h. put-App s n ts ∙ ap (t.App n) (all_stay ts each (second_of _ (list_all is_ground ts) (sym (is_ground-App n ts) ∙ h))))
      (λ v h. let no : is_ground (t.Var v) ≡ false = is_ground-Var v in absurd (cc))
