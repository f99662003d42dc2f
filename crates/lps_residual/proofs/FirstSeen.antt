-- Numbers in the order in which they first occur, in the parts of a list one after another.
use Rattle.std.proofs.Common.{ℕ, ◌≡◌, ◌+◌, ◌<◌, ◌≤◌, List, [], ◌∷◌, ◌++◌, drop, get_or, length, refl, sym, ap, ◌∙◌}
use Rattle.std.specs.List.{flat_map}
use Rattle.std.proofs.lemmas.List.{at_drop_all, at_drop_more}
use Rattle.lps_terms.specs.declared.expr.Expr.{Expr}
use Rattle.lps_terms.specs.declared.expr.Expr.TheVariants as e
use Rattle.lps_terms.specs.declared.expr.Expr.TheFolds.{fold-roll-Expr}
use Rattle.lps_terms.specs.declared.op.Op.{Op}
use Rattle.lps_terms.specs.declared.term.Term.{Term}
use Rattle.lps_model.specs.VariableLists.{expr_vars, operands_step, term_vars}
use Rattle.lps_unify.specs.Canonical.{first_seen, with_variable}

-- some numbers, and then some more
pub first_seen_append : (seen xs ys : List ℕ) → first_seen seen (xs ++ ys) ≡ first_seen (first_seen seen xs) ys
first_seen_append seen [] ys = refl
first_seen_append seen (v ∷ xs) ys = first_seen_append (with_variable seen v) xs ys

module _ {X : Type 0} (f : X → List ℕ) where
  -- those of the part at i, and then those of the parts after it
  pub seen_at : (seen : List ℕ) (xs : List X) (i : ℕ) (d : X) → i < length xs →
      first_seen seen (flat_map f (drop i xs)) ≡ first_seen (first_seen seen (f (get_or xs i d))) (flat_map f (drop (i + 1) xs))
  seen_at seen xs i d lt =
      at_drop_more (λ ys. first_seen seen (flat_map f ys)) xs i d lt
      ∙ first_seen_append seen (f (get_or xs i d)) (flat_map f (drop (i + 1) xs))

  pub seen_next : (seen : List ℕ) (xs : List X) (i : ℕ) (y : X) → i < length xs → y ≡ get_or xs i y →
      first_seen seen (flat_map f (drop i xs)) ≡ first_seen (first_seen seen (f y)) (flat_map f (drop (i + 1) xs))
  seen_next seen xs i y lt at = seen_at seen xs i y lt ∙ ap (λ z. first_seen (first_seen seen (f z)) (flat_map f (drop (i + 1) xs))) (sym at)

  pub seen_end : (seen : List ℕ) (xs : List X) (i : ℕ) → length xs ≤ i → first_seen seen (flat_map f (drop i xs)) ≡ seen
  seen_end seen xs i le = at_drop_all (λ ys. first_seen seen (flat_map f ys)) xs i le

-- the variables of a leaf are those of its term
pub vars_of_leaf : (x : Term) → expr_vars (e.Leaf x) ≡ term_vars x
vars_of_leaf x = ap expr_vars (sym (e.rolls-Leaf x)) ∙ fold-roll-Expr (List ℕ) operands_step _

-- the variables of an operation are those of its two sides
pub vars_of_both : (op : Op) (x y : Expr) → expr_vars (e.Apply op x y) ≡ expr_vars x ++ expr_vars y
vars_of_both op x y = ap expr_vars (sym (e.rolls-Apply op x y)) ∙ fold-roll-Expr (List ℕ) operands_step _
