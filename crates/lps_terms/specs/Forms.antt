-- The four forms of a term, with the arguments as a list: induction over terms, and what a fold gives at each form.
use Rattle.std.specs.Prelude.{ℕ, ℤ, ◌≡◌, List, [], ◌∷◌, map}
use Rattle.std.specs.List.{AllByRecursion}
use Rattle.std.proofs.Common.{◌∙◌, sym, ap, subst}
use Rattle.lps_terms.specs.declared.term.Term as tm
use Rattle.lps_terms.specs.declared.term.Term.{Term}
use Rattle.lps_terms.specs.declared.term.Term.TheVariants as t
use Rattle.lps_terms.specs.declared.term.Term.TheOpen.{Term-F}
use Rattle.lps_terms.specs.declared.term.Term.TheFolds.{fold-Term, fold-roll-Term, ind-Term}

-- what holds of each form, given that it holds of the arguments, holds of every term
module _ (P : Term → Type 0) (of_int : (z : ℤ) → P (t.Int z)) (of_sym : (n : List ℕ) → P (t.Sym n))
    (of_app : (n : List ℕ) (ts : List Term) → AllByRecursion P ts → P (t.App n ts)) (of_var : (v : ℕ) → P (t.Var v)) where
  every : (es : List ((x : Term) × P x)) → AllByRecursion P (map (λ e. e.0) es)
  every [] = tt
  every (e ∷ es) = (e.1, every es)

  layer : (y : Term-F ((x : Term) × P x)) → P (tm.roll-Term (tm.map-Term ((x : Term) × P x) Term (λ e. e.0) y))
  layer (Term-F.Int z) = subst P (sym (t.rolls-Int z)) (of_int z)
  layer (Term-F.Sym n) = subst P (sym (t.rolls-Sym n)) (of_sym n)
  layer (Term-F.App n es) = subst P (sym (t.rolls-App n (map (λ e. e.0) es))) (of_app n (map (λ e. e.0) es) (every es))
  layer (Term-F.Var v) = subst P (sym (t.rolls-Var v)) (of_var v)

  pub term_ind : (x : Term) → P x
  term_ind = ind-Term P (λ x y is. subst (λ z. P (tm.roll-Term z)) is (layer y))

-- a fold takes its step at each form, with what it gives at the arguments in their places
module _ (A : Type 0) (step : Term-F A → A) where
  pub fold-Int : (z : ℤ) → fold-Term A step (t.Int z) ≡ step (Term-F.Int z)
  fold-Int z = ap (fold-Term A step) (sym (t.rolls-Int z)) ∙ fold-roll-Term A step _

  pub fold-Sym : (n : List ℕ) → fold-Term A step (t.Sym n) ≡ step (Term-F.Sym n)
  fold-Sym n = ap (fold-Term A step) (sym (t.rolls-Sym n)) ∙ fold-roll-Term A step _

  pub fold-App : (n : List ℕ) (ts : List Term) → fold-Term A step (t.App n ts) ≡ step (Term-F.App n (map (fold-Term A step) ts))
  fold-App n ts = ap (fold-Term A step) (sym (t.rolls-App n ts)) ∙ fold-roll-Term A step _

  pub fold-Var : (v : ℕ) → fold-Term A step (t.Var v) ≡ step (Term-F.Var v)
  fold-Var v = ap (fold-Term A step) (sym (t.rolls-Var v)) ∙ fold-roll-Term A step _
