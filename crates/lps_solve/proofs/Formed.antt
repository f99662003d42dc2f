-- The clauses of a well-formed text are ground once ground terms are put in for their variables.
use Rattle.std.proofs.Common.{ℕ, Bool, true, false, ◌≡◌, List, [], ◌∷◌, map, length, refl, sym, ap, ◌∙◌}
use Rattle.std.specs.Prelude.{◌&&◌, IsTrue, nat_lt, nat_le}
use Rattle.std.specs.List.{AllByRecursion, list_all}
use Rattle.std.proofs.lemmas.List.{length-map}
use Rattle.lps_terms.specs.declared.atom.Atom.{Atom}
use Rattle.lps_terms.specs.declared.built.Built.{Built}
use Rattle.lps_terms.specs.declared.built.Built.TheVariants as b
use Rattle.lps_terms.specs.declared.cond.Cond.{Cond}
use Rattle.lps_terms.specs.declared.cond.Cond.TheVariants as c
use Rattle.lps_terms.specs.declared.expr.Expr.{Expr}
use Rattle.lps_terms.specs.declared.term.Term.{Term}
use Rattle.lps_terms.specs.declared.term.Term.TheVariants as t
use Rattle.lps_terms.specs.Forms.{term_ind}
use Rattle.lps_terms.specs.Names.{is_proper_name}
use Rattle.lps_terms.specs.Put.{put, put-Int, put-Sym, put-App, put-Var}
use Rattle.lps_model.specs.Formed.{is_formed_term, is_formed_expr, is_formed_atom, is_formed_built, is_formed_cond, is_formed-Int, is_formed-Sym, is_formed-App, is_formed-Leaf, is_formed-Apply}
use Rattle.lps_derivation.specs.Expressions.{put_expr, put_expr-Leaf, put_expr-Apply, expr_ind}
use Rattle.lps_derivation.specs.Ground.{is_ground, is_ground-Int, is_ground-Sym, is_ground-App}
use Rattle.lps_derivation.specs.Instances.{put_built, put_cond}
use Rattle.lps_solve.specs.Answers.{IsWritten}
use Rattle.lps_solve.specs.Met.{AreGround, is_ground_expr, IsGroundBuilt, IsGroundCond}
use Rattle.lps_solve.proofs.Grounds.{second_of, first_of_two, ground_leaf, ground_apply}

both_true : (p q : Bool) → p ≡ true → q ≡ true → (p && q) ≡ true
both_true true q h k = k
both_true false q h k = absurd (cc)

module _ (n : ℕ) (s : ℕ → Term) (ground : (v : ℕ) → IsTrue (is_ground (s v))) where
  abbrev IsPutGround : Term → Type 0
  IsPutGround x = is_formed_term n x ≡ true → is_ground (put s x) ≡ true

  all_ground : (ts : List Term) → AllByRecursion IsPutGround ts → list_all (is_formed_term n) ts ≡ true → list_all is_ground (map (put s) ts) ≡ true
  all_ground [] is h = refl
  all_ground (x ∷ xs) is h =
      both_true (is_ground (put s x)) (list_all is_ground (map (put s) xs)) (is.0 (first_of_two (is_formed_term n x) (list_all (is_formed_term n) xs) h))
      (all_ground xs is.1 (second_of (is_formed_term n x) (list_all (is_formed_term n) xs) h))

  application : (name : List ℕ) (ts : List Term) → AllByRecursion IsPutGround ts → IsPutGround (t.App name ts)
  application name ts is h =
      let whole : (is_proper_name name && nat_lt 0 (length ts) && nat_le (length ts) 64 && list_all (is_formed_term n) ts) ≡ true = sym (is_formed-App n name ts) ∙ h in
      let sized : (is_proper_name name && nat_lt 0 (length ts) && nat_le (length ts) 64) ≡ true =
      first_of_two (is_proper_name name && nat_lt 0 (length ts) && nat_le (length ts) 64) (list_all (is_formed_term n) ts) whole in
      let args : list_all (is_formed_term n) ts ≡ true =
      second_of (is_proper_name name && nat_lt 0 (length ts) && nat_le (length ts) 64) (list_all (is_formed_term n) ts) whole in
      ap is_ground (put-App s name ts) ∙ is_ground-App name (map (put s) ts)
      ∙ ap (λ k. is_proper_name name && nat_lt 0 k && nat_le k 64 && list_all is_ground (map (put s) ts)) (length-map ts (put s))
      ∙ both_true (is_proper_name name && nat_lt 0 (length ts) && nat_le (length ts) 64) (list_all is_ground (map (put s) ts)) sized (all_ground ts is args)

  term_is_ground : (x : Term) → IsPutGround x
  term_is_ground = term_ind IsPutGround
      (λ z h. ap is_ground (put-Int s z) ∙ is_ground-Int z ∙ sym (is_formed-Int n z) ∙ h)
      (λ name h. ap is_ground (put-Sym s name) ∙ is_ground-Sym name ∙ (sym (is_formed-Sym n name) ∙ h))
      application
      (λ v h. ap is_ground (put-Var s v) ∙ ground v)

  terms_are_ground : (ts : List Term) → list_all (is_formed_term n) ts ≡ true → list_all is_ground (map (put s) ts) ≡ true
  terms_are_ground [] h = refl
  terms_are_ground (x ∷ xs) h =
      both_true (is_ground (put s x)) (list_all is_ground (map (put s) xs)) (term_is_ground x (first_of_two (is_formed_term n x) (list_all (is_formed_term n) xs) h))
      (terms_are_ground xs (second_of (is_formed_term n x) (list_all (is_formed_term n) xs) h))

  expr_is_ground : (x : Expr) → is_formed_expr n x ≡ true → is_ground_expr (put_expr s x) ≡ true
  expr_is_ground = expr_ind (λ x. is_formed_expr n x ≡ true → is_ground_expr (put_expr s x) ≡ true)
      (λ x h. ap is_ground_expr (put_expr-Leaf s x) ∙ ground_leaf (put s x) ∙ term_is_ground x (sym (is_formed-Leaf n x) ∙ h))
      (λ op x y one two h.
      let both : (is_formed_expr n x && is_formed_expr n y) ≡ true = sym (is_formed-Apply n op x y) ∙ h in
      ap is_ground_expr (put_expr-Apply s op x y) ∙ ground_apply op (put_expr s x) (put_expr s y)
      ∙ both_true (is_ground_expr (put_expr s x)) (is_ground_expr (put_expr s y)) (one (first_of_two (is_formed_expr n x) (is_formed_expr n y) both)) (two (second_of (is_formed_expr n x) (is_formed_expr n y) both)))

  built_is_ground : (built : Built) → is_formed_built n built ≡ true → IsGroundBuilt (put_built s built)
  built_is_ground (b.Same x y) h = (term_is_ground x (first_of_two (is_formed_term n x) (is_formed_term n y) h), term_is_ground y (second_of (is_formed_term n x) (is_formed_term n y) h))
  built_is_ground (b.Differ x y) h = (term_is_ground x (first_of_two (is_formed_term n x) (is_formed_term n y) h), term_is_ground y (second_of (is_formed_term n x) (is_formed_term n y) h))
  built_is_ground (b.Is x y) h = (term_is_ground x (first_of_two (is_formed_term n x) (is_formed_expr n y) h), expr_is_ground y (second_of (is_formed_term n x) (is_formed_expr n y) h))
  built_is_ground (b.Compare rel x y) h = (expr_is_ground x (first_of_two (is_formed_expr n x) (is_formed_expr n y) h), expr_is_ground y (second_of (is_formed_expr n x) (is_formed_expr n y) h))

  atom_is_ground : (a : Atom) → is_formed_atom n a ≡ true → AreGround (map (put s) a.args)
  atom_is_ground a h = terms_are_ground a.args (second_of (is_proper_name a.name && nat_le (length a.args) 64) (list_all (is_formed_term n) a.args) h)

  pub cond_is_ground : (k : Cond) → is_formed_cond n k ≡ true → IsGroundCond (put_cond s k)
  cond_is_ground (c.Lit l) h = atom_is_ground l.atom h
  cond_is_ground (c.Built built) h = built_is_ground built h

  conds_are_ground : (ks : List Cond) → list_all (is_formed_cond n) ks ≡ true → AllByRecursion IsGroundCond (map (put_cond s) ks)
  conds_are_ground [] h = tt
  conds_are_ground (k ∷ ks) h = (cond_is_ground k (first_of_two (is_formed_cond n k) (list_all (is_formed_cond n) ks) h), conds_are_ground ks (second_of (is_formed_cond n k) (list_all (is_formed_cond n) ks) h))

pub clause_is_written : (n : ℕ) (head : Atom) (conds : List Cond) → (is_formed_atom n head && list_all (is_formed_cond n) conds) ≡ true → IsWritten (record { head = head; conds = conds })
clause_is_written n head conds h = record {
  head = λ s ground. atom_is_ground n s ground head (first_of_two (is_formed_atom n head) (list_all (is_formed_cond n) conds) h);
  conds = λ s ground. conds_are_ground n s ground conds (second_of (is_formed_atom n head) (list_all (is_formed_cond n) conds) h);
}
