-- What is closed and not ground is ground in no instance.
use Rattle.std.proofs.Common.{ℕ, true, false, ◌≡◌, List, [], map, refl, sym, ap, ◌∙◌, subst, inl, inr}
use Rattle.std.specs.List.{list_all}
use Rattle.lps_terms.specs.declared.atom.Atom.{Atom}
use Rattle.lps_terms.specs.declared.built.Built.TheVariants as b
use Rattle.lps_terms.specs.declared.cond.Cond.TheVariants as c
use Rattle.lps_terms.specs.declared.expr.Expr.{Expr}
use Rattle.lps_terms.specs.declared.lit.Lit.{Lit}
use Rattle.lps_terms.specs.declared.term.Term.{Term}
use Rattle.lps_terms.specs.Put.{put}
use Rattle.lps_model.specs.VariableLists.{args_vars, expr_vars}
use Rattle.lps_model.specs.Clauses.{Clause}
use Rattle.lps_derivation.specs.Expressions.{put_expr}
use Rattle.lps_derivation.specs.Ground.{is_ground}
use Rattle.lps_derivation.specs.Instances.{put_built, put_cond}
use Rattle.lps_unify.specs.Bindings.{TrailedBindings, count_of}
use Rattle.lps_unify.specs.Unified.{AreWithin}
use Rattle.lps_solve.specs.declared.ways.Ways.{Ways}
use Rattle.lps_solve.specs.Met.{IsGroundBuilt, MeetsBy, is_ground_expr}
use Rattle.lps_solve.specs.Moded.{IsClosed, IsReady}
use Rattle.lps_solve.proofs.Closed.{closed_stays, closed_args_stay, closed_expr_stays}
use Rattle.lps_solve.proofs.Meeting.{never_on}

pub never_ground : (x : Term) → IsClosed x → is_ground x ≡ false → (s : ℕ → Term) → is_ground (put s x) ≡ true → ⊥
never_ground x none fails s holds = absurd (let is : is_ground x ≡ true = ap is_ground (sym (closed_stays s x none)) ∙ holds in cc)

pub never_ground_expr : (x : Expr) → expr_vars x ≡ [] → is_ground_expr x ≡ false → (s : ℕ → Term) → is_ground_expr (put_expr s x) ≡ true → ⊥
never_ground_expr x none fails s holds = absurd (let is : is_ground_expr x ≡ true = ap is_ground_expr (sym (closed_expr_stays s x none)) ∙ holds in cc)

pub never_ground_list : (xs : List Term) → args_vars xs ≡ [] → list_all is_ground xs ≡ false → (s : ℕ → Term) → list_all is_ground (map (put s) xs) ≡ true → ⊥
never_ground_list xs none fails s holds = absurd (let is : list_all is_ground xs ≡ true = ap (list_all is_ground) (sym (closed_args_stay s xs none)) ∙ holds in cc)

pub never_same : (left right : Term) → IsReady (b.Same left right) → is_ground left ≡ false → is_ground right ≡ false → (s : ℕ → Term) → IsGroundBuilt (put_built s (b.Same left right)) → ⊥
never_same left right (inl none) l r s ground = never_ground left none l s ground.0
never_same left right (inr none) l r s ground = never_ground right none r s ground.1

-- a negated literal that is closed and not ground is not met
pub never_negated : (program : List Clause) (facts : List Atom) (b : TrailedBindings) (lit : Lit) → args_vars lit.atom.args ≡ [] → list_all is_ground lit.atom.args ≡ false → (ways : Ways) → ways.terms ≡ [] → ways.rows ≡ [] →
    MeetsBy program facts b (λ s. put_cond s (c.Lit lit)) ways
never_negated program facts b lit none fails ways terms rows = record {
  within = subst (AreWithin (count_of b)) (sym terms) refl;
  meets = λ level levels. never_on program facts level b (λ s. put_cond s (c.Lit lit)) ways (λ s solves m. never_ground_list lit.atom.args none fails s m.ground) rows;
}
