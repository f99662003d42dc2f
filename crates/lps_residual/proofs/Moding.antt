-- What has to be known stays known under what is put in, as long as the variables of what is put in for a known one are known.
use Rattle.std.proofs.Common.{ℕ, Bool, true, false, ◌≡◌, List, [], ◌∷◌, ◌++◌, map, refl, sym, ap, subst, ◌∙◌, inl, inr}
use Rattle.std.specs.Prelude.{◌||◌, Option, Some, None, if◌then◌else◌}
use Rattle.std.specs.List.{flat_map}
use Rattle.lps_terms.specs.declared.built.Built.{Built}
use Rattle.lps_terms.specs.declared.built.Built.TheVariants as b
use Rattle.lps_terms.specs.declared.decl.Decl.{Decl}
use Rattle.lps_terms.specs.declared.expr.Expr.{Expr}
use Rattle.lps_terms.specs.declared.kind.Kind.{Kind}
use Rattle.lps_terms.specs.declared.kind.Kind.TheVariants as k
use Rattle.lps_terms.specs.declared.lit.Lit.{Lit}
use Rattle.lps_terms.specs.declared.mode.Mode.{Mode}
use Rattle.lps_terms.specs.declared.mode.Mode.TheVariants as m
use Rattle.lps_terms.specs.declared.term.Term.{Term}
use Rattle.lps_terms.specs.Put.{put, put_atom}
use Rattle.lps_model.specs.Declarations.{decl_among}
use Rattle.lps_model.specs.Known.{Scope, are_known, argument_needs, atom_needs, built_needs, declared_needs, kind_needs, learnt, lit_needs, marked_vars, same_needs, with_var}
use Rattle.lps_model.specs.VariableLists.{args_vars, expr_vars, term_vars}
use Rattle.lps_derivation.specs.Expressions.{expr_ind, put_expr, put_expr-Apply, put_expr-Leaf}
use Rattle.lps_derivation.specs.Instances.{put_built, put_lit}
use Rattle.lps_meaning.specs.declared.node.Left.{Left}
use Rattle.lps_meaning.specs.declared.node.LeftItem.{LeftItem}
use Rattle.lps_meaning.specs.declared.node.LeftItem.TheVariants as l
use Rattle.lps_meaning.specs.declared.when.When.{When}
use Rattle.lps_meaning.proofs.Occurrences.{all_front, all_behind, all_joined, all_to, args_put_vars, built_terms, built_terms_put, built_terms_vars, put_vars}
use Rattle.lps_nodes.specs.Shapes.{left_vars, put_left, put_left_item}
use Rattle.lps_residual.specs.Moments.{AreModedLeft, left_needs}
use Rattle.lps_residual.proofs.FirstSeen.{vars_of_both, vars_of_leaf}
use Rattle.lps_residual.proofs.Knowing.{AreIn, IsIn, all_known, from_with, in_known, known_in, learnt_has, learnt_keeps, none_unknown, or_true}

module _ (s : ℕ → Term) where
  abbrev vars_put : List ℕ → List ℕ
  vars_put vars = flat_map (λ v. term_vars (s v)) vars

  left_vars_put : (w : ℕ → When) (item : LeftItem) → left_vars (put_left_item s w item) ≡ vars_put (left_vars item)
  left_vars_put w (l.At lit time) = args_put_vars s lit.atom.args
  left_vars_put w (l.Bare lit) = args_put_vars s lit.atom.args
  left_vars_put w (l.Built x) = built_terms_vars (put_built s x) ∙ ap args_vars (built_terms_put s x) ∙ args_put_vars s (built_terms x) ∙ sym (ap vars_put (built_terms_vars x))
  left_vars_put w (l.Span a from to) = args_put_vars s a.args

  -- the variables of what is put in for a known one are known
  abbrev pub Covers : List ℕ → List ℕ → Type 0
  Covers known next = (v : ℕ) → IsIn known v → AreIn next (term_vars (s v))

  learnt_append : (known xs ys : List ℕ) → learnt known (xs ++ ys) ≡ learnt (learnt known xs) ys
  learnt_append known [] ys = refl
  learnt_append known (x ∷ xs) ys = learnt_append (with_var known x) xs ys

  covers_one : (known next : List ℕ) (w : ℕ) → Covers known next → Covers (with_var known w) (learnt next (term_vars (s w)))
  covers_one known next w covers v h = elim (from_with known w v h) [
    | inl is ↦ all_to (IsIn next) (IsIn (learnt next (term_vars (s w)))) (learnt_keeps next (term_vars (s w))) (term_vars (s v)) (covers v is)
    | inr same ↦ subst (λ u. AreIn (learnt next (term_vars (s w))) (term_vars (s u))) same (learnt_has next (term_vars (s w)))
  ]

  covers_learnt : (known next vars : List ℕ) → Covers known next → Covers (learnt known vars) (learnt next (vars_put vars))
  covers_learnt known next [] covers = covers
  covers_learnt known next (w ∷ vars) covers =
      subst (Covers (learnt (with_var known w) vars)) (sym (learnt_append next (term_vars (s w)) (vars_put vars)))
      (covers_learnt (with_var known w) (learnt next (term_vars (s w))) vars (covers_one known next w covers))

  module _ (known next : List ℕ) (covers : Covers known next) where
    vars_in : (vars : List ℕ) → AreIn known vars → AreIn next (vars_put vars)
    vars_in [] h = tt
    vars_in (v ∷ vars) h = all_joined (IsIn next) (term_vars (s v)) (vars_put vars) (covers v h.0) (vars_in vars h.1)

    term_in : (x : Term) → AreIn known (term_vars x) → AreIn next (term_vars (put s x))
    term_in x h = subst (AreIn next) (sym (put_vars s x)) (vars_in (term_vars x) h)

    args_in : (ts : List Term) → AreIn known (args_vars ts) → AreIn next (args_vars (map (put s) ts))
    args_in ts h = subst (AreIn next) (sym (args_put_vars s ts)) (vars_in (args_vars ts) h)

    expr_in : (x : Expr) → AreIn known (expr_vars x) → AreIn next (expr_vars (put_expr s x))
    expr_in = expr_ind (λ x. AreIn known (expr_vars x) → AreIn next (expr_vars (put_expr s x)))
        (λ x h. subst (AreIn next) (sym (ap expr_vars (put_expr-Leaf s x) ∙ vars_of_leaf (put s x))) (term_in x (subst (AreIn known) (vars_of_leaf x) h)))
        (λ op x y one two h.
        let both = subst (AreIn known) (vars_of_both op x y) h in
        subst (AreIn next) (sym (ap expr_vars (put_expr-Apply s op x y) ∙ vars_of_both op (put_expr s x) (put_expr s y)))
        (all_joined (IsIn next) (expr_vars (put_expr s x)) (expr_vars (put_expr s y)) (one (all_front (IsIn known) (expr_vars x) (expr_vars y) both)) (two (all_behind (IsIn known) (expr_vars x) (expr_vars y) both))))

    marked_in : (modes : List Mode) (args : List Term) → AreIn known (marked_vars modes args) → AreIn next (marked_vars modes (map (put s) args))
    marked_in [] args h = tt
    marked_in (mode ∷ modes) [] h = tt
    marked_in (mode ∷ modes) (x ∷ args) h =
        all_joined (IsIn next) (argument_needs mode (put s x)) (marked_vars modes (map (put s) args))
        (one mode (all_front (IsIn known) (argument_needs mode x) (marked_vars modes args) h)) (marked_in modes args (all_behind (IsIn known) (argument_needs mode x) (marked_vars modes args) h))
      where
        one : (mode : Mode) → AreIn known (argument_needs mode x) → AreIn next (argument_needs mode (put s x))
        one m.Plus h = term_in x h
        one m.Minus h = tt
        one m.Star h = term_in x h

    kind_in : (planned : Bool) (kind : Kind) (modes : List Mode) (args : List Term) → AreIn known (kind_needs planned kind modes args) → AreIn next (kind_needs planned kind modes (map (put s) args))
    kind_in planned k.Fluent modes args h = tt
    kind_in planned k.Event modes args h = tt
    kind_in true k.Action modes args h = args_in args h
    kind_in false k.Action modes args h = tt
    kind_in planned k.Timeless modes args h = marked_in modes args h
    kind_in planned k.Derived modes args h = marked_in modes args h
    kind_in planned k.Macro modes args h = marked_in modes args h

    declared_in : (planned : Bool) (decl : Option Decl) (args : List Term) → AreIn known (declared_needs planned decl args) → AreIn next (declared_needs planned decl (map (put s) args))
    declared_in planned None args h = tt
    declared_in planned (Some decl) args h = kind_in planned decl.kind decl.modes args h

    lit_in : (scope : Scope) (lit : Lit) → AreIn known (lit_needs scope lit) → AreIn next (lit_needs scope (put_lit s lit))
    lit_in scope lit = by lit.negated
      where
        by : (negated : Bool) → AreIn known (if negated then args_vars lit.atom.args else atom_needs scope lit.atom) →
            AreIn next (if negated then args_vars (map (put s) lit.atom.args) else atom_needs scope (put_atom s lit.atom))
        by true h = args_in lit.atom.args h
        by false h = declared_in scope.is_planned (decl_among scope.decls lit.atom.name) lit.atom.args h

    same_in : (x y : Term) → AreIn known (same_needs known (term_vars x) (term_vars y)) → AreIn next (same_needs next (term_vars (put s x)) (term_vars (put s y)))
    same_in x y h = by (are_known known (term_vars x)) refl (are_known known (term_vars y)) refl h
      where
        left_known : AreIn known (term_vars x) → AreIn next (same_needs next (term_vars (put s x)) (term_vars (put s y)))
        left_known all =
            subst (λ b. AreIn next (if b || are_known next (term_vars (put s y)) then [] else term_vars (put s x) ++ term_vars (put s y))) (sym (known_in next (term_vars (put s x)) (term_in x all))) tt

        right_known : AreIn known (term_vars y) → AreIn next (same_needs next (term_vars (put s x)) (term_vars (put s y)))
        right_known all =
            subst (λ b. AreIn next (if b then [] else term_vars (put s x) ++ term_vars (put s y)))
            (sym (ap (λ b. are_known next (term_vars (put s x)) || b) (known_in next (term_vars (put s y)) (term_in y all)) ∙ or_true (are_known next (term_vars (put s x))))) tt

        by : (one : Bool) → are_known known (term_vars x) ≡ one → (two : Bool) → are_known known (term_vars y) ≡ two → AreIn known (if one || two then [] else term_vars x ++ term_vars y) →
            AreIn next (same_needs next (term_vars (put s x)) (term_vars (put s y)))
        by true e two f h = left_known (in_known known (term_vars x) e)
        by false e true f h = right_known (in_known known (term_vars y) f)
        by false e false f h = left_known (all_front (IsIn known) (term_vars x) (term_vars y) h)

    built_in : (x : Built) → AreIn known (built_needs known x) → AreIn next (built_needs next (put_built s x))
    built_in (b.Same x y) h = same_in x y h
    built_in (b.Differ x y) h =
        all_joined (IsIn next) (term_vars (put s x)) (term_vars (put s y)) (term_in x (all_front (IsIn known) (term_vars x) (term_vars y) h)) (term_in y (all_behind (IsIn known) (term_vars x) (term_vars y) h))
    built_in (b.Is x y) h = expr_in y h
    built_in (b.Compare rel x y) h =
        all_joined (IsIn next) (expr_vars (put_expr s x)) (expr_vars (put_expr s y)) (expr_in x (all_front (IsIn known) (expr_vars x) (expr_vars y) h)) (expr_in y (all_behind (IsIn known) (expr_vars x) (expr_vars y) h))

    needs_in : (scope : Scope) (w : ℕ → When) (item : LeftItem) → AreIn known (left_needs scope known item) → AreIn next (left_needs scope next (put_left_item s w item))
    needs_in scope w (l.At lit time) h = lit_in scope lit h
    needs_in scope w (l.Bare lit) h = lit_in scope lit h
    needs_in scope w (l.Built x) h = built_in x h
    needs_in scope w (l.Span a from to) h = tt

  -- the items left are moded still, with s and w put in
  pub moded_put : (scope : Scope) (w : ℕ → When) (known next : List ℕ) → Covers known next → (rest : List Left) → AreModedLeft scope known rest → AreModedLeft scope next (map (put_left s w) rest)
  moded_put scope w known next covers [] h = tt
  moded_put scope w known next covers (left ∷ rest) h = (
    none_unknown scope.names next (left_needs scope next (put_left_item s w left.item)) (needs_in known next covers scope w left.item (all_known scope.names known (left_needs scope known left.item) h.0)),
    moded_put scope w (learnt known (left_vars left.item)) (learnt next (left_vars (put_left_item s w left.item)))
        (subst (λ vars. Covers (learnt known (left_vars left.item)) (learnt next vars)) (sym (left_vars_put w left.item)) (covers_learnt known next (left_vars left.item) covers)) rest h.1,
  )
