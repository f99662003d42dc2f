-- A table of declarations with one declaration more.
use Rattle.std.proofs.Common.{◌≡◌, ℕ, Bool, true, false, cond, List, [], ◌∷◌, ◌++◌, Option, Some, None, is_some, refl, sym, ap, subst, ◌∙◌}
use Rattle.std.specs.Str.{bytes_eq}
use Rattle.std.proofs.lemmas.Slice.Eq.{bytes_eq-Decides}
use Rattle.lps_terms.specs.declared.decl.Decl.{Decl}
use Rattle.lps_model.specs.Declarations.{decl_among}
use Rattle.lps_model.specs.Table.{decl_named, IsTableOf}

-- the first of two that is there
abbrev first_of : Option Decl → Option Decl → Option Decl
first_of None other = other
first_of (Some decl) other = Some decl

among_more : (decls : List Decl) (decl : Decl) (name : List ℕ) → decl_among (decls ++ decl ∷ []) name ≡ first_of (decl_among decls name) (cond (bytes_eq decl.name name) (Some decl) None)
among_more [] decl name = refl
among_more (d ∷ ds) decl name = by (bytes_eq d.name name) (among_more ds decl name)
  where
    by : (same : Bool) → decl_among (ds ++ decl ∷ []) name ≡ first_of (decl_among ds name) (cond (bytes_eq decl.name name) (Some decl) None)
        → cond same (Some d) (decl_among (ds ++ decl ∷ []) name) ≡ first_of (cond same (Some d) (decl_among ds name)) (cond (bytes_eq decl.name name) (Some decl) None)
    by true rest = refl
    by false rest = rest

-- a name that was not declared before gets its declaration
pub declared_new : (decls : List Decl) (decl : Decl) (old new : List (List ℕ × Decl)) → IsTableOf decls old → is_some (decl_named old decl.name) ≡ false
    → ((name : List ℕ) → decl_named new name ≡ cond (bytes_eq decl.name name) (Some decl) (decl_named old name)) → IsTableOf (decls ++ decl ∷ []) new
declared_new decls decl old new table none says = record { first = λ name. says name ∙ by name (bytes_eq decl.name name) refl ∙ sym (among_more decls decl name) }
  where
    at : decl_among decls decl.name ≡ None
    at = elim (decl_among decls decl.name) as (λ k. is_some k ≡ false → k ≡ None) [ None ↦ λ e. refl | Some k ↦ λ e. cc ] (ap is_some (sym (table.first decl.name)) ∙ none)

    by : (name : List ℕ) (same : Bool) → bytes_eq decl.name name ≡ same → cond same (Some decl) (decl_named old name) ≡ first_of (decl_among decls name) (cond same (Some decl) None)
    by name true e = let here : decl_among decls name ≡ None = subst (λ n. decl_among decls n ≡ None) ((bytes_eq-Decides decl.name name).0 e) at in rw here refl
    by name false e = table.first name ∙ elim (decl_among decls name) as (λ k. k ≡ first_of k None) [ None ↦ refl | Some k ↦ refl ]

-- a name that was declared before keeps its first declaration
pub declared_before : (decls : List Decl) (decl : Decl) (old : List (List ℕ × Decl)) → IsTableOf decls old → is_some (decl_named old decl.name) ≡ true → IsTableOf (decls ++ decl ∷ []) old
declared_before decls decl old table some = record { first = λ name. table.first name ∙ by name (bytes_eq decl.name name) refl ∙ sym (among_more decls decl name) }
  where
    keeps : (k other : Option Decl) → is_some k ≡ true → k ≡ first_of k other
    keeps None other e = cc
    keeps (Some k) other e = refl

    by : (name : List ℕ) (same : Bool) → bytes_eq decl.name name ≡ same → decl_among decls name ≡ first_of (decl_among decls name) (cond same (Some decl) None)
    by name true e = keeps (decl_among decls name) (Some decl) (subst (λ n. is_some (decl_among decls n) ≡ true) ((bytes_eq-Decides decl.name name).0 e) (ap is_some (sym (table.first decl.name)) ∙ some))
    by name false e = elim (decl_among decls name) as (λ k. k ≡ first_of k None) [ None ↦ refl | Some k ↦ refl ]
