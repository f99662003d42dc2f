-- Conditions that can be asked for under bindings: each variable is known where it has to be.
use Rattle.std.specs.Prelude.{ℕ, ◌≡◌, ◌+◌, ◌⊎◌, Bool, false, IsTrue, List, [], None, map, if◌then◌else◌}
use Rattle.std.specs.List.{AllByRecursion, flat_map}
use Rattle.lps_terms.specs.declared.atom.Atom.{Atom}
use Rattle.lps_terms.specs.declared.built.Built.{Built}
use Rattle.lps_terms.specs.declared.built.Built.TheVariants as b
use Rattle.lps_terms.specs.declared.cond.Cond.{Cond}
use Rattle.lps_terms.specs.declared.cond.Cond.TheVariants as c
use Rattle.lps_terms.specs.declared.decl.Decl.{Decl}
use Rattle.lps_terms.specs.declared.term.Term.{Term}
use Rattle.lps_terms.specs.declared.text.Text.{Text}
use Rattle.lps_terms.specs.Put.{put}
use Rattle.lps_model.specs.Declarations.{decl_among}
use Rattle.lps_model.specs.Known.{Scope, conds_unknown, declared_needs}
use Rattle.lps_model.specs.Program.{declarations}
use Rattle.lps_model.specs.VariableLists.{args_vars, cond_vars, expr_vars, term_vars}
use Rattle.lps_derivation.specs.Ground.{is_ground}
use Rattle.lps_unify.specs.Bindings.{TrailedBindings, standing, Solves}

-- ---- where conditions are asked for

-- The conditions are well-moded under bindings: from the left each variable is known where it has to be, where at the start
-- some variables are known, and the bindings have ground terms for these.
pub record AreModed (text : Text) (b : TrailedBindings) (conds : List Cond) : Type 0 where
  pub scope : Scope
  pub declared : scope.decls ≡ declarations text
  pub seen : scope.is_planned ≡ false
  pub known : List ℕ
  pub ground : AllByRecursion (λ v. IsTrue (is_ground ((standing b).value v))) known
  pub moded : conds_unknown scope [] known conds ≡ None

-- The same, and in the end each variable of the wanted terms is known.
pub record AreModedFor (text : Text) (b : TrailedBindings) (conds : List Cond) (wanted : List Term) : Type 0 where
  pub scope : Scope
  pub declared : scope.decls ≡ declarations text
  pub seen : scope.is_planned ≡ false
  pub known : List ℕ
  pub ground : AllByRecursion (λ v. IsTrue (is_ground ((standing b).value v))) known
  pub moded : conds_unknown scope (args_vars wanted) known conds ≡ None

-- ---- along a search

-- the term has no variables
abbrev pub IsClosed : Term → Type 0
IsClosed x = term_vars x ≡ []

-- the variables that have to be known at a literal that is asked for
abbrev pub needs_of : List Decl → Bool → Atom → List ℕ
needs_of decls negated atom = if negated then args_vars atom.args else declared_needs false (decl_among decls atom.name) atom.args

-- the arguments of a goal that are marked `+` or `*` are closed
abbrev pub IsMarked : List Decl → Atom → Type 0
IsMarked decls goal = declared_needs false (decl_among decls goal.name) goal.args ≡ []

-- what has to be known at the built-in is closed
abbrev pub IsReady : Built → Type 0
IsReady (b.Same x y) = IsClosed x ⊎ IsClosed y
IsReady (b.Differ x y) = IsClosed x × IsClosed y
IsReady (b.Is x y) = expr_vars y ≡ []
IsReady (b.Compare rel x y) = (expr_vars x ≡ []) × (expr_vars y ≡ [])

-- what has to be known at the condition is closed
abbrev pub IsReadyCond : List Decl → Cond → Type 0
IsReadyCond decls (c.Lit l) = needs_of decls l.negated l.atom ≡ []
IsReadyCond decls (c.Built built) = IsReady built

-- For each of some values of the variables, which count from `base` in the conditions: what is known is closed, the conditions
-- are well-moded from there, and the wanted terms are closed once the variables of the conditions are.
pub record IsModedFor (text : Text) (Of : (ℕ → Term) → Type 0) (base : ℕ) (conds : List Cond) (wanted : List Term) : Type 0 where
  pub scope : Scope
  pub declared : scope.decls ≡ declarations text
  pub seen : scope.is_planned ≡ false
  pub known : List ℕ
  pub closed : (s : ℕ → Term) → Of s → AllByRecursion (λ v. IsClosed (s (base + v))) known
  pub moded : conds_unknown scope [] known conds ≡ None
  pub ends : (s : ℕ → Term) → Of s → AllByRecursion (λ v. IsClosed (s (base + v))) (flat_map cond_vars conds) → args_vars (map (put s) wanted) ≡ []

-- the same for the solutions of bindings
abbrev pub IsModedRun : Text → TrailedBindings → ℕ → List Cond → List Term → Type 0
IsModedRun text b = IsModedFor text (λ s. Solves s b)

-- the same for the solutions that make these terms the row
abbrev pub IsModedStep : Text → TrailedBindings → ℕ → List Cond → List Term → List Term → List Term → Type 0
IsModedStep text b base conds wanted terms row = IsModedFor text (λ s. Solves s b × (map (put s) terms ≡ row)) base conds wanted
