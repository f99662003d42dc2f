-- Conditions that are met: ground, small and true; and how a condition with variables is met.
use Rattle.std.specs.Prelude.{ℕ, ◌<◌, ◌↔◌, ◌&&◌, Bool, IsTrue, List, Contains, map}
use Rattle.std.specs.List.{AllByRecursion, list_all}
use Rattle.lps_terms.specs.declared.atom.Atom.{Atom}
use Rattle.lps_terms.specs.declared.built.Built.{Built}
use Rattle.lps_terms.specs.declared.built.Built.TheVariants as b
use Rattle.lps_terms.specs.declared.cond.Cond.{Cond}
use Rattle.lps_terms.specs.declared.cond.Cond.TheVariants as c
use Rattle.lps_terms.specs.declared.expr.Expr.{Expr}
use Rattle.lps_terms.specs.declared.expr.Expr.TheOpen.{Expr-F}
use Rattle.lps_terms.specs.declared.expr.Expr.TheFolds.{fold-Expr}
use Rattle.lps_terms.specs.declared.term.Term.{Term}
use Rattle.lps_terms.specs.Put.{put}
use Rattle.lps_model.specs.VariableLists.{args_vars, built_vars}
use Rattle.lps_model.specs.Clauses.{Clause}
use Rattle.lps_derivation.specs.Derivation.{IsMet}
use Rattle.lps_derivation.specs.Ground.{is_ground}
use Rattle.lps_derivation.specs.Instances.{IsSmallBuilt, IsSmallCond, put_built, put_cond}
use Rattle.lps_derivation.specs.Levels.{AreLevels}
use Rattle.lps_unify.specs.Unified.{AreWithin}
use Rattle.lps_derivation.specs.Laws.{Passes, IsDerivedFrom}
use Rattle.lps_values.specs.Truth.{is_true}
use Rattle.lps_unify.specs.Bindings.{TrailedBindings, count_of, Solves}
use Rattle.lps_solve.specs.declared.ways.Ways.{Ways}

-- ---- ground conditions

-- whether the leaves of one form of an expression are ground
abbrev pub ground_expr_step : Expr-F Bool → Bool
ground_expr_step (Expr-F.Leaf x) = is_ground x
ground_expr_step (Expr-F.Apply op x y) = x && y

-- whether each leaf of an expression is ground
abbrev pub is_ground_expr : Expr → Bool
is_ground_expr = fold-Expr Bool ground_expr_step

-- each of the terms is ground
abbrev pub AreGround : List Term → Type 0
AreGround xs = IsTrue (list_all is_ground xs)

-- both sides of the built-in are ground
abbrev pub IsGroundBuilt : Built → Type 0
IsGroundBuilt (b.Same x y) = IsTrue (is_ground x) × IsTrue (is_ground y)
IsGroundBuilt (b.Differ x y) = IsTrue (is_ground x) × IsTrue (is_ground y)
IsGroundBuilt (b.Is x e) = IsTrue (is_ground x) × IsTrue (is_ground_expr e)
IsGroundBuilt (b.Compare rel x y) = IsTrue (is_ground_expr x) × IsTrue (is_ground_expr y)

-- the terms of the condition are ground
abbrev pub IsGroundCond : Cond → Type 0
IsGroundCond (c.Lit l) = AreGround l.atom.args
IsGroundCond (c.Built built) = IsGroundBuilt built

-- ---- conditions that are met

-- the built-in is ground, small and true
pub record IsMetBuilt (built : Built) : Type 0 where
  pub ground : IsGroundBuilt built
  pub small : IsSmallBuilt built
  pub met : IsTrue (is_true built)

-- over some clauses and facts, and a level for each name
module _ (program : List Clause) (facts : List Atom) (level : List ℕ → ℕ) where
  -- the condition is ground, small and true
  pub record IsMetCond (cond : Cond) : Type 0 where
    pub ground : IsGroundCond cond
    pub small : IsSmallCond cond
    pub met : IsMet (Passes is_true) (IsDerivedFrom is_true program facts level) cond

  -- each of the conditions is met where s of each variable stands in its place
  abbrev pub AreMet : (ℕ → Term) → List Cond → Type 0
  AreMet s conds = AllByRecursion (λ cond. IsMetCond (put_cond s cond)) conds

-- ---- ways to meet a condition

-- The built-in is met exactly by the terms that make the terms of the ways one of their rows. The rows are ground, and the
-- terms have no other variables than the built-in.
pub record MeetsBuilt (built : Built) (ways : Ways) : Type 0 where
  pub met : (s : ℕ → Term) → IsMetBuilt (put_built s built) ↔ Contains ways.rows (map (put s) ways.terms)
  pub ground : (row : List Term) → Contains ways.rows row → AreGround row
  pub within : (count : ℕ) → AllByRecursion (λ v. v < count) (built_vars built) → AllByRecursion (λ v. v < count) (args_vars ways.terms)

-- The same of what s makes of a condition, for each solution s of some bindings.
pub record MeetsOn (program : List Clause) (facts : List Atom) (level : List ℕ → ℕ) (b : TrailedBindings) (cond : (ℕ → Term) → Cond) (ways : Ways) : Type 0 where
  pub met : (s : ℕ → Term) → Solves s b → IsMetCond program facts level (cond s) ↔ Contains ways.rows (map (put s) ways.terms)
  pub ground : (row : List Term) → Contains ways.rows row → AreGround row

-- the same by any levels; the variables of the terms are those of the bindings
pub record MeetsBy (program : List Clause) (facts : List Atom) (b : TrailedBindings) (cond : (ℕ → Term) → Cond) (ways : Ways) : Type 0 where
  pub within : AreWithin (count_of b) ways.terms
  pub meets : (level : List ℕ → ℕ) → AreLevels program level → MeetsOn program facts level b cond ways
