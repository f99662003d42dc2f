-- Instances of clauses: a ground term stands in the place of each variable, and no atom and no side of a built-in is large.
use Rattle.std.specs.Prelude.{ℕ, ◌≡◌, ◌≤◌, IsTrue, List, map, Contains}
use Rattle.std.specs.List.{AllByRecursion}
use Rattle.lps_terms.specs.declared.built.Built.{Built}
use Rattle.lps_terms.specs.declared.built.Built.TheVariants as b
use Rattle.lps_terms.specs.declared.cond.Cond.{Cond}
use Rattle.lps_terms.specs.declared.cond.Cond.TheVariants as c
use Rattle.lps_terms.specs.declared.lit.Lit.{Lit}
use Rattle.lps_terms.specs.declared.term.Term.{Term}
use Rattle.lps_terms.specs.Put.{put, put_atom}
use Rattle.lps_terms.specs.Symbols.{symbols_of, atom_symbols_of}
use Rattle.lps_model.specs.Clauses.{Clause}
use Rattle.lps_derivation.specs.Expressions.{put_expr, expr_symbols_of}
use Rattle.lps_derivation.specs.Ground.{is_ground}

-- ---- putting terms in

-- a built-in with s of each variable in its place
abbrev pub put_built : (ℕ → Term) → Built → Built
put_built s (b.Same x y) = b.Same (put s x) (put s y)
put_built s (b.Differ x y) = b.Differ (put s x) (put s y)
put_built s (b.Is x sum) = b.Is (put s x) (put_expr s sum)
put_built s (b.Compare rel x y) = b.Compare rel (put_expr s x) (put_expr s y)

-- a literal with s of each variable in its place
abbrev pub put_lit : (ℕ → Term) → Lit → Lit
put_lit s l = record { negated = l.negated; atom = put_atom s l.atom }

-- a condition with s of each variable in its place
abbrev pub put_cond : (ℕ → Term) → Cond → Cond
put_cond s (c.Lit l) = c.Lit (put_lit s l)
put_cond s (c.Built built) = c.Built (put_built s built)

-- a clause with s of each variable in its place
abbrev pub put_clause : (ℕ → Term) → Clause → Clause
put_clause s k = record { head = put_atom s k.head; conds = map (put_cond s) k.conds }

-- ---- sizes

-- no more symbols than an atom, or a side of a built-in, may have
abbrev pub IsSmall : ℕ → Type 0
IsSmall symbols = symbols ≤ 1024

-- both sides of the built-in are small
abbrev pub IsSmallBuilt : Built → Type 0
IsSmallBuilt (b.Same x y) = IsSmall (symbols_of x) × IsSmall (symbols_of y)
IsSmallBuilt (b.Differ x y) = IsSmall (symbols_of x) × IsSmall (symbols_of y)
IsSmallBuilt (b.Is x sum) = IsSmall (symbols_of x) × IsSmall (expr_symbols_of sum)
IsSmallBuilt (b.Compare rel x y) = IsSmall (expr_symbols_of x) × IsSmall (expr_symbols_of y)

-- the atom of the literal, negated or not, or the built-in is small
abbrev pub IsSmallCond : Cond → Type 0
IsSmallCond (c.Lit l) = IsSmall (atom_symbols_of l.atom)
IsSmallCond (c.Built built) = IsSmallBuilt built

-- ---- instances

-- an instance of one of the clauses
pub record IsInstance (clauses : List Clause) (instance : Clause) : Type 0 where
  pub clause : Clause
  pub among : Contains clauses clause
  -- what stands in the place of each variable
  pub values : ℕ → Term
  pub all_ground : (v : ℕ) → IsTrue (is_ground (values v))
  pub put_in : instance ≡ put_clause values clause
  pub small_head : IsSmall (atom_symbols_of instance.head)
  pub small_conds : AllByRecursion IsSmallCond instance.conds
