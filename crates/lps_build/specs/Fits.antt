-- What is asked of tokens that are read, and of those that come after a part.
use Rattle.std.specs.Prelude.{ℕ, ◌≡◌, ◌≤◌, true, List, [], ◌∷◌, length, Option, Some}
use Rattle.lps_terms.specs.declared.term.Term.{Term}
use Rattle.lps_terms.specs.declared.op.Op.{Op}
use Rattle.lps_terms.specs.declared.expr.Expr.{Expr}
use Rattle.lps_terms.specs.Names.{is_name}
use Rattle.lps_grammar.specs.declared.tok.Tok.{Tok}
use Rattle.lps_grammar.specs.declared.tok.Tok.TheVariants as k
use Rattle.lps_build.specs.ReadTerms.{args_case}
use Rattle.lps_build.specs.ReadExpressions.{mul_op, add_op, ops_case}

-- each name among the tokens is one that the syntax may have
abbrev pub AreNamed : List Tok → Type 0
AreNamed [] = Unit {0}
AreNamed (k.Name n ∷ ts) = (is_name n ≡ true) × AreNamed ts
AreNamed (t ∷ ts) = AreNamed ts

-- these are named, and at most so many
pub record Fits (d : ℕ) (ts : List Tok) : Type 0 where
  pub named : AreNamed ts
  pub few : length ts ≤ d

-- after a name these do not begin its arguments
abbrev pub EndsName : List Tok → Type 0
EndsName ts = (some : List Tok → Option (List Term × List Tok)) → args_case ts some ≡ Some ([], ts)

-- after a product these do not go on with a factor
abbrev pub EndsProd : List Tok → Type 0
EndsProd ts = (before : Expr) (go : Op → List Tok → Option (Expr × List Tok)) → ops_case mul_op before ts go ≡ Some (before, ts)

-- after a sum these do not go on with a summand
abbrev pub EndsSum : List Tok → Type 0
EndsSum ts = (before : Expr) (go : Op → List Tok → Option (Expr × List Tok)) → ops_case add_op before ts go ≡ Some (before, ts)
