-- Expressions: their trees, which follow the binding of the operators, and the tokens of each.
use Rattle.std.specs.Prelude.{◌≡◌, true, List, ◌∷◌}
use Rattle.lps_grammar.specs.declared.tok.Tok.{Tok}
use Rattle.lps_grammar.specs.declared.tok.Tok.TheVariants as k
use Rattle.lps_grammar.specs.Signs.{is_mul, is_add}
use Rattle.lps_grammar.specs.Terms.{Leaf, spell_leaf}

mutual
  -- unit = leaf | "(" expr ")"
  pub data Unit : Type 0 where
    single : Leaf true → Unit
    grouped : Expr → Unit

  -- { ("*" | "div" | "mod") unit }
  pub data Factors : Type 0 where
    no_factor : Factors
    times : (t : Tok) → is_mul t ≡ true → Unit → Factors → Factors

  -- prod = unit { ("*" | "div" | "mod") unit }
  pub data Prod : Type 0 where
    prod : Unit → Factors → Prod

  -- { ("+" | "-") prod }
  pub data Summands : Type 0 where
    no_summand : Summands
    plus : (t : Tok) → is_add t ≡ true → Prod → Summands → Summands

  -- expr = prod { ("+" | "-") prod }
  pub data Expr : Type 0 where
    expr : Prod → Summands → Expr

abbrev mutual
  -- the tokens of a unit, and then `rest`
  pub spell_unit : Unit → List Tok → List Tok
  spell_unit (single x) rest = spell_leaf x rest
  spell_unit (grouped e) rest = k.Open ∷ spell_expr e (k.Close ∷ rest)

  -- the tokens of the factors after a first unit
  pub spell_factors : Factors → List Tok → List Tok
  spell_factors no_factor rest = rest
  spell_factors (times t is x xs) rest = t ∷ spell_unit x (spell_factors xs rest)

  -- the tokens of a product
  pub spell_prod : Prod → List Tok → List Tok
  spell_prod (prod x xs) rest = spell_unit x (spell_factors xs rest)

  -- the tokens of the summands after a first product
  pub spell_summands : Summands → List Tok → List Tok
  spell_summands no_summand rest = rest
  spell_summands (plus t is p ps) rest = t ∷ spell_prod p (spell_summands ps rest)

  -- the tokens of an expression
  pub spell_expr : Expr → List Tok → List Tok
  spell_expr (expr p ps) rest = spell_prod p (spell_summands ps rest)
