-- The tokens of an expression are read as what its tree means.
use Rattle.std.specs.Prelude.{ℕ, zero, suc, ◌≡◌, true, List, ◌∷◌, Some, refl}
use Rattle.std.proofs.Common.{◌∙◌, ap}
use Rattle.lps_terms.specs.declared.expr.Expr.{Expr}
use Rattle.lps_terms.specs.declared.expr.Expr.TheVariants as e
use Rattle.lps_grammar.specs.declared.tok.Tok.{Tok}
use Rattle.lps_grammar.specs.declared.tok.Tok.TheVariants as k
use Rattle.lps_grammar.specs.Signs.{is_mul, is_add}
use Rattle.lps_grammar.specs.Terms as g
use Rattle.lps_grammar.specs.Expressions as ge
use Rattle.lps_build.specs.Meaning.{op_of, unit_of, factors_of, prod_of, summands_of, expr_of}
use Rattle.lps_build.specs.ReadTerms.{then_in}
use Rattle.lps_build.specs.ReadExpressions.{mul_op, add_op, op_case, close_in, unit_in, factors_in, prod_in, summands_in, expr_in}
use Rattle.lps_build.specs.Fits.{Fits, EndsProd, EndsSum}
use Rattle.lps_build.proofs.Left.{left_unit, left_prod}
use Rattle.lps_build.proofs.TermTrees.{fits_tail, fits_next, no_room}

mul_is : (t : Tok) → is_mul t ≡ true → mul_op t ≡ Some (op_of t)
mul_is k.Star is = refl
mul_is k.Div is = refl
mul_is k.Mod is = refl
mul_is t is = absurd (cc)

add_is : (t : Tok) → is_add t ≡ true → add_op t ≡ Some (op_of t)
add_is k.Plus is = refl
add_is k.Minus is = refl
add_is t is = absurd (cc)

add_ends : (t : Tok) (ts : List Tok) → is_add t ≡ true → EndsProd (t ∷ ts)
add_ends k.Plus ts is = λ before go. refl
add_ends k.Minus ts is = λ before go. refl
add_ends t ts is = absurd (cc)

summands_end : (xs : ge.Summands) (rest : List Tok) → EndsProd rest → EndsProd (ge.spell_summands xs rest)
summands_end ge.no_summand rest ends = ends
summands_end (ge.plus t is x xs) rest ends = add_ends t _ is

stop_factors : (d : ℕ) (before : Expr) (rest : List Tok) → EndsProd rest → factors_in d before rest ≡ Some (before, rest)
stop_factors zero before rest ends = refl
stop_factors (suc d) before rest ends = ends before _

stop_summands : (d : ℕ) (before : Expr) (rest : List Tok) → EndsSum rest → summands_in d before rest ≡ Some (before, rest)
stop_summands zero before rest ends = refl
stop_summands (suc d) before rest ends = ends before _

mutual
  read_unit : (x : ge.Unit) (d : ℕ) (rest : List Tok) → Fits d (ge.spell_unit x rest) → unit_in d (ge.spell_unit x rest) ≡ Some (unit_of x, rest)
  read_unit (ge.single (g.variable may n)) zero rest p = no_room _ _ p
  read_unit (ge.single (g.number n small)) zero rest p = no_room _ _ p
  read_unit (ge.single (g.negative n small)) zero rest p = no_room _ _ p
  read_unit (ge.grouped x) zero rest p = no_room _ _ p
  read_unit (ge.single (g.variable may n)) (suc d) rest p = refl
  read_unit (ge.single (g.number n small)) (suc d) rest p = rw small refl
  read_unit (ge.single (g.negative n small)) (suc d) rest p = rw small refl
  read_unit (ge.grouped x) (suc d) rest p =
      ap (λ o. then_in o close_in) (read_expr x d (k.Close ∷ rest) (fits_next d _ _ p) (λ before go. refl) (λ before go. refl))

  read_factors : (xs : ge.Factors) (d : ℕ) (before : Expr) (rest : List Tok) → Fits d (ge.spell_factors xs rest) → EndsProd rest → factors_in d before (ge.spell_factors xs rest) ≡ Some (factors_of xs before, rest)
  read_factors ge.no_factor d before rest p ends = stop_factors d before rest ends
  read_factors (ge.times t is x xs) zero before rest p ends = no_room _ _ p
  read_factors (ge.times t is x xs) (suc d) before rest p ends =
      let us = ge.spell_unit x (ge.spell_factors xs rest) in
      let q = fits_next d _ _ p in
      ap (λ o. op_case o (Some (before, t ∷ us)) (λ op. then_in (unit_in d us) (λ y vs. factors_in d (e.Apply op before y) vs))) (mul_is t is)
      ∙ ap (λ o. then_in o (λ y vs. factors_in d (e.Apply (op_of t) before y) vs)) (read_unit x d (ge.spell_factors xs rest) q)
      ∙ read_factors xs d (e.Apply (op_of t) before (unit_of x)) rest (left_unit (Fits d) (fits_tail d) x (ge.spell_factors xs rest) q) ends

  read_prod : (x : ge.Prod) (d : ℕ) (rest : List Tok) → Fits d (ge.spell_prod x rest) → EndsProd rest → prod_in d (ge.spell_prod x rest) ≡ Some (prod_of x, rest)
  read_prod (ge.prod x xs) d rest p ends =
      ap (λ o. then_in o (λ y vs. factors_in d y vs)) (read_unit x d (ge.spell_factors xs rest) p)
      ∙ read_factors xs d (unit_of x) rest (left_unit (Fits d) (fits_tail d) x (ge.spell_factors xs rest) p) ends

  read_summands : (xs : ge.Summands) (d : ℕ) (before : Expr) (rest : List Tok) → Fits d (ge.spell_summands xs rest) → EndsProd rest → EndsSum rest → summands_in d before (ge.spell_summands xs rest) ≡ Some (summands_of xs before, rest)
  read_summands ge.no_summand d before rest p ends stops = stop_summands d before rest stops
  read_summands (ge.plus t is x xs) zero before rest p ends stops = no_room _ _ p
  read_summands (ge.plus t is x xs) (suc d) before rest p ends stops =
      let us = ge.spell_prod x (ge.spell_summands xs rest) in
      let q = fits_next d _ _ p in
      ap (λ o. op_case o (Some (before, t ∷ us)) (λ op. then_in (prod_in d us) (λ y vs. summands_in d (e.Apply op before y) vs))) (add_is t is)
      ∙ ap (λ o. then_in o (λ y vs. summands_in d (e.Apply (op_of t) before y) vs)) (read_prod x d (ge.spell_summands xs rest) q (summands_end xs rest ends))
      ∙ read_summands xs d (e.Apply (op_of t) before (prod_of x)) rest (left_prod (Fits d) (fits_tail d) x (ge.spell_summands xs rest) q) ends stops

  pub read_expr : (x : ge.Expr) (d : ℕ) (rest : List Tok) → Fits d (ge.spell_expr x rest) → EndsProd rest → EndsSum rest → expr_in d (ge.spell_expr x rest) ≡ Some (expr_of x, rest)
  read_expr (ge.expr x xs) d rest p ends stops =
      ap (λ o. then_in o (λ y vs. summands_in d y vs)) (read_prod x d (ge.spell_summands xs rest) p (summands_end xs rest ends))
      ∙ read_summands xs d (prod_of x) rest (left_prod (Fits d) (fits_tail d) x (ge.spell_summands xs rest) p) ends stops
