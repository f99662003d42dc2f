-- The text of an expression shows the tokens of its canonical tree: both have the same parentheses.
use Rattle.std.specs.Prelude.{ℕ, suc, ◌≡◌, true, List, ◌∷◌, ◌++◌, nat_lt, refl}
use Rattle.std.proofs.Common.{◌∙◌, sym, ap, subst, append-nil}
use Rattle.lps_terms.specs.declared.op.Op.{Op}
use Rattle.lps_terms.specs.declared.expr.Expr.{Expr}
use Rattle.lps_terms.specs.declared.expr.Expr.TheVariants as e
use Rattle.lps_terms.specs.declared.expr.Expr.TheFolds.{fold-Expr, fold-roll-Expr}
use Rattle.lps_terms.specs.declared.term.Term.{Term}
use Rattle.lps_grammar.specs.declared.tok.Tok.{Tok}
use Rattle.lps_grammar.specs.declared.tok.Tok.TheVariants as k
use Rattle.lps_grammar.specs.Signs.{is_add, is_mul}
use Rattle.lps_grammar.specs.Expressions as ex
use Rattle.lps_build.specs.Meaning.{leaf_of, op_of, unit_of, factors_of, prod_of, summands_of, expr_of}
use Rattle.lps_roundtrip.specs.Canonical as ca
use Rattle.lps_roundtrip.proofs.Thins.{with_factors_spelled, with_summands_spelled}
use Rattle.lps_numbering.specs.declared.names.Names.{Names}
use Rattle.lps_printer.specs.Terms.{term_text}
use Rattle.lps_printer.specs.Expressions.{expr_step, expr_text, in_parens, level_of, op_text}
use Rattle.lps_roundtrip.specs.Shown.{AreFine}
use Rattle.lps_roundtrip.specs.Words.{Word, written_as}
use Rattle.lps_roundtrip.proofs.Pieces.{Ends, Says}
use Rattle.lps_roundtrip.proofs.TermTexts.{leaf_writes}
use Rattle.lps_roundtrip.proofs.Writes.{as_text, between, both_write, sign_writes, token_writes, Writes}

-- ---- the text of an expression

leaf_text : (names : List (List ℕ)) (x : Term) (level : ℕ) → expr_text names level (e.Leaf x) ≡ term_text names x
leaf_text names x level = ap (λ text. text level) (ap (fold-Expr (ℕ → List ℕ) (expr_step names)) (sym (e.rolls-Leaf x)) ∙ fold-roll-Expr (ℕ → List ℕ) (expr_step names) _)

apply_text : (names : List (List ℕ)) (op : Op) (left right : Expr) (level : ℕ) →
    expr_text names level (e.Apply op left right)
    ≡ in_parens (nat_lt (level_of op) level) (expr_text names (level_of op) left ++ (op_text op ++ expr_text names (suc (level_of op)) right))
apply_text names op left right level =
    ap (λ text. text level) (ap (fold-Expr (ℕ → List ℕ) (expr_step names)) (sym (e.rolls-Apply op left right)) ∙ fold-roll-Expr (ℕ → List ℕ) (expr_step names) _)

-- ---- texts that show tokens

-- the tokens may be told otherwise
as_spelled : {names : Names} {text : List ℕ} {spell other : List Tok → List Tok} → ((toks : List Tok) → spell toks ≡ other toks) → Writes names text other → Writes names text spell
as_spelled {names} {text} same writes = subst (λ f. Writes names text f) (sym (λ i toks. same toks i)) writes

-- in parentheses
parens_write : {names : Names} {text : List ℕ} {spell : List Tok → List Tok} → Writes names text spell →
    Writes names (in_parens true text) (λ toks. k.Open ∷ spell (k.Close ∷ toks))
parens_write {names} writes = sign_writes k.Open refl (both_write (λ rest ends. refl) writes (token_writes names k.Close))

module _ (names : Names) where
  -- the text where the operators round it bind at this level
  abbrev text : ℕ → Expr → List ℕ
  text level x = expr_text names.names level x

  -- an operator between blanks and its operands
  abbrev applied : Tok → List ℕ → List ℕ → List ℕ
  applied t left right = left ++ (32 ∷ (written_as names t ++ (32 ∷ right)))

  product_text : (t : Tok) → is_mul t ≡ true → (left right : Expr) (level : ℕ) →
      text level (e.Apply (op_of t) left right) ≡ in_parens (nat_lt 1 level) (applied t (text 1 left) (text 2 right))
  product_text k.Star is left right level = apply_text names.names (op_of k.Star) left right level
  product_text k.Div is left right level = apply_text names.names (op_of k.Div) left right level
  product_text k.Mod is left right level = apply_text names.names (op_of k.Mod) left right level
  product_text t is left right level = absurd cc

  sum_text : (t : Tok) → is_add t ≡ true → (left right : Expr) (level : ℕ) →
      text level (e.Apply (op_of t) left right) ≡ in_parens (nat_lt 0 level) (applied t (text 0 left) (text 1 right))
  sum_text k.Plus is left right level = apply_text names.names (op_of k.Plus) left right level
  sum_text k.Minus is left right level = apply_text names.names (op_of k.Minus) left right level
  sum_text t is left right level = absurd cc

  -- products stand as they are among products and in sums, and in parentheses as operands of products
  record IsProduct (x : Expr) : Type 0 where
    loose : text 0 x ≡ text 1 x
    tight : text 2 x ≡ in_parens true (text 1 x)

  product : (t : Tok) → is_mul t ≡ true → (left right : Expr) → IsProduct (e.Apply (op_of t) left right)
  product t is left right =
      let plain : text 1 (e.Apply (op_of t) left right) ≡ applied t (text 1 left) (text 2 right) = product_text t is left right 1 ∙ append-nil _ in
      record { loose = product_text t is left right 0 ∙ append-nil _ ∙ sym plain; tight = product_text t is left right 2 ∙ ap (in_parens true) (sym plain) }

  factors_product : (xs : ex.Factors) (before : Expr) → IsProduct before → IsProduct (factors_of xs before)
  factors_product ex.no_factor before is = is
  factors_product (ex.times t by x xs) before is = factors_product xs (e.Apply (op_of t) before (unit_of x)) (product t by before (unit_of x))

  -- sums stand in parentheses as operands
  record IsSum (x : Expr) : Type 0 where
    tight : text 1 x ≡ in_parens true (text 0 x)
    tighter : text 2 x ≡ in_parens true (text 0 x)

  a_sum : (t : Tok) → is_add t ≡ true → (left right : Expr) → IsSum (e.Apply (op_of t) left right)
  a_sum t is left right =
      let plain : text 0 (e.Apply (op_of t) left right) ≡ applied t (text 0 left) (text 1 right) = sum_text t is left right 0 ∙ append-nil _ in
      record { tight = sum_text t is left right 1 ∙ ap (in_parens true) (sym plain); tighter = sum_text t is left right 2 ∙ ap (in_parens true) (sym plain) }

  summands_sum : (ps : ex.Summands) (before : Expr) → IsSum before → IsSum (summands_of ps before)
  summands_sum ex.no_summand before is = is
  summands_sum (ex.plus t by p ps) before is = summands_sum ps (e.Apply (op_of t) before (prod_of p)) (a_sum t by before (prod_of p))

  -- ---- the parentheses of the canonical tree

  unit_product : (p : ex.Prod) (t : Tok) (is : is_mul t ≡ true) (y : ex.Unit) (ys : ex.Factors) →
      ca.as_unit (ex.expr (ca.with_factors p (ex.times t is y ys)) ex.no_summand) ≡ ex.grouped (ex.expr (ca.with_factors p (ex.times t is y ys)) ex.no_summand)
  unit_product (ex.prod x ex.no_factor) t is y ys = refl
  unit_product (ex.prod x (ex.times u by z zs)) t is y ys = refl

  unit_sum : (x : ex.Expr) (t : Tok) (is : is_add t ≡ true) (q : ex.Prod) (qs : ex.Summands) →
      ca.as_unit (ca.with_summands x (ex.plus t is q qs)) ≡ ex.grouped (ca.with_summands x (ex.plus t is q qs))
  unit_sum (ex.expr (ex.prod x ex.no_factor) ex.no_summand) t is q qs = refl
  unit_sum (ex.expr (ex.prod x (ex.times v by y ys)) ex.no_summand) t is q qs = refl
  unit_sum (ex.expr (ex.prod x ex.no_factor) (ex.plus u by p ps)) t is q qs = refl
  unit_sum (ex.expr (ex.prod x (ex.times v of y ys)) (ex.plus u by p ps)) t is q qs = refl

  prod_sum : (x : ex.Expr) (t : Tok) (is : is_add t ≡ true) (q : ex.Prod) (qs : ex.Summands) →
      ca.as_prod (ca.with_summands x (ex.plus t is q qs)) ≡ ex.prod (ex.grouped (ca.with_summands x (ex.plus t is q qs))) ex.no_factor
  prod_sum (ex.expr p ex.no_summand) t is q qs = refl
  prod_sum (ex.expr p (ex.plus u by r rs)) t is q qs = refl

  append_none : (ps : ex.Summands) → ca.append_summands ps ex.no_summand ≡ ps
  append_none ex.no_summand = refl
  append_none (ex.plus t is p ps) = ap (ex.plus t is p) (append_none ps)

  with_none : (x : ex.Expr) → ca.with_summands x ex.no_summand ≡ x
  with_none (ex.expr p ps) = ap (ex.expr p) (append_none ps)

  -- ---- expressions

  -- the text of the meaning shows the tokens of the tree at each level
  record IsWritten (meaning : Expr) (x : ex.Expr) : Type 0 where
    loose : Writes names (text 0 meaning) (ex.spell_expr x)
    firm : Writes names (text 1 meaning) (ex.spell_prod (ca.as_prod x))
    tight : Writes names (text 2 meaning) (ex.spell_unit (ca.as_unit x))

  multiplied_written : (before : Expr) (x : ex.Expr) → IsWritten before x → (ys : ex.Factors) →
      Writes names (text 1 (factors_of ys before)) (λ toks. ex.spell_prod (ca.as_prod x) (ex.spell_factors (ca.canonical_factors ys) toks)) →
      IsWritten (factors_of ys before) (ca.multiplied x (ca.canonical_factors ys))
  multiplied_written before x is ex.no_factor writes = is
  multiplied_written before x is (ex.times t by y ys) writes =
      let factors = ca.canonical_factors (ex.times t by y ys) in
      let form : IsProduct (factors_of (ex.times t by y ys) before) = factors_product ys (e.Apply (op_of t) before (unit_of y)) (product t by before (unit_of y)) in
      let firm : Writes names (text 1 (factors_of (ex.times t by y ys) before)) (ex.spell_prod (ca.with_factors (ca.as_prod x) factors)) =
      as_spelled (with_factors_spelled (ca.as_prod x) factors) writes in
      record {
        loose = as_text form.loose firm;
        firm = firm;
        tight = as_text form.tight (as_spelled
            (λ toks. ap (λ u. ex.spell_unit u toks) (unit_product (ca.as_prod x) t by (ca.as_unit (ca.loose_unit y)) (ca.canonical_factors ys))) (parens_write firm));
      }

  summed_written : (before : Expr) (x : ex.Expr) → IsWritten before x → (qs : ex.Summands) →
      Writes names (text 0 (summands_of qs before)) (λ toks. ex.spell_expr x (ex.spell_summands (ca.canonical_summands qs) toks)) →
      IsWritten (summands_of qs before) (ca.with_summands x (ca.canonical_summands qs))
  summed_written before x is ex.no_summand writes = subst (IsWritten before) (sym (with_none x)) is
  summed_written before x is (ex.plus t by q qs) writes =
      let summands = ca.canonical_summands (ex.plus t by q qs) in
      let first = ca.as_prod (ca.loose_prod q) in
      let more = ca.canonical_summands qs in
      let form : IsSum (summands_of (ex.plus t by q qs) before) = summands_sum qs (e.Apply (op_of t) before (prod_of q)) (a_sum t by before (prod_of q)) in
      let loose : Writes names (text 0 (summands_of (ex.plus t by q qs) before)) (ex.spell_expr (ca.with_summands x summands)) =
      as_spelled (with_summands_spelled x summands) writes in
      record {
        loose = loose;
        firm = as_text form.tight (as_spelled (λ toks. ap (λ p. ex.spell_prod p toks) (prod_sum x t by first more)) (parens_write loose));
        tight = as_text form.tighter (as_spelled (λ toks. ap (λ u. ex.spell_unit u toks) (unit_sum x t by first more)) (parens_write loose));
      }

  mutual
    unit_written : (x : ex.Unit) → IsWritten (unit_of x) (ca.loose_unit x)
    unit_written (ex.single x) = record {
      loose = as_text (leaf_text names.names (leaf_of x) 0) (leaf_writes names x);
      firm = as_text (leaf_text names.names (leaf_of x) 1) (leaf_writes names x);
      tight = as_text (leaf_text names.names (leaf_of x) 2) (leaf_writes names x);
    }
    unit_written (ex.grouped x) = expr_written x

    factors_write : (xs : ex.Factors) (before : Expr) (spell : List Tok → List Tok) → Writes names (text 1 before) spell →
        Writes names (text 1 (factors_of xs before)) (λ toks. spell (ex.spell_factors (ca.canonical_factors xs) toks))
    factors_write ex.no_factor before spell writes = writes
    factors_write (ex.times t is x xs) before spell writes =
        factors_write xs (e.Apply (op_of t) before (unit_of x)) (λ toks. spell (t ∷ ex.spell_unit (ca.as_unit (ca.loose_unit x)) toks))
        (as_text (product_text t is before (unit_of x) 1 ∙ append-nil _) (between t writes (unit_written x).tight))

    prod_written : (p : ex.Prod) → IsWritten (prod_of p) (ca.loose_prod p)
    prod_written (ex.prod x xs) =
        multiplied_written (unit_of x) (ca.loose_unit x) (unit_written x) xs (factors_write xs (unit_of x) (ex.spell_prod (ca.as_prod (ca.loose_unit x))) (unit_written x).firm)

    summands_write : (ps : ex.Summands) (before : Expr) (spell : List Tok → List Tok) → Writes names (text 0 before) spell →
        Writes names (text 0 (summands_of ps before)) (λ toks. spell (ex.spell_summands (ca.canonical_summands ps) toks))
    summands_write ex.no_summand before spell writes = writes
    summands_write (ex.plus t is p ps) before spell writes =
        summands_write ps (e.Apply (op_of t) before (prod_of p)) (λ toks. spell (t ∷ ex.spell_prod (ca.as_prod (ca.loose_prod p)) toks))
        (as_text (sum_text t is before (prod_of p) 0 ∙ append-nil _) (between t writes (prod_written p).firm))

    expr_written : (x : ex.Expr) → IsWritten (expr_of x) (ca.canonical_expr x)
    expr_written (ex.expr p ps) =
        summed_written (prod_of p) (ca.loose_prod p) (prod_written p) ps (summands_write ps (prod_of p) (ex.spell_expr (ca.loose_prod p)) (prod_written p).loose)

  -- the text of an expression shows the tokens of its canonical tree
  pub expr_writes : (x : ex.Expr) → Writes names (expr_text names.names 0 (expr_of x)) (ex.spell_expr (ca.canonical_expr x))
  expr_writes x = (expr_written x).loose

  -- the same, told in full
  pub expr_is_shown : (x : ex.Expr) (line : ℕ) (words : List Word) (rest : List ℕ) (toks : List Tok) → AreFine names (ex.spell_expr (ca.canonical_expr x) toks) → Ends rest →
      Says names line words rest toks → Says names line words (expr_text names.names 0 (expr_of x) ++ rest) (ex.spell_expr (ca.canonical_expr x) toks)
  expr_is_shown x line words rest toks fine ends more = (expr_writes x).says line words rest toks fine ends more
