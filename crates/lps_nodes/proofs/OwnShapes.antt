-- A shape with each variable and each unknown time in its own place is itself.
use Rattle.std.proofs.Common.{ℕ, ◌≡◌, List, [], ◌∷◌, map, refl, ap, ◌∙◌}
use Rattle.lps_terms.specs.declared.built.Built.{Built}
use Rattle.lps_terms.specs.declared.built.Built.TheVariants as b
use Rattle.lps_terms.specs.declared.expr.Expr.{Expr}
use Rattle.lps_terms.specs.declared.expr.Expr.TheVariants as e
use Rattle.lps_terms.specs.declared.lit.Lit.{Lit}
use Rattle.lps_terms.specs.declared.atom.Atom.{Atom}
use Rattle.lps_terms.specs.declared.term.Term.{Term}
use Rattle.lps_terms.specs.declared.term.Term.TheVariants as t
use Rattle.lps_terms.specs.Put.{put, put_atom, put-Var_each}
use Rattle.lps_derivation.specs.Expressions.{put_expr, put_expr-Leaf, put_expr-Apply, expr_ind}
use Rattle.lps_derivation.specs.Instances.{put_lit, put_built}
use Rattle.lps_meaning.specs.declared.node.Left.{Left}
use Rattle.lps_meaning.specs.declared.node.LeftCon.{LeftCon}
use Rattle.lps_meaning.specs.declared.node.LeftItem.{LeftItem}
use Rattle.lps_meaning.specs.declared.node.LeftItem.TheVariants as l
use Rattle.lps_meaning.specs.declared.when.When.{When}
use Rattle.lps_meaning.specs.declared.when.When.TheVariants.{Known, Unknown}
use Rattle.lps_nodes.specs.Shapes.{Shape, put_when, put_left_item, put_left, put_left_con, put_shape}

-- each variable, and each unknown time, in its own place
abbrev pub own : ℕ → Term
own v = t.Var v

abbrev pub own_time : ℕ → When
own_time k = Unknown k

own_when : (time : When) → put_when own_time time ≡ time
own_when (Known n) = refl
own_when (Unknown k) = refl

own_whens : (times : List When) → map (put_when own_time) times ≡ times
own_whens [] = refl
own_whens (time ∷ times) = λ i. own_when time i ∷ own_whens times i

own_terms : (ts : List Term) → map (put own) ts ≡ ts
own_terms [] = refl
own_terms (x ∷ xs) = λ i. put-Var_each x i ∷ own_terms xs i

own_atom : (a : Atom) → put_atom own a ≡ a
own_atom a = ap (λ args. record { name = a.name; args = args }) (own_terms a.args)

own_lit : (lit : Lit) → put_lit own lit ≡ lit
own_lit lit = ap (λ a. record { negated = lit.negated; atom = a }) (own_atom lit.atom)

own_expr : (x : Expr) → put_expr own x ≡ x
own_expr = expr_ind (λ x. put_expr own x ≡ x) (λ x. put_expr-Leaf own x ∙ ap (λ y. e.Leaf y) (put-Var_each x))
    (λ op x y one two. put_expr-Apply own op x y ∙ (λ i. e.Apply op (one i) (two i)))

own_built : (x : Built) → put_built own x ≡ x
own_built (b.Same x y) = λ i. b.Same (put-Var_each x i) (put-Var_each y i)
own_built (b.Differ x y) = λ i. b.Differ (put-Var_each x i) (put-Var_each y i)
own_built (b.Is x y) = λ i. b.Is (put-Var_each x i) (own_expr y i)
own_built (b.Compare rel x y) = λ i. b.Compare rel (own_expr x i) (own_expr y i)

own_item : (item : LeftItem) → put_left_item own own_time item ≡ item
own_item (l.At lit time) = λ i. l.At (own_lit lit i) (own_when time i)
own_item (l.Bare lit) = ap (λ y. l.Bare y) (own_lit lit)
own_item (l.Built built) = ap (λ y. l.Built y) (own_built built)
own_item (l.Span a from to) = λ i. l.Span (own_atom a i) (own_when from i) (own_when to i)

own_rest : (rest : List Left) → map (put_left own own_time) rest ≡ rest
own_rest [] = refl
own_rest (left ∷ rest) = λ i. record { item = own_item left.item i; nest = left.nest } ∷ own_rest rest i

own_limits : (limits : List LeftCon) → map (put_left_con own_time) limits ≡ limits
own_limits [] = refl
own_limits (con ∷ limits) = λ i. record { left = own_when con.left i; rel = con.rel; right = own_when con.right i; plus = con.plus } ∷ own_limits limits i

pub own_shape : (g : Shape) → put_shape own own_time g ≡ g
own_shape g = λ i. record {
  carry = record { values = own_terms g.carry.values i; times = own_whens g.carry.times i };
  rest = own_rest g.rest i;
  limits = own_limits g.limits i;
}
