-- The condition or the item at the front of tokens, and the tokens after it. A number bounds how many tokens are left.
use Rattle.std.specs.Prelude.{ℕ, zero, suc, ℤ, pos, Bool, true, false, ◌++◌, List, [], ◌∷◌, Option, Some, None, nat_le, if◌then◌else◌}
use Rattle.lps_terms.specs.declared.atom.Atom.{Atom}
use Rattle.lps_terms.specs.declared.term.Term.{Term}
use Rattle.lps_terms.specs.declared.expr.Expr.{Expr}
use Rattle.lps_terms.specs.declared.rel.Rel.{Rel}
use Rattle.lps_terms.specs.declared.rel.Rel.TheVariants as r
use Rattle.lps_terms.specs.declared.time_rel.TimeRel.{TimeRel}
use Rattle.lps_terms.specs.declared.time_rel.TimeRel.TheVariants as tr
use Rattle.lps_terms.specs.declared.built.Built.{Built}
use Rattle.lps_terms.specs.declared.built.Built.TheVariants as b
use Rattle.lps_terms.specs.declared.cond.Cond.{Cond}
use Rattle.lps_terms.specs.declared.cond.Cond.TheVariants as c
use Rattle.lps_terms.specs.declared.item.Item.{Item}
use Rattle.lps_terms.specs.declared.item.Item.TheVariants as i
use Rattle.lps_terms.specs.declared.lit.Lit.{Lit}
use Rattle.lps_terms.specs.declared.con.Con.{Con}
use Rattle.lps_terms.specs.declared.time_var.TimeVar.{TimeVar}
use Rattle.lps_grammar.specs.declared.tok.Tok.{Tok}
use Rattle.lps_grammar.specs.declared.tok.Tok.TheVariants as k
use Rattle.lps_build.specs.Meaning.{call_of, lit_of, minus, time_of}
use Rattle.lps_build.specs.ReadTerms.{atom_in, leaf_in, term_in, then_in}
use Rattle.lps_build.specs.ReadExpressions.{expr_in}

-- ---- lists

-- the tokens after a comma, if one stands here
abbrev pub comma_in : List Tok → Option (List Tok)
comma_in (k.Comma ∷ ts) = Some ts
comma_in ts = None

-- what comes after a token that separates, or where none stands here
abbrev pub after_separator : {B : Type 0} → Option (List Tok) → B → (List Tok → B) → B
after_separator None stop go = stop
after_separator (Some ts) stop go = go ts

-- the parts after those before, each after a comma
abbrev pub more_parts_in : {A : Type 0} → (ℕ → List Tok → Option (A × List Tok)) → ℕ → List A → List Tok → Option (List A × List Tok)
more_parts_in part zero before ts = Some (before, ts)
more_parts_in part (suc d) before ts =
    after_separator (comma_in ts) (Some (before, ts)) (λ us. then_in (part d us) (λ x vs. more_parts_in part d (before ++ x ∷ []) vs))

-- parts with a comma between each two
abbrev pub parts_in : {A : Type 0} → (ℕ → List Tok → Option (A × List Tok)) → ℕ → List Tok → Option (List A × List Tok)
parts_in part d ts = then_in (part d ts) (λ x us. more_parts_in part d (x ∷ []) us)

-- ---- built-ins

-- a relation of two expressions
abbrev pub rel_in : Tok → Option Rel
rel_in k.Less = Some r.Less
rel_in k.AtMost = Some r.AtMost
rel_in k.Greater = Some r.Greater
rel_in k.AtLeast = Some r.AtLeast
rel_in t = None

-- the second expression of a comparison
abbrev pub right_in : ℕ → Expr → Option Rel → List Tok → Option (Built × List Tok)
right_in d left None ts = None
right_in d left (Some rel) ts = then_in (expr_in d ts) (λ right us. Some (b.Compare rel left right, us))

-- the relation and the second expression of a comparison
abbrev pub rest_in : ℕ → Expr → List Tok → Option (Built × List Tok)
rest_in d left [] = None
rest_in d left (t ∷ ts) = right_in d left (rel_in t) ts

-- a comparison of two expressions
abbrev pub compare_in : ℕ → List Tok → Option (Built × List Tok)
compare_in d ts = then_in (expr_in d ts) (λ left us. rest_in d left us)

-- a sign between two sides stands here
abbrev pub is_side : List Tok → Bool
is_side (k.Equal ∷ ts) = true
is_side (k.Differ ∷ ts) = true
is_side ts = false

-- the sign and the right side after a left side
abbrev pub side_in : ℕ → Term → List Tok → Option (Built × List Tok)
side_in d left (k.Equal ∷ ts) = then_in (term_in d ts) (λ right us. Some (b.Same left right, us))
side_in d left (k.Differ ∷ ts) = then_in (term_in d ts) (λ right us. Some (b.Differ left right, us))
side_in d left ts = None

-- `is` and its expression after a leaf, or what stands there else
abbrev pub is_case : ℕ → Term → List Tok → Option (Built × List Tok) → Option (Built × List Tok)
is_case d left (k.Is ∷ ts) other = then_in (expr_in d ts) (λ right us. Some (b.Is left right, us))
is_case d left ts other = other

-- what is built on a leaf, if one is at the front, or else a comparison
abbrev pub leaf_case : ℕ → Option (Term × List Tok) → Option (Built × List Tok) → Option (Built × List Tok)
leaf_case d None compare = compare
leaf_case d (Some p) compare = if is_side p.1 then side_in d p.0 p.1 else is_case d p.0 p.1 compare

-- a built-in that begins with no name
abbrev pub built_in : ℕ → List Tok → Option (Built × List Tok)
built_in d ts = leaf_case d (leaf_in ts) (compare_in d ts)

-- ---- conditions

-- the atom as a side
abbrev pub term_from : Atom → Term
term_from a = call_of a.name a.args

-- a condition that begins with an atom
abbrev pub named_cond : ℕ → Atom → List Tok → Option (Cond × List Tok)
named_cond d a ts = if is_side ts then then_in (side_in d (term_from a) ts) (λ x us. Some (c.Built x, us)) else Some (c.Lit (lit_of false a), ts)

-- a condition
abbrev pub cond_in : ℕ → List Tok → Option (Cond × List Tok)
cond_in d (k.Not ∷ ts) = then_in (atom_in d ts) (λ a us. Some (c.Lit (lit_of true a), us))
cond_in d (k.Name n ∷ ts) = then_in (atom_in d (k.Name n ∷ ts)) (λ a us. named_cond d a us)
cond_in d ts = then_in (built_in d ts) (λ x us. Some (c.Built x, us))

-- ---- items

-- a time
abbrev pub time_in : List Tok → Option (TimeVar × List Tok)
time_in (k.Time n ∷ ts) = Some (time_of n, ts)
time_in ts = None

-- `to` and a time
abbrev pub to_in : List Tok → Option (TimeVar × List Tok)
to_in (k.To ∷ ts) = time_in ts
to_in ts = None

-- the literal at its time, if it has one
abbrev pub placed_in : Lit → List Tok → Option (Item × List Tok)
placed_in l (k.At ∷ ts) = then_in (time_in ts) (λ x us. Some (i.At l x, us))
placed_in l ts = Some (i.Bare l, ts)

-- two times after `from`
abbrev pub times_in : List Tok → Option ((TimeVar × TimeVar) × List Tok)
times_in ts = then_in (time_in ts) (λ x us. then_in (to_in us) (λ y vs. Some ((x, y), vs)))

-- the atom from a time to a time, or else as a literal
abbrev pub positive_in : Atom → List Tok → Option (Item × List Tok)
positive_in a (k.From ∷ ts) = then_in (times_in ts) (λ p us. Some (i.Span a p.0 p.1, us))
positive_in a ts = placed_in (lit_of false a) ts

-- a relation of two times
abbrev pub time_rel_in : List Tok → Option (TimeRel × List Tok)
time_rel_in (k.Less ∷ ts) = Some (tr.Less, ts)
time_rel_in (k.AtMost ∷ ts) = Some (tr.AtMost, ts)
time_rel_in (k.Equal ∷ ts) = Some (tr.Equal, ts)
time_rel_in (k.Greater ∷ ts) = Some (tr.Greater, ts)
time_rel_in (k.AtLeast ∷ ts) = Some (tr.AtLeast, ts)
time_rel_in ts = None

-- a number, at most a million
abbrev pub million_in : List Tok → Option (ℕ × List Tok)
million_in (k.Number n ∷ ts) = if nat_le n 1000000 then Some (n, ts) else None
million_in ts = None

-- what is added to a time
abbrev pub shift_in : List Tok → Option (ℤ × List Tok)
shift_in (k.Plus ∷ ts) = then_in (million_in ts) (λ n us. Some (pos n, us))
shift_in (k.Minus ∷ ts) = then_in (million_in ts) (λ n us. Some (minus n, us))
shift_in ts = Some (pos 0, ts)

-- a constraint
abbrev pub con_in : List Tok → Option (Con × List Tok)
con_in ts =
    then_in (time_in ts) (λ x us. then_in (time_rel_in us) (λ rel vs. then_in (time_in vs) (λ y ws.
    then_in (shift_in ws) (λ z rest. Some (record { left = x; rel = rel; right = y; plus = z }, rest)))))

-- an item that begins with an atom
abbrev pub named_item : ℕ → Atom → List Tok → Option (Item × List Tok)
named_item d a ts = if is_side ts then then_in (side_in d (term_from a) ts) (λ x us. Some (i.Built x, us)) else positive_in a ts

-- an item
abbrev pub item_in : ℕ → List Tok → Option (Item × List Tok)
item_in d (k.Not ∷ ts) = then_in (atom_in d ts) (λ a us. placed_in (lit_of true a) us)
item_in d (k.Name n ∷ ts) = then_in (atom_in d (k.Name n ∷ ts)) (λ a us. named_item d a us)
item_in d (k.Time n ∷ ts) = then_in (con_in (k.Time n ∷ ts)) (λ x us. Some (i.Con x, us))
item_in d ts = then_in (built_in d ts) (λ x us. Some (i.Built x, us))
