-- What is read after a token that is passed.
use Rattle.std.specs.Prelude.{ℕ, zero, suc, ◌-◌, ◌<◌, ◌≡◌, ◌++◌, List, [], ◌∷◌, length, Option, Some, None}
use Rattle.std.proofs.Common.{◌∙◌, refl, sym, ap, arith}
use Rattle.lps_terms.specs.declared.term.Term.{Term}
use Rattle.lps_terms.specs.declared.op.Op.{Op}
use Rattle.lps_terms.specs.declared.expr.Expr.{Expr}
use Rattle.lps_terms.specs.declared.expr.Expr.TheVariants.{Apply}
use Rattle.lps_grammar.specs.declared.tok.Tok.{Tok}
use Rattle.lps_grammar.specs.declared.tok.Tok.TheVariants as k
use Rattle.lps_build.specs.ReadTerms.{args_in, more_in, term_in, then_in}
use Rattle.lps_build.specs.ReadItems.{after_separator, comma_in, item_in, more_parts_in, parts_in}
use Rattle.lps_build.specs.ReadStatements.{alternatives_in, decl_in, or_in, statement_in, text_in}
use Rattle.lps_terms.specs.declared.item.Item.{Item}
use Rattle.lps_terms.specs.declared.decl.Decl.{Decl}
use Rattle.lps_terms.specs.declared.kind.Kind.{Kind}
use Rattle.lps_terms.specs.declared.body.Body.{Body}
use Rattle.lps_build.specs.ReadExpressions.{mul_op, add_op, op_case, unit_in, factors_in, prod_in, summands_in}

pub open_step : (d : ℕ) (xs : List Term) (toks us : List Tok) → 0 < d → xs ≡ [] → toks ≡ k.Open ∷ us →
    args_in d toks ≡ then_in (term_in (d - 1) us) (λ x vs. more_in (d - 1) (xs ++ x ∷ []) vs)
open_step zero xs toks us h n e = absurd (omega arith)
open_step (suc d) xs toks us h n e =
    ap (args_in (suc d)) e ∙ (λ i. then_in (term_in (same i) us) (λ x vs. more_in (same i) (sym n i ++ x ∷ []) vs))
  where
    same : d ≡ suc d - 1
    same = omega arith

pub comma_step : (d : ℕ) (xs : List Term) (toks us : List Tok) → 0 < d → toks ≡ k.Comma ∷ us →
    more_in d xs toks ≡ then_in (term_in (d - 1) us) (λ x vs. more_in (d - 1) (xs ++ x ∷ []) vs)
comma_step zero xs toks us h e = absurd (omega arith)
comma_step (suc d) xs toks us h e = ap (more_in (suc d) xs) e ∙ ap (λ m. then_in (term_in m us) (λ x vs. more_in m (xs ++ x ∷ []) vs)) (omega arith)

pub factor_step : (d : ℕ) (before x e : Expr) (t : Tok) (toks us vs : List Tok) (op : Op) → 0 < d → toks ≡ t ∷ us → mul_op t ≡ Some op →
    unit_in (d - 1) us ≡ Some (x, vs) → e ≡ Apply op before x → factors_in d before toks ≡ factors_in (d - 1) e vs
factor_step zero before x e t toks us vs op h r o u a = absurd (omega arith)
factor_step (suc d) before x e t toks us vs op h r o u a =
    ap (factors_in (suc d) before) r
    ∙ ap (λ m. op_case m (Some (before, t ∷ us)) (λ q. then_in (unit_in d us) (λ y ws. factors_in d (Apply q before y) ws))) o
    ∙ ap (λ m. then_in m (λ y ws. factors_in d (Apply op before y) ws)) (ap (λ m. unit_in m us) same ∙ u)
    ∙ (λ i. factors_in (same i) (sym a i) vs)
  where
    same : d ≡ suc d - 1
    same = omega arith

pub summand_step : (d : ℕ) (before x e : Expr) (t : Tok) (toks us vs : List Tok) (op : Op) → 0 < d → toks ≡ t ∷ us → add_op t ≡ Some op →
    prod_in (d - 1) us ≡ Some (x, vs) → e ≡ Apply op before x → summands_in d before toks ≡ summands_in (d - 1) e vs
summand_step zero before x e t toks us vs op h r o u a = absurd (omega arith)
summand_step (suc d) before x e t toks us vs op h r o u a =
    ap (summands_in (suc d) before) r
    ∙ ap (λ m. op_case m (Some (before, t ∷ us)) (λ q. then_in (prod_in d us) (λ y ws. summands_in d (Apply q before y) ws))) o
    ∙ ap (λ m. then_in m (λ y ws. summands_in d (Apply op before y) ws)) (ap (λ m. prod_in m us) same ∙ u)
    ∙ (λ i. summands_in (same i) (sym a i) vs)
  where
    same : d ≡ suc d - 1
    same = omega arith

pub part_step : {A : Type 0} (part : ℕ → List Tok → Option (A × List Tok)) (d e : ℕ) (before after : List A) (x : A) (toks us vs : List Tok) → 0 < d → e ≡ d - 1 → comma_in toks ≡ Some us →
    part (d - 1) us ≡ Some (x, vs) → after ≡ before ++ x ∷ [] → more_parts_in part e after vs ≡ more_parts_in part d before toks
part_step part zero e before after x toks us vs h m r p a = absurd (omega arith)
part_step part (suc d) e before after x toks us vs h m r p a =
    (λ i. more_parts_in part (less i) (a i) vs)
    ∙ sym (ap (λ o. then_in o (λ y ws. more_parts_in part d (before ++ y ∷ []) ws)) (ap (λ n. part n us) (sym same) ∙ p))
    ∙ sym (ap (λ found. after_separator found (Some (before, toks)) (λ ws. then_in (part d ws) (λ y zs. more_parts_in part d (before ++ y ∷ []) zs))) r)
  where
    same : suc d - 1 ≡ d
    same = omega arith

    less : e ≡ d
    less = m ∙ same

-- where no comma stands, no part follows
pub parts_end : {A : Type 0} (part : ℕ → List Tok → Option (A × List Tok)) (d : ℕ) (before : List A) (toks : List Tok) → comma_in toks ≡ None →
    more_parts_in part d before toks ≡ Some (before, toks)
parts_end part zero before toks none = refl
parts_end part (suc d) before toks none =
    ap (λ found. after_separator found (Some (before, toks)) (λ ws. then_in (part d ws) (λ y zs. more_parts_in part d (before ++ y ∷ []) zs))) none

-- where a comma stands and no part after it, there are none
pub part_missing : {A : Type 0} (part : ℕ → List Tok → Option (A × List Tok)) (d : ℕ) (before : List A) (toks us : List Tok) → 0 < d → comma_in toks ≡ Some us →
    part (d - 1) us ≡ None → more_parts_in part d before toks ≡ None
part_missing part zero before toks us h r p = absurd (omega arith)
part_missing part (suc d) before toks us h r p =
    ap (λ found. after_separator found (Some (before, toks)) (λ ws. then_in (part d ws) (λ y zs. more_parts_in part d (before ++ y ∷ []) zs))) r
    ∙ ap (λ o. then_in o (λ y zs. more_parts_in part d (before ++ y ∷ []) zs)) (ap (λ n. part n us) (sym same) ∙ p)
  where
    same : suc d - 1 ≡ d
    same = omega arith

-- where no `or` stands, no alternative follows
pub alternatives_end : (d : ℕ) (before : List (List Item)) (toks : List Tok) → or_in toks ≡ None → alternatives_in d before toks ≡ Some (before, toks)
alternatives_end zero before toks none = refl
alternatives_end (suc d) before toks none =
    ap (λ found. after_separator found (Some (before, toks)) (λ ws. then_in (parts_in item_in d ws) (λ y zs. alternatives_in d (before ++ y ∷ []) zs))) none

-- where `or` stands and no alternative after it, there are none
pub alternative_missing : (d : ℕ) (before : List (List Item)) (toks us : List Tok) → 0 < d → or_in toks ≡ Some us → parts_in item_in (d - 1) us ≡ None → alternatives_in d before toks ≡ None
alternative_missing zero before toks us h r p = absurd (omega arith)
alternative_missing (suc d) before toks us h r p =
    ap (λ found. after_separator found (Some (before, toks)) (λ ws. then_in (parts_in item_in d ws) (λ y zs. alternatives_in d (before ++ y ∷ []) zs))) r
    ∙ ap (λ o. then_in o (λ y zs. alternatives_in d (before ++ y ∷ []) zs)) (ap (λ n. parts_in item_in n us) (sym same) ∙ p)
  where
    same : suc d - 1 ≡ d
    same = omega arith

pub alternative_step : (d e : ℕ) (before after : List (List Item)) (x : List Item) (toks us vs : List Tok) → 0 < d → e ≡ d - 1 → or_in toks ≡ Some us →
    parts_in item_in (d - 1) us ≡ Some (x, vs) → after ≡ before ++ x ∷ [] → alternatives_in e after vs ≡ alternatives_in d before toks
alternative_step zero e before after x toks us vs h m r p a = absurd (omega arith)
alternative_step (suc d) e before after x toks us vs h m r p a =
    (λ i. alternatives_in (less i) (a i) vs)
    ∙ sym (ap (λ o. then_in o (λ y ws. alternatives_in d (before ++ y ∷ []) ws)) (ap (λ n. parts_in item_in n us) (sym same) ∙ p))
    ∙ sym (ap (λ found. after_separator found (Some (before, toks)) (λ ws. then_in (parts_in item_in d ws) (λ y zs. alternatives_in d (before ++ y ∷ []) zs))) r)
  where
    same : suc d - 1 ≡ d
    same = omega arith

    less : e ≡ d
    less = m ∙ same

-- where no token is left, no statement follows
pub text_ends : (total d : ℕ) (before : List (ℕ × Body)) (toks : List Tok) → length toks ≡ 0 → text_in total d before toks ≡ Some (before, toks)
text_ends total zero before toks none = refl
text_ends total (suc d) before [] none = refl
text_ends total (suc d) before (t ∷ ts) none = absurd (omega (arith, none))

-- where tokens are left that begin with no statement, there is none
pub statement_missing : (total d : ℕ) (before : List (ℕ × Body)) (toks : List Tok) → 0 < d → 0 < length toks → statement_in d toks ≡ None → text_in total d before toks ≡ None
statement_missing total zero before toks h some p = absurd (omega arith)
statement_missing total (suc d) before [] h some p = absurd (omega (arith, some))
statement_missing total (suc d) before (t ∷ ts) h some p =
    ap (λ o. then_in o (λ x us. text_in total d (before ++ (total - length (t ∷ ts), x) ∷ []) us)) p

pub statement_step : (total d e place : ℕ) (before after : List (ℕ × Body)) (x : Body) (toks us : List Tok) → 0 < d → 0 < length toks → e ≡ d - 1 → statement_in d toks ≡ Some (x, us) →
    place ≡ total - length toks → after ≡ before ++ (place, x) ∷ [] → text_in total e after us ≡ text_in total d before toks
statement_step total zero e place before after x toks us h some m p q a = absurd (omega arith)
statement_step total (suc d) e place before after x [] us h some m p q a = absurd (omega (arith, some))
statement_step total (suc d) e place before after x (t ∷ ts) us h some m p q a =
    (λ i. text_in total (less i) (a i) us)
    ∙ ap (λ n. text_in total d (before ++ (n, x) ∷ []) us) q
    ∙ sym (ap (λ o. then_in o (λ y vs. text_in total d (before ++ (total - length (t ∷ ts), y) ∷ []) vs)) p)
  where
    less : e ≡ d
    less = m ∙ omega arith

pub decl_step : (kind : Kind) (d e : ℕ) (before after : List Decl) (x : Decl) (toks us vs : List Tok) → 0 < d → e ≡ d - 1 → comma_in toks ≡ Some us →
    decl_in kind (d - 1) us ≡ Some (x, vs) → after ≡ before ++ x ∷ [] → more_parts_in (decl_in kind) e after vs ≡ more_parts_in (decl_in kind) d before toks
decl_step kind = part_step (decl_in kind)
