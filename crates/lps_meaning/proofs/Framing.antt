-- The macro clauses of accepted texts are framed: others are refused for the times of their heads.
use Rattle.std.proofs.Common.{ℕ, zero, suc, Bool, true, false, cond, ◌≡◌, List, [], ◌∷◌, ◌++◌, ◌∙◌, refl, sym, ap, subst, arith}
use Rattle.std.specs.Prelude.{◌&&◌, ◌==◌, if◌then◌else◌, nat_eq, Option, Some, None, slice_get}
use Rattle.std.specs.List.{AllByRecursion, flat_map, filter}
use Rattle.std.proofs.lemmas.Bool.{and_parts, not-false}
use Rattle.std.proofs.lemmas.Bool.Decides.{nat_tests}
use Rattle.lps_terms.specs.declared.atom.Atom.{Atom}
use Rattle.lps_terms.specs.declared.body.Body.{Body}
use Rattle.lps_terms.specs.declared.body.Body.TheVariants as b
use Rattle.lps_terms.specs.declared.item.Item.{Item}
use Rattle.lps_terms.specs.declared.item.Item.TheVariants as i
use Rattle.lps_terms.specs.declared.kind.Kind.{Kind}
use Rattle.lps_terms.specs.declared.statement.Statement.{Statement}
use Rattle.lps_terms.specs.declared.time_var.TimeVar.{TimeVar}
use Rattle.lps_terms.specs.Names.{name_eq}
use Rattle.lps_model.specs.Order.{happens, are_grouped, joins, with_first, parts, steps_in, steps, last_end_after, last_end, is_time, has_bad_head_times, is_out_of_order, is_mixed_somewhere, first_line, refusal_at, first_begin as step_begin}
use Rattle.lps_model.proofs.Stated.{no_order_refused}
use Rattle.lps_meaning.specs.Laws.{AcceptedAreFramed}
use Rattle.lps_model.specs.Rules.{MacroClause, macro_clause_in, macro_clauses, clauses_of, numbered, kind_of}
use Rattle.lps_meaning.specs.Frames.{IsFramed, first_begin, last_end_or}

false_true : false ≡ true → ⊥
false_true e = cc

some_none : {A : Type 0} {x : A} → Some x ≡ None → ⊥
some_none e = cc

clause_or : MacroClause → Option MacroClause → MacroClause
clause_or given (Some clause) = clause
clause_or given None = given

some_same_clause : {x y : MacroClause} → Some x ≡ Some y → x ≡ y
unfolding clause_or
some_same_clause {x} e = ap (clause_or x) e

same_number : (n m : ℕ) → nat_eq n m ≡ true → n ≡ m
same_number n m e = grind (arith, nat_tests)

-- ---- the steps of a sequence begin and end as its items do

module _ (kind : List ℕ → Option Kind) where
  -- the parts of an item and what follows, which has these, where the item is grouped with the first of them or not
  abbrev joined : Bool → Item → List (List Item) → List (List Item)
  joined grouped item more = if grouped then with_first item more else (item ∷ []) ∷ more

  span_begins : (grouped : Bool) (item : Item) (time : ℕ) → ((more : List (List Item)) → step_begin (steps_in ((item ∷ []) ∷ more)) ≡ Some time) →
      ((part : List Item) (more : List (List Item)) → step_begin (steps_in ((item ∷ part) ∷ more)) ≡ Some time) →
      (more : List (List Item)) → step_begin (steps_in (joined grouped item more)) ≡ Some time
  span_begins false item time alone first more = alone more
  span_begins true item time alone first [] = alone []
  span_begins true item time alone first (part ∷ more) = first part more

  begins : (items : List Item) → step_begin (steps kind items) ≡ first_begin items
  begins [] = refl
  begins (i.At l time ∷ []) = refl
  begins (i.At l time ∷ next ∷ rest) = refl
  begins (i.Span a from to ∷ rest) =
      span_begins (joins kind (i.Span a from to) rest) (i.Span a from to) from.0 (λ more. refl) (λ part more. refl) (parts kind rest)
  begins (i.Bare l ∷ []) = refl
  begins (i.Bare l ∷ next ∷ rest) = begins (next ∷ rest)
  begins (i.Built c ∷ []) = refl
  begins (i.Built c ∷ next ∷ rest) = begins (next ∷ rest)
  begins (i.Con con ∷ []) = refl
  begins (i.Con con ∷ next ∷ rest) = begins (next ∷ rest)

  -- the first part of a sequence begins with its first item
  opened : (grouped : Bool) (item : Item) (more : List (List Item)) → (part : List Item) × (later : List (List Item)) × (joined grouped item more ≡ (item ∷ part) ∷ later)
  opened false item more = ([], more, refl)
  opened true item [] = ([], [], refl)
  opened true item (part ∷ more) = (part, more, refl)

  -- spans that are grouped end together
  same_end : (a b : Atom) (from to from' to' : TimeVar) → are_grouped kind (i.Span a from to) (i.Span b from' to') ≡ true → to.0 ≡ to'.0
  same_end a b from to from' to' e =
      let later = (and_parts (happens (kind a.name)) (happens (kind b.name) && (from.0 == from'.0 && to.0 == to'.0)) e).1 in
      let times = (and_parts (happens (kind b.name)) (from.0 == from'.0 && to.0 == to'.0) later).1 in
      same_number to.0 to'.0 (and_parts (from.0 == from'.0) (to.0 == to'.0) times).1

  -- a span in front of what ends as its items do
  span_ends : (grouped : Bool) (a : Atom) (from to : TimeVar) (rest : List Item) → joins kind (i.Span a from to) rest ≡ grouped →
      ((before : Option ℕ) → last_end_after before (steps kind rest) ≡ last_end_or before rest) → (before : Option ℕ) →
      last_end_after before (steps_in (joined grouped (i.Span a from to) (parts kind rest))) ≡ last_end_or (Some to.0) rest
  span_ends false a from to rest e later before = later (Some to.0)
  span_ends true a from to [] e later before = absurd (false_true e)
  span_ends true a from to (i.At l time ∷ rest) e later before = absurd (false_true e)
  span_ends true a from to (i.Bare l ∷ rest) e later before = absurd (false_true e)
  span_ends true a from to (i.Built c ∷ rest) e later before = absurd (false_true e)
  span_ends true a from to (i.Con con ∷ rest) e later before = absurd (false_true e)
  span_ends true a from to (i.Span b from' to' ∷ rest) e later before =
      let next : Item = i.Span b from' to' in
      let first = opened (joins kind next rest) next (parts kind rest) in
      let ends : last_end_after (Some to'.0) (steps_in first.1) ≡ last_end_or (Some to'.0) rest =
      subst (λ ps. last_end_after None (steps_in ps) ≡ last_end_or (Some to'.0) rest) first.2 (later None) in
      subst (λ ps. last_end_after before (steps_in (with_first (i.Span a from to) ps)) ≡ last_end_or (Some to'.0) rest) (sym first.2)
      (subst (λ t. last_end_after (Some t) (steps_in first.1) ≡ last_end_or (Some to'.0) rest) (sym (same_end a b from to from' to' e)) ends)

  ends : (items : List Item) (before : Option ℕ) → last_end_after before (steps kind items) ≡ last_end_or before items
  ends [] before = refl
  ends (i.At l time ∷ []) before = refl
  ends (i.At l time ∷ next ∷ rest) before = ends (next ∷ rest) (Some time.0)
  ends (i.Span a from to ∷ rest) before = span_ends (joins kind (i.Span a from to) rest) a from to rest refl (ends rest) before
  ends (i.Bare l ∷ []) before = refl
  ends (i.Bare l ∷ next ∷ rest) before = ends (next ∷ rest) before
  ends (i.Built c ∷ []) before = refl
  ends (i.Built c ∷ next ∷ rest) before = ends (next ∷ rest) before
  ends (i.Con con ∷ []) before = refl
  ends (i.Con con ∷ next ∷ rest) before = ends (next ∷ rest) before

  -- ---- what is not refused for the times of its head is framed

  is_time_some : (found : Option ℕ) (time : ℕ) → is_time found time ≡ true → found ≡ Some time
  is_time_some None time e = absurd (false_true e)
  is_time_some (Some t) time e = ap Some (same_number t time e)

  framed_body : (body : Body) → has_bad_head_times kind body ≡ false → AllByRecursion IsFramed (macro_clause_in body)
  framed_body (b.Declare decls) e = tt
  framed_body (b.Initially facts) e = tt
  framed_body (b.Denial items) e = tt
  framed_body (b.Rule antecedent alternatives) e = tt
  framed_body (b.Law initiates event fluent conds) e = tt
  framed_body (b.Clause head conds) e = tt
  framed_body (b.MacroClause head begin end items) e =
      let times = and_parts (is_time (step_begin (steps kind items)) begin.0) (is_time (last_end (steps kind items)) end.0) (not-false _ e) in (
        record {
          begin = sym (begins items) ∙ is_time_some (step_begin (steps kind items)) begin.0 times.0;
          end = sym (ends items None) ∙ is_time_some (last_end (steps kind items)) end.0 times.1;
        },
        tt,
      )

  all_append : (xs ys : List MacroClause) → AllByRecursion IsFramed xs → AllByRecursion IsFramed ys → AllByRecursion IsFramed (xs ++ ys)
  all_append [] ys xs_are ys_are = ys_are
  all_append (x ∷ xs) ys xs_are ys_are = (xs_are.0, all_append xs ys xs_are.1 ys_are)

  -- no line, so neither the first statement passes nor a later one
  pub no_line : (passes : Bool) (line : ℕ) (later : Option ℕ) → (if passes then Some line else later) ≡ None → (passes ≡ false) × (later ≡ None)
  no_line false line later e = (refl, e)
  no_line true line later e = absurd (some_none e)

  framed_statements : (statements : List Statement) → first_line (has_bad_head_times kind) statements ≡ None →
      AllByRecursion IsFramed (flat_map (λ s. macro_clause_in s.body) statements)
  framed_statements [] e = tt
  framed_statements (s ∷ ss) e =
      let none = no_line (has_bad_head_times kind s.body) s.line (first_line (has_bad_head_times kind) ss) e in
      all_append (macro_clause_in s.body) (flat_map (λ s. macro_clause_in s.body) ss) (framed_body s.body none.0) (framed_statements ss none.1)

-- ---- each clause of a macro

all_filter : (test : MacroClause → Bool) (xs : List MacroClause) → AllByRecursion IsFramed xs → AllByRecursion IsFramed (filter test xs)
all_filter test [] are = tt
all_filter test (x ∷ xs) are = kept (test x) are.0 (all_filter test xs are.1)
  where
    kept : (keeps : Bool) → IsFramed x → AllByRecursion IsFramed (filter test xs) → AllByRecursion IsFramed (cond keeps (x ∷ filter test xs) (filter test xs))
    kept true first later = (first, later)
    kept false first later = later

at_place : (xs : List MacroClause) (n : ℕ) (clause : MacroClause) → AllByRecursion IsFramed xs → slice_get xs n ≡ Some clause → IsFramed clause
at_place [] n clause are e = absurd (some_none (sym e))
at_place (x ∷ xs) zero clause are e = subst IsFramed (some_same_clause e) are.0
at_place (x ∷ xs) (suc n) clause are e = at_place xs n clause are.1 e

at_number : (xs : List MacroClause) (number : ℕ) (clause : MacroClause) → AllByRecursion IsFramed xs → numbered xs number ≡ Some clause → IsFramed clause
at_number xs zero clause are e = absurd (some_none (sym e))
at_number xs (suc n) clause are e = at_place xs n clause are e

-- ---- accepted texts

no_heads : (order groups heads : Option ℕ) → refusal_at order groups heads ≡ None → heads ≡ None
no_heads (Some line) groups heads e = absurd (some_none e)
no_heads None (Some line) heads e = absurd (some_none e)
no_heads None None (Some line) e = absurd (some_none e)
no_heads None None None e = refl

pub accepted_texts_are_framed : AcceptedAreFramed
accepted_texts_are_framed text accepted = record {
  each = λ name number clause named.
      at_number (clauses_of text name) number clause
      (all_filter (λ clause. name_eq clause.head.name name) (macro_clauses text) (framed_statements (kind_of text) text.statements heads)) named;
}
  where
    heads : first_line (has_bad_head_times (kind_of text)) text.statements ≡ None
    heads =
        no_heads (first_line (is_out_of_order (kind_of text)) text.statements) (first_line (is_mixed_somewhere (kind_of text)) text.statements)
        (first_line (has_bad_head_times (kind_of text)) text.statements) (no_order_refused text accepted)
