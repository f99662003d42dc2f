-- The sequences of accepted texts are in order, so along walks over them the times can be coloured.
use Rattle.std.proofs.Common.{ℕ, zero, suc, Bool, true, false, cond, ◌≡◌, List, [], ◌∷◌, ◌++◌, ◌∙◌, map, refl, sym, ap, subst, append-nil}
use Rattle.std.specs.Prelude.{if◌then◌else◌, Option, Some, None, slice_get}
use Rattle.std.specs.List.{AllByRecursion, flat_map, filter, list_all}
use Rattle.std.proofs.lemmas.Bool.{and_parts, not-false}
use Rattle.lps_terms.specs.declared.body.Body.{Body}
use Rattle.lps_terms.specs.declared.body.Body.TheVariants as b
use Rattle.lps_terms.specs.declared.item.Item.{Item}
use Rattle.lps_terms.specs.declared.item.Item.TheVariants as i
use Rattle.lps_terms.specs.declared.statement.Statement.{Statement}
use Rattle.lps_terms.specs.declared.text.Text.{Text}
use Rattle.lps_terms.specs.Names.{name_eq}
use Rattle.lps_model.specs.Acceptance.{IsAccepted}
use Rattle.lps_model.specs.Order.{first_line, follow, has_bad_head_times, has_step, is_mixed_somewhere, is_ordered, is_ordered_after, is_out_of_order, last_end, occurs, refusal_at, steps, times_in, times_of}
use Rattle.lps_model.proofs.Stated.{no_order_refused}
use Rattle.lps_meaning.specs.Goals.{distinct, shared_times}
use Rattle.lps_model.specs.Rules.{MacroClause, Rule, clauses_of, kind_of, macro_clause_in, macro_clauses, numbered, rule_in, rules}
use Rattle.lps_meaning.specs.Frames.{first_begin}
use Rattle.lps_meaning.specs.Sequences.{entries, start}
use Rattle.lps_nodes.proofs.Colours.{AreApart, AreOrderly, Colour, Colours, EndsApart, IsColoured, begins_alone, map_front}
use Rattle.lps_meaning.proofs.Framing.{accepted_texts_are_framed, no_line}
use Rattle.lps_nodes.proofs.Freshness.{AreFresh, EndsFresh, IsNone, fresh, fresh_weaker, step_times}
use Rattle.lps_meaning.proofs.Occurrences.{all_joined}

some_none : {A : Type 0} {x : A} → Some x ≡ None → ⊥
some_none e = cc

-- ---- a body begins when its first step does

abbrev number_or : ℕ → Option ℕ → ℕ
number_or d None = d
number_or d (Some n) = n

begun : (text : Text) (begin : ℕ) (before : Option Item) (items : List Item) → AreFresh text [] before items → first_begin items ≡ Some begin → AreFresh text (begin ∷ []) before items
begun text begin before [] h e = tt
begun text begin before (i.At l time ∷ items) h e =
    let same : begin ≡ time.0 = sym (ap (number_or begin) e) in
    ((λ no. tt), fresh_weaker text items (Some (i.At l time)) (time.0 ∷ []) (time.0 ∷ begin ∷ []) (λ v no. (no.0, ((λ is. no.0 (is ∙ same)), tt))) h.1)
begun text begin before (i.Span a from to ∷ items) h e =
    let same : begin ≡ from.0 = sym (ap (number_or begin) e) in (
      (λ no. let d = h.0 no in (d.0, ((λ is. d.0 (is ∙ same)), tt))),
      fresh_weaker text items (Some (i.Span a from to)) (from.0 ∷ to.0 ∷ []) (from.0 ∷ to.0 ∷ begin ∷ []) (λ v no. (no.0, (no.1.0, ((λ is. no.0 (is ∙ same)), tt)))) h.1,
    )
begun text begin before (i.Bare l ∷ items) h e = ((λ no. tt), begun text begin (Some (i.Bare l)) items h.1 e)
begun text begin before (i.Built c ∷ items) h e = ((λ no. tt), begun text begin (Some (i.Built c)) items h.1 e)
begun text begin before (i.Con con ∷ items) h e = ((λ no. tt), begun text begin (Some (i.Con con)) items h.1 e)

-- ---- statements that are in order

all_filter : {X : Type 0} (P : X → Type 0) (test : X → Bool) (xs : List X) → AllByRecursion P xs → AllByRecursion P (filter test xs)
all_filter P test [] are = tt
all_filter P test (x ∷ xs) are = kept (test x) are.0 (all_filter P test xs are.1)
  where
    kept : (keeps : Bool) → P x → AllByRecursion P (filter test xs) → AllByRecursion P (cond keeps (x ∷ filter test xs) (filter test xs))
    kept true first later = (first, later)
    kept false first later = later

clause_or : MacroClause → Option MacroClause → MacroClause
clause_or given (Some clause) = clause
clause_or given None = given

some_same : {x y : MacroClause} → Some x ≡ Some y → x ≡ y
unfolding clause_or
some_same {x} e = ap (clause_or x) e

at_place : (P : MacroClause → Type 0) (xs : List MacroClause) (n : ℕ) (clause : MacroClause) → AllByRecursion P xs → slice_get xs n ≡ Some clause → P clause
at_place P [] n clause are e = absurd (some_none (sym e))
at_place P (x ∷ xs) zero clause are e = subst P (some_same e) are.0
at_place P (x ∷ xs) (suc n) clause are e = at_place P xs n clause are.1 e

at_number : (P : MacroClause → Type 0) (xs : List MacroClause) (number : ℕ) (clause : MacroClause) → AllByRecursion P xs → numbered xs number ≡ Some clause → P clause
at_number P xs zero clause are e = absurd (some_none (sym e))
at_number P xs (suc n) clause are e = at_place P xs n clause are e

all_listed : {X : Type 0} (test : X → Bool) (xs : List X) → list_all test xs ≡ true → AllByRecursion (λ x. test x ≡ true) xs
all_listed test [] all = tt
all_listed test (x ∷ xs) all = let parts = and_parts (test x) (list_all test xs) all in (parts.0, all_listed test xs parts.1)

all_to : {X : Type 0} (P Q : X → Type 0) → ((x : X) → P x → Q x) → (xs : List X) → AllByRecursion P xs → AllByRecursion Q xs
all_to P Q f [] h = tt
all_to P Q f (x ∷ xs) h = (f x h.0, all_to P Q f xs h.1)

module _ (text : Text) where
  -- the body of a macro clause ends its steps at new times
  abbrev IsOrderly : MacroClause → Type 0
  IsOrderly clause = AreFresh text [] None clause.items

  -- so do an antecedent, and an alternative, also of those of its antecedent
  abbrev pub IsOrderlyRule : Rule → Type 0
  IsOrderlyRule rule = AreFresh text [] None rule.antecedent × AllByRecursion (λ items. AreFresh text (times_in rule.antecedent) None items) rule.alternatives

  orderly_clause : (body : Body) → is_out_of_order (kind_of text) body ≡ false → AllByRecursion IsOrderly (macro_clause_in body)
  orderly_clause (b.Declare decls) e = tt
  orderly_clause (b.Initially facts) e = tt
  orderly_clause (b.Denial items) e = tt
  orderly_clause (b.Rule antecedent alternatives) e = tt
  orderly_clause (b.Law initiates event fluent conds) e = tt
  orderly_clause (b.Clause head conds) e = tt
  orderly_clause (b.MacroClause head begin end items) e =
      (fresh text items [] None (and_parts (has_step (steps (kind_of text) items)) (follow [] None (steps (kind_of text) items)) (not-false (is_ordered (kind_of text) items) e)).1, tt)

  orderly_rule : (body : Body) → is_out_of_order (kind_of text) body ≡ false → AllByRecursion IsOrderlyRule (rule_in body)
  orderly_rule (b.Declare decls) e = tt
  orderly_rule (b.Initially facts) e = tt
  orderly_rule (b.Denial items) e = tt
  orderly_rule (b.Law initiates event fluent conds) e = tt
  orderly_rule (b.Clause head conds) e = tt
  orderly_rule (b.MacroClause head begin end items) e = tt
  orderly_rule (b.Rule antecedent alternatives) e =
      let both = and_parts (is_ordered (kind_of text) antecedent) (list_all (is_ordered_after (kind_of text) antecedent) alternatives) (not-false _ e) in (
        (
          fresh text antecedent [] None (and_parts (has_step (steps (kind_of text) antecedent)) (follow [] None (steps (kind_of text) antecedent)) both.0).1,
          all_to (λ items. is_ordered_after (kind_of text) antecedent items ≡ true) (λ items. AreFresh text (times_in antecedent) None items)
              (λ items is. fresh text items (times_in antecedent) (last_end (steps (kind_of text) antecedent)) (and_parts (has_step (steps (kind_of text) items)) _ is).1)
              alternatives (all_listed (is_ordered_after (kind_of text) antecedent) alternatives both.1),
        ),
        tt,
      )

  each_statement : {X : Type 0} (P : X → Type 0) (pick : Body → List X) → ((body : Body) → is_out_of_order (kind_of text) body ≡ false → AllByRecursion P (pick body)) →
      (statements : List Statement) → first_line (is_out_of_order (kind_of text)) statements ≡ None → AllByRecursion P (flat_map (λ s. pick s.body) statements)
  each_statement P pick each [] e = tt
  each_statement P pick each (s ∷ ss) e =
      let none = no_line (kind_of text) (is_out_of_order (kind_of text) s.body) s.line (first_line (is_out_of_order (kind_of text)) ss) e in
      all_joined P (pick s.body) (flat_map (λ s. pick s.body) ss) (each s.body none.0) (each_statement P pick each ss none.1)

  no_order : (order groups heads : Option ℕ) → refusal_at order groups heads ≡ None → order ≡ None
  no_order (Some line) groups heads e = absurd (some_none e)
  no_order None groups heads e = refl

  in_order : IsAccepted text → first_line (is_out_of_order (kind_of text)) text.statements ≡ None
  in_order accepted =
      no_order (first_line (is_out_of_order (kind_of text)) text.statements) (first_line (is_mixed_somewhere (kind_of text)) text.statements)
      (first_line (has_bad_head_times (kind_of text)) text.statements)
      (no_order_refused text accepted)

  pub orderly : IsAccepted text → AreOrderly text
  orderly accepted =
      let framed = accepted_texts_are_framed text accepted in
      record {
        each = λ name number clause named.
            begun text clause.begin None clause.items
            (at_number IsOrderly (clauses_of text name) number clause
            (all_filter IsOrderly (λ clause. name_eq clause.head.name name) (macro_clauses text) (each_statement IsOrderly macro_clause_in orderly_clause text.statements (in_order accepted))) named)
            (framed.each name number clause named).begin;
      }

  pub orderly_rules : IsAccepted text → AllByRecursion IsOrderlyRule (rules text)
  orderly_rules accepted = each_statement IsOrderlyRule rule_in orderly_rule text.statements (in_order accepted)

  -- ---- where a walk starts

  abbrev own : Colours
  own env v = (env, v)

  none_own : (v : ℕ) (vs : List ℕ) → IsNone v vs → IsNone (own 0 v) (map (own 0) vs)
  none_own v [] h = tt
  none_own v (x ∷ vs) h = ((λ e. h.0 (ap (λ (c : Colour). c.1) e)), none_own v vs h.1)

  own_ends : (vs : List ℕ) (item : Item) → EndsFresh vs item → EndsApart own (map (own 0) vs ++ []) 0 item
  own_ends vs (i.Span a from to) h =
      let all = none_own to.0 (from.0 ∷ vs) h in (all.0, all_joined (λ d. own 0 to.0 ≡ d → ⊥) (map (own 0) vs) [] all.1 tt)
  own_ends vs (i.At l time) h = tt
  own_ends vs (i.Bare l) h = tt
  own_ends vs (i.Built c) h = tt
  own_ends vs (i.Con con) h = tt

  own_apart : (before : Option Item) (items : List Item) (vs : List ℕ) → AreFresh text vs before items → AreApart text own (map (own 0) vs ++ []) (entries text 0 0 before items)
  own_apart before [] vs h = tt
  own_apart before (item ∷ items) vs h = (
    (λ begins. own_ends vs item (h.0 (begins_alone text before item begins))),
    subst (λ (seen : List Colour). AreApart text own seen (entries text 0 0 (Some item) items)) (map_front (own 0) (step_times item) vs []) (own_apart (Some item) items (step_times item ++ vs) h.1),
  )

  pub start_coloured : (since : ℕ) (given : List ℕ) (items : List Item) → AreFresh text given None items → IsColoured text given (start text since items)
  start_coloured since given items h = record {
    colour = own;
    low = λ env v lt. lt;
    links = tt;
    apart = subst (λ (seen : List Colour). AreApart text own seen (entries text 0 0 None items)) (append-nil (map (own 0) given)) (own_apart None items given h);
  }

-- ---- what an alternative shares stands in its antecedent

pub all_distinct : (P : ℕ → Type 0) (vs seen : List ℕ) → AllByRecursion P vs → AllByRecursion P (distinct seen vs)
all_distinct P [] seen h = tt
all_distinct P (v ∷ vs) seen h = by (occurs v seen) (all_distinct P vs seen h.1) (all_distinct P vs (v ∷ seen) h.1)
  where
    by : (before : Bool) → AllByRecursion P (distinct seen vs) → AllByRecursion P (distinct (v ∷ seen) vs) → AllByRecursion P (if before then distinct seen vs else v ∷ distinct (v ∷ seen) vs)
    by true later more = later
    by false later more = (h.0, more)

pub shared_none : (rule : Rule) (v : ℕ) → IsNone v (times_in rule.antecedent) → IsNone v (shared_times rule)
shared_none rule v h =
    all_filter (λ y. v ≡ y → ⊥) _ (distinct [] (flat_map times_of rule.antecedent))
    (all_distinct (λ y. v ≡ y → ⊥) (flat_map times_of rule.antecedent) [] h)
