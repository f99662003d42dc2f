-- In accepted texts each time of a constraint is one of a step.
use Rattle.std.proofs.Common.{ℕ, Bool, true, false, ◌≡◌, List, [], ◌∷◌, ◌++◌, refl, ap, inl, inr, arith}
use Rattle.std.specs.Prelude.{◌⊎◌, ◌||◌, nat_eq, if◌then◌else◌, Option, Some, None}
use Rattle.std.specs.List.{AllByRecursion}
use Rattle.std.specs.Option.{option_or}
use Rattle.std.proofs.lemmas.Bool.Decides.{nat_tests}
use Rattle.lps_terms.specs.declared.body.Body.{Body}
use Rattle.lps_terms.specs.declared.body.Body.TheVariants as b
use Rattle.lps_terms.specs.declared.decl.Decl.{Decl}
use Rattle.lps_terms.specs.declared.item.Item.{Item}
use Rattle.lps_terms.specs.declared.item.Item.TheVariants as i
use Rattle.lps_terms.specs.declared.refused.Refused.{Refused}
use Rattle.lps_terms.specs.declared.statement.Statement.{Statement}
use Rattle.lps_terms.specs.declared.text.Text.{Text}
use Rattle.lps_terms.specs.Names.{name_eq}
use Rattle.lps_model.specs.Acceptance.{IsAccepted}
use Rattle.lps_model.specs.KindRefusals.{kind_refusal}
use Rattle.lps_model.specs.Known.{Scope, alternatives_unknown, body_unknown, head_known, is_known, item_unknown, items_unknown, known_after, learnt, refused_or, scope_at, sequence_unknown, statements_unknown, steps_after, unknown_among, unknown_of, with_var, written}
use Rattle.lps_model.specs.Order.{order_refusal}
use Rattle.lps_model.specs.Program.{declarations}
use Rattle.lps_model.specs.VariableLists.{step_times, item_vars, atom_vars}
use Rattle.lps_model.proofs.Stated.{neither}
use Rattle.lps_model.specs.Rules.{MacroClause, Rule, clauses_of, kind_of, macro_clause_in, macro_clauses, numbered, rule_in, rules}
use Rattle.lps_meaning.proofs.Lists.{number_contained, of_element, of_filter, of_flat}
use Rattle.lps_meaning.proofs.Occurrences.{all_to}

pub false_true : false ≡ true → ⊥
false_true e = cc

pub some_none : {A : Type 0} {x : A} → Some x ≡ None → ⊥
some_none e = cc

equal : (n m : ℕ) → nat_eq n m ≡ true → n ≡ m
equal n m e = grind (arith, nat_tests)

pub either : (x y : Bool) → (x || y) ≡ true → (x ≡ true) ⊎ (y ≡ true)
either true y e = inl refl
either false y e = inr e

-- ---- times of steps

-- the time is one of the item's, where it is a step
abbrev pub IsTimeOf : ℕ → Item → Type 0
IsTimeOf v (i.At lit time) = time.0 ≡ v
IsTimeOf v (i.Span a from to) = (from.0 ≡ v) ⊎ (to.0 ≡ v)
IsTimeOf v _ = ⊥

-- the time is one of a step of these items
abbrev pub IsStepped : ℕ → List Item → Type 0
IsStepped v [] = ⊥
IsStepped v (item ∷ items) = IsTimeOf v item ⊎ IsStepped v items

-- both times of a constraint have this property
abbrev pub IsConOf : (ℕ → Type 0) → Item → Type 0
IsConOf P (i.Con con) = P con.left.0 × P con.right.0
IsConOf P _ = Unit {0}

pub con_to : (P Q : ℕ → Type 0) → ((v : ℕ) → P v → Q v) → (item : Item) → IsConOf P item → IsConOf Q item
con_to P Q f (i.Con con) h = (f con.left.0 h.0, f con.right.0 h.1)
con_to P Q f (i.At lit time) h = tt
con_to P Q f (i.Bare lit) h = tt
con_to P Q f (i.Built built) h = tt
con_to P Q f (i.Span a from to) h = tt

known_more : (known more : List ℕ) (v : ℕ) → is_known (known ++ more) v ≡ true → (is_known known v ≡ true) ⊎ (is_known more v ≡ true)
known_more [] more v e = inr e
known_more (x ∷ known) more v e =
    elim (either (nat_eq x v) (is_known (known ++ more) v) e) [
      | inl here ↦ inl (ap (λ t. t || is_known known v) here)
      | inr later ↦ elim (known_more known more v later) [
        | inl there ↦ inl (or_true (nat_eq x v) (is_known known v) there)
        | inr behind ↦ inr behind
      ]
    ]
  where
    or_true : (x y : Bool) → y ≡ true → (x || y) ≡ true
    or_true true y e = refl
    or_true false y e = e

pub with_known : (known : List ℕ) (x v : ℕ) → is_known (with_var known x) v ≡ true → (is_known known v ≡ true) ⊎ (x ≡ v)
with_known known x v e = by (is_known known x) e
  where
    one : is_known (x ∷ []) v ≡ true → x ≡ v
    one h = elim (either (nat_eq x v) false h) [ inl here ↦ equal x v here | inr other ↦ absurd (false_true other) ]

    by : (held : Bool) → is_known (if held then known else known ++ x ∷ []) v ≡ true → (is_known known v ≡ true) ⊎ (x ≡ v)
    by true h = inl h
    by false h = elim (known_more known (x ∷ []) v h) [ inl there ↦ inl there | inr here ↦ inr (one here) ]

learnt_known : (item : Item) (known : List ℕ) (v : ℕ) → is_known (learnt known (step_times item)) v ≡ true → (is_known known v ≡ true) ⊎ IsTimeOf v item
learnt_known (i.At lit time) known v e = with_known known time.0 v e
learnt_known (i.Span a from to) known v e =
    elim (with_known (with_var known from.0) to.0 v e) [
      | inl there ↦ elim (with_known known from.0 v there) [
        | inl before ↦ inl before
        | inr here ↦ inr (inl here)
      ]
      | inr here ↦ inr (inr here)
    ]
learnt_known (i.Bare lit) known v e = inl e
learnt_known (i.Built built) known v e = inl e
learnt_known (i.Con con) known v e = inl e

stepped : (items : List Item) (steps : List ℕ) (v : ℕ) → is_known (steps_after steps items) v ≡ true → (is_known steps v ≡ true) ⊎ IsStepped v items
stepped [] steps v e = inl e
stepped (item ∷ items) steps v e =
    elim (stepped items (learnt steps (step_times item)) v e) [
      | inl there ↦ elim (learnt_known item steps v there) [
        | inl before ↦ inl before
        | inr here ↦ inr (inl here)
      ]
      | inr later ↦ inr (inr later)
    ]

-- of the items alone
own_stepped : (items : List Item) (v : ℕ) → is_known (steps_after [] items) v ≡ true → IsStepped v items
own_stepped items v e = elim (stepped items [] v e) [ inl there ↦ absurd (false_true there) | inr h ↦ h ]

-- ---- what is not refused for a time

pub among_known : (names : List (List ℕ)) (known : List ℕ) (v : ℕ) (vs : List ℕ) → unknown_among names known (v ∷ vs) ≡ None → (is_known known v ≡ true) × (unknown_among names known vs ≡ None)
among_known names known v vs e = by (is_known known v) refl e
  where
    by : (held : Bool) → is_known known v ≡ held → (if held then unknown_among names known vs else Some (written names v)) ≡ None → (is_known known v ≡ true) × (unknown_among names known vs ≡ None)
    by true is h = (is, h)
    by false is h = absurd (some_none h)

pub no_name : (first second : Option (List ℕ)) → option_or first second ≡ None → (first ≡ None) × (second ≡ None)
no_name None second e = (refl, e)
no_name (Some name) second e = absurd (some_none e)

item_known : (scope : Scope) (known : List ℕ) (item : Item) → item_unknown scope known item ≡ None → IsConOf (λ v. is_known scope.steps v ≡ true) item
item_known scope known (i.Con con) e =
    let first = among_known scope.times scope.steps con.left.0 (con.right.0 ∷ []) e in (first.0, (among_known scope.times scope.steps con.right.0 [] first.1).0)
item_known scope known (i.At lit time) e = tt
item_known scope known (i.Bare lit) e = tt
item_known scope known (i.Built built) e = tt
item_known scope known (i.Span a from to) e = tt

items_known : (scope : Scope) (wanted known : List ℕ) (items : List Item) → items_unknown scope wanted known items ≡ None → AllByRecursion (IsConOf (λ v. is_known scope.steps v ≡ true)) items
items_known scope wanted known [] e = tt
items_known scope wanted known (item ∷ items) e =
    let parts = no_name (item_unknown scope known item) (items_unknown scope wanted (learnt known (item_vars item)) items) e in
    (item_known scope known item parts.0, items_known scope wanted (learnt known (item_vars item)) items parts.1)

-- each time of a constraint is one of a step of these items
abbrev pub HaveSteps : List Item → Type 0
HaveSteps items = AllByRecursion (IsConOf (λ v. IsStepped v items)) items

abbrev pub HaveStepsAfter : List Item → List Item → Type 0
HaveStepsAfter antecedent items = AllByRecursion (IsConOf (λ v. IsStepped v antecedent ⊎ IsStepped v items)) items

abbrev pub IsSteppedRule : Rule → Type 0
IsSteppedRule rule = HaveSteps rule.antecedent × AllByRecursion (HaveStepsAfter rule.antecedent) rule.alternatives

abbrev IsSteppedClause : MacroClause → Type 0
IsSteppedClause clause = HaveSteps clause.items

sequence_steps : (decls : List Decl) (statement : Statement) (planned : Bool) (wanted known : List ℕ) (items : List Item) → sequence_unknown decls statement planned wanted known items ≡ None → HaveSteps items
sequence_steps decls statement planned wanted known items e =
    all_to (IsConOf (λ v. is_known (steps_after [] items) v ≡ true)) (IsConOf (λ v. IsStepped v items))
    (con_to (λ v. is_known (steps_after [] items) v ≡ true) (λ v. IsStepped v items) (own_stepped items)) items (items_known (scope_at decls statement (steps_after [] items) planned) wanted known items e)

alternative_steps : (decls : List Decl) (statement : Statement) (antecedent : List Item) (known : List ℕ) (alternatives : List (List Item)) →
    alternatives_unknown decls statement (steps_after [] antecedent) known alternatives ≡ None → AllByRecursion (HaveStepsAfter antecedent) alternatives
alternative_steps decls statement antecedent known [] e = tt
alternative_steps decls statement antecedent known (items ∷ alternatives) e =
    let steps = steps_after [] antecedent in
    let parts = no_name (items_unknown (scope_at decls statement (steps_after steps items) true) [] known items) (alternatives_unknown decls statement steps known alternatives) e in (
      all_to (IsConOf (λ v. is_known (steps_after steps items) v ≡ true)) (IsConOf (λ v. IsStepped v antecedent ⊎ IsStepped v items))
          (con_to (λ v. is_known (steps_after steps items) v ≡ true) (λ v. IsStepped v antecedent ⊎ IsStepped v items)
          (λ v h. elim (stepped items steps v h) [ inl there ↦ inl (own_stepped antecedent v there) | inr here ↦ inr here ])) items
          (items_known (scope_at decls statement (steps_after steps items) true) [] known items parts.0),
      alternative_steps decls statement antecedent known alternatives parts.1,
    )

rule_steps : (decls : List Decl) (statement : Statement) (body : Body) → body_unknown decls statement body ≡ None → AllByRecursion IsSteppedRule (rule_in body)
rule_steps decls statement (b.Rule antecedent alternatives) e =
    let parts = no_name (sequence_unknown decls statement false [] [] antecedent) (alternatives_unknown decls statement (steps_after [] antecedent) (known_after [] antecedent) alternatives) e in
    ((sequence_steps decls statement false [] [] antecedent parts.0, alternative_steps decls statement antecedent (known_after [] antecedent) alternatives parts.1), tt)
rule_steps decls statement (b.Declare declared) e = tt
rule_steps decls statement (b.Initially atoms) e = tt
rule_steps decls statement (b.Denial items) e = tt
rule_steps decls statement (b.Law initiates event fluent conds) e = tt
rule_steps decls statement (b.Clause head conds) e = tt
rule_steps decls statement (b.MacroClause head begin end items) e = tt

clause_steps : (decls : List Decl) (statement : Statement) (body : Body) → body_unknown decls statement body ≡ None → AllByRecursion IsSteppedClause (macro_clause_in body)
clause_steps decls statement (b.MacroClause head begin end items) e = (sequence_steps decls statement true (atom_vars head) (head_known decls head) items e, tt)
clause_steps decls statement (b.Rule antecedent alternatives) e = tt
clause_steps decls statement (b.Declare declared) e = tt
clause_steps decls statement (b.Initially atoms) e = tt
clause_steps decls statement (b.Denial items) e = tt
clause_steps decls statement (b.Law initiates event fluent conds) e = tt
clause_steps decls statement (b.Clause head conds) e = tt

not_refused : (line : ℕ) (name : Option (List ℕ)) (later : Option Refused) → refused_or line name later ≡ None → (name ≡ None) × (later ≡ None)
not_refused line None later e = (refl, e)
not_refused line (Some name) later e = absurd (some_none e)

statement_steps : (decls : List Decl) (statements : List Statement) → statements_unknown decls statements ≡ None → AllByRecursion (λ s. body_unknown decls s s.body ≡ None) statements
statement_steps decls [] e = tt
statement_steps decls (s ∷ ss) e = let parts = not_refused s.line (body_unknown decls s s.body) (statements_unknown decls ss) e in (parts.0, statement_steps decls ss parts.1)

module _ (text : Text) (accepted : IsAccepted text) where
  pub each_statement : AllByRecursion (λ s. body_unknown (declarations text) s s.body ≡ None) text.statements
  each_statement =
      statement_steps (declarations text) text.statements
      (neither (order_refusal (kind_of text) text.statements) (unknown_of text) (neither (kind_refusal text) _ accepted.not_refused).1).1

  pub rules_stepped : AllByRecursion IsSteppedRule (rules text)
  rules_stepped = of_flat (λ s. body_unknown (declarations text) s s.body ≡ None) IsSteppedRule (λ s. rule_in s.body) (λ s. rule_steps (declarations text) s s.body) text.statements each_statement

  clauses_stepped : AllByRecursion IsSteppedClause (macro_clauses text)
  clauses_stepped = of_flat (λ s. body_unknown (declarations text) s s.body ≡ None) IsSteppedClause (λ s. macro_clause_in s.body) (λ s. clause_steps (declarations text) s s.body) text.statements each_statement

  pub clause_of : (name : List ℕ) (number : ℕ) (clause : MacroClause) → numbered (clauses_of text name) number ≡ Some clause → IsSteppedClause clause
  clause_of name number clause e =
      of_element IsSteppedClause (clauses_of text name) clause (of_filter IsSteppedClause (λ clause. name_eq clause.head.name name) (macro_clauses text) clauses_stepped)
      (number_contained (clauses_of text name) number clause e)
