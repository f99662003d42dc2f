-- The rules and macro clauses of a well-formed text are well-formed, and so is what is left along a walk.
use Rattle.std.proofs.Common.{ℕ, ◌≡◌, true, List, [], ◌∷◌, length}
use Rattle.std.specs.Prelude.{IsTrue, nat_lt, nat_le, ◌&&◌, Option, Some}
use Rattle.std.specs.List.{AllByRecursion, list_all}
use Rattle.lps_terms.specs.declared.body.Body.{Body}
use Rattle.lps_terms.specs.declared.body.Body.TheVariants as b
use Rattle.lps_terms.specs.declared.item.Item.{Item}
use Rattle.lps_terms.specs.declared.statement.Statement.{Statement}
use Rattle.lps_terms.specs.declared.text.Text.{Text}
use Rattle.lps_terms.specs.Names.{name_eq}
use Rattle.lps_model.specs.Formed.{is_formed, is_formed_atom, is_formed_body, is_formed_item, is_formed_statement}
use Rattle.lps_model.specs.Rules.{clauses_of, MacroClause, macro_clause_in, macro_clauses, numbered, Rule, rule_in, rules}
use Rattle.lps_meaning.specs.Sequences.{entries, Entry}
use Rattle.lps_meaning.proofs.Lists.{number_contained, all_listed, both, of_element, of_filter, of_flat}

-- ---- texts

-- the item is well-formed under some variables and times
pub record IsFormedItem (item : Item) : Type 0 where
  pub variables : ℕ
  pub times : ℕ
  pub formed : is_formed_item variables times item ≡ true

abbrev pub AreFormedItems : List Item → Type 0
AreFormedItems = AllByRecursion IsFormedItem

pub items_formed : (variables times : ℕ) (items : List Item) → list_all (is_formed_item variables times) items ≡ true → AreFormedItems items
items_formed variables times [] h = tt
items_formed variables times (item ∷ items) h =
    let parts = both (is_formed_item variables times item) (list_all (is_formed_item variables times) items) h in
    (record { variables = variables; times = times; formed = parts.0 }, items_formed variables times items parts.1)

pub alternatives_formed : (variables times : ℕ) (all : List (List Item)) → list_all (list_all (is_formed_item variables times)) all ≡ true → AllByRecursion AreFormedItems all
alternatives_formed variables times [] h = tt
alternatives_formed variables times (items ∷ all) h =
    let parts = both (list_all (is_formed_item variables times) items) (list_all (list_all (is_formed_item variables times)) all) h in
    (items_formed variables times items parts.0, alternatives_formed variables times all parts.1)

abbrev pub IsFormedRule : Rule → Type 0
IsFormedRule rule = AllByRecursion AreFormedItems rule.alternatives

abbrev pub IsFormedClause : MacroClause → Type 0
IsFormedClause clause = AreFormedItems clause.items

rule_formed : (variables times : ℕ) (body : Body) → is_formed_body variables times body ≡ true → AllByRecursion IsFormedRule (rule_in body)
rule_formed variables times (b.Rule antecedent alternatives) h =
    (alternatives_formed variables times alternatives (both (list_all (is_formed_item variables times) antecedent) (list_all (list_all (is_formed_item variables times)) alternatives) h).1, tt)
rule_formed variables times (b.Declare decls) h = tt
rule_formed variables times (b.Initially atoms) h = tt
rule_formed variables times (b.Denial items) h = tt
rule_formed variables times (b.Law initiates event fluent conds) h = tt
rule_formed variables times (b.Clause head conds) h = tt
rule_formed variables times (b.MacroClause head begin end items) h = tt

clause_formed : (variables times : ℕ) (body : Body) → is_formed_body variables times body ≡ true → AllByRecursion IsFormedClause (macro_clause_in body)
clause_formed variables times (b.MacroClause head begin end items) h = (
  items_formed variables times items
      (both (is_formed_atom variables head && nat_lt begin.0 times && nat_lt end.0 times) (list_all (is_formed_item variables times) items) h).1,
  tt,
)
clause_formed variables times (b.Rule antecedent alternatives) h = tt
clause_formed variables times (b.Declare decls) h = tt
clause_formed variables times (b.Initially atoms) h = tt
clause_formed variables times (b.Denial items) h = tt
clause_formed variables times (b.Law initiates event fluent conds) h = tt
clause_formed variables times (b.Clause head conds) h = tt

pub body_formed : (s : Statement) → is_formed_statement s ≡ true → is_formed_body (length s.names) (length s.times) s.body ≡ true
body_formed s h = (both (nat_le (length s.names) 255 && nat_le (length s.times) 255) (is_formed_body (length s.names) (length s.times) s.body) h).1

module _ (text : Text) (formed : IsTrue (is_formed text)) where
  pub statements_formed : AllByRecursion (λ s. is_formed_statement s ≡ true) text.statements
  statements_formed = all_listed is_formed_statement text.statements formed

  pub rules_formed : AllByRecursion IsFormedRule (rules text)
  rules_formed = of_flat (λ s. is_formed_statement s ≡ true) IsFormedRule (λ s. rule_in s.body) (λ s h. rule_formed (length s.names) (length s.times) s.body (body_formed s h)) text.statements statements_formed

  pub clauses_formed : AllByRecursion IsFormedClause (macro_clauses text)
  clauses_formed = of_flat (λ s. is_formed_statement s ≡ true) IsFormedClause (λ s. macro_clause_in s.body) (λ s h. clause_formed (length s.names) (length s.times) s.body (body_formed s h)) text.statements statements_formed

  pub clause_of : (name : List ℕ) (number : ℕ) (clause : MacroClause) → numbered (clauses_of text name) number ≡ Some clause → IsFormedClause clause
  clause_of name number clause e =
      of_element IsFormedClause (clauses_of text name) clause (of_filter IsFormedClause (λ clause. name_eq clause.head.name name) (macro_clauses text) clauses_formed)
      (number_contained (clauses_of text name) number clause e)

  abbrev pub AreFormedEntries : List Entry → Type 0
  AreFormedEntries = AllByRecursion (λ (e : Entry). IsFormedItem e.item)

  pub entries_formed : (env nest : ℕ) (before : Option Item) (items : List Item) → AreFormedItems items → AreFormedEntries (entries text env nest before items)
  entries_formed env nest before [] h = tt
  entries_formed env nest before (item ∷ items) h = (h.0, entries_formed env nest (Some item) items h.1)
