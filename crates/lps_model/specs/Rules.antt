-- What a text says of rules: its denials, reactive rules and macro clauses, each kind numbered from 1 in text order.
use Rattle.std.specs.Prelude.{ℕ, zero, suc, Bool, true, false, List, [], ◌∷◌, Option, Some, None, slice_get}
use Rattle.std.specs.List.{flat_map, filter}
use Rattle.lps_terms.specs.declared.atom.Atom.{Atom}
use Rattle.lps_terms.specs.declared.body.Body.{Body}
use Rattle.lps_terms.specs.declared.body.Body.TheVariants as b
use Rattle.lps_terms.specs.declared.item.Item.{Item}
use Rattle.lps_terms.specs.declared.kind.Kind.{Kind}
use Rattle.lps_terms.specs.declared.kind.Kind.TheVariants as k
use Rattle.lps_terms.specs.declared.text.Text.{Text}
use Rattle.lps_terms.specs.Names.{name_eq}
use Rattle.lps_model.specs.Declarations.{kind_among}
use Rattle.lps_model.specs.Program.{declarations}

-- a reactive rule: whenever its antecedent is true, one of its alternatives is to be made true
pub record Rule : Type 0 where
  pub antecedent : List Item
  pub alternatives : List (List Item)

-- a macro clause: the items are a way to carry out a call of the head, from the time `begin` to the time `end`
pub record MacroClause : Type 0 where
  pub head : Atom
  pub begin : ℕ
  pub end : ℕ
  pub items : List Item

abbrev pub denial_in : Body → List (List Item)
denial_in (b.Denial items) = items ∷ []
denial_in _ = []

abbrev pub rule_in : Body → List Rule
rule_in (b.Rule antecedent alternatives) = record { antecedent = antecedent; alternatives = alternatives } ∷ []
rule_in _ = []

abbrev pub macro_clause_in : Body → List MacroClause
macro_clause_in (b.MacroClause head begin end items) = record { head = head; begin = begin.0; end = end.0; items = items } ∷ []
macro_clause_in _ = []

-- the denials of a text
abbrev pub denials : Text → List (List Item)
denials text = flat_map (λ s. denial_in s.body) text.statements

-- the rules of a text
abbrev pub rules : Text → List Rule
rules text = flat_map (λ s. rule_in s.body) text.statements

-- the macro clauses of a text
abbrev pub macro_clauses : Text → List MacroClause
macro_clauses text = flat_map (λ s. macro_clause_in s.body) text.statements

-- the clauses of one macro
abbrev pub clauses_of : Text → List ℕ → List MacroClause
clauses_of text name = filter (λ clause. name_eq clause.head.name name) (macro_clauses text)

-- element n of a list, from 1
abbrev pub numbered : {X : Type 0} → List X → ℕ → Option X
numbered xs zero = None
numbered xs (suc n) = slice_get xs n

-- the kind that a text declares a name with
abbrev pub kind_of : Text → List ℕ → Option Kind
kind_of text name = kind_among (declarations text) name

-- a macro
abbrev pub is_macro : Option Kind → Bool
is_macro (Some k.Macro) = true
is_macro _ = false
