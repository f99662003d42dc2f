-- The calls of a text, from the names of the heads of clauses to the names in their bodies, and which of them are strict.
use Rattle.std.specs.Prelude.{ℕ, zero, suc, Bool, true, false, not, ◌||◌, List, [], ◌∷◌, ◌++◌, Option, Some, None, if◌then◌else◌}
use Rattle.std.specs.List.{flat_map, list_any}
use Rattle.lps_terms.specs.declared.atom.Atom.{Atom}
use Rattle.lps_terms.specs.declared.body.Body.{Body}
use Rattle.lps_terms.specs.declared.body.Body.TheVariants as b
use Rattle.lps_terms.specs.declared.cond.Cond.{Cond}
use Rattle.lps_terms.specs.declared.cond.Cond.TheVariants as c
use Rattle.lps_terms.specs.declared.decl.Decl.{Decl}
use Rattle.lps_terms.specs.declared.item.Item.{Item}
use Rattle.lps_terms.specs.declared.item.Item.TheVariants as i
use Rattle.lps_terms.specs.declared.kind.Kind.{Kind}
use Rattle.lps_terms.specs.declared.kind.Kind.TheVariants as k
use Rattle.lps_terms.specs.declared.mode.Mode.{Mode}
use Rattle.lps_terms.specs.declared.mode.Mode.TheVariants as m
use Rattle.lps_terms.specs.declared.term.Term.{Term}
use Rattle.lps_terms.specs.declared.text.Text.{Text}
use Rattle.lps_terms.specs.Order.{args_of, term_eq}
use Rattle.lps_terms.specs.Symbols.{symbols_of}
use Rattle.lps_model.specs.Declarations.{decl_among, kind_among}
use Rattle.lps_model.specs.Order.{happens}
use Rattle.lps_model.specs.Program.{declarations}

-- a call from the name of a clause's head to the name of a literal in its body; a strict one needs a lower level
pub record Call : Type 0 where
  pub caller : List ℕ
  pub callee : List ℕ
  pub is_strict : Bool

-- ---- descending

-- whether a term stands inside another whose arguments nest at most so deep: it is an argument, or stands inside one
abbrev pub is_inside_within : ℕ → Term → Term → Bool
is_inside_within zero inner outer = false
is_inside_within (suc depth) inner outer = list_any (λ arg. term_eq inner arg || is_inside_within depth inner arg) (args_of outer)

-- whether a term is a proper subterm of another
abbrev pub is_inside : Term → Term → Bool
is_inside inner outer = is_inside_within (symbols_of outer) inner outer

-- the first argument that is marked `*`
abbrev pub starred : List Mode → List Term → Option Term
starred (m.Star ∷ modes) (x ∷ args) = Some x
starred (m.Plus ∷ modes) (x ∷ args) = starred modes args
starred (m.Minus ∷ modes) (x ∷ args) = starred modes args
starred [] args = None
starred (mode ∷ modes) [] = None

-- the argument that the declaration of an atom's name marks `*`
abbrev pub starred_by : Option Decl → List Term → Option Term
starred_by None args = None
starred_by (Some decl) args = starred decl.modes args

abbrev pub starred_of : List Decl → Atom → Option Term
starred_of decls atom = starred_by (decl_among decls atom.name) atom.args

-- both arguments are there, and the first is a proper subterm of the second
abbrev pub are_nested : Option Term → Option Term → Bool
are_nested (Some inner) (Some outer) = is_inside inner outer
are_nested _ _ = false

-- the call of a literal under a head descends: its marked argument is a proper subterm of the head's
abbrev pub descends : List Decl → Atom → Atom → Bool
descends decls head atom = are_nested (starred_of decls atom) (starred_of decls head)

-- ---- calls

-- the name of a clause: a literal of such a name is a call
abbrev pub is_called : Option Kind → Bool
is_called (Some k.Timeless) = true
is_called (Some k.Derived) = true
is_called (Some k.Macro) = true
is_called _ = false

-- the call of a literal under a head. A negated one is strict, and so is one that neither descends nor is guarded.
abbrev pub call_of : List Decl → Atom → Bool → Bool → Atom → List Call
call_of decls head negated guarded atom =
    if is_called (kind_among decls atom.name)
    then (record { caller = head.name; callee = atom.name; is_strict = negated || not (descends decls head atom || guarded) } ∷ [])
    else []

abbrev pub call_in_cond : List Decl → Atom → Cond → List Call
call_in_cond decls head (c.Lit lit) = call_of decls head lit.negated false lit.atom
call_in_cond decls head (c.Built built) = []

-- the call of an item; `behind` says that a group stands before it, which guards a macro call
abbrev pub call_in_item : List Decl → Atom → Bool → Item → List Call
call_in_item decls head behind (i.At lit time) = call_of decls head lit.negated false lit.atom
call_in_item decls head behind (i.Bare lit) = call_of decls head lit.negated false lit.atom
call_in_item decls head behind (i.Span atom begin end) = call_of decls head false behind atom
call_in_item decls head behind (i.Built built) = []
call_in_item decls head behind (i.Con con) = []

-- an item of a group: an event or an action
abbrev pub is_in_group : List Decl → Item → Bool
is_in_group decls (i.Span atom begin end) = happens (kind_among decls atom.name)
is_in_group decls _ = false

-- the calls of the items of a macro clause, from the left
abbrev pub calls_in_items : List Decl → Atom → Bool → List Item → List Call
calls_in_items decls head behind [] = []
calls_in_items decls head behind (item ∷ items) = call_in_item decls head behind item ++ calls_in_items decls head (behind || is_in_group decls item) items

-- the calls of a statement
abbrev pub calls_in : List Decl → Body → List Call
calls_in decls (b.Clause head conds) = flat_map (call_in_cond decls head) conds
calls_in decls (b.MacroClause head begin end items) = calls_in_items decls head false items
calls_in decls _ = []

-- the calls of a text, in text order
abbrev pub calls : Text → List Call
calls text = flat_map (λ s. calls_in (declarations text) s.body) text.statements
