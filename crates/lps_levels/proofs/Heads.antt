-- In a text whose names stand where their kinds may, each head has a kind of its own.
use Rattle.std.proofs.Common.{◌≡◌, ℕ, List, true, false, not, All, length, get_or, Contains, Option, Some, None, refl}
use Rattle.std.proofs.lemmas.List.Elements.{Contains-get_or}
use Rattle.lps_terms.specs.declared.body.Body.{Body}
use Rattle.lps_terms.specs.declared.body.Body.TheVariants as b
use Rattle.lps_terms.specs.declared.decl.Decl.{Decl}
use Rattle.lps_terms.specs.declared.kind.Kind.{Kind}
use Rattle.lps_terms.specs.declared.kind.Kind.TheVariants as k
use Rattle.lps_terms.specs.declared.statement.Statement.{Statement}
use Rattle.lps_terms.specs.declared.text.Text.{Text}
use Rattle.lps_model.specs.declared.occurrence.Occurrence.{Occurrence}
use Rattle.lps_model.specs.declared.place.Place.TheVariants.{Head, MacroHead}
use Rattle.lps_model.specs.Calls.{is_called}
use Rattle.lps_model.specs.Declarations.{decl_among, kind_in}
use Rattle.lps_model.specs.KindRefusals.{is_undeclared, is_wrong_kind, kind_refusal, may_stand}
use Rattle.lps_model.specs.Occurrences.{in_body}
use Rattle.lps_model.specs.Program.{declarations}
use Rattle.lps_model.proofs.Elements.{first_is_contained}
use Rattle.lps_model.proofs.Stated.{IsPlaced, are_placed, flat_contains}
use Rattle.lps_levels.specs.Graphs.{HasCalledHead}

-- ---- heads

kind_of_head : (kind : Kind) → not (may_stand Head kind) ≡ false → is_called (Some kind) ≡ true
kind_of_head k.Fluent e = absurd (cc)
kind_of_head k.Event e = absurd (cc)
kind_of_head k.Action e = absurd (cc)
kind_of_head k.Timeless e = refl
kind_of_head k.Derived e = refl
kind_of_head k.Macro e = absurd (cc)

kind_of_macro_head : (kind : Kind) → not (may_stand MacroHead kind) ≡ false → is_called (Some kind) ≡ true
kind_of_macro_head k.Fluent e = absurd (cc)
kind_of_macro_head k.Event e = absurd (cc)
kind_of_macro_head k.Action e = absurd (cc)
kind_of_macro_head k.Timeless e = absurd (cc)
kind_of_macro_head k.Derived e = absurd (cc)
kind_of_macro_head k.Macro e = refl

called_head : (found : Option Decl) → is_undeclared found ≡ false → is_wrong_kind Head found ≡ false → is_called (kind_in found) ≡ true
called_head None d e = absurd (cc)
called_head (Some decl) d e = kind_of_head decl.kind e

called_macro_head : (found : Option Decl) → is_undeclared found ≡ false → is_wrong_kind MacroHead found ≡ false → is_called (kind_in found) ≡ true
called_macro_head None d e = absurd (cc)
called_macro_head (Some decl) d e = kind_of_macro_head decl.kind e

head_is_called : (decls : List Decl) (line : ℕ) (body : Body) → ((o : Occurrence) → Contains (in_body decls line body) o → IsPlaced decls o) → HasCalledHead decls body
head_is_called decls line (b.Clause head conds) placed =
    let at = placed (record { line = line; name = head.name; count = length head.args; place = Head }) (first_is_contained _ _) in
    called_head (decl_among decls head.name) at.declared at.placed
head_is_called decls line (b.MacroClause head begin end items) placed =
    let at = placed (record { line = line; name = head.name; count = length head.args; place = MacroHead }) (first_is_contained _ _) in
    called_macro_head (decl_among decls head.name) at.declared at.placed
head_is_called decls line (b.Declare declared) placed = tt
head_is_called decls line (b.Initially atoms) placed = tt
head_is_called decls line (b.Denial items) placed = tt
head_is_called decls line (b.Rule antecedent alternatives) placed = tt
head_is_called decls line (b.Law initiates event fluent conds) placed = tt

pub heads_are_called : (text : Text) → kind_refusal text ≡ None → All (λ (statement : Statement). HasCalledHead (declarations text) statement.body) text.statements
heads_are_called text e at default lt = by (get_or text.statements at default) (Contains-get_or text.statements at default lt)
  where
    by : (s : Statement) → Contains text.statements s → HasCalledHead (declarations text) s.body
    by s c = head_is_called (declarations text) s.line s.body (λ o o_in. are_placed text e o (flat_contains (λ (s : Statement). in_body (declarations text) s.line s.body) text.statements s o c o_in))
