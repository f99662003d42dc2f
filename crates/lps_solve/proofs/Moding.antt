-- Acceptance says of each clause that its conditions are well-moded.
use Rattle.std.proofs.Common.{ℕ, false, ◌≡◌, List, [], ◌∷◌, refl, sym, ap, subst, ◌∙◌, inl, inr}
use Rattle.std.specs.Prelude.{◌⊎◌, Contains, Option, Some, None}
use Rattle.std.specs.Option.{option_or}
use Rattle.lps_terms.specs.declared.atom.Atom.{Atom}
use Rattle.lps_terms.specs.declared.body.Body.TheVariants as b
use Rattle.lps_terms.specs.declared.cond.Cond.{Cond}
use Rattle.lps_terms.specs.declared.decl.Decl.{Decl}
use Rattle.lps_terms.specs.declared.kind.Kind.{Kind}
use Rattle.lps_terms.specs.declared.kind.Kind.TheVariants as k
use Rattle.lps_terms.specs.declared.mode.Mode.{Mode}
use Rattle.lps_terms.specs.declared.refused.Refused.{Refused}
use Rattle.lps_terms.specs.declared.statement.Statement.{Statement}
use Rattle.lps_terms.specs.declared.text.Text.{Text}
use Rattle.lps_model.specs.Acceptance.{IsAccepted}
use Rattle.lps_model.specs.Declarations.{decl_among, kind_among}
use Rattle.lps_model.specs.KindRefusals.{kind_refusal}
use Rattle.lps_model.specs.Known.{Scope, body_unknown, cond_needs, conds_unknown, declared_needs, head_known, kind_needs, learnt, marked_vars, refused_or, scope_at, statements_unknown, unknown_among, unknown_of}
use Rattle.lps_model.specs.Order.{order_refusal}
use Rattle.lps_model.specs.Program.{declarations}
use Rattle.lps_model.specs.VariableLists.{atom_vars, cond_vars}
use Rattle.lps_model.proofs.Elements.{first_or_later, nothing_contained}
use Rattle.lps_unify.specs.Bindings.{TrailedBindings}
use Rattle.lps_solve.specs.Moded.{AreModed}

-- where neither of two is there, the first is not, and the second is not
pub neither_is : {X : Type 0} (one other : Option X) → option_or one other ≡ None → (one ≡ None) × (other ≡ None)
neither_is None other e = (refl, e)
neither_is (Some x) other e = absurd (cc)

not_refused : (line : ℕ) (one : Option (List ℕ)) (later : Option Refused) → refused_or line one later ≡ None → (one ≡ None) × (later ≡ None)
not_refused line None later e = (refl, e)
not_refused line (Some name) later e = absurd (cc)

statement_is_known : (decls : List Decl) (statements : List Statement) → statements_unknown decls statements ≡ None → (s : Statement) → Contains statements s → body_unknown decls s s.body ≡ None
statement_is_known decls [] e s at = absurd (nothing_contained s at)
statement_is_known decls (first ∷ rest) e s at =
    let both = not_refused first.line (body_unknown decls first first.body) (statements_unknown decls rest) e in
    by (statement_is_known decls rest both.1 s) both.0 (first_or_later first rest s at)
  where
    by : (Contains rest s → body_unknown decls s s.body ≡ None) → body_unknown decls first first.body ≡ None → (first ≡ s) ⊎ Contains rest s → body_unknown decls s s.body ≡ None
    by later here (inl same) = subst (λ (s : Statement). body_unknown decls s s.body ≡ None) same here
    by later here (inr behind) = later behind

-- no variable of a statement of an accepted text is unknown where it has to be known
pub body_is_known : (text : Text) → IsAccepted text → (s : Statement) → Contains text.statements s → body_unknown (declarations text) s s.body ≡ None
body_is_known text accepted s at =
    let behind = (neither_is (kind_refusal text) (option_or (order_refusal (kind_among (declarations text)) text.statements) (unknown_of text)) accepted.not_refused).1 in
    let unknown = (neither_is (order_refusal (kind_among (declarations text)) text.statements) (unknown_of text) behind).1 in
    statement_is_known (declarations text) text.statements unknown s at

-- what has to be known at the end matters at the end alone
pub wanted_nothing : (scope : Scope) (wanted known : List ℕ) (conds : List Cond) → conds_unknown scope wanted known conds ≡ None → conds_unknown scope [] known conds ≡ None
wanted_nothing scope wanted known [] e = refl
wanted_nothing scope wanted known (cond ∷ conds) e =
    let both = neither_is (unknown_among scope.names known (cond_needs scope known cond)) (conds_unknown scope wanted (learnt known (cond_vars cond)) conds) e in
    ap (λ first. option_or first (conds_unknown scope [] (learnt known (cond_vars cond)) conds)) both.0 ∙ wanted_nothing scope wanted (learnt known (cond_vars cond)) conds both.1

-- nothing has to be known at an atom without arguments
no_marks : (modes : List Mode) → marked_vars modes [] ≡ []
no_marks [] = refl
no_marks (mode ∷ modes) = refl

no_kind_needs : (kind : Kind) (modes : List Mode) → kind_needs false kind modes [] ≡ []
no_kind_needs k.Fluent modes = refl
no_kind_needs k.Event modes = refl
no_kind_needs k.Action modes = refl
no_kind_needs k.Timeless modes = no_marks modes
no_kind_needs k.Derived modes = no_marks modes
no_kind_needs k.Macro modes = no_marks modes

no_needs : (decl : Option Decl) → declared_needs false decl [] ≡ []
no_needs None = refl
no_needs (Some decl) = no_kind_needs decl.kind decl.modes

-- The conditions of a clause whose head has no arguments are well-moded, whatever is bound.
pub goal_is_moded : (text : Text) → IsAccepted text → (s : Statement) → Contains text.statements s → (head : Atom) (conds : List Cond) → s.body ≡ b.Clause head conds → head.args ≡ [] → (bindings : TrailedBindings) → AreModed text bindings conds
goal_is_moded text accepted s at head conds says alone bindings = record {
  scope = scope_at (declarations text) s [] false;
  declared = refl;
  seen = refl;
  known = [];
  ground = tt;
  moded =
      let whole : conds_unknown (scope_at (declarations text) s [] false) (atom_vars head) (head_known (declarations text) head) conds ≡ None =
      sym (ap (body_unknown (declarations text) s) says) ∙ body_is_known text accepted s at in
      let nothing : head_known (declarations text) head ≡ [] =
      ap (λ args. learnt [] (declared_needs false (decl_among (declarations text) head.name) args)) alone ∙ ap (learnt []) (no_needs (decl_among (declarations text) head.name)) in
      subst (λ known. conds_unknown (scope_at (declarations text) s [] false) [] known conds ≡ None) nothing
      (wanted_nothing (scope_at (declarations text) s [] false) (atom_vars head) (head_known (declarations text) head) conds whole);
}
