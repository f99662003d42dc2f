-- No refusal that comes before levels is for a cycle.
use Rattle.std.specs.Prelude.{◌≡◌, ℕ, Bool, true, false, List, [], ◌∷◌, Option, Some, None, if◌then◌else◌}
use Rattle.std.specs.Option.{option_or}
use Rattle.std.proofs.Common.{subst}
use Rattle.lps_terms.specs.declared.decl.Decl.{Decl}
use Rattle.lps_terms.specs.declared.refused.Refused.{Refused}
use Rattle.lps_terms.specs.declared.refused.Refused.TheVariants.{Undeclared, DeclaredTwice, WrongArity, WrongKind, NotGround, NoEvent, OutOfOrder, MixedGroup, BadHeadTimes, Unknown, Unlevelled}
use Rattle.lps_terms.specs.declared.statement.Statement.{Statement}
use Rattle.lps_terms.specs.declared.text.Text.{Text}
use Rattle.lps_model.specs.declared.declaration.Declaration.{Declaration}
use Rattle.lps_model.specs.declared.occurrence.Occurrence.{Occurrence}
use Rattle.lps_model.specs.Acceptance.{early_refusal, IsRefusedFor}
use Rattle.lps_model.specs.Declarations.{kind_among}
use Rattle.lps_model.specs.KindRefusals.{first_again, first_where, has_no_event, is_not_ground, is_undeclared, is_wrong_arity, is_wrong_kind, kind_refusal, name_refusal, no_event, not_ground, refused_by, statement_refusal, twice_by}
use Rattle.lps_model.specs.Known.{body_unknown, refused_or, statements_unknown, unknown_of}
use Rattle.lps_model.specs.Occurrences.{all_declared, occurrences}
use Rattle.lps_model.specs.Order.{first_line, has_bad_head_times, is_mixed_somewhere, is_out_of_order, order_refusal, refusal_at}
use Rattle.lps_model.specs.Program.{declarations}

-- the refusal is for no cycle
abbrev IsEarly : Refused → Type 0
IsEarly (Unlevelled cycle) = ⊥
IsEarly refused = Unit {0}

abbrev AreEarly : Option Refused → Type 0
AreEarly None = Unit {0}
AreEarly (Some refused) = IsEarly refused

option_or_early : (one other : Option Refused) → AreEarly one → AreEarly other → AreEarly (option_or one other)
option_or_early None other first later = later
option_or_early (Some refused) other first later = first

by_early : (make : ℕ → List ℕ → Refused) → ((line : ℕ) (name : List ℕ) → IsEarly (make line name)) → (found : Option Occurrence) → AreEarly (refused_by make found)
by_early make early None = tt
by_early make early (Some o) = early o.line o.name

twice_early : (found : Option Declaration) → AreEarly (twice_by found)
twice_early None = tt
twice_early (Some d) = tt

if_early : (stands : Bool) (refused : Refused) (later : Option Refused) → IsEarly refused → AreEarly later → AreEarly (if stands then Some refused else later)
if_early true refused later is are = is
if_early false refused later is are = are

not_ground_early : (statements : List Statement) → AreEarly (not_ground statements)
not_ground_early [] = tt
not_ground_early (s ∷ ss) = if_early (is_not_ground s.body) (NotGround s.line) (not_ground ss) tt (not_ground_early ss)

no_event_early : (statements : List Statement) → AreEarly (no_event statements)
no_event_early [] = tt
no_event_early (s ∷ ss) = if_early (has_no_event s.body) (NoEvent s.line) (no_event ss) tt (no_event_early ss)

name_early : (text : Text) (decls : List Decl) (os : List Occurrence) → AreEarly (name_refusal text decls os)
name_early text decls os =
    option_or_early _ _ (by_early Undeclared (λ line name. tt) (first_where (λ o found. is_undeclared found) decls os))
    (option_or_early _ _ (twice_early (first_again [] (all_declared text)))
    (option_or_early _ _ (by_early WrongArity (λ line name. tt) (first_where (λ o found. is_wrong_arity o.count found) decls os))
    (by_early WrongKind (λ line name. tt) (first_where (λ o found. is_wrong_kind o.place found) decls os))))

kind_early : (text : Text) → AreEarly (kind_refusal text)
kind_early text =
    option_or_early (name_refusal text (declarations text) (occurrences (declarations text) text)) (statement_refusal text.statements)
    (name_early text (declarations text) (occurrences (declarations text) text))
    (option_or_early (not_ground text.statements) (no_event text.statements) (not_ground_early text.statements) (no_event_early text.statements))

at_early : (order groups heads : Option ℕ) → AreEarly (refusal_at order groups heads)
at_early (Some line) groups heads = tt
at_early None (Some line) heads = tt
at_early None None (Some line) = tt
at_early None None None = tt

unknown_or_early : (line : ℕ) (name : Option (List ℕ)) (later : Option Refused) → AreEarly later → AreEarly (refused_or line name later)
unknown_or_early line (Some name) later are = tt
unknown_or_early line None later are = are

unknown_early : (decls : List Decl) (statements : List Statement) → AreEarly (statements_unknown decls statements)
unknown_early decls [] = tt
unknown_early decls (s ∷ ss) = unknown_or_early s.line (body_unknown decls s s.body) (statements_unknown decls ss) (unknown_early decls ss)

refusal_early : (text : Text) → AreEarly (early_refusal text)
refusal_early text =
    option_or_early (kind_refusal text) _ (kind_early text)
    (option_or_early (order_refusal (kind_among (declarations text)) text.statements) (unknown_of text)
    (at_early (first_line (is_out_of_order (kind_among (declarations text))) text.statements) (first_line (is_mixed_somewhere (kind_among (declarations text))) text.statements)
    (first_line (has_bad_head_times (kind_among (declarations text))) text.statements))
    (unknown_early (declarations text) text.statements))

-- what stands before levels is what the text is refused for
pub early_is_refused : (text : Text) (refused : Refused) → early_refusal text ≡ Some refused → IsRefusedFor text refused
early_is_refused text (Undeclared line name) e = e
early_is_refused text (DeclaredTwice line name) e = e
early_is_refused text (WrongArity line name) e = e
early_is_refused text (WrongKind line name) e = e
early_is_refused text (NotGround line) e = e
early_is_refused text (NoEvent line) e = e
early_is_refused text (OutOfOrder line) e = e
early_is_refused text (MixedGroup line) e = e
early_is_refused text (BadHeadTimes line) e = e
early_is_refused text (Unknown line var) e = e
early_is_refused text (Unlevelled cycle) e = absurd (subst AreEarly e (refusal_early text))
