-- What holds of the denials of an accepted text: their times, their kinds and their variables.
use Rattle.std.proofs.Common.{ℕ, Bool, true, false, not, ◌≡◌, List, [], ◌∷◌, length, refl, sym, ap, subst, ◌∙◌, inl, inr}
use Rattle.std.specs.Prelude.{◌&&◌, ◌==◌, Contains, Option, Some, None, nat_le, if◌then◌else◌}
use Rattle.std.specs.List.{AllByRecursion, list_all}
use Rattle.lps_terms.specs.declared.body.Body.{Body}
use Rattle.lps_terms.specs.declared.body.Body.TheVariants as b
use Rattle.lps_terms.specs.declared.item.Item.{Item}
use Rattle.lps_terms.specs.declared.item.Item.TheVariants as i
use Rattle.lps_terms.specs.declared.kind.Kind.{Kind}
use Rattle.lps_terms.specs.declared.kind.Kind.TheVariants as k
use Rattle.lps_terms.specs.declared.statement.Statement.{Statement}
use Rattle.lps_terms.specs.declared.text.Text.{Text}
use Rattle.lps_model.specs.declared.occurrence.Occurrence.{Occurrence}
use Rattle.lps_model.specs.declared.place.Place.TheVariants.{AtTime, Seen, Untimed}
use Rattle.lps_model.specs.Acceptance.{IsAccepted}
use Rattle.lps_model.specs.Declarations.{kind_among}
use Rattle.lps_model.specs.Formed.{is_formed, is_formed_body, is_formed_item, is_formed_statement, is_no_constraint}
use Rattle.lps_model.specs.KindRefusals.{has_no_event, has_span, may_stand}
use Rattle.lps_model.specs.Known.{body_unknown, sequence_unknown}
use Rattle.lps_model.specs.Occurrences.{in_item, in_items}
use Rattle.lps_model.specs.Order.{first_line, happens, is_denial_ordered, is_out_of_order, may_all_stand, refusal_at, span_in}
use Rattle.lps_model.specs.Program.{declarations}
use Rattle.lps_model.proofs.Elements.{first_is_contained, first_or_later, later_is_contained, nothing_contained}
use Rattle.lps_model.proofs.Stated.{HasKindAt, IsStated, flat_contains, flat_within, kind_at, no_order_refused, not_not, only_one, statement_has_event, statement_known}
use Rattle.lps_model.specs.Rules.{denial_in, denials, kind_of}
use Rattle.lps_causal.proofs.Happening.{is_condition, is_timeless}
use Rattle.lps_solve.proofs.Grounds.{first_of_two, second_of}

-- ---- the statement of a denial

denial_of_body : (body : Body) (items : List Item) → Contains (denial_in body) items → body ≡ b.Denial items
denial_of_body (b.Denial own) items within = ap (λ is. b.Denial is) (only_one own items within)
denial_of_body (b.Declare declared) items within = absurd (nothing_contained items within)
denial_of_body (b.Initially atoms) items within = absurd (nothing_contained items within)
denial_of_body (b.Rule antecedent alternatives) items within = absurd (nothing_contained items within)
denial_of_body (b.Law initiates event fluent conds) items within = absurd (nothing_contained items within)
denial_of_body (b.Clause head conds) items within = absurd (nothing_contained items within)
denial_of_body (b.MacroClause head begin end own) items within = absurd (nothing_contained items within)

denial_stated : (text : Text) (items : List Item) → Contains (denials text) items → IsStated text (b.Denial items)
denial_stated text items at =
    let found = flat_within (λ (s : Statement). denial_in s.body) text.statements items at in
    record { statement = found.one; among = found.among; says = denial_of_body found.one.body items found.within }

-- ---- what was not refused

no_line : (one two three : Option ℕ) → refusal_at one two three ≡ None → one ≡ None
no_line None two three e = refl
no_line (Some line) two three e = absurd (cc)

-- a test that no body passes
none_passes_by : (test : Body → Bool) (s : Statement) (ss : List Statement) (passes : Bool) → test s.body ≡ passes → (if passes then Some s.line else first_line test ss) ≡ None →
    (test s.body ≡ false) × (first_line test ss ≡ None)
none_passes_by test s ss true is e = absurd (cc)
none_passes_by test s ss false is e = (is, e)

none_passes : (test : Body → Bool) (ss : List Statement) (s : Statement) → first_line test ss ≡ None → Contains ss s → test s.body ≡ false
none_passes test [] s e at = absurd (nothing_contained s at)
none_passes test (x ∷ ss) s e at =
    let both = none_passes_by test x ss (test x.body) refl e in
    elim (first_or_later x ss s at) [
      | inl same ↦ subst (λ (z : Statement). test z.body ≡ false) same both.0
      | inr later ↦ none_passes test ss s both.1 later
    ]

all_hold : {X : Type 0} (test : X → Bool) (xs : List X) (x : X) → list_all test xs ≡ true → Contains xs x → test x ≡ true
all_hold test [] x h at = absurd (nothing_contained x at)
all_hold test (y ∷ ys) x h at =
    elim (first_or_later y ys x at) [
      | inl same ↦ subst (λ w. test w ≡ true) same (first_of_two (test y) (list_all test ys) h)
      | inr later ↦ all_hold test ys x (second_of (test y) (list_all test ys) h) later
    ]

-- ---- kinds

-- the kinds that may stand in an item of a denial
abbrev pub HasKinds : Text → Item → Type 0
HasKinds text (i.At l time) = is_condition (kind_of text l.atom.name) ≡ true
HasKinds text (i.Bare l) = is_timeless (kind_of text l.atom.name) ≡ true
HasKinds text (i.Built built) = Unit {0}
HasKinds text (i.Span a from to) = happens (kind_of text a.name) ≡ true
HasKinds text (i.Con con) = Unit {0}

at_time : (kind : Kind) → may_stand AtTime kind ≡ true → is_condition (Some kind) ≡ true
at_time k.Fluent h = refl
at_time k.Derived h = refl
at_time k.Timeless h = absurd (cc)
at_time k.Event h = absurd (cc)
at_time k.Action h = absurd (cc)
at_time k.Macro h = absurd (cc)

untimed : (kind : Kind) → may_stand Untimed kind ≡ true → is_timeless (Some kind) ≡ true
untimed k.Timeless h = refl
untimed k.Fluent h = absurd (cc)
untimed k.Derived h = absurd (cc)
untimed k.Event h = absurd (cc)
untimed k.Action h = absurd (cc)
untimed k.Macro h = absurd (cc)

seen : (kind : Kind) → may_stand Seen kind ≡ true → happens (Some kind) ≡ true
seen k.Event h = refl
seen k.Action h = refl
seen k.Fluent h = absurd (cc)
seen k.Derived h = absurd (cc)
seen k.Timeless h = absurd (cc)
seen k.Macro h = absurd (cc)

module _ (text : Text) (accepted : IsAccepted text) (items : List Item) (stated : IsStated text (b.Denial items)) where
  abbrev line : ℕ
  line = stated.statement.line

  kinds_of_item : (item : Item) → ((o : Occurrence) → Contains (in_item line Seen item) o → HasKindAt text o.place o.name) → HasKinds text item
  kinds_of_item (i.At l time) each = let found = each _ (first_is_contained _ []) in ap is_condition found.is ∙ at_time found.kind found.may
  kinds_of_item (i.Bare l) each = let found = each _ (first_is_contained _ []) in ap is_timeless found.is ∙ untimed found.kind found.may
  kinds_of_item (i.Built built) each = tt
  kinds_of_item (i.Span a from to) each = let found = each _ (first_is_contained _ []) in ap happens found.is ∙ seen found.kind found.may
  kinds_of_item (i.Con con) each = tt

  kinds_of_all : (some : List Item) → ((o : Occurrence) → Contains (in_items line Seen some) o → HasKindAt text o.place o.name) → AllByRecursion (HasKinds text) some
  kinds_of_all [] each = tt
  kinds_of_all (item ∷ rest) each = (
    kinds_of_item item (λ o at. each o (flat_contains (in_item line Seen) (item ∷ rest) item o (first_is_contained item rest) at)),
    kinds_of_all rest (λ o at. each o (later_among o at)),
  )
    where
      later_among : (o : Occurrence) → Contains (in_items line Seen rest) o → Contains (in_items line Seen (item ∷ rest)) o
      later_among o at =
          let found = flat_within (in_item line Seen) rest o at in
          flat_contains (in_item line Seen) (item ∷ rest) found.one o (later_is_contained item rest found.one found.among) found.within

-- ---- denials

-- What is known of a denial of an accepted text: the two times of its first `from to` item, between which its items stand in
-- order; its kinds; that its variables are known where they have to be; and that it is well-formed and has no constraint.
pub record IsDenial (text : Text) (items : List Item) : Type 0 where
  pub statement : Statement
  pub first : ℕ
  pub second : ℕ
  pub span : span_in items ≡ Some (first, second)
  pub differ : (first == second) ≡ false
  pub stand : may_all_stand first second false items ≡ true
  pub kinds : AllByRecursion (HasKinds text) items
  pub known : sequence_unknown (declarations text) statement false [] [] items ≡ None
  pub formed : list_all (is_formed_item (length statement.names) (length statement.times)) items ≡ true
  pub plain : list_all is_no_constraint items ≡ true

-- the first item from a time to a time
record HasSpan (items : List Item) : Type 0 where
  pub first : ℕ
  pub second : ℕ
  pub span : span_in items ≡ Some (first, second)

has_times : (items : List Item) → has_span items ≡ true → HasSpan items
has_times [] h = absurd (cc)
has_times (i.Span a from to ∷ items) h = record { first = from.0; second = to.0; span = refl }
has_times (i.At l time ∷ items) h = let rest = has_times items h in record { first = rest.first; second = rest.second; span = rest.span }
has_times (i.Bare l ∷ items) h = let rest = has_times items h in record { first = rest.first; second = rest.second; span = rest.span }
has_times (i.Built built ∷ items) h = let rest = has_times items h in record { first = rest.first; second = rest.second; span = rest.span }
has_times (i.Con con ∷ items) h = let rest = has_times items h in record { first = rest.first; second = rest.second; span = rest.span }

pub denial_is : (text : Text) → IsAccepted text → is_formed text ≡ true → (items : List Item) → Contains (denials text) items → IsDenial text items
denial_is text accepted formed items at =
    let stated = denial_stated text items at in
    let s : Statement = stated.statement in
    let spans : has_span items ≡ true = not_not (has_span items) (sym (ap has_no_event stated.says) ∙ statement_has_event text accepted s stated.among) in
    let times = has_times items spans in
    let ordered : is_denial_ordered items ≡ true =
    not_not (is_denial_ordered items)
    (sym (ap (is_out_of_order (kind_among (declarations text))) stated.says)
    ∙ none_passes (is_out_of_order (kind_among (declarations text))) text.statements s (no_line (first_line (is_out_of_order (kind_among (declarations text))) text.statements) _ _ (no_order_refused text accepted)) stated.among) in
    let between : (not (times.first == times.second) && may_all_stand times.first times.second false items) ≡ true = rw times.span at ordered in
    let whole : is_formed_statement s ≡ true = all_hold is_formed_statement text.statements s formed stated.among in
    let body : is_formed_body (length s.names) (length s.times) (b.Denial items) ≡ true =
    sym (ap (is_formed_body (length s.names) (length s.times)) stated.says)
    ∙ second_of (nat_le (length s.names) 255 && nat_le (length s.times) 255) (is_formed_body (length s.names) (length s.times) s.body) whole in
    record {
      statement = s;
      first = times.first;
      second = times.second;
      span = times.span;
      differ = is_not (times.first == times.second) (first_of_two (not (times.first == times.second)) (may_all_stand times.first times.second false items) between);
      stand = second_of (not (times.first == times.second)) (may_all_stand times.first times.second false items) between;
      kinds = kinds_of_all text accepted items stated items (λ o within. kind_at text accepted (b.Denial items) stated o within);
      known = sym (ap (body_unknown (declarations text) s) stated.says) ∙ statement_known text accepted s stated.among;
      formed = first_of_two (list_all (is_formed_item (length s.names) (length s.times)) items) (list_all is_no_constraint items) body;
      plain = second_of (list_all (is_formed_item (length s.names) (length s.times)) items) (list_all is_no_constraint items) body;
    }
  where
    is_not : (b : Bool) → not b ≡ true → b ≡ false
    is_not true e = absurd (cc)
    is_not false e = refl
