-- Where the statements of an accepted text stand, which kinds their names have there, and that no refusal of whole statements
-- stands.
use Rattle.std.proofs.Common.{ℕ, Bool, true, false, cond, not, ◌≡◌, List, [], ◌∷◌, ◌++◌, refl, sym, ap, subst, inl, inr}
use Rattle.std.specs.Prelude.{◌⊎◌, Contains, Option, Some, None, if◌then◌else◌}
use Rattle.std.specs.List.{flat_map}
use Rattle.std.specs.Option.{option_or}
use Rattle.std.proofs.lemmas.List.Elements.{Contains-append_left, Contains-append_right, Contains-append_cases}
use Rattle.lps_terms.specs.declared.body.Body.{Body}
use Rattle.lps_terms.specs.declared.decl.Decl.{Decl}
use Rattle.lps_terms.specs.declared.kind.Kind.{Kind}
use Rattle.lps_terms.specs.declared.refused.Refused.{Refused}
use Rattle.lps_terms.specs.declared.refused.Refused.TheVariants.{NoEvent, NotGround}
use Rattle.lps_terms.specs.declared.statement.Statement.{Statement}
use Rattle.lps_terms.specs.declared.text.Text.{Text}
use Rattle.lps_model.specs.declared.occurrence.Occurrence.{Occurrence}
use Rattle.lps_model.specs.declared.place.Place.{Place}
use Rattle.lps_model.specs.Acceptance.{IsAccepted}
use Rattle.lps_model.specs.Declarations.{decl_among, kind_among, kind_in}
use Rattle.lps_model.specs.KindRefusals.{declared_twice, first_where, has_no_event, is_not_ground, is_undeclared, is_wrong_kind, kind_refusal, may_stand, name_refusal, no_event, not_ground, refused_by, statement_refusal, undeclared, wrong_arity, wrong_kind}
use Rattle.lps_model.specs.Known.{body_unknown, refused_or, statements_unknown, unknown_of}
use Rattle.lps_model.specs.Occurrences.{in_body, occurrences}
use Rattle.lps_model.specs.Order.{order_refusal}
use Rattle.lps_model.specs.Program.{declarations}
use Rattle.lps_model.proofs.Elements.{first_is_contained, first_or_later, nothing_contained}

-- ---- statements

-- an element of lists one after the other is in one of them
pub record IsWithinOne {X Y : Type 0} (f : X → List Y) (xs : List X) (y : Y) : Type 0 where
  pub one : X
  pub among : Contains xs one
  pub within : Contains (f one) y

pub flat_within : {X Y : Type 0} (f : X → List Y) (xs : List X) (y : Y) → Contains (flat_map f xs) y → IsWithinOne f xs y
flat_within f [] y at = absurd (nothing_contained y at)
flat_within f (x ∷ xs) y at = by (Contains-append_cases (f x) (flat_map f xs) y at) (flat_within f xs y)
  where
    by : Contains (f x) y ⊎ Contains (flat_map f xs) y → (Contains (flat_map f xs) y → IsWithinOne f xs y) → IsWithinOne f (x ∷ xs) y
    by (inl here) later = record { one = x; among = first_is_contained x xs; within = here }
    by (inr there) later = let found = later there in record { one = found.one; among = Contains-append_right (x ∷ []) xs found.one found.among; within = found.within }

pub flat_contains : {X Y : Type 0} (f : X → List Y) (xs : List X) (x : X) (y : Y) → Contains xs x → Contains (f x) y → Contains (flat_map f xs) y
flat_contains f [] x y at within = absurd (nothing_contained x at)
flat_contains f (z ∷ zs) x y at within = by (flat_contains f zs x y) (first_or_later z zs x at)
  where
    by : (Contains zs x → Contains (f x) y → Contains (flat_map f zs) y) → (z ≡ x) ⊎ Contains zs x → Contains (f z ++ flat_map f zs) y
    by later (inl same) = Contains-append_left (f z) (flat_map f zs) y (subst (λ w. Contains (f w) y) (sym same) within)
    by later (inr rest) = Contains-append_right (f z) (flat_map f zs) y (later rest within)

-- the only element of a list
pub only_one : {X : Type 0} (x y : X) → Contains (x ∷ []) y → x ≡ y
only_one x y at = elim (first_or_later x [] y at) [ inl same ↦ same | inr none ↦ absurd (nothing_contained y none) ]

-- a statement of the text has this body
pub record IsStated (text : Text) (body : Body) : Type 0 where
  pub statement : Statement
  pub among : Contains text.statements statement
  pub says : statement.body ≡ body

-- ---- no refusal stands

-- where neither of two is there
pub neither : {X : Type 0} (one other : Option X) → option_or one other ≡ None → (one ≡ None) × (other ≡ None)
neither None other e = (refl, e)
neither (Some x) other e = absurd cc

pub not_not : (b : Bool) → not b ≡ false → b ≡ true
not_not true e = refl
not_not false e = absurd cc

-- what stands neither here nor later
not_here : (here : Bool) (refused : Refused) (later : Option Refused) → (if here then Some refused else later) ≡ None → (here ≡ false) × (later ≡ None)
not_here false refused later e = (refl, e)
not_here true refused later e = absurd cc

module _ (text : Text) (accepted : IsAccepted text) where
  pub no_kind_refused : kind_refusal text ≡ None
  no_kind_refused = (neither (kind_refusal text) _ accepted.not_refused).0

  pub no_order_refused : order_refusal (kind_among (declarations text)) text.statements ≡ None
  no_order_refused = (neither (order_refusal (kind_among (declarations text)) text.statements) (unknown_of text) (neither (kind_refusal text) _ accepted.not_refused).1).0

  none_unknown : unknown_of text ≡ None
  none_unknown = (neither (order_refusal (kind_among (declarations text)) text.statements) (unknown_of text) (neither (kind_refusal text) _ accepted.not_refused).1).1

  no_statement_refused : statement_refusal text.statements ≡ None
  no_statement_refused = (neither (name_refusal text (declarations text) (occurrences (declarations text) text)) (statement_refusal text.statements) no_kind_refused).1

  all_ground : not_ground text.statements ≡ None
  all_ground = (neither (not_ground text.statements) (no_event text.statements) no_statement_refused).0

  all_have_events : no_event text.statements ≡ None
  all_have_events = (neither (not_ground text.statements) (no_event text.statements) no_statement_refused).1

each_ground : (statements : List Statement) → not_ground statements ≡ None → (s : Statement) → Contains statements s → is_not_ground s.body ≡ false
each_ground [] e s at = absurd (nothing_contained s at)
each_ground (x ∷ xs) e s at =
    let parts = not_here (is_not_ground x.body) (NotGround x.line) (not_ground xs) e in
    elim (first_or_later x xs s at) [
      | inl same ↦ subst (λ (z : Statement). is_not_ground z.body ≡ false) same parts.0
      | inr later ↦ each_ground xs parts.1 s later
    ]

each_has_event : (statements : List Statement) → no_event statements ≡ None → (s : Statement) → Contains statements s → has_no_event s.body ≡ false
each_has_event [] e s at = absurd (nothing_contained s at)
each_has_event (x ∷ xs) e s at =
    let parts = not_here (has_no_event x.body) (NoEvent x.line) (no_event xs) e in
    elim (first_or_later x xs s at) [
      | inl same ↦ subst (λ (z : Statement). has_no_event z.body ≡ false) same parts.0
      | inr later ↦ each_has_event xs parts.1 s later
    ]

known_here : (line : ℕ) (unknown : Option (List ℕ)) (later : Option Refused) → refused_or line unknown later ≡ None → (unknown ≡ None) × (later ≡ None)
known_here line None later e = (refl, e)
known_here line (Some name) later e = absurd cc

each_known : (decls : List Decl) (statements : List Statement) → statements_unknown decls statements ≡ None → (s : Statement) → Contains statements s → body_unknown decls s s.body ≡ None
each_known decls [] e s at = absurd (nothing_contained s at)
each_known decls (x ∷ xs) e s at =
    let parts = known_here x.line (body_unknown decls x x.body) (statements_unknown decls xs) e in
    elim (first_or_later x xs s at) [
      | inl same ↦ subst (λ (z : Statement). body_unknown decls z z.body ≡ None) same parts.0
      | inr later ↦ each_known decls xs parts.1 s later
    ]

-- no statement of an accepted text has an initial fact with a variable
pub statement_ground : (text : Text) → IsAccepted text → (s : Statement) → Contains text.statements s → is_not_ground s.body ≡ false
statement_ground text accepted = each_ground text.statements (all_ground text accepted)

-- and none is a denial without an event
pub statement_has_event : (text : Text) → IsAccepted text → (s : Statement) → Contains text.statements s → has_no_event s.body ≡ false
statement_has_event text accepted = each_has_event text.statements (all_have_events text accepted)

-- and in each the variables are known that have to be
pub statement_known : (text : Text) → IsAccepted text → (s : Statement) → Contains text.statements s → body_unknown (declarations text) s s.body ≡ None
statement_known text accepted = each_known (declarations text) text.statements (none_unknown text accepted)

-- ---- kinds

none_found : (refusal : ℕ → List ℕ → Refused) (found : Option Occurrence) → refused_by refusal found ≡ None → found ≡ None
none_found refusal None e = refl
none_found refusal (Some o) e = absurd cc

none_where : (test : Occurrence → Option Decl → Bool) (decls : List Decl) (os : List Occurrence) → first_where test decls os ≡ None →
    (o : Occurrence) → Contains os o → test o (decl_among decls o.name) ≡ false
none_where test decls [] e o at = absurd (nothing_contained o at)
none_where test decls (p ∷ os) e o at = by (test p (decl_among decls p.name)) refl e (none_where test decls os) (first_or_later p os o at)
  where
    by : (is : Bool) → test p (decl_among decls p.name) ≡ is → cond is (Some p) (first_where test decls os) ≡ None →
        (first_where test decls os ≡ None → (q : Occurrence) → Contains os q → test q (decl_among decls q.name) ≡ false) →
        (p ≡ o) ⊎ Contains os o → test o (decl_among decls o.name) ≡ false
    by true is none later found = absurd cc
    by false is none later (inl same) = subst (λ (q : Occurrence). test q (decl_among decls q.name) ≡ false) same is
    by false is none later (inr rest) = later none o rest

-- a name that stands in a text whose names are where they may be
pub record IsPlaced (decls : List Decl) (o : Occurrence) : Type 0 where
  pub declared : is_undeclared (decl_among decls o.name) ≡ false
  pub placed : is_wrong_kind o.place (decl_among decls o.name) ≡ false

pub are_placed : (text : Text) → kind_refusal text ≡ None → (o : Occurrence) → Contains (occurrences (declarations text) text) o → IsPlaced (declarations text) o
are_placed text e o at =
    let decls : List Decl = declarations text in
    let os : List Occurrence = occurrences (declarations text) text in
    let names = neither (name_refusal text decls os) (statement_refusal text.statements) e in
    let first = neither (undeclared decls os) (option_or (declared_twice text) (option_or (wrong_arity decls os) (wrong_kind decls os))) names.0 in
    let second = neither (declared_twice text) (option_or (wrong_arity decls os) (wrong_kind decls os)) first.1 in
    let third = neither (wrong_arity decls os) (wrong_kind decls os) second.1 in
    record {
      declared = none_where (λ o found. is_undeclared found) decls os (none_found _ _ first.0) o at;
      placed = none_where (λ o found. is_wrong_kind o.place found) decls os (none_found _ _ third.1) o at;
    }

-- the name is declared, with a kind that may stand at the place
pub record HasKindAt (text : Text) (place : Place) (name : List ℕ) : Type 0 where
  pub kind : Kind
  pub is : kind_among (declarations text) name ≡ Some kind
  pub may : may_stand place kind ≡ true

kind_found : (text : Text) (place : Place) (name : List ℕ) (found : Option Decl) → decl_among (declarations text) name ≡ found →
    is_undeclared found ≡ false → is_wrong_kind place found ≡ false → HasKindAt text place name
kind_found text place name None e declared placed = absurd cc
kind_found text place name (Some decl) e declared placed = record { kind = decl.kind; is = ap kind_in e; may = not_not (may_stand place decl.kind) placed }

-- a name that stands in a statement of an accepted text has a kind that may stand there
pub kind_at : (text : Text) → IsAccepted text → (body : Body) (stated : IsStated text body) (o : Occurrence) →
    Contains (in_body (declarations text) stated.statement.line body) o → HasKindAt text o.place o.name
kind_at text accepted body stated o within =
    let s : Statement = stated.statement in
    let in_statement : Contains (in_body (declarations text) s.line s.body) o =
    subst (λ said. Contains (in_body (declarations text) s.line said) o) (sym stated.says) within in
    let in_text = flat_contains (λ (s : Statement). in_body (declarations text) s.line s.body) text.statements s o stated.among in_statement in
    let placed = are_placed text (no_kind_refused text accepted) o in_text in
    kind_found text o.place o.name (decl_among (declarations text) o.name) refl placed.declared placed.placed
