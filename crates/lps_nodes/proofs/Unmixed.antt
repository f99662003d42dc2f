-- In an accepted text what goes on with a group that begins with an action is an action.
use Rattle.std.proofs.Common.{ℕ, suc, Bool, true, false, ◌≡◌, List, [], ◌∷◌, ◌++◌, ◌∙◌, refl, sym, ap, subst}
use Rattle.std.specs.Prelude.{◌&&◌, ◌||◌, Contains, None, Option, Some, if◌then◌else◌}
use Rattle.std.specs.List.{AllByRecursion, flat_map, list_any}
use Rattle.lps_terms.specs.declared.body.Body.{Body}
use Rattle.lps_terms.specs.declared.body.Body.TheVariants as b
use Rattle.lps_terms.specs.declared.item.Item.{Item}
use Rattle.lps_terms.specs.declared.item.Item.TheVariants as i
use Rattle.lps_terms.specs.declared.kind.Kind.{Kind}
use Rattle.lps_terms.specs.declared.statement.Statement.{Statement}
use Rattle.lps_terms.specs.declared.text.Text.{Text}
use Rattle.lps_terms.specs.Names.{name_eq}
use Rattle.lps_model.specs.declared.trace.Trace.{Trace}
use Rattle.lps_model.specs.Acceptance.{IsAccepted}
use Rattle.lps_model.specs.Order.{are_grouped, first_line, happens, has_bad_head_times, has_mixed, is_action, is_event, is_mixed, is_mixed_somewhere, is_of, is_out_of_order, joins, parts, refusal_at, with_first}
use Rattle.lps_model.specs.Rules.{MacroClause, Rule, clauses_of, kind_of, macro_clause_in, macro_clauses, numbered, rule_in, rules}
use Rattle.lps_model.proofs.Stated.{no_order_refused}
use Rattle.lps_meaning.specs.Sequences.{Entry, Place, Times, Values, Walk, entries, joins_to, pass, replace, stop}
use Rattle.lps_meaning.proofs.Framing.{no_line}
use Rattle.lps_meaning.proofs.Lists.{number_contained, of_element, of_filter}
use Rattle.lps_meaning.proofs.Occurrences.{all_joined}
use Rattle.lps_nodes.proofs.ConditionLaws.{AreMarked, and_true, false_true, marked_behind_call, marked_joined, marked_none, none_some, some_entry}

-- ---- items

abbrev pub acts : Text → Item → Bool
acts text item = is_of is_action (kind_of text) item

-- an item of one group with the one before it is an action where that is
abbrev IsAlikeNext : Text → Item → List Item → Type 0
IsAlikeNext text item [] = Unit {0}
IsAlikeNext text item (next ∷ rest) = are_grouped (kind_of text) item next ≡ true → acts text item ≡ true → acts text next ≡ true

abbrev pub AreUnmixed : Text → List Item → Type 0
AreUnmixed text [] = Unit {0}
AreUnmixed text (item ∷ rest) = IsAlikeNext text item rest × AreUnmixed text rest

or_false : (x y : Bool) → (x || y) ≡ false → (x ≡ false) × (y ≡ false)
or_false true y e = absurd (false_true (sym e))
or_false false y e = (refl, e)

true_false : true ≡ false → ⊥
true_false e = false_true (sym e)

-- a smaller part is mixed only where the larger is
less_mixed : (e1 e2 a1 a2 : Bool) → ((e1 || e2) && (a1 || a2)) ≡ false → (e2 && a2) ≡ false
less_mixed e1 false a1 a2 h = refl
less_mixed e1 true a1 false h = refl
less_mixed true true true true h = absurd (true_false h)
less_mixed true true false true h = absurd (true_false h)
less_mixed false true true true h = absurd (true_false h)
less_mixed false true false true h = absurd (true_false h)

-- where the first is an action, the second is no event
no_event : (e1 e2 e3 a1 a2 : Bool) → ((e1 || (e2 || e3)) && (a1 || a2)) ≡ false → a1 ≡ true → e2 ≡ false
no_event e1 false e3 a1 a2 h act = refl
no_event true true e3 true a2 h act = absurd (true_false h)
no_event false true e3 true a2 h act = absurd (true_false h)
no_event e1 true e3 false a2 h act = absurd (false_true act)

is_other : (e a : Bool) → (e || a) ≡ true → e ≡ false → a ≡ true
is_other true a h none = absurd (true_false none)
is_other false a h none = h

module _ (text : Text) where
  abbrev kinds : List ℕ → Option Kind
  kinds = kind_of text

  abbrev events_in : List Item → Bool
  events_in = list_any (is_of is_event kinds)

  abbrev actions_in : List Item → Bool
  actions_in = list_any (is_of is_action kinds)

  -- the first part begins with the first item
  parts_first : (y : Item) (rest : List Item) → (p : List Item) × (ps : List (List Item)) × (parts kinds (y ∷ rest) ≡ (y ∷ p) ∷ ps)
  parts_first y rest = by (joins kinds y rest) (parts kinds rest)
    where
      by : (b : Bool) (others : List (List Item)) → (p : List Item) × (ps : List (List Item)) × ((if b then with_first y others else (y ∷ []) ∷ others) ≡ (y ∷ p) ∷ ps)
      by true [] = ([], [], refl)
      by true (part ∷ others) = (part, others, refl)
      by false others = ([], others, refl)

  -- an event or action that is no event is an action
  second_acts : (x y : Item) → are_grouped kinds x y ≡ true → is_of is_event kinds y ≡ false → acts text y ≡ true
  second_acts (i.Span a from to) (i.Span c begin finish) grouped none =
      let one = and_true (happens (kinds a.name)) _ grouped in
      let two = and_true (happens (kinds c.name)) _ one.1 in
      is_other (is_event (kinds c.name)) (is_action (kinds c.name)) two.0 none
  second_acts (i.Span a from to) (i.At lit time) grouped none = absurd (false_true grouped)
  second_acts (i.Span a from to) (i.Bare lit) grouped none = absurd (false_true grouped)
  second_acts (i.Span a from to) (i.Built built) grouped none = absurd (false_true grouped)
  second_acts (i.Span a from to) (i.Con con) grouped none = absurd (false_true grouped)
  second_acts (i.At lit time) y grouped none = absurd (false_true grouped)
  second_acts (i.Bare lit) y grouped none = absurd (false_true grouped)
  second_acts (i.Built built) y grouped none = absurd (false_true grouped)
  second_acts (i.Con con) y grouped none = absurd (false_true grouped)

  abbrev NoneMixed : List (List Item) → Type 0
  NoneMixed others = list_any (is_mixed kinds) others ≡ false

  -- the parts of the rest are not mixed where those of all are not
  rest_unmixed : (x : Item) (joined : Bool) (others : List (List Item)) → NoneMixed (if joined then with_first x others else (x ∷ []) ∷ others) → NoneMixed others
  rest_unmixed x true [] h = refl
  rest_unmixed x true (part ∷ others) h =
      let both = or_false (is_mixed kinds (x ∷ part)) (list_any (is_mixed kinds) others) h in
      ap (λ b. b || list_any (is_mixed kinds) others) (less_mixed (is_of is_event kinds x) (events_in part) (is_of is_action kinds x) (actions_in part) both.0) ∙ both.1
  rest_unmixed x false others h = (or_false (is_mixed kinds (x ∷ [])) (list_any (is_mixed kinds) others) h).1

  next_alike : (x y : Item) (rest : List Item) → NoneMixed (parts kinds (x ∷ y ∷ rest)) → are_grouped kinds x y ≡ true → acts text x ≡ true → acts text y ≡ true
  next_alike x y rest h grouped act =
      let first = parts_first y rest in
      let whole : NoneMixed ((x ∷ y ∷ first.0) ∷ first.1) =
      subst (λ others. NoneMixed (with_first x others)) first.2 (subst (λ (joined : Bool). NoneMixed (if joined then with_first x (parts kinds (y ∷ rest)) else (x ∷ []) ∷ parts kinds (y ∷ rest))) grouped h) in
      let one = or_false (is_mixed kinds (x ∷ y ∷ first.0)) (list_any (is_mixed kinds) first.1) whole in
      second_acts x y grouped (no_event (is_of is_event kinds x) (is_of is_event kinds y) (events_in first.0) (is_of is_action kinds x) (actions_in (y ∷ first.0)) one.0 act)

  pub items_unmixed : (items : List Item) → has_mixed kinds items ≡ false → AreUnmixed text items
  items_unmixed [] h = tt
  items_unmixed (x ∷ []) h = (tt, tt)
  items_unmixed (x ∷ y ∷ rest) h =
      (next_alike x y rest h, items_unmixed (y ∷ rest) (rest_unmixed x (are_grouped kinds x y) (parts kinds (y ∷ rest)) h))

  -- ---- what accepted texts say

  all_false : {X : Type 0} (test : X → Bool) (xs : List X) → list_any test xs ≡ false → AllByRecursion (λ x. test x ≡ false) xs
  all_false test [] h = tt
  all_false test (x ∷ xs) h = let both = or_false (test x) (list_any test xs) h in (both.0, all_false test xs both.1)

  abbrev IsUnmixedRule : Rule → Type 0
  IsUnmixedRule rule = AllByRecursion (λ items. has_mixed kinds items ≡ false) rule.alternatives

  abbrev IsUnmixedClause : MacroClause → Type 0
  IsUnmixedClause clause = has_mixed kinds clause.items ≡ false

  rule_unmixed : (body : Body) → is_mixed_somewhere kinds body ≡ false → AllByRecursion IsUnmixedRule (rule_in body)
  rule_unmixed (b.Rule antecedent alternatives) e = (all_false (has_mixed kinds) alternatives e, tt)
  rule_unmixed (b.Declare decls) e = tt
  rule_unmixed (b.Initially facts) e = tt
  rule_unmixed (b.Denial items) e = tt
  rule_unmixed (b.Law initiates event fluent conds) e = tt
  rule_unmixed (b.Clause head conds) e = tt
  rule_unmixed (b.MacroClause head begin end items) e = tt

  clause_unmixed : (body : Body) → is_mixed_somewhere kinds body ≡ false → AllByRecursion IsUnmixedClause (macro_clause_in body)
  clause_unmixed (b.MacroClause head begin end items) e = (e, tt)
  clause_unmixed (b.Rule antecedent alternatives) e = tt
  clause_unmixed (b.Declare decls) e = tt
  clause_unmixed (b.Initially facts) e = tt
  clause_unmixed (b.Denial items) e = tt
  clause_unmixed (b.Law initiates event fluent conds) e = tt
  clause_unmixed (b.Clause head conds) e = tt

  each_statement : {X : Type 0} (P : X → Type 0) (pick : Body → List X) → ((body : Body) → is_mixed_somewhere kinds body ≡ false → AllByRecursion P (pick body)) →
      (statements : List Statement) → first_line (is_mixed_somewhere kinds) statements ≡ None → AllByRecursion P (flat_map (λ s. pick s.body) statements)
  each_statement P pick each [] e = tt
  each_statement P pick each (s ∷ ss) e =
      let none = no_line kinds (is_mixed_somewhere kinds s.body) s.line (first_line (is_mixed_somewhere kinds) ss) e in
      all_joined P (pick s.body) (flat_map (λ s. pick s.body) ss) (each s.body none.0) (each_statement P pick each ss none.1)

  no_groups : (order groups heads : Option ℕ) → refusal_at order groups heads ≡ None → groups ≡ None
  no_groups (Some line) groups heads e = absurd (none_some (sym e))
  no_groups None (Some line) heads e = absurd (none_some (sym e))
  no_groups None None heads e = refl

  module _ (accepted : IsAccepted text) where
    none_mixed : first_line (is_mixed_somewhere kinds) text.statements ≡ None
    none_mixed =
        no_groups (first_line (is_out_of_order kinds) text.statements) (first_line (is_mixed_somewhere kinds) text.statements) (first_line (has_bad_head_times kinds) text.statements) (no_order_refused text accepted)

    pub alternative_unmixed : (rule : Rule) → Contains (rules text) rule → (items : List Item) → Contains rule.alternatives items → AreUnmixed text items
    alternative_unmixed rule of_text items of_rule =
        items_unmixed items (of_element (λ items. has_mixed kinds items ≡ false) rule.alternatives items
        (of_element IsUnmixedRule (rules text) rule (each_statement IsUnmixedRule rule_in rule_unmixed text.statements none_mixed) of_text) of_rule)

    body_unmixed : (name : List ℕ) (number : ℕ) (clause : MacroClause) → numbered (clauses_of text name) number ≡ Some clause → AreUnmixed text clause.items
    body_unmixed name number clause e =
        items_unmixed clause.items (of_element IsUnmixedClause (clauses_of text name) clause
        (of_filter IsUnmixedClause (λ clause. name_eq clause.head.name name) (macro_clauses text) (each_statement IsUnmixedClause macro_clause_in clause_unmixed text.statements none_mixed))
        (number_contained (clauses_of text name) number clause e))

    -- ---- entries

    abbrev pub ActionsFollow : Option Entry → List Entry → Type 0
    ActionsFollow last [] = Unit {0}
    ActionsFollow last (e ∷ es) = (e.joins ≡ true → (p : Entry) → last ≡ Some p → acts text p.item ≡ true → acts text e.item ≡ true) × ActionsFollow (Some e) es

    follow_from : (env nest : ℕ) (items : List Item) (p : Entry) → IsAlikeNext text p.item items → AreUnmixed text items → ActionsFollow (Some p) (entries text env nest (Some p.item) items)
    follow_from env nest [] p next h = tt
    follow_from env nest (item ∷ items) p next h = (
      (λ joined q same act. next joined (subst (λ (z : Entry). acts text z.item ≡ true) (sym (some_entry same)) act)),
      follow_from env nest items (record { env = env; nest = nest; joins = joins_to text (Some p.item) item; item = item }) h.0 h.1,
    )

    pub follow_none : (env nest : ℕ) (items : List Item) (last : Option Entry) → AreUnmixed text items → ActionsFollow last (entries text env nest None items)
    follow_none env nest [] last h = tt
    follow_none env nest (item ∷ items) last h = (
      (λ joined. absurd (false_true joined)),
      follow_from env nest items (record { env = env; nest = nest; joins = false; item = item }) h.0 h.1,
    )

    follow_joined : (last : Option Entry) (xs ys : List Entry) → ActionsFollow last xs → ((q : Option Entry) → ActionsFollow q ys) → ActionsFollow last (xs ++ ys)
    follow_joined last [] ys h more = more last
    follow_joined last (x ∷ xs) ys h more = (h.0, follow_joined (Some x) xs ys h.1 more)

    -- what stands behind a call is of no group before it
    follow_free : (rest : List Entry) (e : Entry) → AreMarked text None rest → ActionsFollow (Some e) rest → (q : Option Entry) → ActionsFollow q rest
    follow_free [] e marks h q = tt
    follow_free (next ∷ rest) e marks h q = ((λ joined p same act. absurd (none_some (marks.0 joined).1)), h.1)

    pub follow_along : {level : List ℕ → ℕ} {trace : Trace} {given : List ℕ} {s : Values} {t : Times} {now : ℕ} {end place : Place} → Walk text level trace given s t now end place → (last : Option Entry) →
        AreMarked text last place.left → ActionsFollow last place.left → (q : Option Entry) × AreMarked text q end.left × ActionsFollow q end.left
    follow_along stop last marks h = (last, marks, h)
    follow_along (pass env nest joins item rest left no_call is_true small placed walk) last marks h =
        follow_along walk (Some (record { env = env; nest = nest; joins = joins; item = item })) (subst (AreMarked text last) left marks).1 (subst (ActionsFollow last) left h).1
    follow_along {place = place} (replace e rest a from to number clause left item macro named values times small walk) last marks h =
        let free = marked_behind_call text e rest a from to item macro (subst (AreMarked text last) left marks).1 in
        follow_along walk last
        (marked_joined text last (entries text place.next (suc e.nest) None clause.items) rest (marked_none text place.next (suc e.nest) clause.items last) free)
        (follow_joined last (entries text place.next (suc e.nest) None clause.items) rest (follow_none place.next (suc e.nest) clause.items last (body_unmixed a.name number clause named))
        (follow_free rest e (free None) (subst (ActionsFollow last) left h).1))
