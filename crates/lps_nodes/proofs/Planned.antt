-- In an accepted text the variables of an action that is to be done are known where it is next: along a walk all that has to be known at an
-- entry left is known, once the entries before it are.
use Rattle.std.proofs.Common.{ℕ, suc, Bool, true, false, ◌≡◌, List, [], ◌∷◌, ◌++◌, ◌∙◌, map, refl, sym, ap, subst, inl, inr, arith}
use Rattle.std.specs.Prelude.{◌||◌, ◌==◌, Contains, None, Option, Some}
use Rattle.std.specs.List.{AllByRecursion, flat_map}
use Rattle.std.proofs.lemmas.Bool.Decides.{nat_tests}
use Rattle.lps_terms.specs.declared.atom.Atom.{Atom}
use Rattle.lps_terms.specs.declared.body.Body.{Body}
use Rattle.lps_terms.specs.declared.body.Body.TheVariants as b
use Rattle.lps_terms.specs.declared.decl.Decl.{Decl}
use Rattle.lps_terms.specs.declared.item.Item.{Item}
use Rattle.lps_terms.specs.declared.item.Item.TheVariants as i
use Rattle.lps_terms.specs.declared.kind.Kind.{Kind}
use Rattle.lps_terms.specs.declared.kind.Kind.TheVariants as k
use Rattle.lps_terms.specs.declared.mode.Mode.{Mode}
use Rattle.lps_terms.specs.declared.mode.Mode.TheVariants as m
use Rattle.lps_terms.specs.declared.statement.Statement.{Statement}
use Rattle.lps_terms.specs.declared.term.Term.{Term}
use Rattle.lps_terms.specs.declared.text.Text.{Text}
use Rattle.lps_terms.specs.declared.time_var.TimeVar.{TimeVar}
use Rattle.lps_terms.specs.Names.{name_eq}
use Rattle.lps_terms.specs.Put.{put, put_atom}
use Rattle.lps_model.specs.declared.trace.Trace.{Trace}
use Rattle.lps_model.specs.Acceptance.{IsAccepted}
use Rattle.lps_model.specs.Declarations.{decl_among, kind_in}
use Rattle.lps_model.specs.Known.{Scope, alternatives_unknown, argument_needs, body_unknown, declared_needs, head_known, is_known, item_unknown, items_unknown, kind_needs, known_after, learnt, marked_vars, scope_at, sequence_unknown, steps_after, unknown_among, with_var}
use Rattle.lps_model.specs.Order.{is_action, occurs}
use Rattle.lps_model.specs.Program.{declarations}
use Rattle.lps_model.specs.Rules.{MacroClause, Rule, clauses_of, is_macro, kind_of, macro_clause_in, macro_clauses, numbered, rule_in, rules}
use Rattle.lps_model.specs.VariableLists.{args_vars, atom_vars, item_vars, term_vars}
use Rattle.lps_meaning.specs.declared.when.When.TheVariants.{Known}
use Rattle.lps_meaning.specs.Goals.{distinct, shared_values}
use Rattle.lps_meaning.specs.Items.{put_item}
use Rattle.lps_meaning.specs.Sequences.{Entry, HasSameValues, Place, Times, Values, Walk, entries, pass, replace, stop}
use Rattle.lps_meaning.proofs.Lists.{number_contained, of_element, of_filter, of_flat}
use Rattle.lps_meaning.proofs.Occurrences.{all_behind, all_front, all_joined, all_to, same_atom, same_put, same_vars}
use Rattle.lps_meaning.proofs.Stepped.{among_known, each_statement, no_name, with_known}
use Rattle.lps_nodes.proofs.Carried.{vars_told}
use Rattle.lps_nodes.proofs.ConditionLaws.{false_true}
use Rattle.lps_nodes.proofs.Moves.{links_of, past_of}
use Rattle.lps_nodes.proofs.NodeLaws.{all_two, left_from, left_is}
use Rattle.lps_nodes.proofs.TimesLeft.{occurs_distinct, occurs_filter, or_right, same_number}

-- ---- what has to be known

known_among : (names : List (List ℕ)) (known vs : List ℕ) → unknown_among names known vs ≡ None → AllByRecursion (λ v. is_known known v ≡ true) vs
known_among names known [] e = tt
known_among names known (v ∷ vs) e = let parts = among_known names known v vs e in (parts.0, known_among names known vs parts.1)

learnt_all : (P : ℕ → Type 0) (vars known : List ℕ) → ((v : ℕ) → is_known known v ≡ true → P v) → AllByRecursion P vars → (v : ℕ) → is_known (learnt known vars) v ≡ true → P v
learnt_all P [] known had new v e = had v e
learnt_all P (x ∷ vars) known had new v e =
    learnt_all P vars (with_var known x) (λ z h. elim (with_known known x z h) [ inl before ↦ had z before | inr here ↦ subst P here new.0 ]) new.1 v e

after_all : (P : ℕ → Type 0) (items : List Item) (known : List ℕ) → ((v : ℕ) → is_known known v ≡ true → P v) → AllByRecursion P (flat_map item_vars items) → (v : ℕ) →
    is_known (known_after known items) v ≡ true → P v
after_all P [] known had new v e = had v e
after_all P (item ∷ items) known had new v e =
    after_all P items (learnt known (item_vars item)) (learnt_all P (item_vars item) known had (all_front P (item_vars item) (flat_map item_vars items) new))
    (all_behind P (item_vars item) (flat_map item_vars items) new) v e

module _ (Q : ℕ → Type 0) where
  argument_q : (mode : Mode) (x : Term) → AllByRecursion Q (term_vars x) → AllByRecursion Q (argument_needs mode x)
  argument_q m.Plus x h = h
  argument_q m.Minus x h = tt
  argument_q m.Star x h = h

  marked_q : (modes : List Mode) (args : List Term) → AllByRecursion Q (args_vars args) → AllByRecursion Q (marked_vars modes args)
  marked_q [] args h = tt
  marked_q (mode ∷ modes) [] h = tt
  marked_q (mode ∷ modes) (x ∷ args) h =
      all_joined Q (argument_needs mode x) (marked_vars modes args) (argument_q mode x (all_front Q (term_vars x) (args_vars args) h)) (marked_q modes args (all_behind Q (term_vars x) (args_vars args) h))

  kind_q : (planned : Bool) (kind : Kind) (modes : List Mode) (args : List Term) → AllByRecursion Q (args_vars args) → AllByRecursion Q (kind_needs planned kind modes args)
  kind_q planned k.Fluent modes args h = tt
  kind_q planned k.Event modes args h = tt
  kind_q true k.Action modes args h = h
  kind_q false k.Action modes args h = tt
  kind_q planned k.Timeless modes args h = marked_q modes args h
  kind_q planned k.Derived modes args h = marked_q modes args h
  kind_q planned k.Macro modes args h = marked_q modes args h

  -- what has to be known at an atom are variables of it
  declared_q : (planned : Bool) (decl : Option Decl) (args : List Term) → AllByRecursion Q (args_vars args) → AllByRecursion Q (declared_needs planned decl args)
  declared_q planned None args h = tt
  declared_q planned (Some decl) args h = kind_q planned decl.kind decl.modes args h

  action_kind : (kind : Kind) (modes : List Mode) (args : List Term) → is_action (Some kind) ≡ true → AllByRecursion Q (kind_needs true kind modes args) → AllByRecursion Q (args_vars args)
  action_kind k.Action modes args e h = h
  action_kind k.Fluent modes args e h = absurd (false_true e)
  action_kind k.Event modes args e h = absurd (false_true e)
  action_kind k.Timeless modes args e h = absurd (false_true e)
  action_kind k.Derived modes args e h = absurd (false_true e)
  action_kind k.Macro modes args e h = absurd (false_true e)

  -- at an action that is to be done all of them have to be
  pub action_needs : (decl : Option Decl) (args : List Term) → is_action (kind_in decl) ≡ true → AllByRecursion Q (declared_needs true decl args) → AllByRecursion Q (args_vars args)
  action_needs None args e h = absurd (false_true e)
  action_needs (Some decl) args e h = action_kind decl.kind decl.modes args e h

-- ---- a call and the head of the body in its place

abbrev head_or : Term → List Term → Term
head_or d [] = d
head_or d (x ∷ xs) = x

abbrev tail_of : List Term → List Term
tail_of [] = []
tail_of (x ∷ xs) = xs

module _ (s1 u1 s2 u2 : ℕ → Term) where
  abbrev Told1 : ℕ → Type 0
  Told1 v = s1 v ≡ u1 v

  abbrev Told2 : ℕ → Type 0
  Told2 v = s2 v ≡ u2 v

  term_told : (x y : Term) → put s1 x ≡ put s2 y → put u1 x ≡ put u2 y → AllByRecursion Told1 (term_vars x) → AllByRecursion Told2 (term_vars y)
  term_told x y one two h = same_vars s2 u2 y (sym one ∙ same_put s1 u1 x h ∙ two)

  argument_told : (mode : Mode) (x y : Term) → put s1 x ≡ put s2 y → put u1 x ≡ put u2 y → AllByRecursion Told1 (argument_needs mode x) → AllByRecursion Told2 (argument_needs mode y)
  argument_told m.Plus x y one two h = term_told x y one two h
  argument_told m.Minus x y one two h = tt
  argument_told m.Star x y one two h = term_told x y one two h

  marked_told : (modes : List Mode) (xs ys : List Term) → map (put s1) xs ≡ map (put s2) ys → map (put u1) xs ≡ map (put u2) ys → AllByRecursion Told1 (marked_vars modes xs) →
      AllByRecursion Told2 (marked_vars modes ys)
  marked_told [] xs ys one two h = tt
  marked_told (mode ∷ modes) xs [] one two h = tt
  marked_told (mode ∷ modes) [] (y ∷ ys) one two h = absurd (nothing one)
    where
      nothing : [] ≡ put s2 y ∷ map (put s2) ys → ⊥
      nothing e = cc
  marked_told (mode ∷ modes) (x ∷ xs) (y ∷ ys) one two h =
      all_joined Told2 (argument_needs mode y) (marked_vars modes ys)
      (argument_told mode x y (ap (head_or (put s1 x)) one) (ap (head_or (put u1 x)) two) (all_front Told1 (argument_needs mode x) (marked_vars modes xs) h))
      (marked_told modes xs ys (ap tail_of one) (ap tail_of two) (all_behind Told1 (argument_needs mode x) (marked_vars modes xs) h))

  kind_told : (kind : Kind) (modes : List Mode) (xs ys : List Term) → is_macro (Some kind) ≡ true → map (put s1) xs ≡ map (put s2) ys → map (put u1) xs ≡ map (put u2) ys →
      AllByRecursion Told1 (kind_needs true kind modes xs) → AllByRecursion Told2 (kind_needs false kind modes ys)
  kind_told k.Macro modes xs ys e one two h = marked_told modes xs ys one two h
  kind_told k.Action modes xs ys e one two h = absurd (false_true e)
  kind_told k.Fluent modes xs ys e one two h = absurd (false_true e)
  kind_told k.Event modes xs ys e one two h = absurd (false_true e)
  kind_told k.Timeless modes xs ys e one two h = absurd (false_true e)
  kind_told k.Derived modes xs ys e one two h = absurd (false_true e)

  -- what is known of a call's marked arguments is known of the head's
  declared_told : (decl : Option Decl) (xs ys : List Term) → is_macro (kind_in decl) ≡ true → map (put s1) xs ≡ map (put s2) ys → map (put u1) xs ≡ map (put u2) ys →
      AllByRecursion Told1 (declared_needs true decl xs) → AllByRecursion Told2 (declared_needs false decl ys)
  declared_told None xs ys e one two h = absurd (false_true e)
  declared_told (Some decl) xs ys e one two h = kind_told decl.kind decl.modes xs ys e one two h

-- ---- entries left

-- items that are to be done, where these variables are known before and these have to be behind
record ArePlanned (text : Text) (wanted known : List ℕ) (items : List Item) : Type 0 where
  pub scope : Scope
  pub decls : scope.decls ≡ declarations text
  pub planned : scope.is_planned ≡ true
  pub unknown : items_unknown scope wanted known items ≡ None

module _ (text : Text) (s u : Values) where
  abbrev pub Told : ℕ → ℕ → Type 0
  Told env v = s env v ≡ u env v

  abbrev pub ToldEntry : Entry → Type 0
  ToldEntry e = put_item (s e.env) e.item ≡ put_item (u e.env) e.item

  vars_of_entry : (env : ℕ) (item : Item) → put_item (s env) item ≡ put_item (u env) item → AllByRecursion (Told env) (item_vars item)
  vars_of_entry env item h =
      vars_told (s env) (u env) (λ v. Known 0) (λ v. Known 0) 0 item
      (left_is (s env) (λ v. Known 0) 0 item ∙ ap (left_from (λ v. Known 0) 0) h ∙ sym (left_is (u env) (λ v. Known 0) 0 item))

  abbrev pub needs : Item → List ℕ
  needs (i.Span a from to) = declared_needs true (decl_among (declarations text) a.name) a.args
  needs _ = []

  -- what has to be known at each entry is known, once those before it are told
  abbrev pub NeedsMet : List Entry → Type 0
  NeedsMet [] = Unit {0}
  NeedsMet (e ∷ es) = AllByRecursion (Told e.env) (needs e.item) × (ToldEntry e → NeedsMet es)

  needs_joined : (xs ys : List Entry) → NeedsMet xs → (AllByRecursion ToldEntry xs → NeedsMet ys) → NeedsMet (xs ++ ys)
  needs_joined [] ys h more = more tt
  needs_joined (x ∷ xs) ys h more = (h.0, λ told. needs_joined xs ys (h.1 told) (λ rest. more (told, rest)))

  module _ (Q : ℕ → Type 0) (env nest : ℕ) where
    abbrev KnownTold : List ℕ → Type 0
    KnownTold known = (v : ℕ) → is_known known v ≡ true → Q v → Told env v

    combine : (known : List ℕ) → KnownTold known → (vs : List ℕ) → AllByRecursion (λ v. is_known known v ≡ true) vs → AllByRecursion Q vs → AllByRecursion (Told env) vs
    combine known told vs one two = all_two (λ v. is_known known v ≡ true) Q (Told env) told vs one two

    module _ (scope : Scope) (decls : scope.decls ≡ declarations text) (planned : scope.is_planned ≡ true) where
      item_met : (known : List ℕ) (item : Item) → KnownTold known → AllByRecursion Q (item_vars item) → item_unknown scope known item ≡ None → AllByRecursion (Told env) (needs item)
      item_met known (i.Span a from to) told q e =
          let same : declared_needs scope.is_planned (decl_among scope.decls a.name) a.args ≡ declared_needs true (decl_among (declarations text) a.name) a.args =
          λ j. declared_needs (planned j) (decl_among (decls j) a.name) a.args in
          combine known told (declared_needs true (decl_among (declarations text) a.name) a.args)
          (known_among scope.names known (declared_needs true (decl_among (declarations text) a.name) a.args) (ap (unknown_among scope.names known) (sym same) ∙ e))
          (declared_q Q true (decl_among (declarations text) a.name) a.args q)
      item_met known (i.At lit time) told q e = tt
      item_met known (i.Bare lit) told q e = tt
      item_met known (i.Built built) told q e = tt
      item_met known (i.Con con) told q e = tt

      more_told : (known : List ℕ) (item : Item) → KnownTold known → put_item (s env) item ≡ put_item (u env) item → KnownTold (learnt known (item_vars item))
      more_told known item told here =
          learnt_all (λ v. Q v → Told env v) (item_vars item) known told (all_to (Told env) (λ v. Q v → Told env v) (λ v h q. h) (item_vars item) (vars_of_entry env item here))

      items_met : (wanted known : List ℕ) (before : Option Item) (items : List Item) → KnownTold known → AllByRecursion (λ item. AllByRecursion Q (item_vars item)) items →
          items_unknown scope wanted known items ≡ None → NeedsMet (entries text env nest before items)
      items_met wanted known before [] told q e = tt
      items_met wanted known before (item ∷ items) told q e =
          let parts = no_name (item_unknown scope known item) (items_unknown scope wanted (learnt known (item_vars item)) items) e in
          (item_met known item told q.0 parts.0, λ here. items_met wanted (learnt known (item_vars item)) (Some item) items (more_told known item told here) q.1 parts.1)

      wanted_met : (wanted known : List ℕ) (before : Option Item) (items : List Item) → KnownTold known → items_unknown scope wanted known items ≡ None →
          AllByRecursion ToldEntry (entries text env nest before items) → AllByRecursion Q wanted → AllByRecursion (Told env) wanted
      wanted_met wanted known before [] told e here q = combine known told wanted (known_among scope.names known wanted e) q
      wanted_met wanted known before (item ∷ items) told e here q =
          let parts = no_name (item_unknown scope known item) (items_unknown scope wanted (learnt known (item_vars item)) items) e in
          wanted_met wanted (learnt known (item_vars item)) (Some item) items (more_told known item told here.0) parts.1 here.1 q

-- ---- what accepted texts say

abbrev IsPlannedClause : Text → MacroClause → Type 0
IsPlannedClause text clause = ArePlanned text (atom_vars clause.head) (head_known (declarations text) clause.head) clause.items

abbrev IsPlannedRule : Text → Rule → Type 0
IsPlannedRule text rule = AllByRecursion (ArePlanned text [] (known_after [] rule.antecedent)) rule.alternatives

module _ (text : Text) (accepted : IsAccepted text) where
  alternatives_planned : (statement : Statement) (steps known : List ℕ) (alternatives : List (List Item)) → alternatives_unknown (declarations text) statement steps known alternatives ≡ None →
      AllByRecursion (ArePlanned text [] known) alternatives
  alternatives_planned statement steps known [] e = tt
  alternatives_planned statement steps known (items ∷ alternatives) e =
      let scope = scope_at (declarations text) statement (steps_after steps items) true in
      let parts = no_name (items_unknown scope [] known items) (alternatives_unknown (declarations text) statement steps known alternatives) e in
      (record { scope = scope; decls = refl; planned = refl; unknown = parts.0 }, alternatives_planned statement steps known alternatives parts.1)

  rule_planned : (statement : Statement) (body : Body) → body_unknown (declarations text) statement body ≡ None → AllByRecursion (IsPlannedRule text) (rule_in body)
  rule_planned statement (b.Rule antecedent alternatives) e =
      let parts = no_name (sequence_unknown (declarations text) statement false [] [] antecedent) (alternatives_unknown (declarations text) statement (steps_after [] antecedent) (known_after [] antecedent) alternatives) e in
      (alternatives_planned statement (steps_after [] antecedent) (known_after [] antecedent) alternatives parts.1, tt)
  rule_planned statement (b.Declare declared) e = tt
  rule_planned statement (b.Initially atoms) e = tt
  rule_planned statement (b.Denial items) e = tt
  rule_planned statement (b.Law initiates event fluent conds) e = tt
  rule_planned statement (b.Clause head conds) e = tt
  rule_planned statement (b.MacroClause head begin end items) e = tt

  clause_planned : (statement : Statement) (body : Body) → body_unknown (declarations text) statement body ≡ None → AllByRecursion (IsPlannedClause text) (macro_clause_in body)
  clause_planned statement (b.MacroClause head begin end items) e =
      (record { scope = scope_at (declarations text) statement (steps_after [] items) true; decls = refl; planned = refl; unknown = e }, tt)
  clause_planned statement (b.Rule antecedent alternatives) e = tt
  clause_planned statement (b.Declare declared) e = tt
  clause_planned statement (b.Initially atoms) e = tt
  clause_planned statement (b.Denial items) e = tt
  clause_planned statement (b.Law initiates event fluent conds) e = tt
  clause_planned statement (b.Clause head conds) e = tt

  rules_planned : AllByRecursion (IsPlannedRule text) (rules text)
  rules_planned = of_flat (λ s. body_unknown (declarations text) s s.body ≡ None) (IsPlannedRule text) (λ s. rule_in s.body) (λ s. rule_planned s s.body) text.statements (each_statement text accepted)

  clauses_planned : AllByRecursion (IsPlannedClause text) (macro_clauses text)
  clauses_planned = of_flat (λ s. body_unknown (declarations text) s s.body ≡ None) (IsPlannedClause text) (λ s. macro_clause_in s.body) (λ s. clause_planned s s.body) text.statements (each_statement text accepted)

  clause_of : (name : List ℕ) (number : ℕ) (clause : MacroClause) → numbered (clauses_of text name) number ≡ Some clause → IsPlannedClause text clause
  clause_of name number clause e =
      of_element (IsPlannedClause text) (clauses_of text name) clause (of_filter (IsPlannedClause text) (λ clause. name_eq clause.head.name name) (macro_clauses text) clauses_planned)
      (number_contained (clauses_of text name) number clause e)

  -- ---- along a walk

  module _ (level : List ℕ → ℕ) (trace : Trace) (given : List ℕ) (s u : Values) (t : Times) where
    no_q : (vs : List ℕ) → AllByRecursion (λ v. Unit {0}) vs
    no_q [] = tt
    no_q (v ∷ vs) = (tt, no_q vs)

    no_qs : (items : List Item) → AllByRecursion (λ item. AllByRecursion (λ v. Unit {0}) (item_vars item)) items
    no_qs [] = tt
    no_qs (item ∷ items) = (no_q (item_vars item), no_qs items)

    -- behind a call that is replaced by a body
    replaced_met : (e : Entry) (rest : List Entry) (a : Atom) (from to : TimeVar) (inner : ℕ) (clause : MacroClause) → e.item ≡ i.Span a from to → is_macro (kind_of text a.name) ≡ true →
        IsPlannedClause text clause → put_atom (s e.env) a ≡ put_atom (s inner) clause.head → put_atom (u e.env) a ≡ put_atom (u inner) clause.head → NeedsMet text s u (e ∷ rest) →
        NeedsMet text s u (entries text inner (suc e.nest) None clause.items ++ rest)
    replaced_met e rest a from to inner clause item macro planned one two h =
        let call_needs : AllByRecursion (Told text s u e.env) (declared_needs true (decl_among (declarations text) a.name) a.args) =
        subst (λ (it : Item). AllByRecursion (Told text s u e.env) (needs text s u it)) item h.0 in
        let here : AllByRecursion (Told text s u inner) (declared_needs false (decl_among (declarations text) a.name) clause.head.args) =
        declared_told (s e.env) (u e.env) (s inner) (u inner) (decl_among (declarations text) a.name) a.args clause.head.args macro (ap (λ (z : Atom). z.args) one) (ap (λ (z : Atom). z.args) two) call_needs in
        let head_told : AllByRecursion (Told text s u inner) (declared_needs false (decl_among (declarations text) clause.head.name) clause.head.args) =
        subst (λ name. AllByRecursion (Told text s u inner) (declared_needs false (decl_among (declarations text) name) clause.head.args)) (ap (λ (z : Atom). z.name) one) here in
        let known : KnownTold text s u (λ v. Unit {0}) inner (suc e.nest) (head_known (declarations text) clause.head) =
        λ v is q. learnt_all (Told text s u inner) (declared_needs false (decl_among (declarations text) clause.head.name) clause.head.args) [] (λ z none. absurd (false_true none)) head_told v is in
        needs_joined text s u (entries text inner (suc e.nest) None clause.items) rest
        (items_met text s u (λ v. Unit {0}) inner (suc e.nest) planned.scope planned.decls planned.planned (atom_vars clause.head) (head_known (declarations text) clause.head) None clause.items known (no_qs clause.items) planned.unknown)
        (λ told.
        let head = wanted_met text s u (λ v. Unit {0}) inner (suc e.nest) planned.scope planned.decls planned.planned (atom_vars clause.head) (head_known (declarations text) clause.head) None clause.items known
        planned.unknown told (no_q (atom_vars clause.head)) in
        let same = one ∙ same_atom (s inner) (u inner) clause.head head ∙ sym two in
        h.1 (subst (λ (it : Item). put_item (s e.env) it ≡ put_item (u e.env) it) (sym item) (λ j. i.Span (same j) from to)))

    pub needs_along : {now : ℕ} {end place : Place} → Walk text level trace given s t now end place → AllByRecursion (ToldEntry text s u) end.past → AllByRecursion (HasSameValues u) end.links →
        NeedsMet text s u place.left → NeedsMet text s u end.left
    needs_along stop past links h = h
    needs_along (pass env nest joins item rest left no_call is_true small placed walk) past links h =
        needs_along walk past links ((subst (NeedsMet text s u) left h).1 (past_of s s t t text level trace given (ToldEntry text s u) walk past).0)
    needs_along {place = place} (replace e rest a from to number clause left item macro named values times small walk) past links h =
        needs_along walk past links
        (replaced_met e rest a from to place.next clause item macro (clause_of a.name number clause named) values (links_of s s t t text level trace given (HasSameValues u) walk links).0 (subst (NeedsMet text s u) left h))

  -- ---- where an alternative starts

  module _ (rule : Rule) (of_text : Contains (rules text) rule) (items : List Item) (of_rule : Contains rule.alternatives items) (s u : Values)
      (given : map (s 0) (shared_values rule) ≡ map (u 0) (shared_values rule)) where
    abbrev Occurs : List ℕ → ℕ → Type 0
    Occurs vs v = occurs v vs ≡ true

    own_occur : (vs : List ℕ) → AllByRecursion (Occurs vs) vs
    own_occur [] = tt
    own_occur (v ∷ vs) = (ap (λ b. b || occurs v vs) (same_self v), all_to (Occurs vs) (Occurs (v ∷ vs)) (λ x h. or_right (v == x) (occurs x vs) h) vs (own_occur vs))
      where
        same_self : (n : ℕ) → (n == n) ≡ true
        same_self n = grind (arith, nat_tests)

    unflat : {X : Type 0} (P : ℕ → Type 0) (f : X → List ℕ) (xs : List X) → AllByRecursion P (flat_map f xs) → AllByRecursion (λ x. AllByRecursion P (f x)) xs
    unflat P f [] h = tt
    unflat P f (x ∷ xs) h = (all_front P (f x) (flat_map f xs) h, unflat P f xs (all_behind P (f x) (flat_map f xs) h))

    abbrev Q : ℕ → Type 0
    Q = Occurs (flat_map (flat_map item_vars) rule.alternatives)

    given_told : (vs : List ℕ) → map (s 0) vs ≡ map (u 0) vs → (v : ℕ) → occurs v vs ≡ true → Told text s u 0 v
    given_told [] e v h = absurd (false_true h)
    given_told (x ∷ vs) e v h = by (given_told vs (ap tail_of e) v) (x == v) refl h
      where
        by : (occurs v vs ≡ true → Told text s u 0 v) → (b : Bool) → (x == v) ≡ b → (b || occurs v vs) ≡ true → Told text s u 0 v
        by later true here h = subst (Told text s u 0) (same_number x v here) (ap (head_or (s 0 x)) e)
        by later false here h = later h

    known_told : (v : ℕ) → is_known (known_after [] rule.antecedent) v ≡ true → Q v → Told text s u 0 v
    known_told v is q =
        let before : occurs v (flat_map item_vars rule.antecedent) ≡ true =
        after_all (Occurs (flat_map item_vars rule.antecedent)) rule.antecedent [] (λ z none. absurd (false_true none)) (own_occur (flat_map item_vars rule.antecedent)) v is in
        given_told (shared_values rule) given v
        (occurs_filter v (λ z. occurs z (flat_map (flat_map item_vars) rule.alternatives)) (distinct [] (flat_map item_vars rule.antecedent)) q (occurs_distinct v (flat_map item_vars rule.antecedent) [] before refl))

    pub start_met : NeedsMet text s u (entries text 0 0 None items)
    start_met =
        let planned : ArePlanned text [] (known_after [] rule.antecedent) items =
        of_element (ArePlanned text [] (known_after [] rule.antecedent)) rule.alternatives items (of_element (IsPlannedRule text) (rules text) rule rules_planned of_text) of_rule in
        let q : AllByRecursion Q (flat_map item_vars items) =
        of_element (λ items. AllByRecursion Q (flat_map item_vars items)) rule.alternatives items (unflat Q (flat_map item_vars) rule.alternatives (own_occur (flat_map (flat_map item_vars) rule.alternatives))) of_rule in
        items_met text s u Q 0 0 planned.scope planned.decls planned.planned [] (known_after [] rule.antecedent) None items known_told (unflat Q item_vars items q) planned.unknown
