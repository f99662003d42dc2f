-- What acceptance and good form say of the sequences of a rule: kinds of names, what is known from the left, and times.
use Rattle.std.proofs.Common.{ℕ, ℤ, ◌≡◌, ◌⊎◌, ◌<◌, ◌≤◌, ◌≤ℤ◌, Bool, true, false, nat_lt, nat_le, List, [], ◌∷◌, ◌++◌, length, refl, sym, ap, subst, ◌∙◌, arith, inl, inr}
use Rattle.std.specs.Prelude.{◌&&◌, if◌then◌else◌, Contains, None, Option, Some, negsuc, pos}
use Rattle.std.specs.List.{AllByRecursion, flat_map, list_all}
use Rattle.std.proofs.lemmas.Bool.Decides.{nat_tests}
use Rattle.std.proofs.lemmas.Grind.{flat_map-append}
use Rattle.std.proofs.lemmas.Int.{ints}
use Rattle.std.proofs.lemmas.List.Elements.{Contains-append_left, Contains-append_right}
use Rattle.lps_terms.specs.declared.body.Body.{Body}
use Rattle.lps_terms.specs.declared.body.Body.TheVariants as b
use Rattle.lps_terms.specs.declared.decl.Decl.{Decl}
use Rattle.lps_terms.specs.declared.item.Item.{Item}
use Rattle.lps_terms.specs.declared.item.Item.TheVariants as i
use Rattle.lps_terms.specs.declared.kind.Kind.{Kind}
use Rattle.lps_terms.specs.declared.kind.Kind.TheVariants as k
use Rattle.lps_terms.specs.declared.lit.Lit.{Lit}
use Rattle.lps_terms.specs.declared.mode.Mode.{Mode}
use Rattle.lps_terms.specs.declared.statement.Statement.{Statement}
use Rattle.lps_terms.specs.declared.term.Term.{Term}
use Rattle.lps_terms.specs.declared.text.Text.{Text}
use Rattle.lps_model.specs.declared.occurrence.Occurrence.{Occurrence}
use Rattle.lps_model.specs.declared.place.Place.{Place}
use Rattle.lps_model.specs.declared.place.Place.TheVariants.{Done, Seen, Untimed}
use Rattle.lps_model.specs.Acceptance.{IsAccepted}
use Rattle.lps_model.specs.Declarations.{decl_among}
use Rattle.lps_model.specs.Formed.{is_formed, is_formed_body, is_formed_item, is_formed_statement, is_shift}
use Rattle.lps_model.specs.KindRefusals.{may_stand}
use Rattle.lps_model.specs.Known.{Scope, with_var, alternatives_unknown, atom_needs, body_unknown, declared_needs, item_unknown, items_unknown, kind_needs, known_after, learnt, lit_needs, scope_at, sequence_unknown, steps_after, unknown_among}
use Rattle.lps_model.specs.Occurrences.{in_body, in_item, in_items}
use Rattle.lps_model.specs.Order.{happens, occurs}
use Rattle.lps_model.specs.Program.{declarations}
use Rattle.lps_model.specs.Rules.{Rule, is_macro, rule_in, rules}
use Rattle.lps_model.specs.VariableLists.{atom_vars, item_vars}
use Rattle.lps_model.proofs.Elements.{first_is_contained, first_or_later, nothing_contained}
use Rattle.lps_model.proofs.Stated.{HasKindAt, IsStated, flat_contains, flat_within, kind_at, neither, only_one}
use Rattle.lps_facts.proofs.Sets.{true_not_false}
use Rattle.lps_meaning.specs.declared.node.Left.{Left}
use Rattle.lps_meaning.specs.declared.node.LeftItem.TheVariants as l
use Rattle.lps_meaning.specs.declared.when.When.{When}
use Rattle.lps_meaning.specs.Sequences.{is_call}
use Rattle.lps_meaning.proofs.Occurrences.{all_joined}
use Rattle.lps_solve.proofs.Moding.{body_is_known}
use Rattle.lps_nodes.specs.Shapes.{left_of, left_vars}
use Rattle.lps_residual.specs.Moments.{AreModedLeft, HappensOrHolds}
use Rattle.lps_residual.proofs.Knowing.{AreIn, IsIn, all_known, from_with, none_unknown}
use Rattle.lps_seq.specs.Starts.{left_whole_of}
use Rattle.lps_seq.proofs.Distinct.{all_occur, occurs_behind, occurs_front}
use Rattle.lps_seq.proofs.Whole.{whole_at, whole_bare, whole_built, whole_span}

-- ---- the statement of a rule

rule_of_body : (body : Body) (rule : Rule) → Contains (rule_in body) rule → body ≡ b.Rule rule.antecedent rule.alternatives
rule_of_body (b.Rule antecedent alternatives) rule within = let is = only_one (record { antecedent = antecedent; alternatives = alternatives }) rule within in λ j. b.Rule (is j).antecedent (is j).alternatives
rule_of_body (b.Declare declared) rule within = absurd (nothing_contained rule within)
rule_of_body (b.Initially atoms) rule within = absurd (nothing_contained rule within)
rule_of_body (b.Denial items) rule within = absurd (nothing_contained rule within)
rule_of_body (b.Law initiates event fluent conds) rule within = absurd (nothing_contained rule within)
rule_of_body (b.Clause head conds) rule within = absurd (nothing_contained rule within)
rule_of_body (b.MacroClause head begin end items) rule within = absurd (nothing_contained rule within)

pub rule_stated : (text : Text) (rule : Rule) → Contains (rules text) rule → IsStated text (b.Rule rule.antecedent rule.alternatives)
rule_stated text rule at =
    let found = flat_within (λ (s : Statement). rule_in s.body) text.statements rule at in
    record { statement = found.one; among = found.among; says = rule_of_body found.one.body rule found.within }

-- ---- kinds

pub untimed : (kind : Kind) → may_stand Untimed kind ≡ true → kind ≡ k.Timeless
untimed k.Timeless h = refl
untimed k.Fluent h = cc
untimed k.Derived h = cc
untimed k.Event h = cc
untimed k.Action h = cc
untimed k.Macro h = cc

seen_happens : (kind : Kind) → may_stand Seen kind ≡ true → happens (Some kind) ≡ true
seen_happens k.Event h = refl
seen_happens k.Action h = refl
seen_happens k.Fluent h = cc
seen_happens k.Derived h = cc
seen_happens k.Timeless h = cc
seen_happens k.Macro h = cc

done_happens : (kind : Kind) → may_stand Done kind ≡ true → is_macro (Some kind) ≡ false → happens (Some kind) ≡ true
done_happens k.Event h m = refl
done_happens k.Action h m = refl
done_happens k.Fluent h m = cc
done_happens k.Derived h m = cc
done_happens k.Timeless h m = cc
done_happens k.Macro h m = cc

-- what may stand in a sequence of a rule happens where it is no call
abbrev IsSequencePlace : Place → Type 0
IsSequencePlace place = (kind : Kind) → may_stand place kind ≡ true → is_macro (Some kind) ≡ false → happens (Some kind) ≡ true

pub seen_place : IsSequencePlace Seen
seen_place kind h m = seen_happens kind h

pub done_place : IsSequencePlace Done
done_place kind h m = done_happens kind h m

module _ (text : Text) (place : Place) (is_place : IsSequencePlace place) (line : ℕ) (u : ℕ → Term) (w : ℕ → When) where
  -- the item has a kind for its place
  item_happens : (item : Item) → ((o : Occurrence) → Contains (in_item line place item) o → HasKindAt text o.place o.name) → is_call text item ≡ false → AllByRecursion (λ left. HappensOrHolds text left.item) (left_of u w 0 item)
  item_happens (i.At lit time) kinds no_call = (tt, tt)
  item_happens (i.Bare lit) kinds no_call = let found = kinds _ (first_is_contained _ []) in (found.is ∙ ap (λ kind. Some kind) (untimed found.kind found.may), tt)
  item_happens (i.Built built) kinds no_call = (tt, tt)
  item_happens (i.Span a from to) kinds no_call =
      let found = kinds _ (first_is_contained _ []) in
      (ap happens found.is ∙ is_place found.kind found.may (sym (ap is_macro found.is) ∙ no_call), tt)
  item_happens (i.Con con) kinds no_call = tt

  pub items_happen : (items : List Item) → ((o : Occurrence) → Contains (in_items line place items) o → HasKindAt text o.place o.name) → AllByRecursion (λ item. is_call text item ≡ false) items →
      AllByRecursion (λ left. HappensOrHolds text left.item) (flat_map (left_of u w 0) items)
  items_happen [] kinds no_calls = tt
  items_happen (item ∷ items) kinds no_calls =
      all_joined (λ left. HappensOrHolds text left.item) (left_of u w 0 item) (flat_map (left_of u w 0) items)
      (item_happens item (λ o there. kinds o (Contains-append_left (in_item line place item) (in_items line place items) o there)) no_calls.0)
      (items_happen items (λ o there. kinds o (Contains-append_right (in_item line place item) (in_items line place items) o there)) no_calls.1)

-- ---- what is known

kind_less : (known : List ℕ) (planned : Bool) (kind : Kind) (modes : List Mode) (args : List Term) → AreIn known (kind_needs planned kind modes args) → AreIn known (kind_needs false kind modes args)
kind_less known planned k.Fluent modes args h = tt
kind_less known planned k.Event modes args h = tt
kind_less known planned k.Action modes args h = tt
kind_less known planned k.Timeless modes args h = h
kind_less known planned k.Derived modes args h = h
kind_less known planned k.Macro modes args h = h

declared_less : (known : List ℕ) (planned : Bool) (decl : Option Decl) (args : List Term) → AreIn known (declared_needs planned decl args) → AreIn known (declared_needs false decl args)
declared_less known planned None args h = tt
declared_less known planned (Some decl) args h = kind_less known planned decl.kind decl.modes args h

module _ (decls : List Decl) (names times : List (List ℕ)) (steps : List ℕ) (planned : Bool) where
  abbrev planned_scope : Scope
  planned_scope = record { decls = decls; names = names; times = times; steps = steps; is_planned = planned }

  -- in a sequence that has begun nothing is still to be done
  abbrev pub begun_scope : Scope
  begun_scope = record { decls = decls; names = names; times = times; steps = steps; is_planned = false }

  lit_less : (known : List ℕ) (lit : Lit) → unknown_among names known (lit_needs planned_scope lit) ≡ None → unknown_among names known (lit_needs begun_scope lit) ≡ None
  lit_less known lit e = by lit.negated e where
    by : (negated : Bool) → unknown_among names known (if negated then atom_vars lit.atom else atom_needs planned_scope lit.atom) ≡ None →
        unknown_among names known (if negated then atom_vars lit.atom else atom_needs begun_scope lit.atom) ≡ None
    by true h = h
    by false h =
        none_unknown names known (atom_needs begun_scope lit.atom)
        (declared_less known planned (decl_among decls lit.atom.name) lit.atom.args (all_known names known (atom_needs planned_scope lit.atom) h))

  -- items whose variables are known where they have to be are so when they are left
  pub items_moded : (wanted known : List ℕ) (items : List Item) → items_unknown planned_scope wanted known items ≡ None → AreModedLeft begun_scope known (flat_map left_whole_of items)
  items_moded wanted known [] e = tt
  items_moded wanted known (item ∷ items) e =
      let parts = neither (item_unknown planned_scope known item) (items_unknown planned_scope wanted (learnt known (item_vars item)) items) e in
      by item parts.0 (items_moded wanted (learnt known (item_vars item)) items parts.1)
    where
      by : (it : Item) → item_unknown planned_scope known it ≡ None → AreModedLeft begun_scope (learnt known (item_vars it)) (flat_map left_whole_of items) →
          AreModedLeft begun_scope known (left_whole_of it ++ flat_map left_whole_of items)
      by (i.At lit time) here rest = subst (λ ls. AreModedLeft begun_scope known (ls ++ flat_map left_whole_of items)) (whole_at lit time) (lit_less known lit here, rest)
      by (i.Bare lit) here rest = subst (λ ls. AreModedLeft begun_scope known (ls ++ flat_map left_whole_of items)) (whole_bare lit) (lit_less known lit here, rest)
      by (i.Built built) here rest = subst (λ ls. AreModedLeft begun_scope known (ls ++ flat_map left_whole_of items)) (whole_built built) (here, rest)
      by (i.Span a from to) here rest = subst (λ ls. AreModedLeft begun_scope known (ls ++ flat_map left_whole_of items)) (whole_span a from to) (refl, rest)
      by (i.Con con) here rest = rest

append_none : (xs : List ℕ) → xs ++ [] ≡ xs
append_none [] = refl
append_none (x ∷ xs) = ap (λ ys. x ∷ ys) (append_none xs)

-- items left are known where they have to be, in some sequence of the text that has begun
pub record AreModedIn (text : Text) (known : List ℕ) (rest : List Left) : Type 0 where
  pub scope : Scope
  pub declared : scope.decls ≡ declarations text
  pub seen : scope.is_planned ≡ false
  pub moded : AreModedLeft scope known rest

-- the variables of the items left are those of the items
item_left_vars : (item : Item) → flat_map (λ left. left_vars left.item) (left_whole_of item) ≡ item_vars item
item_left_vars (i.At lit time) = ap (flat_map (λ (left : Left). left_vars left.item)) (sym (whole_at lit time)) ∙ append_none (atom_vars lit.atom)
item_left_vars (i.Bare lit) = ap (flat_map (λ (left : Left). left_vars left.item)) (sym (whole_bare lit)) ∙ append_none (atom_vars lit.atom)
item_left_vars (i.Built built) = ap (flat_map (λ (left : Left). left_vars left.item)) (sym (whole_built built)) ∙ append_none (left_vars (l.Built built))
item_left_vars (i.Span a from to) = ap (flat_map (λ (left : Left). left_vars left.item)) (sym (whole_span a from to)) ∙ append_none (atom_vars a)
item_left_vars (i.Con con) = refl

pub items_left_vars : (items : List Item) → flat_map (λ left. left_vars left.item) (flat_map left_whole_of items) ≡ flat_map item_vars items
items_left_vars [] = refl
items_left_vars (item ∷ items) =
    flat_map-append (λ left. left_vars left.item) (left_whole_of item) (flat_map left_whole_of items) ∙ (λ j. item_left_vars item j ++ items_left_vars items j)

-- what is known after items occurs in them
in_occurs : (known : List ℕ) (vars : List ℕ) (v : ℕ) → IsIn (learnt known vars) v → IsIn known v ⊎ (occurs v vars ≡ true)
in_occurs known [] v h = inl h
in_occurs known (w ∷ vars) v h = elim (in_occurs (with_var known w) vars v h) [
  | inl there ↦ elim (from_with known w v there) [
    | inl before ↦ inl before
    | inr same ↦ inr (subst (λ u. occurs u (w ∷ vars) ≡ true) same (occurs_front w (w ∷ []) vars (here w)))
  ]
  | inr later ↦ inr (occurs_behind v (w ∷ []) vars later)
] where
  here : (x : ℕ) → occurs x (x ∷ []) ≡ true
  here x = (all_occur (x ∷ [])).0

after_occurs : (known : List ℕ) (items : List Item) (v : ℕ) → IsIn (known_after known items) v → IsIn known v ⊎ (occurs v (flat_map item_vars items) ≡ true)
after_occurs known [] v h = inl h
after_occurs known (item ∷ items) v h = elim (after_occurs (learnt known (item_vars item)) items v h) [
  | inl there ↦ elim (in_occurs known (item_vars item) v there) [
    | inl before ↦ inl before
    | inr here ↦ inr (occurs_front v (item_vars item) (flat_map item_vars items) here)
  ]
  | inr later ↦ inr (occurs_behind v (item_vars item) (flat_map item_vars items) later)
]

pub known_occurs : (items : List Item) (v : ℕ) → IsIn (known_after [] items) v → occurs v (flat_map item_vars items) ≡ true
known_occurs items v h = elim (after_occurs [] items v h) [ inl none ↦ absurd (true_not_false (sym none)) | inr there ↦ there ]

-- one of the alternatives
alternative_known : (decls : List Decl) (statement : Statement) (steps known : List ℕ) (alternatives : List (List Item)) → alternatives_unknown decls statement steps known alternatives ≡ None → (items : List Item) →
    Contains alternatives items → items_unknown (scope_at decls statement (steps_after steps items) true) [] known items ≡ None
alternative_known decls statement steps known [] e items there = absurd (nothing_contained items there)
alternative_known decls statement steps known (first ∷ alternatives) e items there =
    let parts = neither (items_unknown (scope_at decls statement (steps_after steps first) true) [] known first) (alternatives_unknown decls statement steps known alternatives) e in
    by parts.0 (alternative_known decls statement steps known alternatives parts.1 items) (first_or_later first alternatives items there)
  where
    by : items_unknown (scope_at decls statement (steps_after steps first) true) [] known first ≡ None →
        (Contains alternatives items → items_unknown (scope_at decls statement (steps_after steps items) true) [] known items ≡ None) → (first ≡ items) ⊎ Contains alternatives items →
        items_unknown (scope_at decls statement (steps_after steps items) true) [] known items ≡ None
    by here later (inl same) = subst (λ its. items_unknown (scope_at decls statement (steps_after steps its) true) [] known its ≡ None) same here
    by here later (inr behind) = later behind

-- ---- times

both : (x y : Bool) → (x && y) ≡ true → (x ≡ true) × (y ≡ true)
both true y e = (refl, e)
both false y e = cc

tested : {X : Type 0} (test : X → Bool) (xs : List X) (x : X) → list_all test xs ≡ true → Contains xs x → test x ≡ true
tested test [] x e there = absurd (nothing_contained x there)
tested test (y ∷ xs) x e there =
    let parts = both (test y) (list_all test xs) e in
    by parts.0 (tested test xs x parts.1) (first_or_later y xs x there)
  where
    by : test y ≡ true → (Contains xs x → test x ≡ true) → (y ≡ x) ⊎ Contains xs x → test x ≡ true
    by here later (inl same) = subst (λ z. test z ≡ true) same here
    by here later (inr behind) = later behind

-- the shift of a constraint is in range
pub shift_in_range : (z : ℤ) → is_shift z ≡ true → (negsuc 999999 ≤ℤ z) × (z ≤ℤ pos 1000000)
shift_in_range (pos n) e = let le : n ≤ 1000000 = grind (arith, nat_tests) in (omega (arith, ints), omega (arith, ints, le))
shift_in_range (negsuc n) e = let lt : n < 1000000 = grind (arith, nat_tests) in (omega (arith, ints, lt), omega (arith, ints))

-- the times of an item are among so many, and its shift is in range
abbrev pub IsFormedTimes : ℕ → Item → Type 0
IsFormedTimes times (i.At lit time) = time.0 < times
IsFormedTimes times (i.Span a from to) = (from.0 < times) × (to.0 < times)
IsFormedTimes times (i.Con con) = (con.left.0 < times) × (con.right.0 < times) × (is_shift con.plus ≡ true)
IsFormedTimes times _ = Unit {0}

less : (n m : ℕ) → nat_lt n m ≡ true → n < m
less n m e = grind (arith, nat_tests)

item_times : (variables times : ℕ) (item : Item) → is_formed_item variables times item ≡ true → IsFormedTimes times item
item_times variables times (i.At lit time) e = less time.0 times (both _ (nat_lt time.0 times) e).1
item_times variables times (i.Bare lit) e = tt
item_times variables times (i.Built built) e = tt
item_times variables times (i.Span a from to) e =
    let one = both _ (nat_lt to.0 times) e in
    let two = both _ (nat_lt from.0 times) one.0 in
    (less from.0 times two.1, less to.0 times one.1)
item_times variables times (i.Con con) e =
    let one = both (nat_lt con.left.0 times && nat_lt con.right.0 times) (is_shift con.plus) e in
    let two = both (nat_lt con.left.0 times) (nat_lt con.right.0 times) one.0 in
    (less con.left.0 times two.0, less con.right.0 times two.1, one.1)

items_times : (variables times : ℕ) (items : List Item) → list_all (is_formed_item variables times) items ≡ true → AllByRecursion (IsFormedTimes times) items
items_times variables times [] e = tt
items_times variables times (item ∷ items) e =
    let parts = both (is_formed_item variables times item) (list_all (is_formed_item variables times) items) e in
    (item_times variables times item parts.0, items_times variables times items parts.1)

-- ---- rules

module _ (text : Text) (accepted : IsAccepted text) (formed : is_formed text ≡ true) (rule : Rule) (among : Contains (rules text) rule) where
  abbrev body : Body
  body = b.Rule rule.antecedent rule.alternatives

  stated : IsStated text body
  stated = rule_stated text rule among

  abbrev statement : Statement
  statement = stated.statement

  known_body : body_unknown (declarations text) statement body ≡ None
  known_body = subst (λ z. body_unknown (declarations text) statement z ≡ None) stated.says (body_is_known text accepted statement stated.among)

  parts_known : (sequence_unknown (declarations text) statement false [] [] rule.antecedent ≡ None)
      × (alternatives_unknown (declarations text) statement (steps_after [] rule.antecedent) (known_after [] rule.antecedent) rule.alternatives ≡ None)
  parts_known =
      neither (sequence_unknown (declarations text) statement false [] [] rule.antecedent)
      (alternatives_unknown (declarations text) statement (steps_after [] rule.antecedent) (known_after [] rule.antecedent) rule.alternatives) known_body

  parts_formed : (nat_le (length statement.times) 255 ≡ true) × (list_all (is_formed_item (length statement.names) (length statement.times)) rule.antecedent ≡ true)
      × (list_all (list_all (is_formed_item (length statement.names) (length statement.times))) rule.alternatives ≡ true)
  parts_formed =
      let whole = tested is_formed_statement text.statements statement formed stated.among in
      let one = both (nat_le (length statement.names) 255 && nat_le (length statement.times) 255) (is_formed_body (length statement.names) (length statement.times) statement.body) whole in
      let counts = both (nat_le (length statement.names) 255) (nat_le (length statement.times) 255) one.0 in
      let items = both (list_all (is_formed_item (length statement.names) (length statement.times)) rule.antecedent)
      (list_all (list_all (is_formed_item (length statement.names) (length statement.times))) rule.alternatives)
      (sym (ap (is_formed_body (length statement.names) (length statement.times)) stated.says) ∙ one.1) in
      (counts.1, items.0, items.1)

  -- how many times the statement has
  pub time_count : ℕ
  time_count = length statement.times

  pub few_times : time_count ≤ 255
  unfolding time_count
  few_times = let e = parts_formed.0 in grind (arith, nat_tests)

  occurs_at : (o : Occurrence) → Contains (in_body (declarations text) statement.line body) o → HasKindAt text o.place o.name
  occurs_at o there = kind_at text accepted body stated o there

  -- ---- the antecedent

  pub antecedent_happens : (u : ℕ → Term) (w : ℕ → When) → AllByRecursion (λ item. is_call text item ≡ false) rule.antecedent →
      AllByRecursion (λ left. HappensOrHolds text left.item) (flat_map (left_of u w 0) rule.antecedent)
  antecedent_happens u w no_calls =
      items_happen text Seen seen_place statement.line u w rule.antecedent
      (λ o there. occurs_at o (Contains-append_left (in_items statement.line Seen rule.antecedent) (flat_map (in_items statement.line Done) rule.alternatives) o there)) no_calls

  pub antecedent_moded : AreModedIn text [] (flat_map left_whole_of rule.antecedent)
  antecedent_moded = record {
    scope = begun_scope (declarations text) statement.names statement.times (steps_after [] rule.antecedent) false;
    declared = refl;
    seen = refl;
    moded = items_moded (declarations text) statement.names statement.times (steps_after [] rule.antecedent) false [] [] rule.antecedent parts_known.0;
  }

  pub antecedent_times : AllByRecursion (IsFormedTimes time_count) rule.antecedent
  unfolding time_count
  antecedent_times = items_times (length statement.names) (length statement.times) rule.antecedent parts_formed.1

  -- ---- an alternative

  module _ (items : List Item) (one : Contains rule.alternatives items) where
    pub alternative_happens : (u : ℕ → Term) (w : ℕ → When) → AllByRecursion (λ item. is_call text item ≡ false) items →
        AllByRecursion (λ left. HappensOrHolds text left.item) (flat_map (left_of u w 0) items)
    alternative_happens u w no_calls =
        items_happen text Done done_place statement.line u w items
        (λ o there. occurs_at o (Contains-append_right (in_items statement.line Seen rule.antecedent) (flat_map (in_items statement.line Done) rule.alternatives) o
        (flat_contains (in_items statement.line Done) rule.alternatives items o one there))) no_calls

    pub alternative_moded : AreModedIn text (known_after [] rule.antecedent) (flat_map left_whole_of items)
    alternative_moded = record {
      scope = begun_scope (declarations text) statement.names statement.times (steps_after (steps_after [] rule.antecedent) items) true;
      declared = refl;
      seen = refl;
      moded =
          items_moded (declarations text) statement.names statement.times (steps_after (steps_after [] rule.antecedent) items) true [] (known_after [] rule.antecedent) items
          (alternative_known (declarations text) statement (steps_after [] rule.antecedent) (known_after [] rule.antecedent) rule.alternatives parts_known.1 items one);
    }

    pub alternative_times : AllByRecursion (IsFormedTimes time_count) items
    unfolding time_count
    alternative_times =
        items_times (length statement.names) (length statement.times) items (tested (list_all (is_formed_item (length statement.names) (length statement.times))) rule.alternatives items parts_formed.2 one)
