-- A window decides whether the next step may begin now.
use Rattle.std.proofs.Common.{ℕ, ◌≡◌, ◌≤◌, ◌++◌, Bool, true, false, IsTrue, List, [], ◌∷◌, None, Some, refl, sym, ap, subst, ◌∙◌, arith, inl, inr}
use Rattle.std.specs.Prelude.{◌↔◌, Contains, pos, if◌then◌else◌}
use Rattle.std.specs.List.{AllByRecursion}
use Rattle.std.specs.List.Sorted.{IsStrictlySortedBy}
use Rattle.std.proofs.lemmas.Int.{ints}
use Rattle.lps_terms.specs.declared.atom.Atom.{Atom}
use Rattle.lps_terms.specs.declared.text.Text.{Text}
use Rattle.lps_terms.specs.declared.time_rel.TimeRel.TheVariants.{Equal}
use Rattle.lps_terms.specs.Order.{atom_cmp}
use Rattle.lps_model.specs.Order.{is_action}
use Rattle.lps_model.specs.Rules.{kind_of}
use Rattle.lps_meaning.specs.declared.node.Left.{Left}
use Rattle.lps_meaning.specs.declared.node.LeftCon.{LeftCon}
use Rattle.lps_meaning.specs.declared.node.LeftItem.{LeftItem}
use Rattle.lps_meaning.specs.declared.node.LeftItem.TheVariants as l
use Rattle.lps_meaning.specs.declared.node.Node.{Node}
use Rattle.lps_meaning.specs.declared.when.When.{When}
use Rattle.lps_meaning.specs.declared.when.When.TheVariants.{Known}
use Rattle.lps_meaning.proofs.Occurrences.{all_front, all_behind, all_joined}
use Rattle.lps_nodes.specs.Conditions.{CanComeTrue, IsLeftAhead, IsLeftLimit, are_together, time_in}
use Rattle.lps_nodes.specs.NextSteps.{IsBegun, IsProposed, MayBegin, atoms_behind, atoms_of}
use Rattle.lps_nodes.specs.Nodes.{left_in}
use Rattle.lps_nodes.specs.Shapes.{Shape}
use Rattle.lps_windows.specs.declared.window.Window.{Window}
use Rattle.lps_windows.specs.Conditions.{BeginsAt, NoneComeTrue, WindowsDecide, conditions_of, order_conditions}
use Rattle.lps_windows.specs.Windows.{CanBe, IsIn, IsTime, IsWindow, Solves}
use Rattle.lps_residual.specs.Moments.{IsTimeOf, IsTimed, IsWindowOf, MeetsNone}
use Rattle.lps_residual.specs.Proposing.{action_begin, group_after, next_action}

-- ---- the next action

-- the first item left is an action, from this time on
pub record HasAction (text : Text) (node : Node) (from : When) : Type 0 where
  pub first : Left
  pub behind : List Left
  pub is_first : node.rest ≡ first ∷ behind
  pub atom : Atom
  pub to : When
  pub item : first.item ≡ l.Span atom from to
  pub action : is_action (kind_of text atom.name) ≡ true

abbrev IsSpanOf : Text → LeftItem → When → Type 0
IsSpanOf text item from = (atom : Atom) × (to : When) × (item ≡ l.Span atom from to) × (is_action (kind_of text atom.name) ≡ true)

begins_span : (text : Text) (item : LeftItem) (from : When) → action_begin text item ≡ Some from → IsSpanOf text item from
begins_span text (l.At lit time) from e = absurd cc
begins_span text (l.Bare lit) from e = absurd cc
begins_span text (l.Built built) from e = absurd cc
begins_span text (l.Span a begin to) from e = by (is_action (kind_of text a.name)) refl e
  where
    by : (action : Bool) → is_action (kind_of text a.name) ≡ action → (if action then Some begin else None) ≡ Some from → IsSpanOf text (l.Span a begin to) from
    by true is some = let same : begin ≡ from = cc in (a, to, ap (λ x. l.Span a x to) same, is)
    by false is some = absurd cc

pub has_action : (text : Text) (node : Node) (from : When) → next_action text node.rest ≡ Some from → HasAction text node from
has_action text node from e = by node.rest refl e
  where
    by : (rest : List Left) → node.rest ≡ rest → next_action text rest ≡ Some from → HasAction text node from
    by [] is some = absurd cc
    by (left ∷ behind) is some =
        let span = begins_span text left.item from some in
        record { first = left; behind = behind; is_first = is; atom = span.0; to = span.1; item = span.2; action = span.3 }

-- the time at which it begins is in range
pub action_in_range : (text : Text) (node : Node) (from : When) (count : ℕ) → next_action text node.rest ≡ Some from → IsTimed count node → IsTime count from
action_in_range text node from count e timed =
    let has = has_action text node from e in
    (subst (IsTimeOf count) has.item (subst (AllByRecursion (λ left. IsTimeOf count left.item)) has.is_first timed.items).0).0

-- ---- whether it may begin

never : false ≡ true → ⊥
never e = cc

head_of : {X : Type 0} (x y : X) (xs ys : List X) → x ∷ xs ≡ y ∷ ys → x ≡ y
head_of x y xs ys e = cc

module _ (decide : WindowsDecide) (none : NoneComeTrue) (text : Text) (node : Node) (now : ℕ) (from : When) (has : HasAction text node from) where
  -- the next step begins now
  abbrev is_now : LeftCon
  is_now = record { left = from; rel = Equal; right = Known now; plus = pos 0 }

  -- what is left, with this constraint
  abbrev at_now : Shape
  at_now = record { carry = node.carry; rest = node.rest; limits = node.limits ++ is_now ∷ [] }

  abbrev order : List LeftCon
  order = order_conditions text None None node.rest

  limit_to : (x : ℕ → ℕ) → time_in x from ≡ now → IsLeftLimit x is_now
  limit_to x e = omega (arith, ints, e)

  limit_from : (x : ℕ → ℕ) → IsLeftLimit x is_now → time_in x from ≡ now
  limit_from x h = omega (arith, ints, h)

  solves_to : (x : ℕ → ℕ) → Solves (conditions_of text (left_in node)) x → time_in x from ≡ now → Solves (conditions_of text at_now) x
  solves_to x h e =
      all_joined (IsLeftLimit x) order (node.limits ++ is_now ∷ []) (all_front (IsLeftLimit x) order node.limits h)
      (all_joined (IsLeftLimit x) node.limits (is_now ∷ []) (all_behind (IsLeftLimit x) order node.limits h) (limit_to x e, tt))

  solves_from : (x : ℕ → ℕ) → Solves (conditions_of text at_now) x → Solves (conditions_of text (left_in node)) x × (time_in x from ≡ now)
  solves_from x h =
      let limits = all_behind (IsLeftLimit x) order (node.limits ++ is_now ∷ []) h in (
        all_joined (IsLeftLimit x) order node.limits (all_front (IsLeftLimit x) order (node.limits ++ is_now ∷ []) h) (all_front (IsLeftLimit x) node.limits (is_now ∷ []) limits),
        limit_from x (all_behind (IsLeftLimit x) node.limits (is_now ∷ []) limits).0,
      )

  -- what may begin now is what can come true with this constraint
  from_can : CanComeTrue text now at_now → MayBegin text now (left_in node)
  from_can can =
      let begun = limit_from can.times (all_behind (IsLeftLimit can.times) node.limits (is_now ∷ []) can.limits).0 in
      record {
        can = record {
          times = can.times;
          first = has.first;
          behind = has.behind;
          is_first = has.is_first;
          ahead = subst (IsLeftAhead now can.times) (sym has.item) (omega (arith, begun));
          in_order = can.in_order;
          limits = all_front (IsLeftLimit can.times) node.limits (is_now ∷ []) can.limits;
          small = can.small;
        };
        begun = subst (IsBegun now can.times) (sym has.item) begun;
      }

  begun_at : (may : MayBegin text now (left_in node)) → time_in may.can.times from ≡ now
  begun_at may =
      let same : may.can.first ≡ has.first = head_of may.can.first has.first may.can.behind has.behind (sym may.can.is_first ∙ has.is_first) in
      subst (IsBegun now may.can.times) (ap (λ (left : Left). left.item) same ∙ has.item) may.begun

  to_can : MayBegin text now (left_in node) → CanComeTrue text now at_now
  to_can may = record {
    times = may.can.times;
    first = may.can.first;
    behind = may.can.behind;
    is_first = may.can.is_first;
    ahead = may.can.ahead;
    in_order = may.can.in_order;
    limits = all_joined (IsLeftLimit may.can.times) node.limits (is_now ∷ []) may.can.limits (limit_to may.can.times (begun_at may), tt);
    small = may.can.small;
  }

  -- where something is large, or the conditions have no solution, it never may
  pub never_begins : MeetsNone text node → IsTrue false ↔ MayBegin text now (left_in node)
  never_begins (inl large) = (λ f. absurd (never f), λ may. absurd (large may.can.small))
  never_begins (inr unsolved) = (λ f. absurd (never f), λ may. absurd (none text now (left_in node) unsolved may.can))

  module _ (window : Window) (of : IsWindowOf text node from window) where
    abbrev just_now : Window
    just_now = record { first = now; last = Some now }

    least : now ≤ now
    least = omega arith

    only_now : IsIn window now → (value : ℕ) → IsIn just_now value ↔ CanBe (conditions_of text at_now) from value
    only_now inside value = (into, back)
      where
        into : IsIn just_now value → CanBe (conditions_of text at_now) from value
        into is =
            let low = is.0 in
            let high = is.1 in
            let same : now ≡ value = omega (arith, low, high) in
            let can = (of.of_conditions.exact now).0 inside in
            (can.0, solves_to can.0 can.1 can.2, can.2 ∙ same)

        back : CanBe (conditions_of text at_now) from value → IsIn just_now value
        back can =
            let both = solves_from can.0 can.1 in
            let same : now ≡ value = sym both.1 ∙ can.2 in
            (omega (arith, same), omega (arith, same))

    begins_now : IsIn window now → MayBegin text now (left_in node)
    begins_now inside =
        let begins = subst (λ item. BeginsAt item from now now) (sym has.item) (refl, refl) in
        let shut : IsWindow (conditions_of text at_now) from just_now = record { some = (least, least); exact = only_now inside } in
        from_can ((decide text at_now has.first has.behind has.is_first from now now begins of.small just_now shut).1 (now, least, (least, least)))

    by_test : (r : Bool) → IsTrue r ↔ IsIn window now → MayBegin text now (left_in node) → IsTrue r
    by_test true is may = refl
    by_test false is may = absurd (none text now at_now (λ x solves. let both = solves_from x solves in never (is.1 ((of.of_conditions.exact now).1 (x, both.0, both.1)))) (to_can may))

    -- else it may exactly where the window has this time
    pub begins_within : (r : Bool) → IsTrue r ↔ IsIn window now → IsTrue r ↔ MayBegin text now (left_in node)
    begins_within r is = (λ t. begins_now (is.0 t), by_test r is)

-- ---- what is proposed

same_group : (text : Text) (before : LeftItem) (rest : List Left) → group_after text (Some before) rest ≡ atoms_behind text before rest
same_group text before [] = refl
same_group text before (left ∷ rest) = ap (λ more. if are_together text before left.item then atoms_of left.item ++ more else []) (same_group text left.item rest)

module _ (text : Text) (now : ℕ) (node : Node) where
  -- the group of an action that may begin now is proposed
  pub is_proposed : (from : When) → next_action text node.rest ≡ Some from → MayBegin text now (left_in node) → (atoms group : List Atom) → atoms ≡ group_after text None node.rest →
      IsStrictlySortedBy atom_cmp group → ((a : Atom) → Contains group a ↔ Contains atoms a) → IsProposed text now node group
  is_proposed from e may atoms group are sorted same =
      let has = has_action text node from e in
      let all : group_after text None node.rest ≡ has.atom ∷ atoms_behind text has.first.item has.behind =
      ap (group_after text None) has.is_first ∙ (λ i. atoms_of (has.item i) ++ same_group text has.first.item has.behind i) in
      record {
        first = has.first;
        behind = has.behind;
        is_first = has.is_first;
        atom = has.atom;
        from = from;
        to = has.to;
        item = has.item;
        action = has.action;
        may_begin = may;
        sorted = sorted;
        exact = λ a. subst (λ xs. Contains group a ↔ Contains xs a) (are ∙ all) (same a);
      }
