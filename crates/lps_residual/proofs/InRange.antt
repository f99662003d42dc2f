-- The time conditions of a node whose times are in range are in range.
use Rattle.std.proofs.Common.{ℕ, Bool, true, false, ◌≡◌, List, [], ◌∷◌, All, subst, sym, arith}
use Rattle.std.specs.Prelude.{Option, None, Some}
use Rattle.std.specs.List.{AllByRecursion}
use Rattle.std.proofs.lemmas.Int.{ints}
use Rattle.std.proofs.lemmas.List.Elements.{All-from_recursion}
use Rattle.lps_terms.specs.declared.text.Text.{Text}
use Rattle.lps_model.specs.Rules.{is_macro, kind_of}
use Rattle.lps_meaning.specs.declared.node.Left.{Left}
use Rattle.lps_meaning.specs.declared.node.LeftCon.{LeftCon}
use Rattle.lps_meaning.specs.declared.node.LeftItem.{LeftItem}
use Rattle.lps_meaning.specs.declared.node.LeftItem.TheVariants as l
use Rattle.lps_meaning.specs.declared.node.Node.{Node}
use Rattle.lps_meaning.specs.declared.when.When.{When}
use Rattle.lps_meaning.proofs.Occurrences.{all_joined}
use Rattle.lps_nodes.specs.Conditions.{goes_on}
use Rattle.lps_nodes.specs.Nodes.{left_in}
use Rattle.lps_windows.specs.Conditions.{conditions_of, end_of, item_conditions, next_after, no_earlier, no_later, order_conditions, same_end, span_conditions}
use Rattle.lps_windows.specs.Windows.{IsTime, IsWithin}
use Rattle.lps_residual.specs.Moments.{IsTimeOf, IsTimed}

module _ (unknowns : ℕ) where
  abbrev Within : List LeftCon → Type 0
  Within = AllByRecursion (IsWithin unknowns)

  abbrev IsTimeIfAny : Option When → Type 0
  IsTimeIfAny None = Unit {0}
  IsTimeIfAny (Some time) = IsTime unknowns time

  no_later_within : (first second : When) → IsTime unknowns first → IsTime unknowns second → Within (no_later first second)
  no_later_within first second f s = (record { left = f; right = s; low = omega (arith, ints); high = omega (arith, ints) }, tt)

  no_earlier_within : (before : Option When) (time : When) → IsTimeIfAny before → IsTime unknowns time → Within (no_earlier before time)
  no_earlier_within None time b t = tt
  no_earlier_within (Some before) time b t = no_later_within before time b t

  same_end_within : (before : Option When) (time : When) → IsTimeIfAny before → IsTime unknowns time → Within (same_end before time)
  same_end_within None time b t = tt
  same_end_within (Some before) time b t = (record { left = t; right = b; low = omega (arith, ints); high = omega (arith, ints) }, tt)

  next_within : (from to : When) → IsTime unknowns from → IsTime unknowns to → Within (next_after from to)
  next_within from to f t = (record { left = t; right = f; low = omega (arith, ints); high = omega (arith, ints) }, tt)

  span_within : (call joins : Bool) (before : Option When) (from to : When) → IsTimeIfAny before → IsTime unknowns from → IsTime unknowns to → Within (span_conditions call joins before from to)
  span_within true joins before from to b f t = all_joined (IsWithin unknowns) (no_earlier before from) (no_later from to) (no_earlier_within before from b f) (no_later_within from to f t)
  span_within false true before from to b f t = all_joined (IsWithin unknowns) (next_after from to) (same_end before to) (next_within from to f t) (same_end_within before to b t)
  span_within false false before from to b f t = all_joined (IsWithin unknowns) (next_after from to) (no_earlier before from) (next_within from to f t) (no_earlier_within before from b f)

  item_within : (text : Text) (before : Option When) (joins : Bool) (item : LeftItem) → IsTimeIfAny before → IsTimeOf unknowns item → Within (item_conditions text before joins item)
  item_within text before joins (l.At lit time) b t = no_earlier_within before time b t
  item_within text before joins (l.Bare lit) b t = tt
  item_within text before joins (l.Built built) b t = tt
  item_within text before joins (l.Span a from to) b t = span_within (is_macro (kind_of text a.name)) joins before from to b t.0 t.1

  end_within : (before : Option When) (item : LeftItem) → IsTimeIfAny before → IsTimeOf unknowns item → IsTimeIfAny (end_of before item)
  end_within before (l.At lit time) b t = t
  end_within before (l.Bare lit) b t = b
  end_within before (l.Built built) b t = b
  end_within before (l.Span a from to) b t = t.1

  order_within : (text : Text) (before : Option When) (last : Option LeftItem) (rest : List Left) → IsTimeIfAny before → AllByRecursion (λ left. IsTimeOf unknowns left.item) rest →
      Within (order_conditions text before last rest)
  order_within text before last [] b t = tt
  order_within text before last (left ∷ rest) b t =
      all_joined (IsWithin unknowns) (item_conditions text before (goes_on text last left.item) left.item) (order_conditions text (end_of before left.item) (Some left.item) rest)
      (item_within text before (goes_on text last left.item) left.item b t.0) (order_within text (end_of before left.item) (Some left.item) rest (end_within before left.item b t.0) t.1)

  conditions_within : (text : Text) (node : Node) → IsTimed unknowns node → AllByRecursion (IsWithin unknowns) (conditions_of text (left_in node))
  conditions_within text node timed = all_joined (IsWithin unknowns) (order_conditions text None None node.rest) node.limits (order_within text None None node.rest tt timed.items) timed.limits

  pub all_within : (text : Text) (node : Node) → IsTimed unknowns node → (conditions : List LeftCon) → conditions ≡ conditions_of text (left_in node) → All (IsWithin unknowns) conditions
  all_within text node timed conditions is = All-from_recursion (IsWithin unknowns) conditions (subst (AllByRecursion (IsWithin unknowns)) (sym is) (conditions_within text node timed))
