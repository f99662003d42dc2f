-- What windows decide of a node.
use Rattle.std.proofs.Common.{ℕ, ◌≡◌, Bool, true, false, IsTrue, List, [], ◌∷◌, refl, ap, subst, inl, inr}
use Rattle.std.specs.Prelude.{◌↔◌, Option, Some, None, MatchOption, slice_get}
use Rattle.std.specs.List.{AllByRecursion}
use Rattle.lps_terms.specs.declared.text.Text.{Text}
use Rattle.lps_meaning.specs.declared.node.Left.{Left}
use Rattle.lps_meaning.specs.declared.node.LeftCon.{LeftCon}
use Rattle.lps_meaning.specs.declared.node.LeftItem.{LeftItem}
use Rattle.lps_meaning.specs.declared.node.LeftItem.TheVariants as l
use Rattle.lps_meaning.specs.declared.node.Node.{Node}
use Rattle.lps_meaning.specs.declared.when.When.{When}
use Rattle.lps_nodes.specs.Conditions.{CanComeTrue, IsLeftSmall}
use Rattle.lps_nodes.specs.Nodes.{left_in}
use Rattle.lps_windows.specs.declared.window.Window.{Window}
use Rattle.lps_windows.specs.Conditions.{BeginsAt, NoneComeTrue, WindowsDecide, conditions_of}
use Rattle.lps_windows.specs.Windows.{HaveNoSolution, IsOpenFrom, IsTime, IsWindow}
use Rattle.lps_residual.specs.declared.waiting.Begin.{Begin}
use Rattle.lps_residual.specs.Moments.{HasNoBegin, IsBegin, IsOpenOn, IsTimeOf, IsTimed, IsWindowOf, MeetsNone}

never : false ≡ true → ⊥
never e = cc

-- ---- the next step

-- the time at which an item that is in range begins is in range
begin_in_range : (unknowns now earliest : ℕ) (item : LeftItem) (begin : When) → BeginsAt item begin now earliest → IsTimeOf unknowns item → IsTime unknowns begin
begin_in_range unknowns now earliest (l.At lit time) begin is t = subst (IsTime unknowns) is.0 t
begin_in_range unknowns now earliest (l.Bare lit) begin is t = absurd is
begin_in_range unknowns now earliest (l.Built built) begin is t = absurd is
begin_in_range unknowns now earliest (l.Span a from to) begin is t = subst (IsTime unknowns) is.0 t.0

-- an item that stands first begins as it says
pub begins_first : (unknowns now : ℕ) (node : Node) (begin : Begin) (first : Left) (behind : List Left) → node.rest ≡ first ∷ behind → BeginsAt first.item begin.time now begin.earliest →
    IsTimed unknowns node → IsBegin unknowns node now begin
begins_first unknowns now node begin first behind is_first begins timed = record {
  first = first;
  behind = behind;
  is_first = is_first;
  begins = begins;
  in_range = begin_in_range unknowns now begin.earliest first.item begin.time begins (subst (AllByRecursion (λ left. IsTimeOf unknowns left.item)) is_first timed.items).0;
}

-- what is found first stands first
pub stands_first : {X : Type 0} (xs : List X) (x : X) → slice_get xs 0 ≡ Some x → (behind : List X) × (xs ≡ x ∷ behind)
stands_first [] x e = cc
stands_first (y ∷ xs) x e = (xs, let same : y ≡ x = cc in ap (λ z. z ∷ xs) same)

-- where no window is found there is none
pub window_found : (text : Text) (node : Node) (time : When) (conditions : List LeftCon) → conditions ≡ conditions_of text (left_in node) → AllByRecursion (λ left. IsLeftSmall left.item) node.rest →
    (found : Option Window) → MatchOption found (HaveNoSolution conditions) (IsWindow conditions time) → MatchOption found (MeetsNone text node) (IsWindowOf text node time)
window_found text node time conditions is small None h = inr (subst HaveNoSolution is h)
window_found text node time conditions is small (Some window) h = record { small = small; of_conditions = subst (λ cs. IsWindow cs time window) is h }

-- ---- whether it can come true

-- where no step is next, a node never comes true
pub without_begin : (text : Text) (node : Node) (now : ℕ) → HasNoBegin node → IsTrue false ↔ CanComeTrue text now (left_in node)
without_begin text node now none = (λ f. absurd (never f), λ can. absurd (none can.first can.behind can.is_first now can.times can.ahead))

module _ (decide : WindowsDecide) (none : NoneComeTrue) (text : Text) (node : Node) (unknowns now : ℕ) (begin : Begin) (is : IsBegin unknowns node now begin) where
  by_window : (window : Window) → IsWindowOf text node begin.time window → CanComeTrue text now (left_in node) ↔ IsOpenFrom window begin.earliest
  by_window window of = decide text (left_in node) is.first is.behind is.is_first begin.time now begin.earliest is.begins of.small window of.of_conditions

  -- and else exactly where its step may begin after now
  pub with_begin : (may : Bool) → IsOpenOn may text node begin.time begin.earliest → IsTrue may ↔ CanComeTrue text now (left_in node)
  with_begin true (window, of, opened) = (λ t. (by_window window of).1 opened, λ can. refl)
  with_begin false (inl (inl large)) = (λ f. absurd (never f), λ can. absurd (large can.small))
  with_begin false (inl (inr unsolved)) = (λ f. absurd (never f), λ can. absurd (none text now (left_in node) unsolved can))
  with_begin false (inr (window, of, shut)) = (λ f. absurd (never f), λ can. absurd (shut ((by_window window of).0 can)))
