-- The time conditions of what is left of a sequence, but for that its next step begins after now: conditions on times alone.
use Rattle.std.specs.Prelude.{◌≡◌, ◌++◌, ◌↔◌, ℕ, suc, pos, Bool, true, false, List, [], ◌∷◌, Option, Some, None}
use Rattle.std.specs.List.{AllByRecursion}
use Rattle.lps_terms.specs.declared.atom.Atom.{Atom}
use Rattle.lps_terms.specs.declared.text.Text.{Text}
use Rattle.lps_terms.specs.declared.time_rel.TimeRel.TheVariants.{AtMost, Equal}
use Rattle.lps_model.specs.Rules.{kind_of, is_macro}
use Rattle.lps_meaning.specs.declared.node.Left.{Left}
use Rattle.lps_meaning.specs.declared.node.LeftCon.{LeftCon}
use Rattle.lps_meaning.specs.declared.node.LeftItem.{LeftItem}
use Rattle.lps_meaning.specs.declared.node.LeftItem.TheVariants as l
use Rattle.lps_meaning.specs.declared.when.When.{When}
use Rattle.lps_nodes.specs.Conditions.{CanComeTrue, IsLeftSmall, goes_on}
use Rattle.lps_nodes.specs.NextSteps.{MayBegin}
use Rattle.lps_nodes.specs.Shapes.{Shape}
use Rattle.lps_windows.specs.declared.window.Window.{Window}
use Rattle.lps_windows.specs.Windows.{HaveNoSolution, IsIn, IsOpenFrom, IsWindow}

-- one time is no later than another
abbrev pub no_later : When → When → List LeftCon
no_later first second = record { left = first; rel = AtMost; right = second; plus = pos 0 } ∷ []

-- the time that one ends before, if there is one
abbrev pub no_earlier : Option When → When → List LeftCon
no_earlier None time = []
no_earlier (Some before) time = no_later before time

-- two times are the same, if there is the first
abbrev pub same_end : Option When → When → List LeftCon
same_end None time = []
same_end (Some before) time = record { left = time; rel = Equal; right = before; plus = pos 0 } ∷ []

-- one time is the next after another
abbrev pub next_after : When → When → List LeftCon
next_after from to = record { left = to; rel = Equal; right = from; plus = pos 1 } ∷ []

-- a macro call, a group's first, or another of a group, from one time to another, after a step that ended before
abbrev pub span_conditions : Bool → Bool → Option When → When → When → List LeftCon
span_conditions true joins before from to = no_earlier before from ++ no_later from to
span_conditions false true before from to = next_after from to ++ same_end before to
span_conditions false false before from to = next_after from to ++ no_earlier before from

-- where an item may stand after a step that ended before, if there is one
abbrev pub item_conditions : Text → Option When → Bool → LeftItem → List LeftCon
item_conditions text before joins (l.At lit time) = no_earlier before time
item_conditions text before joins (l.Span a from to) = span_conditions (is_macro (kind_of text a.name)) joins before from to
item_conditions text before joins _ = []

-- when it ends, or else what was before
abbrev pub end_of : Option When → LeftItem → Option When
end_of before (l.At lit time) = Some time
end_of before (l.Span a from to) = Some to
end_of before _ = before

abbrev pub order_conditions : Text → Option When → Option LeftItem → List Left → List LeftCon
order_conditions text before last [] = []
order_conditions text before last (left ∷ rest) =
    item_conditions text before (goes_on text last left.item) left.item ++ order_conditions text (end_of before left.item) (Some left.item) rest

-- all of them: the items stand in order, and the constraints are true
abbrev pub conditions_of : Text → Shape → List LeftCon
conditions_of text g = order_conditions text None None g.rest ++ g.limits

-- ---- the law

-- the step begins at this time, and no earlier than this number of cycles after now
abbrev pub BeginsAt : LeftItem → When → ℕ → ℕ → Type 0
BeginsAt (l.At lit time) begin now earliest = (time ≡ begin) × (earliest ≡ suc now)
BeginsAt (l.Span a from to) begin now earliest = (from ≡ begin) × (earliest ≡ now)
BeginsAt _ begin now earliest = ⊥

-- Where a window has the times at which the next step can begin by the conditions, what is left can come true after now exactly
-- where it is open from the earliest time that the step may begin at now, and nothing is large.
abbrev pub WindowsDecide : Type 0
WindowsDecide = (text : Text) (g : Shape) (first : Left) (behind : List Left) → g.rest ≡ first ∷ behind → (begin : When) (now earliest : ℕ) → BeginsAt first.item begin now earliest →
    AllByRecursion (λ left. IsLeftSmall left.item) g.rest → (window : Window) → IsWindow (conditions_of text g) begin window → CanComeTrue text now g ↔ IsOpenFrom window earliest

-- And where the conditions have no solution it never can.
abbrev pub NoneComeTrue : Type 0
NoneComeTrue = (text : Text) (now : ℕ) (g : Shape) → HaveNoSolution (conditions_of text g) → CanComeTrue text now g → ⊥

-- And where the next step is a group or a macro call, it may begin now exactly where now lies in the window of the time that it begins at.
abbrev pub WindowsDecideBegins : Type 0
WindowsDecideBegins = (text : Text) (g : Shape) (first : Left) (behind : List Left) → g.rest ≡ first ∷ behind → (atom : Atom) (from to : When) → first.item ≡ l.Span atom from to →
    AllByRecursion (λ left. IsLeftSmall left.item) g.rest → (now : ℕ) (window : Window) → IsWindow (conditions_of text g) from window → MayBegin text now g ↔ IsIn window now
