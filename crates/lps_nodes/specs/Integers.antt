-- The time conditions of what is left, with integers in place of natural numbers for the unknown times.
use Rattle.std.specs.Prelude.{◌≡◌, ◌++◌, ◌+ℤ◌, ◌≤ℤ◌, ◌<ℤ◌, ℕ, ℤ, pos, Bool, true, false, List, [], ◌∷◌, Option, Some, None, Contains}
use Rattle.std.specs.List.{AllByRecursion, flat_map}
use Rattle.lps_terms.specs.declared.text.Text.{Text}
use Rattle.lps_meaning.specs.declared.node.Left.{Left}
use Rattle.lps_meaning.specs.declared.node.LeftCon.{LeftCon}
use Rattle.lps_meaning.specs.declared.node.LeftItem.{LeftItem}
use Rattle.lps_meaning.specs.declared.node.LeftItem.TheVariants as l
use Rattle.lps_meaning.specs.declared.when.When.{When}
use Rattle.lps_meaning.specs.declared.when.When.TheVariants.{Known, Unknown}
use Rattle.lps_nodes.specs.Conditions.{IsLeftSmall, goes_on}
use Rattle.lps_model.specs.Rules.{kind_of, is_macro}
use Rattle.lps_meaning.specs.Sequences.{Relates}
use Rattle.lps_nodes.specs.Shapes.{Shape, left_unknowns, unknowns}

-- a time as an integer, with x of each unknown one in its place
abbrev pub integer_in : (ℕ → ℤ) → When → ℤ
integer_in x (Known n) = pos n
integer_in x (Unknown k) = x k

-- as `IsSpanPlaced`
abbrev pub IsSpanPlacedIn : Bool → Bool → ℤ → ℤ → ℤ → Type 0
IsSpanPlacedIn true joins before from to = (before ≤ℤ from) × (from ≤ℤ to)
IsSpanPlacedIn false true before from to = (to ≡ (from +ℤ pos 1)) × (to ≡ before)
IsSpanPlacedIn false false before from to = (to ≡ (from +ℤ pos 1)) × (before ≤ℤ from)

-- as `IsLeftPlaced`
abbrev pub IsLeftPlacedIn : Text → (ℕ → ℤ) → ℤ → Bool → LeftItem → Type 0
IsLeftPlacedIn text x before joins (l.At lit time) = before ≤ℤ integer_in x time
IsLeftPlacedIn text x before joins (l.Span a from to) = IsSpanPlacedIn (is_macro (kind_of text a.name)) joins before (integer_in x from) (integer_in x to)
IsLeftPlacedIn text x before joins _ = Unit {0}

-- as `left_end`
abbrev pub left_end_in : (ℕ → ℤ) → ℤ → LeftItem → ℤ
left_end_in x before (l.At lit time) = integer_in x time
left_end_in x before (l.Span a from to) = integer_in x to
left_end_in x before _ = before

-- as `AreLeftInOrder`
abbrev pub AreLeftInOrderIn : Text → (ℕ → ℤ) → ℤ → Option LeftItem → List Left → Type 0
AreLeftInOrderIn text x before last [] = Unit {0}
AreLeftInOrderIn text x before last (left ∷ rest) =
    IsLeftPlacedIn text x before (goes_on text last left.item) left.item × AreLeftInOrderIn text x (left_end_in x before left.item) (Some left.item) rest

-- as `IsLeftAhead`
abbrev pub IsLeftAheadIn : ℕ → (ℕ → ℤ) → LeftItem → Type 0
IsLeftAheadIn now x (l.At lit time) = pos now <ℤ integer_in x time
IsLeftAheadIn now x (l.Span a from to) = pos now ≤ℤ integer_in x from
IsLeftAheadIn now x _ = ⊥

-- as `IsLeftLimit`
abbrev pub IsLeftLimitIn : (ℕ → ℤ) → LeftCon → Type 0
IsLeftLimitIn x con = Relates con.rel (integer_in x con.left) (integer_in x con.right +ℤ con.plus)

-- as `CanComeTrue`, with some integers for the unknown times
pub record CanComeTrueIn (text : Text) (now : ℕ) (g : Shape) : Type 0 where
  pub times : ℕ → ℤ
  pub first : Left
  pub behind : List Left
  pub is_first : g.rest ≡ first ∷ behind
  pub ahead : IsLeftAheadIn now times first.item
  pub in_order : AreLeftInOrderIn text times (pos now) None g.rest
  pub limits : AllByRecursion (IsLeftLimitIn times) g.limits
  pub small : AllByRecursion (λ left. IsLeftSmall left.item) g.rest

-- each unknown time of the constraints stands in an item left
abbrev pub AreTimesLeft : Shape → Type 0
AreTimesLeft g = AllByRecursion (Contains (flat_map (λ left. left_unknowns left.item) g.rest)) (flat_map (λ con. unknowns con.left ++ unknowns con.right) g.limits)
