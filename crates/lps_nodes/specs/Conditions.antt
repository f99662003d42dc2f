-- Whether what is left of a sequence can still come true after now, told from what is left alone: its time conditions have a
-- solution, and nothing in it is large.
use Rattle.std.specs.Prelude.{◌≡◌, ◌≤◌, ◌<◌, ◌+ℤ◌, ◌&&◌, ℕ, pos, Bool, false, nat_eq, List, [], ◌∷◌, Option, Some, None}
use Rattle.std.specs.List.{AllByRecursion}
use Rattle.lps_terms.specs.declared.text.Text.{Text}
use Rattle.lps_terms.specs.Symbols.{atom_symbols_of}
use Rattle.lps_model.specs.Order.{happens}
use Rattle.lps_derivation.specs.Instances.{IsSmall, IsSmallBuilt}
use Rattle.lps_meaning.specs.declared.node.Left.{Left}
use Rattle.lps_meaning.specs.declared.node.LeftCon.{LeftCon}
use Rattle.lps_meaning.specs.declared.node.LeftItem.{LeftItem}
use Rattle.lps_meaning.specs.declared.node.LeftItem.TheVariants as l
use Rattle.lps_meaning.specs.declared.when.When.{When}
use Rattle.lps_meaning.specs.declared.when.When.TheVariants.{Known, Unknown}
use Rattle.lps_model.specs.Rules.{kind_of, is_macro}
use Rattle.lps_meaning.specs.Sequences.{Entry, Values, IsSpanPlaced, Relates}
use Rattle.lps_nodes.specs.Shapes.{Shape, Whens, left_at}

-- a time as a number, with x of each unknown one in its place
abbrev pub time_in : (ℕ → ℕ) → When → ℕ
time_in x (Known n) = n
time_in x (Unknown k) = x k

-- the same known time, or the same unknown one
abbrev pub is_same_time : When → When → Bool
is_same_time (Known n) (Known m) = nat_eq n m
is_same_time (Unknown j) (Unknown k) = nat_eq j k
is_same_time _ _ = false

-- two adjacent items left are of one group: both are events or actions, with the same two times
abbrev pub are_together : Text → LeftItem → LeftItem → Bool
are_together text (l.Span a from to) (l.Span b from' to') =
    happens (kind_of text a.name) && (happens (kind_of text b.name) && (is_same_time from from' && is_same_time to to'))
are_together text _ _ = false

-- an item left goes on with the group of the one before it
abbrev pub goes_on : Text → Option LeftItem → LeftItem → Bool
goes_on text None item = false
goes_on text (Some before) item = are_together text before item

-- the item stands where it may after a step that ended at `before`
abbrev pub IsLeftPlaced : Text → (ℕ → ℕ) → ℕ → Bool → LeftItem → Type 0
IsLeftPlaced text x before joins (l.At lit time) = before ≤ time_in x time
IsLeftPlaced text x before joins (l.Span a from to) = IsSpanPlaced (is_macro (kind_of text a.name)) joins before (time_in x from) (time_in x to)
IsLeftPlaced text x before joins _ = Unit {0}

-- when it ends, or what was before where it has no times
abbrev pub left_end : (ℕ → ℕ) → ℕ → LeftItem → ℕ
left_end x before (l.At lit time) = time_in x time
left_end x before (l.Span a from to) = time_in x to
left_end x before _ = before

-- each item left stands where it may after the one before
abbrev pub AreLeftInOrder : Text → (ℕ → ℕ) → ℕ → Option LeftItem → List Left → Type 0
AreLeftInOrder text x before last [] = Unit {0}
AreLeftInOrder text x before last (left ∷ rest) =
    IsLeftPlaced text x before (goes_on text last left.item) left.item × AreLeftInOrder text x (left_end x before left.item) (Some left.item) rest

-- it begins after now: an `at` item later, a group or a macro call now or later
abbrev pub IsLeftAhead : ℕ → (ℕ → ℕ) → LeftItem → Type 0
IsLeftAhead now x (l.At lit time) = now < time_in x time
IsLeftAhead now x (l.Span a from to) = now ≤ time_in x from
IsLeftAhead now x _ = ⊥

-- the constraint is true
abbrev pub IsLeftLimit : (ℕ → ℕ) → LeftCon → Type 0
IsLeftLimit x con = Relates con.rel (pos (time_in x con.left)) (pos (time_in x con.right) +ℤ con.plus)

-- its atom, or each side of its built-in, has at most 1,024 symbols, each variable counted as one
abbrev pub IsLeftSmall : LeftItem → Type 0
IsLeftSmall (l.At lit time) = IsSmall (atom_symbols_of lit.atom)
IsLeftSmall (l.Bare lit) = IsSmall (atom_symbols_of lit.atom)
IsLeftSmall (l.Built built) = IsSmallBuilt built
IsLeftSmall (l.Span a from to) = IsSmall (atom_symbols_of a)

-- what is left can come true after now: with some numbers for the unknown times the first item begins after now, the items stand in
-- order and the constraints are true; and nothing is large
pub record CanComeTrue (text : Text) (now : ℕ) (g : Shape) : Type 0 where
  pub times : ℕ → ℕ
  pub first : Left
  pub behind : List Left
  pub is_first : g.rest ≡ first ∷ behind
  pub ahead : IsLeftAhead now times first.item
  pub in_order : AreLeftInOrder text times now None g.rest
  pub limits : AllByRecursion (IsLeftLimit times) g.limits
  pub small : AllByRecursion (λ left. IsLeftSmall left.item) g.rest

-- ---- groups

-- an entry that is an item left is marked as of a group exactly where that item goes on with the one before it
abbrev pub ShowsGroup : Text → Bool → Option LeftItem → List Left → Type 0
ShowsGroup text joins last [] = Unit {0}
ShowsGroup text joins last (left ∷ rest) = joins ≡ goes_on text last left.item

-- the last of these items left, or else what is given
abbrev pub last_or : Option LeftItem → List Left → Option LeftItem
last_or last [] = last
last_or last (left ∷ rest) = Some left.item

-- the groups of some entries can be told from the items left
abbrev pub ShowGroups : Text → Values → Whens → Option LeftItem → List Entry → Type 0
ShowGroups text u w last [] = Unit {0}
ShowGroups text u w last (e ∷ es) = ShowsGroup text e.joins last (left_at u w e) × ShowGroups text u w (last_or last (left_at u w e)) es
