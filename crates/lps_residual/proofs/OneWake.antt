-- A node is woken by one thing alone: its first item tells what it awaits, and its time conditions have one window.
use Rattle.std.proofs.Common.{ℕ, suc, ◌+◌, ◌≡◌, ◌≤◌, List, [], ◌∷◌, refl, sym, ap, ◌∙◌, arith, inl, inr, le_antisymm}
use Rattle.std.specs.Prelude.{◌↔◌, Option, Some, None, MatchOption, ⊤}
use Rattle.lps_terms.specs.declared.text.Text.{Text}
use Rattle.lps_meaning.specs.declared.node.Left.{Left}
use Rattle.lps_meaning.specs.declared.node.LeftItem.{LeftItem}
use Rattle.lps_meaning.specs.declared.node.LeftItem.TheVariants as l
use Rattle.lps_meaning.specs.declared.node.Node.{Node}
use Rattle.lps_meaning.specs.declared.when.When.{When}
use Rattle.lps_windows.specs.declared.window.Window.{Window}
use Rattle.lps_windows.specs.Windows.{IsIn}
use Rattle.lps_residual.specs.declared.waking.Wake.{Wake}
use Rattle.lps_residual.specs.Moments.{IsWindowOf, MeetsNone}
use Rattle.lps_residual.specs.Waking.{IsDue, IsFound, IsToldBy, WakesAreOne, first_of, past}

-- the two windows have the same times
abbrev SameTimes : Window → Window → Type 0
SameTimes w v = (time : ℕ) → IsIn w time ↔ IsIn v time

-- a window with a last time has not all times of one with none
ends : (first from : ℕ) (last : ℕ) → ((time : ℕ) → ((first ≤ time) × ⊤) → ((from ≤ time) × (time ≤ last))) → ⊥
ends first from last into = absurd (let past = into (suc (max_of first last)) (omega (arith, above first last), tt) in omega (arith, past.1, above first last))
  where
    max_of : ℕ → ℕ → ℕ
    max_of a b = a + b

    above : (a b : ℕ) → (a ≤ max_of a b) × (b ≤ max_of a b)
    above a b = (omega arith, omega arith)

one_last : (first from : ℕ) (last until : Option ℕ) → MatchOption last ⊤ (λ n. first ≤ n) → MatchOption until ⊤ (λ n. from ≤ n) → ((time : ℕ) → ((first ≤ time) × MatchOption last ⊤ (λ n. time ≤ n)) ↔ ((from ≤ time) × MatchOption until ⊤ (λ n. time ≤ n))) → last ≡ until
one_last first from None None some other same = refl
one_last first from None (Some n) some other same = absurd (ends first from n (λ time. (same time).0))
one_last first from (Some n) None some other same = absurd (ends from first n (λ time. (same time).1))
one_last first from (Some n) (Some m) some other same = ap Some (le_antisymm ((same n).0 (some, omega arith)).1 ((same m).1 (other, omega arith)).1)

one_window : (w v : Window) → IsIn w w.first → IsIn v v.first → SameTimes w v → w ≡ v
one_window w v some other same =
    let first : w.first ≡ v.first = le_antisymm ((same v.first).1 other).0 ((same w.first).0 some).0 in
    let last : w.last ≡ v.last = one_last w.first v.first w.last v.last some.1 other.1 same in
    λ i. record { first = first i; last = last i }

-- there is no window where the conditions have no solution
none_and_window : (text : Text) (node : Node) (time : When) (v : Window) → MeetsNone text node → IsWindowOf text node time v → ⊥
none_and_window text node time v (inl large) window = large window.small
none_and_window text node time v (inr none) window = let found = (window.of_conditions.exact v.first).0 window.of_conditions.some in none found.0 found.1

-- what is found of the window of a time is one thing
one_found : (text : Text) (node : Node) (time : When) (found other : Option Window) → IsFound text node time found → IsFound text node time other → found ≡ other
one_found text node time None None is also = refl
one_found text node time None (Some v) is also = absurd (none_and_window text node time v is also)
one_found text node time (Some w) None is also = absurd (none_and_window text node time w also is)
one_found text node time (Some w) (Some v) is also =
    ap Some (one_window w v is.of_conditions.some also.of_conditions.some
    (λ at. (
      (λ in_w. (also.of_conditions.exact at).1 ((is.of_conditions.exact at).0 in_w)),
      (λ in_v. (is.of_conditions.exact at).1 ((also.of_conditions.exact at).0 in_v)),
    )))

one_due : (text : Text) (node : Node) (item : LeftItem) (due other : ℕ) → IsDue text node due item → IsDue text node other item → due ≡ other
one_due text node (l.At lit at) due other is also = is.2 ∙ ap first_of (one_found text node at is.0 also.0 is.1 also.1) ∙ sym also.2
one_due text node (l.Bare lit) due other is also = is ∙ sym also
one_due text node (l.Built built) due other is also = is ∙ sym also
one_due text node (l.Span a from to) due other is also = is.2 ∙ ap past (one_found text node from is.0 also.0 is.1 also.1) ∙ sym also.2

one_told : (text : Text) (node : Node) (wake other : Wake) (rest : List Left) → IsToldBy text node wake rest → IsToldBy text node other rest → (wake.awaited ≡ other.awaited) × (wake.due ≡ other.due)
one_told text node wake other [] is also = (is.0 ∙ sym also.0, is.1 ∙ sym also.1)
one_told text node wake other (first ∷ behind) is also = (is.0 ∙ sym also.0, one_due text node first.item wake.due other.due is.1 also.1)

pub wakes_are_one : WakesAreOne
wakes_are_one text node wake other ready is also =
    let same = one_told text node wake other node.rest is.told also.told in
    λ i. record { awaited = same.0 i; due = same.1 i }
