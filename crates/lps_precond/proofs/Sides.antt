-- The two sides of a denial of an accepted text: before the cut nothing is at the second time, and from there on nothing is at
-- the first one or happens.
use Rattle.std.proofs.Common.{ℕ, suc, Bool, true, false, not, ◌≡◌, List, [], ◌∷◌, take, drop, refl, sym, ap, subst, arith}
use Rattle.std.specs.Prelude.{◌&&◌, ◌||◌, ◌==◌, Option, Some, None, if◌then◌else◌}
use Rattle.std.specs.List.{AllByRecursion, list_all}
use Rattle.std.proofs.lemmas.Bool.Decides.{nat_tests}
use Rattle.lps_terms.specs.declared.item.Item.{Item}
use Rattle.lps_terms.specs.declared.item.Item.TheVariants as i
use Rattle.lps_terms.specs.declared.text.Text.{Text}
use Rattle.lps_model.specs.Formed.{is_no_constraint}
use Rattle.lps_model.specs.Order.{happens, may_all_stand, may_stand_between, span_in, stands_at}
use Rattle.lps_model.specs.Rules.{kind_of}
use Rattle.lps_causal.proofs.Happening.{is_condition, is_timeless}
use Rattle.lps_solve.proofs.Grounds.{first_of_two, second_of}
use Rattle.lps_precond.specs.Cut.{back_of, count_early, front_of, second_in}
use Rattle.lps_precond.proofs.Stated.{HasKinds, IsDenial}

-- an item before the cut
abbrev pub IsEarly : Text → ℕ → ℕ → Item → Type 0
IsEarly text first second (i.At l time) = (time.0 ≡ first) × (is_condition (kind_of text l.atom.name) ≡ true)
IsEarly text first second (i.Bare l) = is_timeless (kind_of text l.atom.name) ≡ true
IsEarly text first second (i.Built built) = Unit {0}
IsEarly text first second (i.Span a from to) = (from.0 ≡ first) × (to.0 ≡ second) × (happens (kind_of text a.name) ≡ true)
IsEarly text first second (i.Con con) = ⊥

-- an item from the cut on
abbrev pub IsLate : Text → ℕ → Item → Type 0
IsLate text second (i.At l time) = (time.0 ≡ second) × (is_condition (kind_of text l.atom.name) ≡ true)
IsLate text second (i.Bare l) = is_timeless (kind_of text l.atom.name) ≡ true
IsLate text second (i.Built built) = Unit {0}
IsLate text second (i.Span a from to) = ⊥
IsLate text second (i.Con con) = ⊥

same_number : (m n : ℕ) → (m == n) ≡ true → m ≡ n
same_number m n h = grind (arith, nat_tests)

-- ---- tests

only_first : (one other : Bool) → ((one && not false) || other) ≡ true → other ≡ false → one ≡ true
only_first true other h e = refl
only_first false true h e = absurd (cc)
only_first false false h e = absurd (cc)

only_second : (one other : Bool) → ((one && not true) || other) ≡ true → other ≡ true
only_second true other h = h
only_second false other h = h

no_longer : (one : Bool) → (one && not true) ≡ true → ⊥
no_longer true h = cc
no_longer false h = cc

still : (one : Bool) → (one && not false) ≡ true → one ≡ true
still true h = refl
still false h = absurd (cc)

module _ (text : Text) (first second : ℕ) where
  early_item : (item : Item) → may_stand_between first second false item ≡ true → stands_at second item ≡ false → HasKinds text item → is_no_constraint item ≡ true → IsEarly text first second item
  early_item (i.At l time) stand early kind plain = (same_number time.0 first (only_first (time.0 == first) (time.0 == second) stand early), kind)
  early_item (i.Bare l) stand early kind plain = kind
  early_item (i.Built built) stand early kind plain = tt
  early_item (i.Span a from to) stand early kind plain =
      let both = still (from.0 == first && to.0 == second) stand in
      (same_number from.0 first (first_of_two (from.0 == first) (to.0 == second) both), same_number to.0 second (second_of (from.0 == first) (to.0 == second) both), kind)
  early_item (i.Con con) stand early kind plain = absurd (cc)

  late_item : (item : Item) → may_stand_between first second true item ≡ true → HasKinds text item → is_no_constraint item ≡ true → IsLate text second item
  late_item (i.At l time) stand kind plain = (same_number time.0 second (only_second (time.0 == first) (time.0 == second) stand), kind)
  late_item (i.Bare l) stand kind plain = kind
  late_item (i.Built built) stand kind plain = tt
  late_item (i.Span a from to) stand kind plain = no_longer (from.0 == first && to.0 == second) stand
  late_item (i.Con con) stand kind plain = absurd (cc)

  first_late : (item : Item) → stands_at second item ≡ true → HasKinds text item → IsLate text second item
  first_late (i.At l time) late kind = (same_number time.0 second late, kind)
  first_late (i.Bare l) late kind = absurd (cc)
  first_late (i.Built built) late kind = absurd (cc)
  first_late (i.Span a from to) late kind = absurd (cc)
  first_late (i.Con con) late kind = absurd (cc)

  all_late : (items : List Item) → may_all_stand first second true items ≡ true → AllByRecursion (HasKinds text) items → list_all is_no_constraint items ≡ true → AllByRecursion (IsLate text second) items
  all_late [] stand kinds plain = tt
  all_late (item ∷ items) stand kinds plain = (
    late_item item (first_of_two (may_stand_between first second true item) (may_all_stand first second true items) stand) kinds.0 (first_of_two (is_no_constraint item) (list_all is_no_constraint items) plain),
    all_late items (second_of (may_stand_between first second true item) (may_all_stand first second true items) stand) kinds.1 (second_of (is_no_constraint item) (list_all is_no_constraint items) plain),
  )

  module _ (item : Item) (items : List Item) (stand : may_all_stand first second false (item ∷ items) ≡ true) (kinds : AllByRecursion (HasKinds text) (item ∷ items))
      (plain : list_all is_no_constraint (item ∷ items) ≡ true) where
    here : may_stand_between first second false item ≡ true
    here = first_of_two (may_stand_between first second false item) (may_all_stand first second (false || stands_at second item) items) stand

    there : (late : Bool) → stands_at second item ≡ late → may_all_stand first second late items ≡ true
    there late is =
        subst (λ now. may_all_stand first second (false || now) items ≡ true) is
        (second_of (may_stand_between first second false item) (may_all_stand first second (false || stands_at second item) items) stand)

    early_by : (late : Bool) → stands_at second item ≡ late →
        (may_all_stand first second false items ≡ true → AllByRecursion (IsEarly text first second) (take (count_early (Some second) items) items)) →
        AllByRecursion (IsEarly text first second) (take (if late then 0 else suc (count_early (Some second) items)) (item ∷ items))
    early_by true is rest = tt
    early_by false is rest = (early_item item here is kinds.0 (first_of_two (is_no_constraint item) (list_all is_no_constraint items) plain), rest (there false is))

    late_by : (late : Bool) → stands_at second item ≡ late →
        (may_all_stand first second false items ≡ true → AllByRecursion (IsLate text second) (drop (count_early (Some second) items) items)) →
        AllByRecursion (IsLate text second) (drop (if late then 0 else suc (count_early (Some second) items)) (item ∷ items))
    late_by true is rest = (first_late item is kinds.0, all_late items (there true is) kinds.1 (second_of (is_no_constraint item) (list_all is_no_constraint items) plain))
    late_by false is rest = rest (there false is)

  early_side : (items : List Item) → may_all_stand first second false items ≡ true → AllByRecursion (HasKinds text) items → list_all is_no_constraint items ≡ true →
      AllByRecursion (IsEarly text first second) (take (count_early (Some second) items) items)
  early_side [] stand kinds plain = tt
  early_side (item ∷ items) stand kinds plain =
      early_by item items stand kinds plain (stands_at second item) refl
      (λ later. early_side items later kinds.1 (second_of (is_no_constraint item) (list_all is_no_constraint items) plain))

  late_side : (items : List Item) → may_all_stand first second false items ≡ true → AllByRecursion (HasKinds text) items → list_all is_no_constraint items ≡ true →
      AllByRecursion (IsLate text second) (drop (count_early (Some second) items) items)
  late_side [] stand kinds plain = tt
  late_side (item ∷ items) stand kinds plain =
      late_by item items stand kinds plain (stands_at second item) refl
      (λ later. late_side items later kinds.1 (second_of (is_no_constraint item) (list_all is_no_constraint items) plain))

second_is : (first second : ℕ) (items : List Item) → span_in items ≡ Some (first, second) → second_in items ≡ Some second
second_is first second [] e = absurd (cc)
second_is first second (i.Span a from to ∷ items) e = ap time_of e
  where
    time_of : Option (ℕ × ℕ) → Option ℕ
    time_of None = None
    time_of (Some times) = Some times.1
second_is first second (i.At l time ∷ items) e = second_is first second items e
second_is first second (i.Bare l ∷ items) e = second_is first second items e
second_is first second (i.Built built ∷ items) e = second_is first second items e
second_is first second (i.Con con ∷ items) e = second_is first second items e

module _ (text : Text) (items : List Item) (denial : IsDenial text items) where
  at_second : second_in items ≡ Some denial.second
  at_second = second_is denial.first denial.second items denial.span

  pub front_is_early : AllByRecursion (IsEarly text denial.first denial.second) (front_of items)
  front_is_early =
      subst (λ second. AllByRecursion (IsEarly text denial.first denial.second) (take (count_early second items) items)) (sym at_second)
      (early_side text denial.first denial.second items denial.stand denial.kinds denial.plain)

  pub back_is_late : AllByRecursion (IsLate text denial.second) (back_of items)
  back_is_late =
      subst (λ second. AllByRecursion (IsLate text denial.second) (drop (count_early second items) items)) (sym at_second)
      (late_side text denial.first denial.second items denial.stand denial.kinds denial.plain)
