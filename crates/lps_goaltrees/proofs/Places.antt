-- Goals by number: where the one with a number is, and what a change of it makes of all.
use Rattle.std.proofs.Common.{◌≡◌, ◌<◌, ◌≤◌, ◌+◌, ◌∙◌, ℕ, zero, suc, Bool, true, false, cond, List, [], ◌∷◌, map, length, get_or, set, refl, sym, ap, subst, inl, inr, arith, nat_lt, Result, Ok, Err}
use Rattle.std.specs.Prelude.{◌==◌, ◌⊎◌, Contains, MatchOption, Option, Some, None}
use Rattle.std.specs.List.{AllByRecursion, HoldsAt, cons_option, filter_map}
use Rattle.std.specs.List.Sorted.{IsBinarySearchResult, IsSearchInRange, IsSortedBy, IsStrictlySortedBy}
use Rattle.std.specs.Ordering.{is_lt, nat_cmp}
use Rattle.std.specs.Result.{result_ok}
use Rattle.std.specs.declared.cmp.Ordering.TheVariants.{Less, Greater}
use Rattle.std.specs.Cmp.{nat_cmp_total}
use Rattle.std.proofs.lemmas.Bool.Decides.{nat_tests}
use Rattle.std.proofs.lemmas.List.Sorted.{searchable_from_sorted}
use Rattle.lps_model.proofs.Elements.{first_is_contained, first_or_later, later_is_contained, nothing_contained}
use Rattle.lps_goaltrees.specs.declared.goal.Goal.{Goal}
use Rattle.lps_goaltrees.specs.declared.slot.Change.{Change}
use Rattle.lps_goaltrees.specs.declared.slot.Slot.{Slot}
use Rattle.lps_goaltrees.specs.declared.slot.Which.{Which}
use Rattle.lps_goaltrees.specs.Slots.{AreRising, changed_at, changed_by, dropped_by, version, version_at}
use Rattle.lps_goaltrees.proofs.Lists.{some_none}

-- ---- numbers

pub is_itself : (x y : ℕ) → x ≡ y → (x == y) ≡ true
is_itself x y same = grind (arith, nat_tests)

pub is_same_number : (x y : ℕ) → (x == y) ≡ true → x ≡ y
is_same_number x y same = grind (arith, nat_tests)

pub is_other_number : (x y : ℕ) → (x == y) ≡ false → x ≡ y → ⊥
is_other_number x y other same = grind (arith, nat_tests)

lower_differs : (x y : ℕ) → x < y → (x == y) ≡ false
lower_differs x y lt = grind (arith, nat_tests)

higher_differs : (x y : ℕ) → nat_cmp y x ≡ Less → (x == y) ≡ false
higher_differs x y less = grind (arith, nat_tests, less)

less_is : (x y : ℕ) → nat_cmp x y ≡ Less → x < y
less_is x y less = grind (arith, nat_tests, less)

-- ---- rising numbers

all_higher : (x : ℕ) (slots : List Slot) → AllByRecursion (λ slot. nat_cmp x slot.number ≡ Less) slots → (i : ℕ) (d : Slot) → i < length slots → x < (get_or slots i d).number
all_higher x [] h i d lt = absurd (omega arith)
all_higher x (slot ∷ slots) h zero d lt = less_is x slot.number h.0
all_higher x (slot ∷ slots) h (suc i) d lt = all_higher x slots h.1 i d (omega arith)

pub higher_contained : (x : ℕ) (slots : List Slot) → AllByRecursion (λ slot. nat_cmp x slot.number ≡ Less) slots → (slot : Slot) → Contains slots slot → x < slot.number
higher_contained x [] h slot there = absurd (nothing_contained slot there)
higher_contained x (first ∷ slots) h slot there = elim (first_or_later first slots slot there) [
  | inl e ↦ subst (λ (s : Slot). x < s.number) e (less_is x first.number h.0)
  | inr later ↦ higher_contained x slots h.1 slot later
]

lower_before : (slots : List Slot) → AreRising slots → (i j : ℕ) (d : Slot) → i < j → j < length slots → (get_or slots i d).number < (get_or slots j d).number
unfolding IsStrictlySortedBy
lower_before [] rising i j d before lt = absurd (omega arith)
lower_before (slot ∷ slots) rising zero zero d before lt = absurd (omega arith)
lower_before (slot ∷ slots) rising zero (suc j) d before lt = all_higher slot.number slots rising.0 j d (omega arith)
lower_before (slot ∷ slots) rising (suc i) zero d before lt = absurd (omega arith)
lower_before (slot ∷ slots) rising (suc i) (suc j) d before lt = lower_before slots rising.1 i j d (omega arith) (omega arith)

-- ---- the place of a number

-- the slot is at the place
record IsAt (slots : List Slot) (slot : Slot) (place : ℕ) : Type 0 where
  within : place < length slots
  at : (d : Slot) → get_or slots place d ≡ slot

place_in : (slots : List Slot) (slot : Slot) → Contains slots slot → (place : ℕ) × IsAt slots slot place
place_in [] slot among = absurd (nothing_contained slot among)
place_in (first ∷ slots) slot among =
    elim (first_or_later first slots slot among) [
      | inl same ↦ (0, record { within = omega arith; at = λ d. same })
      | inr later ↦ let h = place_in slots slot later in (suc h.0, record { within = omega (arith, h.1.within); at = λ d. h.1.at d })
    ]

module _ (slots : List Slot) (rising : AreRising slots) (number : ℕ) where
  rises : IsSortedBy (λ a b. is_lt (nat_cmp a.number b.number)) slots
  rises = λ k d low lt. let less = lower_before slots rising k (k + 1) d (omega arith) lt in grind (arith, nat_tests, less)

  pub found_place : (r : Result ℕ ℕ) → IsSearchInRange r (length slots) → IsBinarySearchResult (λ slot. nat_cmp slot.number number) slots r →
      MatchOption (result_ok r) ((slot : Slot) → Contains slots slot → slot.number ≡ number → ⊥) (λ place. (place < length slots) × HoldsAt (λ slot. slot.number ≡ number) slots place)
  found_place (Ok i) range equal = (range, λ d. let same = equal d in grind (arith, nat_tests, same))
  found_place (Err i) range parted = λ slot among is.
      let parts = parted (searchable_from_sorted nat_cmp_total (λ (slot : Slot). slot.number) slots number rises) in
      let h = place_in slots slot among in
      let same : (get_or slots h.0 slot).number ≡ number = ap (λ (s : Slot). s.number) (h.1.at slot) ∙ is in
      apart i h.0 slot h.1.within same parts.0 parts.1 (nat_lt h.0 i) refl
    where
      apart : (i k : ℕ) (d : Slot) → k < length slots → (get_or slots k d).number ≡ number → ((k : ℕ) (d : Slot) → 0 ≤ k → k < i → nat_cmp (get_or slots k d).number number ≡ Less) →
          ((k : ℕ) (d : Slot) → i ≤ k → k < length slots → nat_cmp (get_or slots k d).number number ≡ Greater) → (first : Bool) → nat_lt k i ≡ first → ⊥
      apart i k d lt same below above true e = let less = below k d (omega arith) (grind (arith, nat_tests)) in grind (arith, nat_tests, less, same)
      apart i k d lt same below above false e = let more = above k d (grind (arith, nat_tests)) lt in grind (arith, nat_tests, more, same)

-- ---- what is at the place

-- the number of the first one is lower than that of one behind it
first_lower : (x : Slot) (slots : List Slot) (number i : ℕ) (slot : Slot) → AreRising (x ∷ slots) → i < length slots → slot ≡ get_or slots i slot → slot.number ≡ number → x.number < number
unfolding IsStrictlySortedBy
first_lower x slots number i slot rising lt at same = omega (arith, all_higher x.number slots rising.0 i slot lt, ap (λ (s : Slot). s.number) at, same)

pub version_there : (which : Which) (slots : List Slot) → AreRising slots → (number i : ℕ) (slot : Slot) → i < length slots → slot ≡ get_or slots i slot → slot.number ≡ number →
    version_at which slots number ≡ version which slot.versions
unfolding IsStrictlySortedBy
version_there which [] rising number i slot lt at same = absurd (omega arith)
version_there which (x ∷ slots) rising number zero slot lt at same =
    ap (λ (test : Bool). cond test (version which x.versions) (version_at which slots number)) (is_itself x.number number (ap (λ (s : Slot). s.number) (sym at) ∙ same))
    ∙ ap (λ (s : Slot). version which s.versions) (sym at)
version_there which (x ∷ slots) rising number (suc i) slot lt at same =
    ap (λ (test : Bool). cond test (version which x.versions) (version_at which slots number)) (lower_differs x.number number (first_lower x slots number i slot rising (omega arith) at same))
    ∙ version_there which slots rising.1 number i slot (omega arith) at same

pub version_of : (which : Which) (slots : List Slot) → AreRising slots → (slot : Slot) → Contains slots slot → version_at which slots slot.number ≡ version which slot.versions
version_of which slots rising slot there = let at = place_in slots slot there in version_there which slots rising slot.number at.0 slot at.1.within (sym (at.1.at slot)) refl

pub no_version : (which : Which) (slots : List Slot) (number : ℕ) → ((slot : Slot) → Contains slots slot → slot.number ≡ number → ⊥) → version_at which slots number ≡ None
no_version which [] number none = refl
no_version which (x ∷ slots) number none =
    by (x.number == number) refl (no_version which slots number (λ slot there. none slot (later_is_contained x slots slot there)))
  where
    by : (b : Bool) → (x.number == number) ≡ b → version_at which slots number ≡ None → cond b (version which x.versions) (version_at which slots number) ≡ None
    by true same rest = absurd (none x (first_is_contained x slots) (is_same_number x.number number same))
    by false other rest = rest

pub of_version : (which : Which) (slots : List Slot) (number : ℕ) (goal : Goal) → version_at which slots number ≡ Some goal →
    (slot : Slot) × Contains slots slot × (slot.number ≡ number) × (version which slot.versions ≡ Some goal)
of_version which [] number goal is = absurd (some_none (sym is))
of_version which (x ∷ slots) number goal is = by (of_version which slots number goal) (x.number == number) refl is
  where
    by : (version_at which slots number ≡ Some goal → (slot : Slot) × Contains slots slot × (slot.number ≡ number) × (version which slot.versions ≡ Some goal)) →
        (b : Bool) → (x.number == number) ≡ b → cond b (version which x.versions) (version_at which slots number) ≡ Some goal →
        (slot : Slot) × Contains (x ∷ slots) slot × (slot.number ≡ number) × (version which slot.versions ≡ Some goal)
    by rest true same is = (x, first_is_contained x slots, is_same_number x.number number same, is)
    by rest false other is = let m = rest is in (m.0, later_is_contained x slots m.0 m.1, m.2, m.3)

-- the goal with a number stays the same where it does in each slot
pub version_mapped : (which : Which) (f : Slot → Slot) (slots : List Slot) → ((slot : Slot) → (f slot).number ≡ slot.number) → ((slot : Slot) → version which (f slot).versions ≡ version which slot.versions) →
    (number : ℕ) → version_at which (map f slots) number ≡ version_at which slots number
version_mapped which f [] numbers versions number = refl
version_mapped which f (slot ∷ slots) numbers versions number =
    let rest = version_mapped which f slots numbers versions number in λ i. cond (numbers slot i == number) (versions slot i) (rest i)

-- ---- a change

abbrev pub changed_slot : Change → Slot → Slot
changed_slot change slot = record { number = slot.number; versions = changed_by change slot.versions; dropped = dropped_by change slot }

pub changed_here : (change : Change) (number : ℕ) (slot : Slot) → (slot.number == number) ≡ true → changed_at change number slot ≡ changed_slot change slot
changed_here change number slot same = ap (λ (test : Bool). cond test (changed_slot change slot) slot) same

pub changed_elsewhere : (change : Change) (number : ℕ) (slot : Slot) → (slot.number == number) ≡ false → changed_at change number slot ≡ slot
changed_elsewhere change number slot other = ap (λ (test : Bool). cond test (changed_slot change slot) slot) other

-- the slot is changed, or is another one
pub here_or_elsewhere : (change : Change) (number : ℕ) (slot : Slot) →
    ((slot.number ≡ number) × (changed_at change number slot ≡ changed_slot change slot)) ⊎ ((slot.number ≡ number → ⊥) × (changed_at change number slot ≡ slot))
here_or_elsewhere change number slot = by (slot.number == number) refl
  where
    by : (b : Bool) → (slot.number == number) ≡ b →
        ((slot.number ≡ number) × (changed_at change number slot ≡ changed_slot change slot)) ⊎ ((slot.number ≡ number → ⊥) × (changed_at change number slot ≡ slot))
    by true same = inl (is_same_number slot.number number same, changed_here change number slot same)
    by false other = inr (is_other_number slot.number number other, changed_elsewhere change number slot other)

pub same_number : (change : Change) (number : ℕ) (slot : Slot) → (changed_at change number slot).number ≡ slot.number
same_number change number slot = elim (here_or_elsewhere change number slot) [
  | inl here ↦ ap (λ (s : Slot). s.number) here.1
  | inr elsewhere ↦ ap (λ (s : Slot). s.number) elsewhere.1
]

none_changed : (change : Change) (number : ℕ) (slots : List Slot) → AllByRecursion (λ slot. nat_cmp number slot.number ≡ Less) slots → map (changed_at change number) slots ≡ slots
none_changed change number [] higher = refl
none_changed change number (x ∷ slots) higher =
    let first = changed_elsewhere change number x (higher_differs x.number number higher.0) in
    let rest = none_changed change number slots higher.1 in λ i. first i ∷ rest i

pub none_there : (change : Change) (number : ℕ) (slots : List Slot) → ((slot : Slot) → Contains slots slot → slot.number ≡ number → ⊥) → map (changed_at change number) slots ≡ slots
none_there change number [] none = refl
none_there change number (x ∷ slots) none =
    let first : changed_at change number x ≡ x = elim (here_or_elsewhere change number x) [
      | inl here ↦ absurd (none x (first_is_contained x slots) here.0)
      | inr elsewhere ↦ elsewhere.1
    ] in
    let rest = none_there change number slots (λ slot there. none slot (later_is_contained x slots slot there)) in λ i. first i ∷ rest i

pub set_is : (change : Change) (slots : List Slot) → AreRising slots → (number i : ℕ) (slot : Slot) → i < length slots → slot ≡ get_or slots i slot → slot.number ≡ number →
    set slots i (changed_slot change slot) ≡ map (changed_at change number) slots
unfolding IsStrictlySortedBy
set_is change [] rising number i slot lt at same = absurd (omega arith)
set_is change (x ∷ slots) rising number zero slot lt at same =
    let is : x.number ≡ number = ap (λ (s : Slot). s.number) (sym at) ∙ same in
    let first : changed_slot change slot ≡ changed_at change number x = ap (changed_slot change) at ∙ sym (changed_here change number x (is_itself x.number number is)) in
    let rest = none_changed change number slots (subst (λ n. AllByRecursion (λ (y : Slot). nat_cmp n y.number ≡ Less) slots) is rising.0) in λ j. first j ∷ sym rest j
set_is change (x ∷ slots) rising number (suc i) slot lt at same =
    let first = changed_elsewhere change number x (lower_differs x.number number (first_lower x slots number i slot rising (omega arith) at same)) in
    let rest = set_is change slots rising.1 number i slot (omega arith) at same in λ j. sym first j ∷ rest j

-- ---- each slot on its own

module _ (f : Slot → Slot) (same : (slot : Slot) → (f slot).number ≡ slot.number) where
  above_mapped : (n : ℕ) (slots : List Slot) → AllByRecursion (λ slot. nat_cmp n slot.number ≡ Less) slots → AllByRecursion (λ slot. nat_cmp n slot.number ≡ Less) (map f slots)
  above_mapped n [] all = tt
  above_mapped n (x ∷ slots) all = (subst (λ k. nat_cmp n k ≡ Less) (sym (same x)) all.0, above_mapped n slots all.1)

  pub rising_mapped : (slots : List Slot) → AreRising slots → AreRising (map f slots)
  unfolding IsStrictlySortedBy
  rising_mapped [] rising = tt
  rising_mapped (x ∷ slots) rising =
      (subst (λ k. AllByRecursion (λ (y : Slot). nat_cmp k y.number ≡ Less) (map f slots)) (sym (same x)) (above_mapped x.number slots rising.0), rising_mapped slots rising.1)

pub of_mapped : {X Y : Type 0} (f : X → Y) (xs : List X) (y : Y) → Contains (map f xs) y → (x : X) × Contains xs x × (f x ≡ y)
of_mapped f [] y there = absurd (nothing_contained y there)
of_mapped f (x ∷ xs) y there = elim (first_or_later (f x) (map f xs) y there) [
  | inl e ↦ (x, first_is_contained x xs, e)
  | inr later ↦ let m = of_mapped f xs y later in (m.0, later_is_contained x xs m.0 m.1, m.2)
]

-- what is chosen stays the same where it does for each
pub chosen_mapped : {X Y : Type 0} (h : X → Option Y) (f : X → X) (xs : List X) → ((x : X) → Contains xs x → h (f x) ≡ h x) → filter_map h (map f xs) ≡ filter_map h xs
chosen_mapped h f [] same = refl
chosen_mapped h f (x ∷ xs) same =
    let rest = chosen_mapped h f xs (λ y there. same y (later_is_contained x xs y there)) in λ i. cons_option (same x (first_is_contained x xs) i) (rest i)

pub chosen_alike : {X Y : Type 0} (h k : X → Option Y) (xs : List X) → ((x : X) → Contains xs x → h x ≡ k x) → filter_map h xs ≡ filter_map k xs
chosen_alike h k [] same = refl
chosen_alike h k (x ∷ xs) same =
    let rest = chosen_alike h k xs (λ y there. same y (later_is_contained x xs y there)) in λ i. cons_option (same x (first_is_contained x xs) i) (rest i)
