-- The candidates by rising number: where the one of a goal is, what it proposes, and whether it has a pick.
use Rattle.std.proofs.Common.{◌≡◌, ◌<◌, ◌≤◌, ◌+◌, ◌++◌, ◌∙◌, ℕ, zero, suc, Bool, true, false, List, [], ◌∷◌, map, length, get_or, set, take, refl, sym, ap, subst, inl, inr, arith, nat_lt, Result, Ok, Err}
use Rattle.std.specs.Prelude.{◌==◌, Contains, MatchOption, if◌then◌else◌}
use Rattle.std.specs.List.{AllByRecursion, AllZip, HoldsAt}
use Rattle.std.specs.List.Sorted.{IsBinarySearchResult, IsSearchInRange, IsSortedBy, IsStrictlySortedBy}
use Rattle.std.specs.Ordering.{is_lt, nat_cmp, on}
use Rattle.std.specs.Result.{result_ok}
use Rattle.std.specs.declared.cmp.Ordering.TheVariants.{Less, Greater}
use Rattle.std.proofs.lemmas.Bool.Decides.{nat_tests}
use Rattle.std.proofs.lemmas.List.Sorted.{searchable_from_sorted}
use Rattle.std.specs.Cmp.{nat_cmp_total}
use Rattle.lps_model.proofs.Elements.{first_or_later, nothing_contained}
use Rattle.lps_meaning.specs.declared.goal.GoalId.{GoalId}
use Rattle.lps_goaltrees.specs.declared.asked.Asked.{Asked}
use Rattle.lps_goaltrees.specs.declared.goal.Goal.{Goal}
use Rattle.lps_goaltrees.specs.Offers.{IsAskedOf}
use Rattle.lps_cycle.specs.declared.candidates.Candidate.{Candidate}
use Rattle.lps_cycle.specs.Candidates.{AreAsked, AreRising, IsAsked, groups_of, is_picked_among, number_of, numbers_of, proposers_of, unpicked, with_pick, with_picks}
use Rattle.lps_terms.specs.declared.text.Text.{Text}

-- ---- rising numbers

-- the numbers of later ones are higher
all_higher : (x : ℕ) (cs : List Candidate) → AllByRecursion (λ y. nat_cmp x y ≡ Less) (numbers_of cs) → (i : ℕ) (d : Candidate) → i < length cs → x < number_of (get_or cs i d)
all_higher x [] h i d lt = absurd (omega arith)
all_higher x (c ∷ cs) h zero d lt = grind (arith, nat_tests, h.0)
all_higher x (c ∷ cs) h (suc i) d lt = all_higher x cs h.1 i d (omega arith)

lower_before : (cs : List Candidate) → AreRising cs → (i j : ℕ) (d : Candidate) → i < j → j < length cs → number_of (get_or cs i d) < number_of (get_or cs j d)
unfolding IsStrictlySortedBy
lower_before [] rising i j d before lt = absurd (omega arith)
lower_before (c ∷ cs) rising zero zero d before lt = absurd (omega arith)
lower_before (c ∷ cs) rising zero (suc j) d before lt = all_higher (number_of c) cs rising.0 j d (omega arith)
lower_before (c ∷ cs) rising (suc i) zero d before lt = absurd (omega arith)
lower_before (c ∷ cs) rising (suc i) (suc j) d before lt = lower_before cs rising.1 i j d (omega arith) (omega arith)

-- ---- the place of a goal

-- the candidate of the goal is at the place
record IsAt (cs : List Candidate) (goal : ℕ) (place : ℕ) (c : Candidate) : Type 0 where
  within : place < length cs
  at : (d : Candidate) → get_or cs place d ≡ c
  number : number_of c ≡ goal

place_in : (cs : List Candidate) (goal : ℕ) → Contains (numbers_of cs) goal → (place : ℕ) × (c : Candidate) × IsAt cs goal place c
place_in [] goal among = absurd (nothing_contained goal among)
place_in (c ∷ cs) goal among =
    elim (first_or_later (number_of c) (numbers_of cs) goal among) [
      | inl same ↦ (0, c, record { within = omega arith; at = λ d. refl; number = same })
      | inr later ↦ let h = place_in cs goal later in (suc h.0, h.1, record { within = omega (arith, h.2.within); at = λ d. h.2.at d; number = h.2.number })
    ]

module _ (cs : List Candidate) (rising : AreRising cs) (goal : ℕ) where
  rises : IsSortedBy (λ a b. is_lt (nat_cmp (number_of a) (number_of b))) cs
  rises = λ k d low lt. let less = lower_before cs rising k (k + 1) d (omega arith) lt in grind (arith, nat_tests, less)

  pub found_place : (r : Result ℕ ℕ) → IsSearchInRange r (length cs) → IsBinarySearchResult (λ c. nat_cmp (number_of c) goal) cs r →
      MatchOption (result_ok r) (Contains (numbers_of cs) goal → ⊥) (λ place. (place < length cs) × HoldsAt (λ c. number_of c ≡ goal) cs place)
  found_place (Ok i) range equal = (range, λ d. let same = equal d in grind (arith, nat_tests, same))
  found_place (Err i) range parted = λ among.
      let parts = parted (searchable_from_sorted nat_cmp_total number_of cs goal rises) in
      let h = place_in cs goal among in
      let same : number_of (get_or cs h.0 h.1) ≡ goal = ap number_of (h.2.at h.1) ∙ h.2.number in
      apart i h.0 h.1 h.2.within same parts.0 parts.1 (nat_lt h.0 i) refl
    where
      apart : (i k : ℕ) (d : Candidate) → k < length cs → number_of (get_or cs k d) ≡ goal → ((k : ℕ) (d : Candidate) → 0 ≤ k → k < i → nat_cmp (number_of (get_or cs k d)) goal ≡ Less) →
          ((k : ℕ) (d : Candidate) → i ≤ k → k < length cs → nat_cmp (number_of (get_or cs k d)) goal ≡ Greater) → (first : Bool) → nat_lt k i ≡ first → ⊥
      apart i k d lt same below above true e = let less = below k d (omega arith) (grind (arith, nat_tests)) in grind (arith, nat_tests, less, same)
      apart i k d lt same below above false e = let more = above k d (grind (arith, nat_tests)) lt in grind (arith, nat_tests, more, same)

-- ---- what is at the place

-- a lower number is another one
lower_differs : (x y : ℕ) → x < y → (x == y) ≡ false
lower_differs x y lt = grind (arith, nat_tests)

is_itself : (x y : ℕ) → x ≡ y → (x == y) ≡ true
is_itself x y same = grind (arith, nat_tests)

-- the number of the first one is lower than that of one behind it
first_lower : (x : Candidate) (cs : List Candidate) (goal i : ℕ) (c : Candidate) → AreRising (x ∷ cs) → i < length cs → c ≡ get_or cs i c → number_of c ≡ goal → number_of x < goal
unfolding IsStrictlySortedBy
first_lower x cs goal i c rising lt at same = omega (arith, all_higher (number_of x) cs rising.0 i c lt, ap number_of at, same)

pub groups_at : (cs : List Candidate) → AreRising cs → (goal i : ℕ) (c : Candidate) → i < length cs → c ≡ get_or cs i c → number_of c ≡ goal → groups_of (proposers_of cs) goal ≡ c.proposals
unfolding IsStrictlySortedBy
groups_at [] rising goal i c lt at same = absurd (omega arith)
groups_at (x ∷ cs) rising goal zero c lt at same =
    ap (λ (test : Bool). if test then x.proposals else groups_of (proposers_of cs) goal) (is_itself (number_of x) goal (ap number_of (sym at) ∙ same)) ∙ ap (λ (c : Candidate). c.proposals) (sym at)
groups_at (x ∷ cs) rising goal (suc i) c lt at same =
    ap (λ (test : Bool). if test then x.proposals else groups_of (proposers_of cs) goal) (lower_differs (number_of x) goal (first_lower x cs goal i c rising (omega arith) at same))
    ∙ groups_at cs rising.1 goal i c (omega arith) at same

pub picked_at : (cs : List Candidate) → AreRising cs → (goal i : ℕ) (c : Candidate) → i < length cs → c ≡ get_or cs i c → number_of c ≡ goal → is_picked_among cs goal ≡ c.is_picked
unfolding IsStrictlySortedBy
picked_at [] rising goal i c lt at same = absurd (omega arith)
picked_at (x ∷ cs) rising goal zero c lt at same =
    ap (λ (test : Bool). if test then x.is_picked else is_picked_among cs goal) (is_itself (number_of x) goal (ap number_of (sym at) ∙ same)) ∙ ap (λ (c : Candidate). c.is_picked) (sym at)
picked_at (x ∷ cs) rising goal (suc i) c lt at same =
    ap (λ (test : Bool). if test then x.is_picked else is_picked_among cs goal) (lower_differs (number_of x) goal (first_lower x cs goal i c rising (omega arith) at same))
    ∙ picked_at cs rising.1 goal i c (omega arith) at same

-- ---- noting a pick

abbrev pub with_flag : Bool → Candidate → Candidate
with_flag flag c = record { goal = c.goal; proposals = c.proposals; is_picked = flag }

unnoted : (goal : ℕ) (x : Candidate) → (number_of x == goal) ≡ false → with_pick goal x ≡ x
unnoted goal x differs = ap (λ (test : Bool). with_flag (if test then true else x.is_picked) x) differs

noted : (goal : ℕ) (x : Candidate) → (number_of x == goal) ≡ true → with_pick goal x ≡ with_flag true x
noted goal x same = ap (λ (test : Bool). with_flag (if test then true else x.is_picked) x) same

none_noted : (goal : ℕ) (cs : List Candidate) → AllByRecursion (λ y. nat_cmp goal y ≡ Less) (numbers_of cs) → with_picks goal cs ≡ cs
none_noted goal [] higher = refl
none_noted goal (x ∷ cs) higher =
    let first = higher.0 in
    let differs : (number_of x == goal) ≡ false = grind (arith, nat_tests, first) in λ i. unnoted goal x differs i ∷ none_noted goal cs higher.1 i

pub set_is : (cs : List Candidate) → AreRising cs → (goal i : ℕ) (c : Candidate) → i < length cs → c ≡ get_or cs i c → number_of c ≡ goal → set cs i (with_flag true c) ≡ with_picks goal cs
unfolding IsStrictlySortedBy
set_is [] rising goal i c lt at same = absurd (omega arith)
set_is (x ∷ cs) rising goal zero c lt at same =
    let is : number_of x ≡ goal = ap number_of (sym at) ∙ same in
    let first : with_flag true c ≡ with_pick goal x = ap (with_flag true) at ∙ sym (noted goal x (is_itself (number_of x) goal is)) in
    let rest = none_noted goal cs (subst (λ (n : ℕ). AllByRecursion (λ y. nat_cmp n y ≡ Less) (numbers_of cs)) is rising.0) in λ j. first j ∷ sym rest j
set_is (x ∷ cs) rising goal (suc i) c lt at same =
    let first = unnoted goal x (lower_differs (number_of x) goal (first_lower x cs goal i c rising (omega arith) at same)) in
    let rest = set_is cs rising.1 goal i c (omega arith) at same in λ j. sym first j ∷ rest j

-- the goals stay the same
pub same_goals : (goal : ℕ) (cs : List Candidate) → map (λ (c : Candidate). c.goal) (with_picks goal cs) ≡ map (λ (c : Candidate). c.goal) cs
same_goals goal [] = refl
same_goals goal (c ∷ cs) = ap (λ (goals : List GoalId). c.goal ∷ goals) (same_goals goal cs)

pub same_numbers : (goal : ℕ) (cs : List Candidate) → numbers_of (with_picks goal cs) ≡ numbers_of cs
same_numbers goal [] = refl
same_numbers goal (c ∷ cs) = ap (λ (numbers : List ℕ). number_of c ∷ numbers) (same_numbers goal cs)

pub numbers_are : (cs : List Candidate) → map (λ (goal : GoalId). goal.0) (map (λ (c : Candidate). c.goal) cs) ≡ numbers_of cs
numbers_are [] = refl
numbers_are (c ∷ cs) = ap (λ (numbers : List ℕ). number_of c ∷ numbers) (numbers_are cs)

pub none_rise : AreRising []
unfolding IsStrictlySortedBy
none_rise = tt

-- ---- the goals that were asked

pub asked_unpicked : (text : Text) (time : ℕ) (goals : List Goal) (asked : List Asked) → AllZip (IsAskedOf text time) goals asked → AreAsked text time goals (map unpicked asked)
asked_unpicked text time [] [] all = tt
asked_unpicked text time [] (one ∷ asked) all = absurd all
asked_unpicked text time (goal ∷ goals) [] all = absurd all
asked_unpicked text time (goal ∷ goals) (one ∷ asked) all = (record { number = all.0.number; proposed = all.0.proposed; free = refl }, asked_unpicked text time goals asked all.1)

asked_higher : (text : Text) (time : ℕ) (x : ℕ) (goals : List Goal) (cs : List Candidate) → AreAsked text time goals cs → AllByRecursion (λ (goal : Goal). nat_cmp x goal.goal.0 ≡ Less) goals →
    AllByRecursion (λ y. nat_cmp x y ≡ Less) (numbers_of cs)
asked_higher text time x [] [] are h = tt
asked_higher text time x [] (c ∷ cs) are h = absurd are
asked_higher text time x (goal ∷ goals) [] are h = absurd are
asked_higher text time x (goal ∷ goals) (c ∷ cs) are h =
    (subst (λ (n : GoalId). nat_cmp x n.0 ≡ Less) (sym are.0.number) h.0, asked_higher text time x goals cs are.1 h.1)

pub asked_rise : (text : Text) (time : ℕ) (goals : List Goal) (cs : List Candidate) → AreAsked text time goals cs → IsStrictlySortedBy (on (λ (goal : Goal). goal.goal.0) nat_cmp) goals → AreRising cs
unfolding IsStrictlySortedBy
asked_rise text time [] [] are rising = tt
asked_rise text time [] (c ∷ cs) are rising = absurd are
asked_rise text time (goal ∷ goals) [] are rising = absurd are
asked_rise text time (goal ∷ goals) (c ∷ cs) are rising = (
  asked_higher text time (number_of c) goals cs are.1 (subst (λ (n : GoalId). AllByRecursion (λ (other : Goal). nat_cmp n.0 other.goal.0 ≡ Less) goals) (sym are.0.number) rising.0),
  asked_rise text time goals cs are.1 rising.1,
)
