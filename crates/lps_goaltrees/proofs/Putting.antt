-- What is kept of goals once some are added or advanced.
use Rattle.std.proofs.Common.{◌≡◌, ◌<◌, ◌∙◌, ℕ, suc, true, List, [], ◌∷◌, ◌++◌, map, refl, sym, ap, subst, inl, inr, arith}
use Rattle.std.specs.Prelude.{⊤, ◌⊎◌, Contains, MatchOption, Option, Some, None, option_copied}
use Rattle.std.specs.Borrow.{Bor}
use Rattle.std.specs.List.{AllByRecursion, AllZip, cons_option, filter_map}
use Rattle.std.specs.List.Sorted.{IsStrictlySortedBy}
use Rattle.std.proofs.lemmas.List.Elements.{filter_map-append}
use Rattle.lps_model.proofs.Elements.{first_is_contained, first_or_later, later_is_contained, nothing_contained}
use Rattle.lps_meaning.specs.declared.goal.GoalId.{GoalId}
use Rattle.lps_meaning.proofs.Lists.{of_each, of_element}
use Rattle.lps_residual.specs.declared.waking.Wake.{Wake}
use Rattle.lps_goaltrees.specs.declared.goal.Goal.{Goal}
use Rattle.lps_goaltrees.specs.declared.slot.Change.TheVariants as act
use Rattle.lps_goaltrees.specs.declared.slot.Slot.{Slot}
use Rattle.lps_goaltrees.specs.declared.slot.Which.{Which}
use Rattle.lps_goaltrees.specs.declared.slot.Which.TheVariants as w
use Rattle.lps_goaltrees.specs.declared.table.Table.{Table}
use Rattle.lps_goaltrees.specs.Pursued.{closed_as}
use Rattle.lps_goaltrees.specs.Slots.{ArePending, IsGoalOf, IsSame, IsStored, IsWoken, changed_at, goals_of, is_used, new_slot, version, version_at, with_goals}
use Rattle.lps_goaltrees.proofs.Lists.{among_pushed, of_chosen, of_zipped, rising_pushed, some_none, some_same, to_chosen, to_zipped}
use Rattle.lps_goaltrees.proofs.Places.{chosen_mapped, here_or_elsewhere, of_mapped, of_version, rising_mapped, same_number, version_of}
use Rattle.lps_goaltrees.proofs.Settling.{all_same, append_none, used_same}

-- ---- all is found that was

module _ (old new : Table) (more : (wake : Wake) (n : ℕ) → IsWoken old wake n → IsWoken new wake n) where
  pub still_found : (number : ℕ) (goal : Goal) → IsGoalOf old number goal → IsGoalOf new number goal
  still_found number goal is = record { numbered = is.numbered; woken = λ wake among. more wake number (is.woken wake among) }

  pub still_stored : (which : Which) (limit next : ℕ) (changed : List ℕ) (slots : List Slot) → IsStored which limit next old changed slots → IsStored which limit next new changed slots
  still_stored which limit next changed slots was = record {
    rising = was.rising;
    below = was.below;
    goals = λ slot there kind goal is. still_found slot.number goal (was.goals slot there kind goal is);
    noted = was.noted;
    kept = was.kept;
  }

-- more may be noted
pub more_noted : (which : Which) (limit next : ℕ) (table : Table) (changed more : List ℕ) (slots : List Slot) → ((n : ℕ) → Contains changed n → Contains more n) →
    IsStored which limit next table changed slots → IsStored which limit next table more slots
more_noted which limit next table changed more slots wider was = record {
  rising = was.rising;
  below = was.below;
  goals = was.goals;
  noted = λ slot there. elim (was.noted slot there) [
    | inl same ↦ inl same
    | inr among ↦ inr (wider slot.number among)
  ];
  kept = was.kept;
}

-- ---- no goal

pub stored_none : (limit next : ℕ) (table : Table) → IsStored w.Before limit next table [] []
unfolding IsStrictlySortedBy
stored_none limit next table = record {
  rising = tt;
  below = λ slot there. absurd (nothing_contained slot there);
  goals = λ slot there. absurd (nothing_contained slot there);
  noted = λ slot there. absurd (nothing_contained slot there);
  kept = λ slot there. absurd (nothing_contained slot there);
}

-- ---- other limits

-- where the goals are pending now, the other version can be kept
pub kept_now : {limit next : ℕ} {table : Table} {changed : List ℕ} (slots : List Slot) → ArePending slots → IsStored w.Before limit next table changed slots → IsStored w.Now next next table changed slots
kept_now slots pending was = record {
  rising = was.rising;
  below = was.below;
  goals = was.goals;
  noted = was.noted;
  kept = λ slot there goal is. (was.below slot there, pending slot there goal is);
}

-- each of the goals now is pending
pub pending_each : (slots : List Slot) → ArePending slots → (goal : Goal) → Contains (goals_of w.Now slots) goal → closed_as goal ≡ None
pending_each slots pending goal there = let m = of_chosen (λ (slot : Slot). version w.Now slot.versions) slots goal there in pending m.0 m.1 goal m.2

-- where nothing has changed, either version is kept
pub kept_either : {limit next : ℕ} {table : Table} (one two : Which) (slots : List Slot) → IsStored one limit next table [] slots → IsStored two limit next table [] slots
kept_either one two slots was = record {
  rising = was.rising;
  below = was.below;
  goals = was.goals;
  noted = was.noted;
  kept = λ slot there goal is. let s = all_same was slot there in was.kept slot there goal (ap (version one) s.1 ∙ sym (ap (version two) s.1) ∙ is);
}

pub pending_unchanged : {limit next : ℕ} {table : Table} (one : Which) (slots : List Slot) → IsStored one limit next table [] slots → ArePending slots
pending_unchanged one slots was slot there goal is = ((kept_either one w.Now slots was).kept slot there goal is).1

-- slots that are used are those of goals that are kept, and are below their limit
pub below_limit : {limit next : ℕ} {table : Table} (slots : List Slot) → ((slot : Slot) → Contains slots slot → is_used slot ≡ true) → IsStored w.Before limit next table [] slots →
    IsStored w.Before limit limit table [] slots
below_limit slots used was = record {
  rising = was.rising;
  below = λ slot there. let g = used_same slot (used slot there) (all_same was slot there) w.Before in (was.kept slot there g.0 g.1).0;
  goals = was.goals;
  noted = was.noted;
  kept = was.kept;
}

-- ---- a new goal

new_version : (kind : Which) (goal one : Goal) → version kind (new_slot goal).versions ≡ Some one → goal ≡ one
new_version w.Now goal one is = some_same is
new_version w.Before goal one is = absurd (some_none (sym is))

pub added : (limit next : ℕ) (table : Table) (changed more : List ℕ) (slots : List Slot) (goal : Goal) → goal.goal.0 ≡ next → IsGoalOf table goal.goal.0 goal →
    ((n : ℕ) → Contains changed n → Contains more n) → Contains more next → IsStored w.Before limit next table changed slots → IsStored w.Before limit (suc next) table more (slots ++ new_slot goal ∷ [])
added limit next table changed more slots goal number found wider there was =
    let cases : (slot : Slot) → Contains (slots ++ new_slot goal ∷ []) slot → Contains slots slot ⊎ (slot ≡ new_slot goal) = λ slot h. (among_pushed slots (new_slot goal) slot).0 h in
    record {
      rising = rising_pushed (λ (s : Slot). s.number) slots (new_slot goal) was.rising (λ slot h. subst (λ n. slot.number < n) (sym number) (was.below slot h));
      below = λ slot h. elim (cases slot h) [
        | inl old ↦ later slot.number (was.below slot old)
        | inr e ↦ subst (λ (s : Slot). s.number < suc next) (sym e) (subst (λ n. n < suc next) (sym number) (one_below next))
      ];
      goals = λ slot h kind one is. elim (cases slot h) [
        | inl old ↦ was.goals slot old kind one is
        | inr e ↦
            subst (λ (s : Slot). IsGoalOf table s.number one) (sym e)
            (subst (λ (g : Goal). IsGoalOf table goal.goal.0 g) (new_version kind goal one (ap (λ (s : Slot). version kind s.versions) (sym e) ∙ is)) found)
      ];
      noted = λ slot h. elim (cases slot h) [
        | inl old ↦ elim (was.noted slot old) [
          | inl same ↦ inl same
          | inr among ↦ inr (wider slot.number among)
        ]
        | inr e ↦ inr (subst (λ (s : Slot). Contains more s.number) (sym e) (subst (Contains more) (sym number) there))
      ];
      kept = λ slot h one is. elim (cases slot h) [
        | inl old ↦ was.kept slot old one is
        | inr e ↦ absurd (some_none (sym (ap (λ (s : Slot). version w.Before s.versions) (sym e) ∙ is)))
      ];
    }
  where
    later : (n : ℕ) → n < next → n < suc next
    later n lt = omega arith

    one_below : (n : ℕ) → n < suc n
    one_below n = omega arith

pub added_now : (slots : List Slot) (goal : Goal) → goals_of w.Now (slots ++ new_slot goal ∷ []) ≡ goals_of w.Now slots ++ goal ∷ []
added_now slots goal = filter_map-append (λ (slot : Slot). version w.Now slot.versions) slots (new_slot goal ∷ [])

pub added_before : (slots : List Slot) (goal : Goal) → goals_of w.Before (slots ++ new_slot goal ∷ []) ≡ goals_of w.Before slots
added_before slots goal = filter_map-append (λ (slot : Slot). version w.Before slot.versions) slots (new_slot goal ∷ []) ∙ append_none (goals_of w.Before slots)

-- ---- goals that are put in their places

-- the goal is put in the slot
record IsPutIn (goals : List Goal) (slot new : Slot) : Type 0 where
  goal : Goal
  among : Contains goals goal
  here : goal.goal.0 ≡ slot.number
  now : version w.Now new.versions ≡ Some goal

put_before : (goal : Goal) (number : ℕ) (slot : Slot) → version w.Before (changed_at (act.Put goal) number slot).versions ≡ version w.Before slot.versions
put_before goal number slot = elim (here_or_elsewhere (act.Put goal) number slot) [
  | inl here ↦ ap (λ (s : Slot). version w.Before s.versions) here.1
  | inr elsewhere ↦ ap (λ (s : Slot). version w.Before s.versions) elsewhere.1
]

pub with_number : (goals : List Goal) (slot : Slot) → (with_goals goals slot).number ≡ slot.number
with_number [] slot = refl
with_number (goal ∷ goals) slot = with_number goals (changed_at (act.Put goal) goal.goal.0 slot) ∙ same_number (act.Put goal) goal.goal.0 slot

with_before : (goals : List Goal) (slot : Slot) → version w.Before (with_goals goals slot).versions ≡ version w.Before slot.versions
with_before [] slot = refl
with_before (goal ∷ goals) slot = with_before goals (changed_at (act.Put goal) goal.goal.0 slot) ∙ put_before goal goal.goal.0 slot

-- a goal is put in a slot, or it stays
abbrev PutOrStays : List Goal → Slot → Type 0
PutOrStays goals slot = IsPutIn goals slot (with_goals goals slot) ⊎ ((with_goals goals slot ≡ slot) × ((goal : Goal) → Contains goals goal → goal.goal.0 ≡ slot.number → ⊥))

put_next : (first : Goal) (goals : List Goal) (slot : Slot) → PutOrStays goals (changed_at (act.Put first) first.goal.0 slot) → PutOrStays (first ∷ goals) slot
put_next first goals slot (inl put) =
    inl (record { goal = put.goal; among = later_is_contained first goals put.goal put.among; here = put.here ∙ same_number (act.Put first) first.goal.0 slot; now = put.now })
put_next first goals slot (inr stays) = elim (here_or_elsewhere (act.Put first) first.goal.0 slot) [
  | inl here ↦ inl (record { goal = first; among = first_is_contained first goals; here = sym here.0; now = ap (λ (s : Slot). version w.Now s.versions) (stays.0 ∙ here.1) })
  | inr elsewhere ↦ inr (
    stays.0 ∙ elsewhere.1,
    λ goal there is. elim (first_or_later first goals goal there) [
      | inl e ↦ elsewhere.0 (sym (ap (λ (g : Goal). g.goal.0) e ∙ is))
      | inr later ↦ stays.1 goal later (is ∙ sym (same_number (act.Put first) first.goal.0 slot))
    ],
  )
]

put_or_stays : (goals : List Goal) (slot : Slot) → PutOrStays goals slot
put_or_stays [] slot = inr (refl, λ goal there is. nothing_contained goal there)
put_or_stays (first ∷ goals) slot = put_next first goals slot (put_or_stays goals (changed_at (act.Put first) first.goal.0 slot))

-- the first goal is put, and then the others
pub put_first : (goal : Goal) (goals : List Goal) (slots : List Slot) → map (with_goals (goal ∷ goals)) slots ≡ map (with_goals goals) (map (changed_at (act.Put goal) goal.goal.0) slots)
put_first goal goals [] = refl
put_first goal goals (slot ∷ slots) = ap (λ others. with_goals (goal ∷ goals) slot ∷ others) (put_first goal goals slots)

pub put_none : (slots : List Slot) → map (with_goals []) slots ≡ slots
put_none [] = refl
put_none (slot ∷ slots) = ap (λ others. slot ∷ others) (put_none slots)

pub put_goals_before : (goals : List Goal) (slots : List Slot) → goals_of w.Before (map (with_goals goals) slots) ≡ goals_of w.Before slots
put_goals_before goals slots = chosen_mapped (λ (slot : Slot). version w.Before slot.versions) (with_goals goals) slots (λ slot there. with_before goals slot)

-- two goals where there are any
abbrev RelatedIn : (Goal → Goal → Type 0) → Option Goal → Option Goal → Type 0
RelatedIn R None None = ⊤
RelatedIn R None (Some two) = ⊥
RelatedIn R (Some one) None = ⊥
RelatedIn R (Some one) (Some two) = R one two

zip_mapped : (R : Goal → Goal → Type 0) (f : Slot → Slot) (slots : List Slot) → ((slot : Slot) → Contains slots slot → RelatedIn R (version w.Now slot.versions) (version w.Now (f slot).versions)) →
    AllZip R (goals_of w.Now slots) (goals_of w.Now (map f slots))
zip_mapped R f [] each = tt
zip_mapped R f (slot ∷ slots) each =
    both (version w.Now slot.versions) (version w.Now (f slot).versions) (each slot (first_is_contained slot slots)) (zip_mapped R f slots (λ s there. each s (later_is_contained slot slots s there)))
  where
    both : (one two : Option Goal) → RelatedIn R one two → AllZip R (goals_of w.Now slots) (goals_of w.Now (map f slots)) →
        AllZip R (cons_option one (goals_of w.Now slots)) (cons_option two (goals_of w.Now (map f slots)))
    both None None is rest = rest
    both None (Some two) is rest = absurd is
    both (Some one) None is rest = absurd is
    both (Some one) (Some two) is rest = (is, rest)

-- Some goals are led on to others with their numbers, and put in their places; each other goal is led on to itself.
module _ (R : Goal → Goal → Type 0) (same : (one two : Goal) → R one two → two.goal ≡ one.goal) (limit next : ℕ) (table : Table) (numbers : List ℕ) (slots : List Slot) (goals : List Goal)
    (was : IsStored w.Now limit next table [] slots) (led : AllZip R (filter_map (version_at w.Now slots) numbers) goals) where
  -- what is put in a slot is what its goal is led on to
  of_led : (goal : Goal) → Contains goals goal → (slot : Slot) → Contains slots slot → goal.goal.0 ≡ slot.number → Contains numbers slot.number × (old : Goal) × (version w.Now slot.versions ≡ Some old) × R old goal
  of_led goal there slot among here =
      let m = of_zipped R (filter_map (version_at w.Now slots) numbers) goals led goal there in
      let n = of_chosen (version_at w.Now slots) numbers m.0 m.1 in
      let s = of_version w.Now slots n.0 m.0 n.2 in
      let number : n.0 ≡ slot.number = sym s.2 ∙ sym (was.goals s.0 s.1 w.Now m.0 s.3).numbered ∙ sym (ap (λ n. n.0) (same m.0 goal m.2)) ∙ here in
      (subst (Contains numbers) number n.1, m.0, sym (version_of w.Now slots was.rising slot among) ∙ subst (λ n. version_at w.Now slots n ≡ Some m.0) number n.2, m.2)

  -- the goal of a slot with one of the numbers is led on
  to_led : (slot : Slot) → Contains slots slot → Contains numbers slot.number → (old : Goal) → version w.Now slot.versions ≡ Some old → (goal : Goal) × Contains goals goal × (goal.goal.0 ≡ slot.number)
  to_led slot among number old is =
      let m = to_zipped R (filter_map (version_at w.Now slots) numbers) goals led old (to_chosen (version_at w.Now slots) numbers slot.number old number (version_of w.Now slots was.rising slot among ∙ is)) in
      (m.0, m.1, ap (λ n. n.0) (same old m.0 m.2) ∙ (was.goals slot among w.Now old is).numbered)

  pub all_led : ((slot : Slot) → Contains slots slot → (old : Goal) → version w.Now slot.versions ≡ Some old → (Contains numbers slot.number → ⊥) → R old old) →
      AllZip R (goals_of w.Now slots) (goals_of w.Now (map (with_goals goals) slots))
  all_led rests = zip_mapped R (with_goals goals) slots each
    where
      related : (one two : Option Goal) (old goal : Goal) → one ≡ Some old → two ≡ Some goal → R old goal → RelatedIn R one two
      related None two old goal is are r = absurd (some_none (sym is))
      related (Some one) None old goal is are r = absurd (some_none (sym are))
      related (Some one) (Some two) old goal is are r = subst (R one) (sym (some_same are)) (subst (λ g. R g goal) (sym (some_same is)) r)

      itself : (one : Option Goal) → ((old : Goal) → one ≡ Some old → R old old) → RelatedIn R one one
      itself None rest = tt
      itself (Some old) rest = rest old refl

      each : (slot : Slot) → Contains slots slot → RelatedIn R (version w.Now slot.versions) (version w.Now (with_goals goals slot).versions)
      each slot there = elim (put_or_stays goals slot) [
        | inl put ↦ let m = of_led put.goal put.among slot there put.here in related (version w.Now slot.versions) (version w.Now (with_goals goals slot).versions) m.1 put.goal m.2 put.now m.3
        | inr stays ↦
            subst (λ (s : Slot). RelatedIn R (version w.Now slot.versions) (version w.Now s.versions)) (sym stays.0)
            (itself (version w.Now slot.versions) (λ old is. rests slot there old is (λ number. let m = to_led slot there number old is in stays.1 m.0 m.1 m.2)))
      ]

  -- what holds of the goals that are put and of those that were there holds of all
  pub put_ready : (P : Goal → Type 0) → AllByRecursion P goals → AllByRecursion P (goals_of w.Now slots) → AllByRecursion P (goals_of w.Now (map (with_goals goals) slots))
  put_ready P new old = of_each P (goals_of w.Now (map (with_goals goals) slots)) (λ goal there.
      let m = of_chosen (λ (slot : Slot). version w.Now slot.versions) (map (with_goals goals) slots) goal there in
      let s = of_mapped (with_goals goals) slots m.0 m.1 in
      by s.0 s.1 goal (ap (λ (slot : Slot). version w.Now slot.versions) s.2 ∙ m.2))
    where
      by : (slot : Slot) → Contains slots slot → (goal : Goal) → version w.Now (with_goals goals slot).versions ≡ Some goal → P goal
      by slot there goal is = elim (put_or_stays goals slot) [
        | inl put ↦ subst P (some_same (sym put.now ∙ is)) (of_element P goals put.goal new put.among)
        | inr stays ↦ of_element P (goals_of w.Now slots) goal old
            (to_chosen (λ (slot : Slot). version w.Now slot.versions) slots slot goal there (ap (λ (s : Slot). version w.Now s.versions) (sym stays.0) ∙ is))
      ]

  pub put_stored : ((goal : Goal) → Contains goals goal → IsGoalOf table goal.goal.0 goal) → IsStored w.Before limit next table numbers (map (with_goals goals) slots)
  put_stored found = record {
    rising = rising_mapped (with_goals goals) (with_number goals) slots was.rising;
    below = λ slot there. let m = of_mapped (with_goals goals) slots slot there in
        subst (λ (s : Slot). s.number < next) m.2 (subst (λ n. n < next) (sym (with_number goals m.0)) (was.below m.0 m.1));
    goals = λ slot there. let m = of_mapped (with_goals goals) slots slot there in
        subst (λ (s : Slot). (kind : Which) (goal : Goal) → version kind s.versions ≡ Some goal → IsGoalOf table s.number goal) m.2 (goals_are m.0 m.1);
    noted = λ slot there. let m = of_mapped (with_goals goals) slots slot there in
        subst (λ (s : Slot). IsSame s.versions ⊎ Contains numbers s.number) m.2 (noted m.0 m.1);
    kept = λ slot there. let m = of_mapped (with_goals goals) slots slot there in
        subst (λ (s : Slot). (goal : Goal) → version w.Before s.versions ≡ Some goal → (s.number < limit) × (closed_as goal ≡ None)) m.2 (kept m.0 m.1);
  }
    where
      unchanged : (slot : Slot) → Contains slots slot → IsSame slot.versions
      unchanged slot there = elim (was.noted slot there) [
        | inl same ↦ same
        | inr among ↦ absurd (nothing_contained slot.number among)
      ]

      goals_are : (slot : Slot) → Contains slots slot → (kind : Which) (goal : Goal) → version kind (with_goals goals slot).versions ≡ Some goal → IsGoalOf table (with_goals goals slot).number goal
      goals_are slot there kind goal is = subst (λ n. IsGoalOf table n goal) (sym (with_number goals slot)) (by kind is)
        where
          by : (kind : Which) → version kind (with_goals goals slot).versions ≡ Some goal → IsGoalOf table slot.number goal
          by w.Before is = was.goals slot there w.Before goal (sym (with_before goals slot) ∙ is)
          by w.Now is = elim (put_or_stays goals slot) [
            | inl put ↦ subst (λ (g : Goal). IsGoalOf table slot.number g) (some_same (sym put.now ∙ is)) (subst (λ n. IsGoalOf table n put.goal) put.here (found put.goal put.among))
            | inr stays ↦ was.goals slot there w.Now goal (ap (λ (s : Slot). version w.Now s.versions) (sym stays.0) ∙ is)
          ]

      noted : (slot : Slot) → Contains slots slot → IsSame (with_goals goals slot).versions ⊎ Contains numbers (with_goals goals slot).number
      noted slot there = elim (put_or_stays goals slot) [
        | inl put ↦ inr (subst (Contains numbers) (sym (with_number goals slot)) (of_led put.goal put.among slot there put.here).0)
        | inr stays ↦ inl (subst (λ (s : Slot). IsSame s.versions) (sym stays.0) (unchanged slot there))
      ]

      kept : (slot : Slot) → Contains slots slot → (goal : Goal) → version w.Before (with_goals goals slot).versions ≡ Some goal → ((with_goals goals slot).number < limit) × (closed_as goal ≡ None)
      kept slot there goal is =
          let s = unchanged slot there in
          let now : version w.Now slot.versions ≡ Some goal = ap (version w.Now) s.1 ∙ sym (ap (version w.Before) s.1) ∙ sym (with_before goals slot) ∙ is in
          let k = was.kept slot there goal now in (subst (λ n. n < limit) (sym (with_number goals slot)) k.0, k.1)

-- ---- a goal by its number

pub goal_found : {which : Which} {limit next : ℕ} {table : Table} {changed : List ℕ} (slots : List Slot) → IsStored which limit next table changed slots → (number : GoalId) (goals : List Goal) →
    goals_of w.Now slots ≡ goals → (found : Option (Bor Goal)) → option_copied found ≡ version_at w.Now slots number.0 →
    MatchOption found ((g : Goal) → Contains goals g → g.goal ≡ number → ⊥) (λ g. Contains goals g.now × (g.now.goal ≡ number))
goal_found slots stored number goals are None is = λ g there same.
    let m = of_chosen (λ (slot : Slot). version w.Now slot.versions) slots g (subst (λ gs. Contains gs g) (sym are) there) in
    let at : m.0.number ≡ number.0 = sym (stored.goals m.0 m.1 w.Now g m.2).numbered ∙ ap (λ (n : GoalId). n.0) same in
    some_none (sym m.2 ∙ sym (version_of w.Now slots stored.rising m.0 m.1) ∙ ap (version_at w.Now slots) at ∙ sym is)
goal_found slots stored number goals are (Some g) is =
    let m = of_version w.Now slots number.0 g.now (sym is) in (
      subst (λ gs. Contains gs g.now) are (to_chosen (λ (slot : Slot). version w.Now slot.versions) slots m.0 g.now m.1 m.3),
      λ i. record { 0 = ((stored.goals m.0 m.1 w.Now g.now m.3).numbered ∙ m.2) i },
    )
