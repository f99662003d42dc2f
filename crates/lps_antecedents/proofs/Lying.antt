-- What lies in buckets, and changes of one bucket.
use Rattle.std.proofs.Common.{◌≡◌, ◌∙◌, Bool, true, List, [], ◌∷◌, ◌++◌, map, refl, sym, ap, subst, inl, inr}
use Rattle.std.specs.Prelude.{◌⊎◌, Contains, Option, Some, None}
use Rattle.std.specs.BTreeMap.{is_at}
use Rattle.std.specs.declared.cmp.Ordering.TheVariants.{Less}
use Rattle.std.specs.List.{AllByRecursion, flat_map}
use Rattle.std.specs.List.Sorted.{IsStrictlySortedBy}
use Rattle.std.specs.Map.{keys_of, lookup}
use Rattle.std.proofs.lemmas.List.Elements.{Contains-append_cases, Contains-append_left, Contains-append_right}
use Rattle.std.proofs.lemmas.Map.Keys.{sorted_head, sorted_tail}
use Rattle.lps_meaning.proofs.Lists.{of_element}
use Rattle.lps_model.proofs.Elements.{first_is_contained, later_is_contained, nothing_contained}
use Rattle.lps_watch.specs.Orders.{wake_cmp}
use Rattle.lps_residual.specs.declared.waking.Wake.{Wake}
use Rattle.lps_antecedents.specs.declared.held.Held.{Held}
use Rattle.lps_antecedents.specs.declared.slot.Slot.{Slot}
use Rattle.lps_antecedents.specs.Buckets.{AreSwitched, ChangesOnly, LiesIn, before_of, kept, set_at, set_where, waited, waiting}
use Rattle.lps_antecedents.specs.Lists.{AreOnce}
use Rattle.lps_antecedents.specs.Slots.{AreApart, before_in, held_of, switched, waiting_in}
use Rattle.lps_antecedents.proofs.Focus.{Focus, below_itself, focus, keys_as, none_at}
use Rattle.lps_antecedents.proofs.Lists.{once_apart}
use Rattle.lps_antecedents.proofs.Middles.{among_all, among_one, beside_middle, cases_first, cases_middle, in_middle, is_first, map_middle, mapped, mapped_back}
use Rattle.lps_antecedents.proofs.Slots.{apart_appended, before_switched, from_before, has_where, held_from, switched_one, waited_from, where_apart, where_has, where_lies}

-- ---- what lies where

module _ {X : Type 0} where
  module _ (front back : List (Wake × List X)) (wake : Wake) (xs : List X) where
    pub lies_cases : (other : Wake) (x : X) → LiesIn (front ++ (wake, xs) ∷ back) other x → LiesIn (front ++ back) other x ⊎ ((other ≡ wake) × Contains xs x)
    lies_cases other x lies = elim (cases_middle front back (wake, xs) lies.0 lies.1) [
      | inl beside ↦ inl (lies.0, beside, lies.2, lies.3)
      | inr e ↦ inr (sym lies.2 ∙ ap (λ (b : Wake × List X). b.0) e, subst (λ (b : Wake × List X). Contains b.1 x) e lies.3)
    ]

    pub lies_beside : (other : Wake) (x : X) → LiesIn (front ++ back) other x → LiesIn (front ++ (wake, xs) ∷ back) other x
    lies_beside other x lies = (lies.0, beside_middle front back (wake, xs) lies.0 lies.1, lies.2, lies.3)

    pub lies_here : (x : X) → Contains xs x → LiesIn (front ++ (wake, xs) ∷ back) wake x
    lies_here x there = ((wake, xs), in_middle front back (wake, xs), refl, there)

-- what a slot of a bucket holds lies there, and the other way round
pub slot_lies : (buckets : List (Wake × List Slot)) (wake : Wake) (slot : Slot) → LiesIn buckets wake slot → LiesIn (kept buckets) wake slot.held
slot_lies buckets wake slot lies = (
  (lies.0.0, map held_of lies.0.1),
  mapped {Y = Wake × List Held} (λ (b : Wake × List Slot). (b.0, map held_of b.1)) buckets lies.0 lies.1,
  lies.2,
  mapped held_of lies.0.1 slot lies.3,
)

pub lies_slot : (buckets : List (Wake × List Slot)) (wake : Wake) (h : Held) → LiesIn (kept buckets) wake h → (slot : Slot) × LiesIn buckets wake slot × (slot.held ≡ h)
lies_slot buckets wake h lies =
    let bucket = mapped_back {Y = Wake × List Held} (λ (b : Wake × List Slot). (b.0, map held_of b.1)) buckets lies.0 lies.1 in
    let slot = mapped_back held_of bucket.0.1 h (subst (λ (b : Wake × List Held). Contains b.1 h) (sym bucket.2) lies.3) in (
      slot.0,
      (bucket.0, bucket.1, ap (λ (b : Wake × List Held). b.0) bucket.2 ∙ lies.2, slot.1),
      slot.2,
    )

-- who waits lies in a slot that says so
pub waits_lies : (buckets : List (Wake × List Slot)) (h : Held) → Contains (waiting buckets) h → (wake : Wake) × (slot : Slot) × LiesIn buckets wake slot × (slot.waits ≡ true) × (slot.held ≡ h)
waits_lies buckets h there =
    let bucket = among_one (λ (b : Wake × List Slot). waiting_in b.1) buckets h there in
    let slot = where_has (λ s. s.waits) bucket.0.1 h bucket.2 in
    (bucket.0.0, slot.0, (bucket.0, bucket.1, refl, slot.1), slot.2, slot.3)

pub lies_waits : (buckets : List (Wake × List Slot)) (wake : Wake) (slot : Slot) → LiesIn buckets wake slot → slot.waits ≡ true → Contains (waiting buckets) slot.held
lies_waits buckets wake slot lies waits = among_all (λ (b : Wake × List Slot). waiting_in b.1) buckets lies.0 slot.held lies.1 (has_where (λ s. s.waits) lies.0.1 slot lies.3 waits)

-- ---- what follows from what was there before

kept_from : (buckets : List (Wake × List Slot)) → kept buckets ≡ map {B = Wake × List Held} (λ (b : Wake × List (Held × Bool)). (b.0, map (λ (p : Held × Bool). p.0) b.1)) (before_of buckets)
kept_from [] = refl
kept_from (b ∷ bs) = λ i. (b.0, held_from b.1 i) ∷ kept_from bs i

all_waited_from : (buckets : List (Wake × List Slot)) → waited buckets ≡ flat_map (λ (b : Wake × List (Held × Bool)). from_before b.1) (before_of buckets)
all_waited_from [] = refl
all_waited_from (b ∷ bs) = λ i. waited_from b.1 i ++ all_waited_from bs i

pub same_kept : (old new : List (Wake × List Slot)) → before_of new ≡ before_of old → kept new ≡ kept old
same_kept old new same =
    kept_from new ∙ ap (λ bs. map {B = Wake × List Held} (λ (b : Wake × List (Held × Bool)). (b.0, map (λ (p : Held × Bool). p.0) b.1)) bs) same ∙ sym (kept_from old)

pub same_waited : (old new : List (Wake × List Slot)) → before_of new ≡ before_of old → waited new ≡ waited old
same_waited old new same = all_waited_from new ∙ ap (flat_map (λ (b : Wake × List (Held × Bool)). from_before b.1)) same ∙ sym (all_waited_from old)

same_keys : (old new : List (Wake × List Slot)) → before_of new ≡ before_of old → keys_of new ≡ keys_of old
same_keys old new same = sym (keys_as before_in new) ∙ ap keys_of same ∙ keys_as before_in old

-- ---- changes of who waits

pub nothing_changes : (wakes : List Wake) (buckets : List (Wake × List Slot)) → IsStrictlySortedBy wake_cmp (keys_of buckets) → ChangesOnly wakes buckets buckets
nothing_changes wakes buckets sorted = record { before = refl; ordered = sorted; new_lie = λ wake slot lies. inr lies; old_lie = λ wake slot lies. inr lies }

pub changes_then : (wakes others : List Wake) (first second third : List (Wake × List Slot)) → ChangesOnly wakes first second → ChangesOnly others second third → ChangesOnly (wakes ++ others) first third
changes_then wakes others first second third one two = record {
  before = two.before ∙ one.before;
  ordered = two.ordered;
  new_lie = λ wake slot lies. elim (two.new_lie wake slot lies) [
    | inl among ↦ inl (Contains-append_right wakes others wake among)
    | inr lay ↦ elim (one.new_lie wake slot lay) [ inl among ↦ inl (Contains-append_left wakes others wake among) | inr first_lay ↦ inr first_lay ]
  ];
  old_lie = λ wake slot lies. elim (one.old_lie wake slot lies) [
    | inl among ↦ inl (Contains-append_left wakes others wake among)
    | inr stays ↦ elim (two.old_lie wake slot stays) [ inl among ↦ inl (Contains-append_right wakes others wake among) | inr still ↦ inr still ]
  ];
}

pub changes_more : (wakes others : List Wake) (old new : List (Wake × List Slot)) → ((wake : Wake) → Contains wakes wake → Contains others wake) → ChangesOnly wakes old new → ChangesOnly others old new
changes_more wakes others old new more only = record {
  before = only.before;
  ordered = only.ordered;
  new_lie = λ wake slot lies. elim (only.new_lie wake slot lies) [ inl among ↦ inl (more wake among) | inr lay ↦ inr lay ];
  old_lie = λ wake slot lies. elim (only.old_lie wake slot lies) [ inl among ↦ inl (more wake among) | inr lay ↦ inr lay ];
}

pub only_one : (wake other : Wake) → Contains (wake ∷ []) other → other ≡ wake
only_one wake other among = elim (cases_first wake [] other among) [ inl e ↦ e | inr none ↦ absurd (nothing_contained other none) ]

-- the bucket of a wake has others slots that hold the same
module _ (wake : Wake) (old : List (Wake × List Slot)) (sorted : IsStrictlySortedBy wake_cmp (keys_of old)) (slots others : List Slot) (f : Focus wake old slots) where
  pub one_changes : before_in others ≡ before_in slots → ChangesOnly (wake ∷ []) old (f.front ++ (wake, others) ∷ f.back)
  one_changes same =
      let before : before_of (f.front ++ (wake, others) ∷ f.back) ≡ before_of old =
      map_middle {Y = Wake × List (Held × Bool)} (λ (b : Wake × List Slot). (b.0, before_in b.1)) f.front f.back (wake, others) (wake, slots) (λ i. (wake, same i)) ∙ sym (ap before_of f.whole) in
      record {
        before = before;
        ordered = subst (IsStrictlySortedBy wake_cmp) (sym (same_keys old (f.front ++ (wake, others) ∷ f.back) before)) sorted;
        new_lie = λ other slot lies. elim (lies_cases f.front f.back wake others other slot lies) [
          | inl beside ↦ inr (subst (λ bs. LiesIn bs other slot) (sym f.whole) (lies_beside f.front f.back wake slots other slot beside))
          | inr here ↦ inl (is_first other wake [] here.0)
        ];
        old_lie = λ other slot lies. elim (lies_cases f.front f.back wake slots other slot (subst (λ bs. LiesIn bs other slot) f.whole lies)) [
          | inl beside ↦ inr (lies_beside f.front f.back wake others other slot beside)
          | inr here ↦ inl (is_first other wake [] here.0)
        ];
      }

  -- what lies at the wake lies in the new slots
  pub lies_new : (slot : Slot) → LiesIn (f.front ++ (wake, others) ∷ f.back) wake slot → Contains others slot
  lies_new slot lies = elim (lies_cases f.front f.back wake others wake slot lies) [ inl beside ↦ absurd (f.others beside.0 beside.1 beside.2) | inr here ↦ here.1 ]

  pub lies_old : (slot : Slot) → LiesIn old wake slot → Contains slots slot
  lies_old slot lies = elim (lies_cases f.front f.back wake slots wake slot (subst (λ bs. LiesIn bs wake slot) f.whole lies)) [ inl beside ↦ absurd (f.others beside.0 beside.1 beside.2) | inr here ↦ here.1 ]

-- ---- switching

module _ (on : Bool) where
  pub switched_one_bucket : (wake : Wake) (old : List (Wake × List Slot)) → IsStrictlySortedBy wake_cmp (keys_of old) → AreSwitched on (wake ∷ []) old (set_at (map (switched on)) wake old)
  switched_one_bucket wake old sorted = by (lookup (is_at (wake_cmp wake)) old) refl
    where
      by : (found : Option (List Slot)) → lookup (is_at (wake_cmp wake)) old ≡ found → AreSwitched on (wake ∷ []) old (set_where (map (switched on)) wake old found)
      by None none = record {
        only = nothing_changes (wake ∷ []) old sorted;
        turned = λ other slot lies among. absurd (none_at wake old none lies.0 lies.1 (lies.2 ∙ only_one wake other among));
      }
      by (Some slots) found =
          let f : Focus wake old slots = focus wake old sorted slots found in
          subst (AreSwitched on (wake ∷ []) old) (sym (f.set (map (switched on) slots))) (record {
            only = one_changes wake old sorted slots (map (switched on) slots) f (before_switched on slots);
            turned = λ other slot lies among. switched_one on slots slot
                (lies_new wake old sorted slots (map (switched on) slots) f slot (subst (λ w. LiesIn (f.front ++ (wake, map (switched on) slots) ∷ f.back) w slot) (only_one wake other among) lies));
          })

  pub switched_then : (wakes others : List Wake) (first second third : List (Wake × List Slot)) → AreSwitched on wakes first second → AreSwitched on others second third → AreSwitched on (wakes ++ others) first third
  switched_then wakes others first second third one two = record {
    only = changes_then wakes others first second third one.only two.only;
    turned = λ wake slot lies among. elim (Contains-append_cases wakes others wake among) [
      | inl early ↦ elim (two.only.new_lie wake slot lies) [ inl late ↦ two.turned wake slot lies late | inr lay ↦ one.turned wake slot lay early ]
      | inr late ↦ two.turned wake slot lies late
    ];
  }

-- ---- each once

abbrev pub IsOneWake : List (Wake × List Held) → Type 0
IsOneWake buckets = (h : Held) (wake other : Wake) → LiesIn buckets wake h → LiesIn buckets other h → wake ≡ other

lies_later : (b : Wake × List Slot) (bs : List (Wake × List Slot)) (wake : Wake) (h : Held) → LiesIn (kept bs) wake h → LiesIn (kept (b ∷ bs)) wake h
lies_later b bs wake h lies = (lies.0, later_is_contained (b.0, map held_of b.1) (kept bs) lies.0 lies.1, lies.2, lies.3)

apart_waiting : (bs : List (Wake × List Slot)) → IsStrictlySortedBy wake_cmp (keys_of bs) → AllByRecursion (λ (b : Wake × List Held). AreApart b.1) (kept bs) → IsOneWake (kept bs) → AreApart (waiting bs)
apart_waiting [] sorted apart one = tt
apart_waiting (b ∷ bs) sorted apart one =
    apart_appended (waiting_in b.1) (waiting bs) (where_apart (λ s. s.waits) b.1 apart.0)
    (apart_waiting bs (sorted_tail wake_cmp b.0 (keys_of bs) sorted) apart.1 (λ h wake other lies also. one h wake other (lies_later b bs wake h lies) (lies_later b bs other h also)))
    (λ h early late.
    let found = waits_lies bs h late in
    let lies : LiesIn (kept bs) found.0 h = subst (LiesIn (kept bs) found.0) found.4 (slot_lies bs found.0 found.1 found.2) in
    let here : LiesIn (kept (b ∷ bs)) b.0 h = ((b.0, map held_of b.1), first_is_contained (b.0, map held_of b.1) (kept bs), refl, where_lies (λ s. s.waits) b.1 h early) in
    let same : b.0 ≡ found.0 = one h b.0 found.0 here (lies_later b bs found.0 h lies) in
    let key : Contains (keys_of bs) found.0 = subst (Contains (keys_of bs)) found.2.2 (mapped (λ (p : Wake × List Slot). p.0) bs found.2.0 found.2.1) in
    let less = of_element (λ k. wake_cmp b.0 k ≡ Less) (keys_of bs) found.0 (sorted_head wake_cmp b.0 (keys_of bs) sorted) key in
    below_itself b.0 found.0 less (sym same))

pub once_waiting : (buckets : List (Wake × List Slot)) → IsStrictlySortedBy wake_cmp (keys_of buckets) → AllByRecursion (λ (b : Wake × List Held). AreApart b.1) (kept buckets) →
    IsOneWake (kept buckets) → AreOnce (waiting buckets)
once_waiting buckets sorted apart one = once_apart (waiting buckets) (apart_waiting buckets sorted apart one)
