-- Buckets that are settled.
use Rattle.std.proofs.Common.{◌≡◌, ◌∙◌, Bool, true, false, cond, List, [], ◌∷◌, ◌++◌, map, refl, sym, ap, subst, inl, inr}
use Rattle.std.specs.Prelude.{Contains, Option, Some, None}
use Rattle.std.specs.BTreeMap.{is_at}
use Rattle.std.specs.List.{AllByRecursion}
use Rattle.std.specs.List.Sorted.{IsStrictlySortedBy}
use Rattle.std.specs.Map.{keys_of, lookup, remove_entry}
use Rattle.lps_terms.specs.declared.text.Text.{Text}
use Rattle.lps_model.proofs.Elements.{first_is_contained, later_is_contained, nothing_contained}
use Rattle.lps_watch.specs.Orders.{wake_cmp}
use Rattle.lps_residual.specs.declared.waking.Wake.{Wake}
use Rattle.lps_antecedents.specs.declared.held.Held.{Held}
use Rattle.lps_antecedents.specs.declared.slot.Slot.{Slot}
use Rattle.lps_antecedents.specs.Buckets.{AreReadyIn, AreSwitched, ChangesOnly, IsSound, LiesIn, kept, set_at, set_where, waited, waiting}
use Rattle.lps_antecedents.specs.Slots.{AreApart, IsSettled, held_of, left_settled, waited_in, waiting_in}
use Rattle.lps_antecedents.proofs.Focus.{Focus, focus, none_at}
use Rattle.lps_antecedents.proofs.Lying.{lies_beside, lies_cases, lies_slot, same_kept, same_waited, slot_lies}
use Rattle.lps_antecedents.proofs.Middles.{all_middle, all_without, cases_first, flat_middle, flat_without, in_middle, map_middle, mapped_back}
use Rattle.lps_antecedents.proofs.Slots.{settled_apart, settled_lies, settled_waits}

-- ---- in general

abbrev pub AreAllApart : List (Wake × List Slot) → Type 0
AreAllApart buckets = AllByRecursion (λ (b : Wake × List Slot). AreApart (map held_of b.1)) buckets

pub apart_of : (buckets : List (Wake × List Slot)) → AllByRecursion (λ (b : Wake × List Held). AreApart b.1) (kept buckets) → AreAllApart buckets
apart_of [] apart = tt
apart_of (b ∷ bs) apart = (apart.0, apart_of bs apart.1)

pub apart_to : (buckets : List (Wake × List Slot)) → AreAllApart buckets → AllByRecursion (λ (b : Wake × List Held). AreApart b.1) (kept buckets)
apart_to [] apart = tt
apart_to (b ∷ bs) apart = (apart.0, apart_to bs apart.1)

-- where what lies in the new buckets lay in the old ones, it is as ready
pub ready_lesser : (text : Text) (old new : List (Wake × List Slot)) → ((wake : Wake) (slot : Slot) → LiesIn new wake slot → (one : Slot) × LiesIn old wake one × (one.held ≡ slot.held)) →
    AreReadyIn text (kept old) → AreReadyIn text (kept new)
ready_lesser text old new lay ready wake h lies =
    let slot = lies_slot new wake h lies in
    let one = lay wake slot.0 slot.1 in
    ready wake h (subst (LiesIn (kept old) wake) (one.2 ∙ slot.2) (slot_lies old wake one.0 one.1))

pub sound_more : (buckets : List (Wake × List Slot)) (watched more changed others : List Wake) → ((w : Wake) → Contains watched w → Contains more w) → ((w : Wake) → Contains changed w → Contains others w) →
    IsSound buckets watched changed → IsSound buckets more others
sound_more buckets watched more changed others watch change sound = record {
  ordered = sound.ordered;
  apart = sound.apart;
  watching = λ wake slot lies. watch wake (sound.watching wake slot lies);
  settled = λ wake slot lies. elim (sound.settled wake slot lies) [ inl among ↦ inl (change wake among) | inr is ↦ inr is ];
}

pub sound_changed : (wakes : List Wake) (old new : List (Wake × List Slot)) (watched : List Wake) → ChangesOnly wakes old new → IsSound old watched wakes → IsSound new watched wakes
sound_changed wakes old new watched only sound = record {
  ordered = only.ordered;
  apart = subst (AllByRecursion (λ (b : Wake × List Held). AreApart b.1)) (sym (same_kept old new only.before)) sound.apart;
  watching = λ wake slot lies.
      let lay = lies_slot old wake slot.held (subst (λ bs. LiesIn bs wake slot.held) (same_kept old new only.before) (slot_lies new wake slot lies)) in
      sound.watching wake lay.0 lay.1;
  settled = λ wake slot lies. elim (only.new_lie wake slot lies) [ inl among ↦ inl among | inr lay ↦ sound.settled wake slot lay ];
}

-- ---- where all are settled

settled_slots : (slots : List Slot) → ((slot : Slot) → Contains slots slot → slot.waits ≡ slot.waited) → waiting_in slots ≡ waited_in slots
settled_slots [] same = refl
settled_slots (slot ∷ slots) same =
    (λ i. cond (same slot (first_is_contained slot slots) i) (slot.held ∷ waiting_in slots) (waiting_in slots))
    ∙ ap (λ hs. cond slot.waited (slot.held ∷ hs) hs) (settled_slots slots (λ one there. same one (later_is_contained slot slots one there)))

pub waits_as_waited : (buckets : List (Wake × List Slot)) → ((wake : Wake) (slot : Slot) → LiesIn buckets wake slot → slot.waits ≡ slot.waited) → waiting buckets ≡ waited buckets
waits_as_waited [] same = refl
waits_as_waited (b ∷ bs) same = λ i.
    settled_slots b.1 (λ slot there. same b.0 slot (b, first_is_contained b bs, refl, there)) i
    ++ waits_as_waited bs (λ wake slot lies. same wake slot (lies.0, later_is_contained b bs lies.0 lies.1, lies.2, lies.3)) i

pub all_settled : (buckets : List (Wake × List Slot)) (watched : List Wake) → IsSound buckets watched [] → (wake : Wake) (slot : Slot) → LiesIn buckets wake slot → IsSettled slot
all_settled buckets watched sound wake slot lies = elim (sound.settled wake slot lies) [ inl none ↦ absurd (nothing_contained wake none) | inr is ↦ is ]

pub settled_waiting : (buckets : List (Wake × List Slot)) (watched : List Wake) → IsSound buckets watched [] → waiting buckets ≡ waited buckets
settled_waiting buckets watched sound = waits_as_waited buckets (λ wake slot lies. let is = all_settled buckets watched sound wake slot lies in is.1 ∙ sym is.0)

-- what waited before waits again
pub restored_waiting : (changed : List Wake) (old new : List (Wake × List Slot)) (watched : List Wake) → IsSound old watched changed → AreSwitched true changed old new → waiting new ≡ waited old
restored_waiting changed old new watched sound switched =
    waits_as_waited new (λ wake slot lies. elim (switched.only.new_lie wake slot lies) [
      | inl among ↦ switched.turned wake slot lies among
      | inr lay ↦ elim (sound.settled wake slot lay) [ inl among ↦ switched.turned wake slot lies among | inr is ↦ is.1 ∙ sym is.0 ]
    ]) ∙ same_waited old new switched.only.before

-- ---- settling the bucket of a wake

no_more : {X : Type 0} (xs : List X) → ((x : X) → Contains xs x → ⊥) → xs ≡ []
no_more [] none = refl
no_more (x ∷ xs) none = absurd (none x (first_is_contained x xs))

module _ (wake : Wake) (old : List (Wake × List Slot)) (sorted : IsStrictlySortedBy wake_cmp (keys_of old)) where
  abbrev new : List (Wake × List Slot)
  new = set_at left_settled wake old

  -- what is said of settled buckets
  pub record IsSettledAt (buckets : List (Wake × List Slot)) : Type 0 where
    pub ordered : IsStrictlySortedBy wake_cmp (keys_of buckets)
    pub waits : waiting buckets ≡ waiting old
    pub lay : (w : Wake) (slot : Slot) → LiesIn buckets w slot → (one : Slot) × LiesIn old w one × (one.held ≡ slot.held)
    pub sound : (watched rest : List Wake) → IsSound old watched (wake ∷ rest) → IsSound buckets watched rest

  in_focus : (slots : List Slot) (f : Focus wake old slots) → IsSettledAt (f.front ++ (wake, left_settled slots) ∷ f.back)
  in_focus slots f = record {
    ordered = keys;
    waits = flat_middle (λ (b : Wake × List Slot). waiting_in b.1) f.front f.back (wake, left_settled slots) (wake, slots) (settled_waits slots) ∙ sym (ap waiting f.whole);
    lay = lay;
    sound = λ watched rest sound. record {
      ordered = keys;
      apart = apart_to (f.front ++ (wake, left_settled slots) ∷ f.back)
          (all_middle (λ (b : Wake × List Slot). AreApart (map held_of b.1)) f.front f.back (wake, slots) (wake, left_settled slots) (settled_apart slots)
          (subst AreAllApart f.whole (apart_of old sound.apart)));
      watching = λ w slot lies. let one = lay w slot lies in sound.watching w one.0 one.1;
      settled = λ w slot lies. elim (lies_cases f.front f.back wake (left_settled slots) w slot lies) [
        | inl beside ↦ elim (sound.settled w slot (from_beside w slot beside)) [
          | inl among ↦ elim (cases_first wake rest w among) [ inl e ↦ absurd (f.others beside.0 beside.1 (beside.2 ∙ e)) | inr more ↦ inl more ]
          | inr is ↦ inr is
        ]
        | inr here ↦ inr (settled_lies slots slot here.1).0
      ];
    };
  }
    where
      keys : IsStrictlySortedBy wake_cmp (keys_of (f.front ++ (wake, left_settled slots) ∷ f.back))
      keys = subst (IsStrictlySortedBy wake_cmp) (ap keys_of f.whole ∙ map_middle (λ (b : Wake × List Slot). b.0) f.front f.back (wake, slots) (wake, left_settled slots) refl) sorted

      from_beside : (w : Wake) (slot : Slot) → LiesIn (f.front ++ f.back) w slot → LiesIn old w slot
      from_beside w slot beside = subst (λ bs. LiesIn bs w slot) (sym f.whole) (lies_beside f.front f.back wake slots w slot beside)

      lay : (w : Wake) (slot : Slot) → LiesIn (f.front ++ (wake, left_settled slots) ∷ f.back) w slot → (one : Slot) × LiesIn old w one × (one.held ≡ slot.held)
      lay w slot lies = elim (lies_cases f.front f.back wake (left_settled slots) w slot lies) [
        | inl beside ↦ (slot, from_beside w slot beside, refl)
        | inr here ↦
            let one = mapped_back held_of slots slot.held (settled_lies slots slot here.1).1 in
            (one.0, ((wake, slots), subst (λ bs. Contains bs (wake, slots)) (sym f.whole) (in_middle f.front f.back (wake, slots)), sym here.0, one.1), one.2)
      ]

  pub settled_bucket : IsSettledAt new
  settled_bucket = by (lookup (is_at (wake_cmp wake)) old) refl
    where
      by : (found : Option (List Slot)) → lookup (is_at (wake_cmp wake)) old ≡ found → IsSettledAt (set_where left_settled wake old found)
      by None none = record {
        ordered = sorted;
        waits = refl;
        lay = λ w slot lies. (slot, lies, refl);
        sound = λ watched rest sound. record {
          ordered = sound.ordered;
          apart = sound.apart;
          watching = sound.watching;
          settled = λ w slot lies. elim (sound.settled w slot lies) [
            | inl among ↦ elim (cases_first wake rest w among) [ inl e ↦ absurd (none_at wake old none lies.0 lies.1 (lies.2 ∙ e)) | inr more ↦ inl more ]
            | inr is ↦ inr is
          ];
        };
      }
      by (Some slots) found = let f : Focus wake old slots = focus wake old sorted slots found in subst IsSettledAt (sym (f.set (left_settled slots))) (in_focus slots f)

-- ---- taking an empty bucket away

gone_none : {X : Type 0} (test : Wake → Bool) (buckets : List (Wake × X)) → lookup test buckets ≡ None → remove_entry test buckets ≡ buckets
gone_none test [] none = refl
gone_none test (b ∷ bs) none = by (test b.0) none (gone_none test bs)
  where
    by : (tied : Bool) → cond tied (Some b.1) (lookup test bs) ≡ None → (lookup test bs ≡ None → remove_entry test bs ≡ bs) → cond tied bs (b ∷ remove_entry test bs) ≡ b ∷ bs
    by true found deeper = absurd cc
    by false none deeper = ap (λ more. b ∷ more) (deeper none)

module _ (wake : Wake) (old : List (Wake × List Slot)) (sorted : IsStrictlySortedBy wake_cmp (keys_of old)) (empty : (slot : Slot) → LiesIn old wake slot → ⊥) where
  abbrev left : List (Wake × List Slot)
  left = remove_entry (is_at (wake_cmp wake)) old

  record IsWithout (buckets : List (Wake × List Slot)) : Type 0 where
    waits : waiting buckets ≡ waiting old
    lay : (w : Wake) (slot : Slot) → LiesIn buckets w slot → LiesIn old w slot
    apart : AreAllApart old → AreAllApart buckets

  without : IsWithout left
  without = by (lookup (is_at (wake_cmp wake)) old) refl
    where
      by : (found : Option (List Slot)) → lookup (is_at (wake_cmp wake)) old ≡ found → IsWithout left
      by None none = subst IsWithout (sym (gone_none (is_at (wake_cmp wake)) old none)) (record { waits = refl; lay = λ w slot lies. lies; apart = λ apart. apart })
      by (Some slots) found =
          let f : Focus wake old slots = focus wake old sorted slots found in
          let nothing : waiting_in slots ≡ [] =
          ap waiting_in (no_more slots (λ slot there. empty slot ((wake, slots), subst (λ bs. Contains bs (wake, slots)) (sym f.whole) (in_middle f.front f.back (wake, slots)), refl, there))) in
          subst IsWithout (sym f.gone) (record {
            waits = sym (flat_without (λ (b : Wake × List Slot). waiting_in b.1) f.front f.back (wake, slots) nothing) ∙ sym (ap waiting f.whole);
            lay = λ w slot lies. subst (λ bs. LiesIn bs w slot) (sym f.whole) (lies_beside f.front f.back wake slots w slot lies);
            apart = λ apart. all_without (λ (b : Wake × List Slot). AreApart (map held_of b.1)) f.front f.back (wake, slots) (subst AreAllApart f.whole apart);
          })

  pub left_waits : waiting left ≡ waiting old
  left_waits = without.waits

  pub left_lay : (w : Wake) (slot : Slot) → LiesIn left w slot → LiesIn old w slot
  left_lay = without.lay

  pub left_sound : IsStrictlySortedBy wake_cmp (keys_of left) → (watched fewer changed : List Wake) → ((w : Wake) → Contains watched w → (w ≡ wake → ⊥) → Contains fewer w) →
      IsSound old watched changed → IsSound left fewer changed
  left_sound still watched fewer changed watch sound = record {
    ordered = still;
    apart = apart_to left (without.apart (apart_of old sound.apart));
    watching = λ w slot lies. let lay = without.lay w slot lies in watch w (sound.watching w slot lay) (λ same. empty slot (subst (λ v. LiesIn old v slot) same lay));
    settled = λ w slot lies. sound.settled w slot (without.lay w slot lies);
  }
