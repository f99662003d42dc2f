-- A map of buckets after calls of the map.
use Rattle.std.proofs.Common.{◌≡◌, ◌∙◌, List, [], ◌∷◌, ◌++◌, map, refl, sym, ap, subst}
use Rattle.std.specs.Prelude.{Some, None}
use Rattle.std.specs.BTreeMap.{BTreeMap, get_by, insert_entry, is_at}
use Rattle.std.specs.List.Sorted.{IsStrictlySortedBy}
use Rattle.std.specs.Map.{keys_of, lookup, remove_entry, set_value}
use Rattle.std.specs.declared.alloc.Global.{Global}
use Rattle.std.specs.declared.vec.Vec.{Vec}
use Rattle.lps_watch.specs.Orders.{wake_cmp}
use Rattle.lps_residual.specs.declared.waking.Wake.{Wake}
use Rattle.lps_antecedents.specs.declared.held.Held.{Held}
use Rattle.lps_antecedents.specs.declared.slot.Slot.{Slot}
use Rattle.lps_antecedents.specs.Buckets.{IsPut, set_at, set_where, slots_of}
use Rattle.lps_antecedents.specs.Slots.{IsAdded}
use Rattle.lps_antecedents.proofs.Focus.{Focus, focus, found_as, gone_as, inserted_as, keys_as, place_for, set_as, value_as}
use Rattle.lps_antecedents.proofs.Middles.{map_middle}
use Rattle.lps_antecedents.proofs.Putting.{put_new, put_there}

abbrev items_of : Vec Slot Global → List Slot
items_of v = v.items

pub ordered_slots : (m : BTreeMap Wake (Vec Slot Global)) → IsStrictlySortedBy wake_cmp (keys_of m.entries) → IsStrictlySortedBy wake_cmp (keys_of (slots_of m))
ordered_slots m sorted = subst (IsStrictlySortedBy wake_cmp) (sym (keys_as items_of m.entries)) sorted

module _ (wake : Wake) (m : BTreeMap Wake (Vec Slot Global)) where
  pub found_slots : (v : Vec Slot Global) → get_by (wake_cmp wake) m ≡ Some v → lookup (is_at (wake_cmp wake)) (slots_of m) ≡ Some v.items
  found_slots v is = found_as items_of (is_at (wake_cmp wake)) m.entries ∙ ap (value_as items_of) is

  pub no_slots : get_by (wake_cmp wake) m ≡ None → lookup (is_at (wake_cmp wake)) (slots_of m) ≡ None
  no_slots is = found_as items_of (is_at (wake_cmp wake)) m.entries ∙ ap (value_as items_of) is

  pub found_focus : (v : Vec Slot Global) → get_by (wake_cmp wake) m ≡ Some v → IsStrictlySortedBy wake_cmp (keys_of (slots_of m)) → Focus wake (slots_of m) v.items
  found_focus v is sorted = focus wake (slots_of m) sorted v.items (found_slots v is)

  -- the bucket has these slots, and others after it was lent
  module _ (n : BTreeMap Wake (Vec Slot Global)) (v w : Vec Slot Global) (there : get_by (wake_cmp wake) m ≡ Some v) (written : n.entries ≡ set_value (is_at (wake_cmp wake)) m.entries w) where
    pub written_slots : slots_of n ≡ set_value (is_at (wake_cmp wake)) (slots_of m) w.items
    written_slots = ap (map {B = Wake × List Slot} (λ (e : Wake × Vec Slot Global). (e.0, e.1.items))) written ∙ set_as items_of (is_at (wake_cmp wake)) m.entries w

    pub set_slots : (change : List Slot → List Slot) → w.items ≡ change v.items → slots_of n ≡ set_at change wake (slots_of m)
    set_slots change is =
        written_slots ∙ ap (set_value (is_at (wake_cmp wake)) (slots_of m)) is ∙ sym (ap (set_where change wake (slots_of m)) (found_slots v there))

    module _ (sorted : IsStrictlySortedBy wake_cmp (keys_of (slots_of m))) where
      abbrev pub in_focus : Focus wake (slots_of m) v.items
      in_focus = found_focus v there sorted

      pub slots_in_focus : slots_of n ≡ in_focus.front ++ (wake, w.items) ∷ in_focus.back
      slots_in_focus = written_slots ∙ in_focus.set w.items

      -- the same slots as before
      pub slots_same : w.items ≡ v.items → slots_of n ≡ slots_of m
      slots_same same = slots_in_focus ∙ (λ i. in_focus.front ++ (wake, same i) ∷ in_focus.back) ∙ sym in_focus.whole

      -- one more in it
      pub put_in : (held : Held) → IsAdded held v.items w.items → IsPut wake held (slots_of m) (slots_of n)
      put_in held added =
          subst (λ bs. IsPut wake held bs (slots_of n)) (sym in_focus.whole)
          (subst (IsPut wake held (in_focus.front ++ (wake, v.items) ∷ in_focus.back)) (sym slots_in_focus)
          (put_there wake held in_focus.front in_focus.back v.items w.items added (subst (λ bs. IsStrictlySortedBy wake_cmp (keys_of bs)) in_focus.whole sorted)))

  pub set_nothing : (n : BTreeMap Wake (Vec Slot Global)) (change : List Slot → List Slot) → get_by (wake_cmp wake) m ≡ None → n ≡ m → slots_of n ≡ set_at change wake (slots_of m)
  set_nothing n change none same = ap slots_of same ∙ sym (ap (set_where change wake (slots_of m)) (no_slots none))

  pub gone_slots : (n : BTreeMap Wake (Vec Slot Global)) → n.entries ≡ remove_entry (is_at (wake_cmp wake)) m.entries → slots_of n ≡ remove_entry (is_at (wake_cmp wake)) (slots_of m)
  gone_slots n gone = ap (map {B = Wake × List Slot} (λ (e : Wake × Vec Slot Global). (e.0, e.1.items))) gone ∙ gone_as items_of (is_at (wake_cmp wake)) m.entries

  -- a new bucket
  pub put_first : (n : BTreeMap Wake (Vec Slot Global)) (w : Vec Slot Global) (held : Held) → get_by (wake_cmp wake) m ≡ None → n.entries ≡ insert_entry wake_cmp m.entries wake w → IsAdded held [] w.items →
      IsStrictlySortedBy wake_cmp (keys_of (slots_of n)) → IsPut wake held (slots_of m) (slots_of n)
  put_first n w held none inserted added sorted =
      let place = place_for wake (slots_of m) (no_slots none) w.items in
      let new : slots_of n ≡ place.0 ++ (wake, w.items) ∷ place.1 =
      ap (map {B = Wake × List Slot} (λ (e : Wake × Vec Slot Global). (e.0, e.1.items))) inserted ∙ inserted_as items_of wake_cmp m.entries wake w ∙ place.3 in
      let same_keys = map_middle (λ (b : Wake × List Slot). b.0) place.0 place.1 (wake, w.items) (wake, []) refl in
      subst (λ bs. IsPut wake held bs (slots_of n)) (sym place.2)
      (subst (IsPut wake held (place.0 ++ place.1)) (sym new)
      (put_new wake held place.0 place.1 (place.0 ++ (wake, w.items) ∷ place.1)
      (put_there wake held place.0 place.1 [] w.items added (subst (IsStrictlySortedBy wake_cmp) same_keys (subst (λ bs. IsStrictlySortedBy wake_cmp (keys_of bs)) new sorted)))))
