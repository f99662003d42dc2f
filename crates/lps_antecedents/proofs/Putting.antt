-- One that is put into the bucket of its wake.
use Rattle.std.proofs.Common.{◌≡◌, ◌∙◌, List, [], ◌∷◌, ◌++◌, map, refl, sym, subst, inl, inr}
use Rattle.std.specs.Prelude.{◌⊎◌, Contains}
use Rattle.std.specs.List.Sorted.{IsStrictlySortedBy}
use Rattle.std.specs.Map.{keys_of}
use Rattle.lps_terms.specs.declared.text.Text.{Text}
use Rattle.lps_model.proofs.Elements.{nothing_contained}
use Rattle.lps_residual.specs.Moments.{IsReady}
use Rattle.lps_residual.specs.Waking.{IsWake}
use Rattle.lps_watch.specs.Orders.{wake_cmp}
use Rattle.lps_residual.specs.declared.waking.Wake.{Wake}
use Rattle.lps_antecedents.specs.declared.held.Held.{Held}
use Rattle.lps_antecedents.specs.declared.slot.Slot.{Slot}
use Rattle.lps_antecedents.specs.Buckets.{AreReadyIn, IsPut, IsSound, LiesIn, kept, waited, waiting}
use Rattle.lps_antecedents.specs.Slots.{AreApart, IsAdded, held_of, waited_in, waiting_in}
use Rattle.lps_antecedents.proofs.Lying.{lies_beside, lies_cases, lies_here, lies_slot, slot_lies}
use Rattle.lps_antecedents.proofs.Middles.{all_middle, all_with, among_all, among_one, beside_middle, cases_middle, flat_middle, flat_without, in_middle, map_middle, mapped, mapped_back}
use Rattle.lps_antecedents.proofs.Settling.{apart_of, apart_to}

module _ (wake : Wake) (held : Held) (front back : List (Wake × List Slot)) where
  abbrev waits_in : Wake × List Slot → List Held
  waits_in b = waiting_in b.1

  module _ (slots others : List Slot) where
    abbrev old : List (Wake × List Slot)
    old = front ++ (wake, slots) ∷ back

    abbrev new : List (Wake × List Slot)
    new = front ++ (wake, others) ∷ back

    here : (h : Held) → Contains (waiting_in others) h → Contains (waiting new) h
    here h there = among_all waits_in new (wake, others) h (in_middle front back (wake, others)) there

    -- where there is a bucket
    pub put_there : IsAdded held slots others → IsStrictlySortedBy wake_cmp (keys_of old) → IsPut wake held old new
    put_there added sorted = record {
      waits = λ h. (
        λ there. let b = among_one waits_in new h there in elim (cases_middle front back (wake, others) b.0 b.1) [
          | inl beside ↦ inl (among_all waits_in old b.0 h (beside_middle front back (wake, slots) b.0 beside) b.2)
          | inr e ↦ elim ((added.waits h).0 (subst (λ c. Contains (waits_in c) h) e b.2)) [ inl lay ↦ inl (among_all waits_in old (wake, slots) h (in_middle front back (wake, slots)) lay) | inr is ↦ inr is ]
        ],
        λ there. elim there [
          | inl before ↦ let b = among_one waits_in old h before in elim (cases_middle front back (wake, slots) b.0 b.1) [
            | inl beside ↦ among_all waits_in new b.0 h (beside_middle front back (wake, others) b.0 beside) b.2
            | inr e ↦ here h ((added.waits h).1 (inl (subst (λ c. Contains (waits_in c) h) e b.2)))
          ]
          | inr is ↦ here h ((added.waits h).1 (inr is))
        ],
      );
      waited = flat_middle (λ (b : Wake × List Slot). waited_in b.1) front back (wake, others) (wake, slots) added.waited;
      ordered = subst (IsStrictlySortedBy wake_cmp) (map_middle (λ (b : Wake × List Slot). b.0) front back (wake, slots) (wake, others) refl) sorted;
      apart = λ apart. apart_to new (all_middle (λ (b : Wake × List Slot). AreApart (map held_of b.1)) front back (wake, slots) (wake, others) added.apart (apart_of old apart));
      lies = λ other h lies. let slot = lies_slot new other h lies in elim (lies_cases front back wake others other slot.0 slot.1) [
        | inl beside ↦ inl (subst (LiesIn (kept old) other) slot.2 (slot_lies old other slot.0 (lies_beside front back wake slots other slot.0 beside)))
        | inr at ↦ elim ((added.lies h).0 (subst (Contains (map held_of others)) slot.2 (mapped held_of others slot.0 at.1))) [
          | inl lay ↦ let one = mapped_back held_of slots h lay in
              inl (subst (λ w. LiesIn (kept old) w h) (sym at.0) (subst (LiesIn (kept old) wake) one.2 (slot_lies old wake one.0 (lies_here front back wake slots one.0 one.1))))
          | inr is ↦ inr (at.0, is)
        ]
      ];
      others = λ other slot lies. elim (lies_cases front back wake others other slot lies) [
        | inl beside ↦ inr (lies_beside front back wake slots other slot beside)
        | inr at ↦ inl at.0
      ];
    }

  -- where there is none yet
  pub put_new : (new : List (Wake × List Slot)) → IsPut wake held (front ++ (wake, []) ∷ back) new → IsPut wake held (front ++ back) new
  put_new new put = record {
    waits = subst (λ hs. (h : Held) → (Contains (waiting new) h → Contains hs h ⊎ (h ≡ held)) × (Contains hs h ⊎ (h ≡ held) → Contains (waiting new) h))
        (flat_without (λ (b : Wake × List Slot). waiting_in b.1) front back (wake, []) refl) put.waits;
    waited = put.waited ∙ flat_without (λ (b : Wake × List Slot). waited_in b.1) front back (wake, []) refl;
    ordered = put.ordered;
    apart = λ apart. put.apart (apart_to (front ++ (wake, []) ∷ back) (all_with (λ (b : Wake × List Slot). AreApart (map held_of b.1)) front back (wake, []) tt (apart_of (front ++ back) apart)));
    lies = λ other h lies. elim (put.lies other h lies) [
      | inl lay ↦ let slot = lies_slot (front ++ (wake, []) ∷ back) other h lay in elim (lies_cases front back wake [] other slot.0 slot.1) [
        | inl beside ↦ inl (subst (LiesIn (kept (front ++ back)) other) slot.2 (slot_lies (front ++ back) other slot.0 beside))
        | inr at ↦ absurd (nothing_contained slot.0 at.1)
      ]
      | inr is ↦ inr is
    ];
    others = λ other slot lies. elim (put.others other slot lies) [
      | inl is ↦ inl is
      | inr lay ↦ elim (lies_cases front back wake [] other slot lay) [ inl beside ↦ inr beside | inr at ↦ absurd (nothing_contained slot at.1) ]
    ];
  }

module _ (wake : Wake) (held : Held) (old new : List (Wake × List Slot)) (put : IsPut wake held old new) where
  pub sound_put : (watched more changed others : List Wake) → ((w : Wake) → Contains watched w → Contains more w) → Contains more wake → ((w : Wake) → Contains changed w → Contains others w) → Contains others wake →
      IsSound old watched changed → IsSound new more others
  sound_put watched more changed others watch watch_it change change_it sound = record {
    ordered = put.ordered;
    apart = put.apart sound.apart;
    watching = λ w slot lies. elim (put.others w slot lies) [ inl e ↦ subst (Contains more) (sym e) watch_it | inr lay ↦ watch w (sound.watching w slot lay) ];
    settled = λ w slot lies. elim (put.others w slot lies) [
      | inl e ↦ inl (subst (Contains others) (sym e) change_it)
      | inr lay ↦ elim (sound.settled w slot lay) [ inl among ↦ inl (change w among) | inr is ↦ inr is ]
    ];
  }

  pub ready_put : (text : Text) → IsReady text held.node → IsWake text held.node wake → AreReadyIn text (kept old) → AreReadyIn text (kept new)
  ready_put text ready wakes all w h lies = elim (put.lies w h lies) [
    | inl lay ↦ all w h lay
    | inr is ↦ (subst (λ (x : Held). IsReady text x.node) (sym is.1) ready, subst (λ v. IsWake text h.node v) (sym is.0) (subst (λ (x : Held). IsWake text x.node wake) (sym is.1) wakes))
  ]
