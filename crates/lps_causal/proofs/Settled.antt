-- The effects that are made of the fluents that laws give.
use Rattle.std.proofs.Common.{ℕ, Bool, true, false, cond, ◌≡◌, List, [], refl, sym, ap, ◌∙◌, subst, inl, inr}
use Rattle.std.specs.Prelude.{◌⊎◌, ◌↔◌, ◌&&◌, not, Contains}
use Rattle.std.specs.List.{filter}
use Rattle.std.specs.List.Sorted.{IsStrictlySortedBy}
use Rattle.std.proofs.lemmas.List.Kept.{IsStrictlySortedBy-filter}
use Rattle.std.proofs.lemmas.Map.Views.{any-filter_same}
use Rattle.lps_terms.specs.declared.atom.Atom.{Atom}
use Rattle.lps_terms.specs.declared.effects.Effects.{Effects}
use Rattle.lps_terms.specs.declared.text.Text.{Text}
use Rattle.lps_terms.specs.Order.{atom_cmp, atom_eq}
use Rattle.lps_terms.specs.OrderLaws.{atom_eq-decides}
use Rattle.lps_facts.specs.Facts.{TrailedSet, is_among, members, with_facts}
use Rattle.lps_facts.proofs.Sequences.{members_with_all}
use Rattle.lps_model.specs.Acceptance.{IsAccepted}
use Rattle.lps_model.specs.Formed.{is_formed}
use Rattle.lps_model.proofs.Elements.{nothing_contained}
use Rattle.lps_model.specs.Clauses.{clauses}
use Rattle.lps_derivation.specs.Levels.{AreLevels}
use Rattle.lps_meaning.specs.Holds.{Causes}
use Rattle.lps_solve.proofs.Accepted.{accepted_is_sound}
use Rattle.lps_solve.proofs.Facts.{among_contains, contains_among}
use Rattle.lps_causal.specs.Effects.{AreEffects}
use Rattle.lps_causal.specs.declared.given.Given.{Given}
use Rattle.lps_causal.specs.Given.{AreGiven, IsSettled, fluents_of}
use Rattle.lps_causal.specs.Names.{AreFluents}
use Rattle.lps_causal.proofs.Causing.{IsGiven, caused_fluent, given_causes}

-- ---- events put into facts

put_either : (event held : Bool) → cond event true held ≡ true → (held ≡ true) ⊎ (event ≡ true)
put_either true held h = inr refl
put_either false held h = inl h

put_fact : (event held : Bool) → held ≡ true → cond event true held ≡ true
put_fact true held h = refl
put_fact false held h = h

put_event : (event held : Bool) → event ≡ true → cond event true held ≡ true
put_event true held h = refl
put_event false held h = absurd (cc)

-- a set with events put in has exactly its facts and the events
pub mixed_with : (facts : TrailedSet) (events : List Atom) (a : Atom) → Contains (members (with_facts true events facts)) a ↔ (Contains (members facts) a ⊎ Contains events a)
mixed_with facts events a =
    let said = members_with_all true events facts a in (
      λ h. elim (put_either (is_among events a) (is_among (members facts) a) (sym said ∙ among_contains a (members (with_facts true events facts)) h)) [
        | inl fact ↦ inl (contains_among a (members facts) fact)
        | inr event ↦ inr (contains_among a events event)
      ],
      λ h. contains_among a (members (with_facts true events facts)) (said ∙ elim h [
        | inl fact ↦ put_fact (is_among events a) (is_among (members facts) a) (among_contains a (members facts) fact)
        | inr event ↦ put_event (is_among events a) (is_among (members facts) a) (among_contains a events event)
      ]),
    )

-- ---- initiation wins

kept_cases : (gone held : Bool) → (not gone && held) ≡ true → (held ≡ true) × (gone ≡ true → ⊥)
kept_cases true held h = absurd (cc)
kept_cases false held h = (h, λ e. cc)

kept_so : (gone held : Bool) → (gone ≡ true → ⊥) → held ≡ true → (not gone && held) ≡ true
kept_so true held stays h = absurd (stays refl)
kept_so false held stays h = h

-- what is in a list and not in another
pub kept_is : (gone held : List Atom) (a : Atom) → Contains (filter (λ x. not (is_among gone x)) held) a ↔ (Contains held a × (Contains gone a → ⊥))
kept_is gone held a =
    let said : is_among (filter (λ x. not (is_among gone x)) held) a ≡ (not (is_among gone a) && is_among held a) =
    any-filter_same (atom_eq a) (λ x. not (is_among gone x)) (not (is_among gone a)) (λ x tied. ap (λ (y : Atom). not (is_among gone y)) (sym ((atom_eq-decides a x).0 tied))) held in (
      λ h. let parts = kept_cases (is_among gone a) (is_among held a) (sym said ∙ among_contains a (filter (λ x. not (is_among gone x)) held) h) in
          (contains_among a held parts.0, λ g. parts.1 (among_contains a gone g)),
      λ h. contains_among a (filter (λ x. not (is_among gone x)) held)
          (said ∙ kept_so (is_among gone a) (is_among held a) (λ g. h.1 (contains_among a gone g)) (among_contains a held h.0)),
    )

-- effects that are made of lists in order are settled
pub is_settled : (given : Given) (begun ended others : List Atom) → IsStrictlySortedBy atom_cmp begun → IsStrictlySortedBy atom_cmp ended →
    ((a : Atom) → Contains begun a ↔ Contains given.initiated.items a) → ((a : Atom) → Contains ended a ↔ Contains given.terminated.items a) →
    others ≡ filter (λ a. not (is_among begun a)) ended → (effects : Effects) → effects.initiated ≡ begun → effects.terminated ≡ others → IsSettled given effects
is_settled given begun ended others begun_sorted ended_sorted begun_same ended_same are effects initiated terminated =
    let rest : effects.terminated ≡ filter (λ a. not (is_among begun a)) ended = terminated ∙ are in
    record {
      initiated = λ a. subst (λ (atoms : List Atom). Contains atoms a ↔ Contains given.initiated.items a) (sym initiated) (begun_same a);
      terminated = λ a. subst (λ (atoms : List Atom). Contains atoms a ↔ (Contains given.terminated.items a × (Contains given.initiated.items a → ⊥))) (sym rest) (
        (λ h. let kept = (kept_is begun ended a).0 h in ((ended_same a).0 kept.0, λ new. kept.1 ((begun_same a).1 new))),
        (λ h. (kept_is begun ended a).1 ((ended_same a).1 h.0, λ new. h.1 ((begun_same a).0 new))),
      );
      initiated_sorted = subst (IsStrictlySortedBy atom_cmp) (sym initiated) begun_sorted;
      terminated_sorted = subst (IsStrictlySortedBy atom_cmp) (sym rest) (IsStrictlySortedBy-filter atom_cmp (λ a. not (is_among begun a)) ended ended_sorted);
    }

-- settled effects of what is given are the effects of the events
pub are_effects : (text : Text) → is_formed text ≡ true → (facts events : List Atom) (given : Given) →
    AreGiven (clauses text) given (λ level initiates. IsGiven text level facts events initiates) → (effects : Effects) → IsSettled given effects →
    (level : List ℕ → ℕ) → AreLevels (clauses text) level → AreEffects text level facts events effects
are_effects text formed facts events given are effects settled level levels =
    let caused : (initiates : Bool) (a : Atom) → Contains (fluents_of initiates given) a ↔ Causes text level initiates (Contains facts) events a = λ initiates a.
    let one = are level levels initiates a in
    let same = given_causes text level facts events initiates a formed in
    ((λ h. same.0 (one.0 h)), (λ h. one.1 (same.1 h))) in
    record {
      initiated = λ a. ((λ h. (caused true a).0 ((settled.initiated a).0 h)), (λ h. (settled.initiated a).1 ((caused true a).1 h)));
      terminated = λ a. (
        (λ h. let both = (settled.terminated a).0 h in ((caused false a).0 both.0, λ begins. both.1 ((caused true a).1 begins))),
        (λ h. (settled.terminated a).1 ((caused false a).1 h.0, λ begun. h.1 ((caused true a).0 begun))),
      );
      initiated_sorted = settled.initiated_sorted;
      terminated_sorted = settled.terminated_sorted;
    }

-- effects are fluents
pub effects_are_fluents : (text : Text) → IsAccepted text → is_formed text ≡ true → (facts events : List Atom) (effects : Effects) →
    ((level : List ℕ → ℕ) → AreLevels (clauses text) level → AreEffects text level facts events effects) → AreFluents text effects.initiated × AreFluents text effects.terminated
effects_are_fluents text accepted formed facts events effects are =
    let sound = accepted_is_sound text accepted formed [] (λ a none. absurd (nothing_contained a none)) in
    let so = are sound.level sound.levels in (
      record { each = λ a h. caused_fluent text accepted formed sound.level true (Contains facts) events a ((so.initiated a).0 h) },
      record { each = λ a h. caused_fluent text accepted formed sound.level false (Contains facts) events a ((so.terminated a).0 h).0 },
    )
