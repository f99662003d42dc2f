-- An event that no denial forbids alone is forbidden with another before it: a denial over the state after both.
use Rattle.std.proofs.Common.{ℕ, zero, suc, true, ◌≡◌, ◌<◌, List, [], ◌∷◌, refl, sym, ap, subst, ◌∙◌, arith, inl, inr}
use Rattle.std.specs.Prelude.{codes, slice_index_or}
use Rattle.lps_terms.specs.declared.atom.Atom.{Atom}
use Rattle.lps_terms.specs.declared.item.Item.{Item}
use Rattle.lps_model.specs.declared.trace.Trace.{Trace}
use Rattle.lps_derivation.specs.Derivation.{of_fact}
use Rattle.lps_model.proofs.Elements.{nothing_contained}
use Rattle.lps_meaning.specs.Denials.{then_events, Violates, ViolatesNumber, ViolatesNone, IsLeastViolated}
use Rattle.lps_examples.specs.Examples.{from_to, at_time, event_e, event_f, fluent_p, reject_text, reject_trace}
use Rattle.lps_meaning.specs.Holds.{Holds, IsTrueAt}
use Rattle.lps_examples.proofs.ExampleWalks.{other_letter, only_one, constants, constants_ground, only_numbered, small_atom}
use Rattle.lps_meaning.proofs.Persistence.{start_law, update_law}
use Rattle.lps_examples.proofs.StateExamples.{law_of, caused, true_is_held}

abbrev denial : List Item
denial = from_to event_f 0 1 ∷ at_time fluent_p 1 ∷ []

abbrev times : ℕ → ℕ
times zero = 0
times (suc n) = 1

module _ (level : List ℕ → ℕ) where
  abbrev after : List Atom → Trace
  after events = then_events reject_trace events

  -- by f alone p does not begin
  not_alone : Holds reject_text level (after (event_f ∷ [])) 1 fluent_p → ⊥
  not_alone h =
      elim ((update_law reject_text level (after (event_f ∷ [])) fluent_p 0).0 h) [
        | inl begins ↦
            let law : law_of true (codes "e") (codes "p") ≡ begins.of_text.law = only_one _ begins.of_text.law begins.of_text.in_text in
            let event : begins.instance.event.name ≡ codes "e" = ap (λ l. l.event.name) begins.of_text.put_in ∙ sym (ap (λ l. l.event.name) law) in
            other_letter begins.instance.event event_f 101 102 (ap (λ n. slice_index_or n 0 0) event) refl (λ e. omega (arith, e)) (sym (only_one event_f begins.instance.event begins.event))
        | inr held ↦ nothing_contained _ ((start_law reject_text level (after (event_f ∷ [])) fluent_p).0 held.0)
      ]

  module _ (events : List Atom) (k : ℕ) (h : ViolatesNumber reject_text level reject_trace events k) where
    denial_is : (k ≡ 1) × (denial ≡ h.0)
    denial_is = only_numbered denial h.0 k h.1

    violates : Violates reject_text level reject_trace events denial
    violates = subst (λ items. Violates reject_text level reject_trace events items) (sym denial_is.1) h.2

  e_passes : ViolatesNone reject_text level reject_trace (event_e ∷ [])
  e_passes k h =
      let v = violates (event_e ∷ []) k h in
      other_letter event_e event_f 101 102 refl refl (λ e. omega (arith, e)) (only_one event_e event_f v.met.0.2)

  f_passes : ViolatesNone reject_text level reject_trace (event_f ∷ [])
  f_passes k h =
      let v = violates (event_f ∷ []) k h in
      let now : v.times 1 ≡ 1 = v.met.0.1 in
      not_alone (true_is_held reject_text level (after (event_f ∷ [])) 1 fluent_p refl
      (subst (λ i. IsTrueAt reject_text level (after (event_f ∷ [])) i fluent_p) now v.met.1.0))

  both : Violates reject_text level reject_trace (event_e ∷ event_f ∷ []) denial
  both = record {
    values = constants 0;
    times = times;
    all_ground = constants_ground 0;
    small = (small_atom (codes "f"), (small_atom (codes "p"), tt));
    met = (
      (
        refl,
        refl,
        (1, omega arith, refl),
      ),
      (
        of_fact ((update_law reject_text level (after (event_e ∷ event_f ∷ [])) fluent_p 0).1 (inl
            (caused reject_text level true (Holds reject_text level (after (event_e ∷ event_f ∷ [])) 0) (event_e ∷ event_f ∷ []) (codes "e") (codes "p")
            (0, omega arith, refl) (0, omega arith, refl)))),
        tt,
      ),
    );
  }

  pub reject : ViolatesNone reject_text level reject_trace (event_e ∷ []) × ViolatesNone reject_text level reject_trace (event_f ∷ [])
      × IsLeastViolated reject_text level reject_trace (event_e ∷ event_f ∷ []) 1
  reject = (
    e_passes,
    f_passes,
    (
      (denial, refl, both),
      λ j lt h. let one = (denial_is (event_e ∷ event_f ∷ []) j h).0 in
          let none : (j : ℕ) → j ≡ 1 → j < 1 → ⊥ = λ j e lt. omega (arith, e, lt) in none j one lt,
    ),
  )
