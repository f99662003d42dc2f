-- Events more in a cycle: what some events cause, and what more of them cause, is what all of them cause together. So effects
-- that were asked for once are made on top of those before, where initiation wins over termination.
use Rattle.std.proofs.Common.{ℕ, suc, Bool, true, false, ◌≡◌, List, [], ◌++◌, length, refl, sym, subst, ◌∙◌, inl, inr}
use Rattle.std.specs.Prelude.{◌⊎◌, ◌↔◌, ◌&&◌, ◌||◌, not, Contains}
use Rattle.std.specs.List.Sorted.{IsStrictlySortedBy}
use Rattle.std.proofs.lemmas.List.Elements.{Contains-append_cases, Contains-append_left, Contains-append_right}
use Rattle.lps_terms.specs.declared.atom.Atom.{Atom}
use Rattle.lps_terms.specs.declared.effects.Effects.{Effects}
use Rattle.lps_terms.specs.declared.text.Text.{Text}
use Rattle.lps_terms.specs.Order.{atom_cmp}
use Rattle.lps_facts.specs.Facts.{TrailedSet, is_among, members, with_effects, with_facts}
use Rattle.lps_facts.proofs.Sequences.{members_with_effects}
use Rattle.lps_model.specs.Acceptance.{IsAccepted}
use Rattle.lps_model.specs.Formed.{is_formed}
use Rattle.lps_model.specs.Trace.{then_cycle}
use Rattle.lps_model.proofs.Elements.{nothing_contained}
use Rattle.lps_model.specs.Clauses.{clauses}
use Rattle.lps_derivation.specs.Levels.{AreLevels}
use Rattle.lps_meaning.specs.Holds.{CausedIn, Causes, Holds}
use Rattle.lps_meaning.proofs.Persistence.{update_law}
use Rattle.lps_solve.proofs.Accepted.{accepted_is_sound}
use Rattle.lps_solve.proofs.Facts.{among_contains, contains_among}
use Rattle.lps_causal.specs.Effects.{AreEffects}
use Rattle.lps_causal.specs.Names.{AreFluents}
use Rattle.lps_causal.specs.Next.{AreBegun, AreEnded, Begins, Ends, IsAfter, IsUpdate}
use Rattle.lps_causal.proofs.Causing.{caused_fluent}
use Rattle.lps_causal.proofs.Settled.{mixed_with}
use Rattle.lps_causal.proofs.States.{caused, kept_or_gone, put_in, put_or_kept, sorted_with_effects, state_stays}

-- ---- what more events cause

module _ (text : Text) (level : List ℕ → ℕ) (initiates : Bool) (Held : Atom → Type 0) (events more : List Atom) (a : Atom) where
  abbrev By : List Atom → Type 0
  By es = Causes text level initiates Held es a

  by_event : (es fs : List Atom) (h : By es) → Contains fs h.instance.event → By fs
  by_event es fs h among = record { instance = h.instance; of_text = h.of_text; kind = h.kind; event = among; conds = h.conds; effect = h.effect }

  pub caused_before : By events → By (events ++ more)
  caused_before h = by_event events (events ++ more) h (Contains-append_left events more h.instance.event h.event)

  pub caused_more : By more → By (events ++ more)
  caused_more h = by_event more (events ++ more) h (Contains-append_right events more h.instance.event h.event)

  pub caused_either : By (events ++ more) → By events ⊎ By more
  caused_either h =
      elim (Contains-append_cases events more h.instance.event h.event) [
        | inl old ↦ inl (by_event (events ++ more) events h old)
        | inr new ↦ inr (by_event (events ++ more) more h new)
      ]

-- no events cause nothing
pub none_cause : (text : Text) (level : List ℕ → ℕ) (initiates : Bool) (Held : Atom → Type 0) (a : Atom) → Causes text level initiates Held [] a → ⊥
none_cause text level initiates Held a h = nothing_contained h.instance.event h.event

-- ---- the state after more events

module _ (text : Text) (level : List ℕ → ℕ) (before : List Atom) where
  -- the state after no events is the state before
  pub after_none : IsStrictlySortedBy atom_cmp before → IsAfter text level before [] before
  after_none sorted = record {
    sorted = sorted;
    exact = λ a. (
      λ h. inr (h, λ ends. none_cause text level false (Contains before) a ends.0),
      λ h. elim h [ inl caused ↦ absurd (none_cause text level true (Contains before) a caused) | inr held ↦ held.0 ],
    );
  }

  -- and nothing has begun
  pub begun_none : AreBegun text level before [] []
  begun_none a = (λ h. absurd (nothing_contained a h), λ h. absurd (none_cause text level true (Contains before) a h))

  module _ (events more : List Atom) (effects : Effects) (are : AreEffects text level before more effects) (begun : TrailedSet) (begun_are : AreBegun text level before events (members begun)) where
    abbrev all : List Atom
    all = events ++ more

    -- what has begun, with what more events initiate
    pub begun_more : AreBegun text level before all (members (with_facts true effects.initiated begun))
    begun_more a = (
      λ h. elim ((mixed_with begun effects.initiated a).0 h) [
        | inl old ↦ caused_before text level true (Contains before) events more a ((begun_are a).0 old)
        | inr new ↦ caused_more text level true (Contains before) events more a ((are.initiated a).0 new)
      ],
      λ h. (mixed_with begun effects.initiated a).1 (elim (caused_either text level true (Contains before) events more a h) [
        | inl old ↦ inl ((begun_are a).1 old)
        | inr new ↦ inr ((are.initiated a).1 new)
      ]),
    )

    module _ (made : Effects) (same : made.initiated ≡ effects.initiated)
        (gone : (a : Atom) → Contains made.terminated a ↔ (Contains effects.terminated a × (Contains (members begun) a → ⊥)))
        (after : TrailedSet) (is : IsAfter text level before events (members after)) where
      abbrev There : Atom → Type 0
      There a = Contains (members (with_effects made after)) a

      abbrev Stays : Atom → Type 0
      Stays a = Begins text level before all a ⊎ (Contains before a × (Ends text level before all a → ⊥))

      new_is : (a : Atom) → Contains made.initiated a ↔ Causes text level true (Contains before) more a
      new_is a = subst (λ (atoms : List Atom). Contains atoms a ↔ Causes text level true (Contains before) more a) (sym same) (are.initiated a)

      -- what ends by more events, and is not begun before them, is taken out
      taken_out : (a : Atom) → Causes text level false (Contains before) more a → (Begins text level before all a → ⊥) → Contains made.terminated a
      taken_out a ended never =
          (gone a).1 (
            (are.terminated a).1 (ended, λ begins. never (caused_more text level true (Contains before) events more a begins)),
            λ among. never (caused_before text level true (Contains before) events more a ((begun_are a).0 among)),
          )

      not_ended : (a : Atom) → (is_among made.terminated a ≡ true → ⊥) → (Ends text level before events a → ⊥) → Ends text level before all a → ⊥
      not_ended a kept stays ends =
          elim (caused_either text level false (Contains before) events more a ends.0) [
            | inl old ↦ stays (old, λ begins. ends.1 (caused_before text level true (Contains before) events more a begins))
            | inr new ↦ kept (among_contains a made.terminated (taken_out a new ends.1))
          ]

      to : (a : Atom) → There a → Stays a
      to a h =
          elim (put_or_kept (is_among made.initiated a) (is_among (members after) a) (is_among made.terminated a)
          (sym (members_with_effects made after a) ∙ among_contains a (members (with_effects made after)) h)) [
            | inl new ↦ inl (caused_more text level true (Contains before) events more a ((new_is a).0 (contains_among a made.initiated new)))
            | inr kept ↦ kept_so a kept.1 ((is.exact a).0 (contains_among a (members after) kept.0))
          ]
        where
          kept_so : (a : Atom) → (is_among made.terminated a ≡ true → ⊥) → Begins text level before events a ⊎ (Contains before a × (Ends text level before events a → ⊥)) → Stays a
          kept_so a kept (inl begins) = inl (caused_before text level true (Contains before) events more a begins)
          kept_so a kept (inr held) = inr (held.0, not_ended a kept held.1)

      there_so : (a : Atom) → (is_among made.initiated a || (is_among (members after) a && not (is_among made.terminated a))) ≡ true → There a
      there_so a e = contains_among a (members (with_effects made after)) (members_with_effects made after a ∙ e)

      -- what was begun before is not taken out
      begun_stays : (a : Atom) → Begins text level before events a → There a
      begun_stays a begins =
          there_so a (kept_or_gone (is_among made.initiated a) (is_among (members after) a) (is_among made.terminated a)
          (among_contains a (members after) ((is.exact a).1 (inl begins)))
          (λ out. absurd (((gone a).0 (contains_among a made.terminated out)).1 ((begun_are a).1 begins))))

      held_stays : (a : Atom) (new : Bool) → is_among made.initiated a ≡ new → Contains before a → (Ends text level before all a → ⊥) → There a
      held_stays a true e held stays = there_so a (put_in (is_among made.initiated a) (is_among (members after) a) (is_among made.terminated a) e)
      held_stays a false e held stays =
          let not_new : Causes text level true (Contains before) more a → ⊥ = λ begins. (let yes : is_among made.initiated a ≡ true = among_contains a made.initiated ((new_is a).1 begins) in cc) in
          let never : (Begins text level before events a → ⊥) → Begins text level before all a → ⊥ = λ not_old begins.
          elim (caused_either text level true (Contains before) events more a begins) [ inl old ↦ not_old old | inr new ↦ not_new new ] in
          there_so a (kept_or_gone (is_among made.initiated a) (is_among (members after) a) (is_among made.terminated a)
          (among_contains a (members after) ((is.exact a).1 (inr (held, λ ends. stays (caused_before text level false (Contains before) events more a ends.0, never ends.1)))))
          (λ out.
          let both = (gone a).0 (contains_among a made.terminated out) in
          absurd (stays (caused_more text level false (Contains before) events more a ((are.terminated a).0 both.0).0, never (λ old. both.1 ((begun_are a).1 old))))))

      from : (a : Atom) → Stays a → There a
      from a (inl begins) =
          elim (caused_either text level true (Contains before) events more a begins) [
            | inl old ↦ begun_stays a old
            | inr new ↦ there_so a (put_in (is_among made.initiated a) (is_among (members after) a) (is_among made.terminated a) (among_contains a made.initiated ((new_is a).1 new)))
          ]
      from a (inr held) = held_stays a (is_among made.initiated a) refl held.0 held.1

      -- what has ended, with what more events terminate
      pub ended_more : (ended : List Atom) → AreEnded text level before events ended → AreEnded text level before all (ended ++ made.terminated)
      ended_more ended old = record {
        only = λ a h.
            elim (Contains-append_cases ended made.terminated a h) [
              | inl first ↦ caused_before text level false (Contains before) events more a (old.only a first)
              | inr new ↦ caused_more text level false (Contains before) events more a ((are.terminated a).0 ((gone a).0 new).0).0
            ];
        all = λ a ends.
            elim (caused_either text level false (Contains before) events more a ends.0) [
              | inl first ↦ Contains-append_left ended made.terminated a (old.all a (first, λ begins. ends.1 (caused_before text level true (Contains before) events more a begins)))
              | inr new ↦ Contains-append_right ended made.terminated a (taken_out a new ends.1)
            ];
      }

      -- the effects of more events, but for the ends of what was begun, made of the state after those before
      pub after_more : IsAfter text level before all (members (with_effects made after))
      after_more = record { sorted = sorted_with_effects made after is.sorted; exact = λ a. (to a, from a) }

-- ---- fluents

new_or_kept : (new held gone : Bool) → (new || (held && not gone)) ≡ true → (new ≡ true) ⊎ (held ≡ true)
new_or_kept true held gone h = inl refl
new_or_kept false true gone h = inr refl
new_or_kept false false gone h = absurd (cc)

-- effects of fluents leave fluents
pub fluents_after : (text : Text) (facts : TrailedSet) (effects : Effects) → AreFluents text (members facts) → AreFluents text effects.initiated → AreFluents text (members (with_effects effects facts))
fluents_after text facts effects old new = record {
  each = λ a h.
      elim (new_or_kept (is_among effects.initiated a) (is_among (members facts) a) (is_among effects.terminated a)
      (sym (members_with_effects effects facts a) ∙ among_contains a (members (with_effects effects facts)) h)) [
        | inl begun ↦ new.each a (contains_among a effects.initiated begun)
        | inr held ↦ old.each a (contains_among a (members facts) held)
      ];
}

-- what is the state after events has just fluents, where the state before has
pub after_has_fluents : (text : Text) → IsAccepted text → is_formed text ≡ true → (before events after : List Atom) → AreFluents text before →
    ((level : List ℕ → ℕ) → AreLevels (clauses text) level → IsAfter text level before events after) → AreFluents text after
after_has_fluents text accepted formed before events after fluents are =
    let sound = accepted_is_sound text accepted formed [] (λ a none. absurd (nothing_contained a none)) in
    let is = are sound.level sound.levels in
    record {
      each = λ a h.
          elim ((is.exact a).0 h) [
            | inl begins ↦ caused_fluent text accepted formed sound.level true (Contains before) events a begins
            | inr held ↦ fluents.each a held.0
          ];
    }

-- ---- all effects at once

module _ (text : Text) (level : List ℕ → ℕ) (state : TrailedSet) (events : List Atom) (begun ended : List Atom) (begun_are : AreBegun text level (members state) events begun)
    (ended_are : AreEnded text level (members state) events ended) where
  abbrev together : Effects
  together = record { initiated = begun; terminated = ended }

  abbrev made_at_once : List Atom
  made_at_once = members (with_effects together state)

  to_once : (a : Atom) → Contains made_at_once a → Begins text level (members state) events a ⊎ (Contains (members state) a × (Ends text level (members state) events a → ⊥))
  to_once a h =
      elim (put_or_kept (is_among begun a) (is_among (members state) a) (is_among ended a) (sym (members_with_effects together state a) ∙ among_contains a made_at_once h)) [
        | inl new ↦ inl ((begun_are a).0 (contains_among a begun new))
        | inr kept ↦ inr (contains_among a (members state) kept.0, λ ends. kept.1 (among_contains a ended (ended_are.all a ends)))
      ]

  held_once : (a : Atom) (new : Bool) → is_among begun a ≡ new → Contains (members state) a → (Ends text level (members state) events a → ⊥) → Contains made_at_once a
  held_once a true e held stays = contains_among a made_at_once (members_with_effects together state a ∙ put_in (is_among begun a) (is_among (members state) a) (is_among ended a) e)
  held_once a false e held stays =
      contains_among a made_at_once
      (members_with_effects together state a
      ∙ kept_or_gone (is_among begun a) (is_among (members state) a) (is_among ended a) (among_contains a (members state) held)
      (λ out. absurd (stays (ended_are.only a (contains_among a ended out), λ begins. (let yes : is_among begun a ≡ true = among_contains a begun ((begun_are a).1 begins) in cc)))))

  from_once : (a : Atom) → Begins text level (members state) events a ⊎ (Contains (members state) a × (Ends text level (members state) events a → ⊥)) → Contains made_at_once a
  from_once a (inl begins) =
      contains_among a made_at_once
      (members_with_effects together state a ∙ put_in (is_among begun a) (is_among (members state) a) (is_among ended a) (among_contains a begun ((begun_are a).1 begins)))
  from_once a (inr held) = held_once a (is_among begun a) refl held.0 held.1

  pub after_once : IsStrictlySortedBy atom_cmp (members state) → IsAfter text level (members state) events made_at_once
  after_once sorted = record { sorted = sorted_with_effects together state sorted; exact = λ a. (to_once a, from_once a) }

-- no events ended anything
pub ended_none : (text : Text) (level : List ℕ → ℕ) (before : List Atom) → AreEnded text level before [] []
ended_none text level before = record {
  only = λ a h. absurd (nothing_contained a h);
  all = λ a ends. absurd (none_cause text level false (Contains before) a ends.0);
}

-- two lists of the same state are one the state after no events of the other
pub after_same : (text : Text) (level : List ℕ → ℕ) (before events one other : List Atom) → IsAfter text level before events one → IsAfter text level before events other → IsAfter text level one [] other
after_same text level before events one other is also = record {
  sorted = also.sorted;
  exact = λ a. (
    λ h. inr ((is.exact a).1 ((also.exact a).0 h), λ ends. none_cause text level false (Contains one) a ends.0),
    λ h. elim h [ inl begins ↦ absurd (none_cause text level true (Contains one) a begins) | inr held ↦ (also.exact a).1 ((is.exact a).0 held.0) ],
  );
}

-- ---- the next state of a trace

-- where the facts before are the state that a trace has come to, the facts after are the state after a cycle in which these happen
pub is_update : (text : Text) (before events after : List Atom) → AreFluents text after →
    ((level : List ℕ → ℕ) → AreLevels (clauses text) level → IsAfter text level before events after) → IsUpdate text before events after
is_update text before events after fluents are = record {
  fluents = fluents;
  state = λ level levels trace cycle same state.
      let is = are level levels in
      let longer = then_cycle trace cycle in
      let held = (state_stays text level trace cycle before state).exact in
      let causes : (initiates : Bool) (a : Atom) → Causes text level initiates (Contains before) events a ↔ CausedIn text level longer (Holds text level longer) initiates (suc (length trace.cycles)) a = λ initiates a.
      subst (λ (happened : List Atom). Causes text level initiates (Contains before) happened a ↔ CausedIn text level longer (Holds text level longer) initiates (suc (length trace.cycles)) a) same
      (caused text level trace cycle before state initiates a) in
      record {
        sorted = is.sorted;
        exact = λ a. (
          λ h. (update_law text level longer a (length trace.cycles)).1 (elim ((is.exact a).0 h) [
            | inl begins ↦ inl ((causes true a).0 begins)
            | inr stays ↦ inr ((held a).0 stays.0, λ ends. stays.1 ((causes false a).1 ends.0, λ begins. ends.1 ((causes true a).0 begins)))
          ]),
          λ h. (is.exact a).1 (elim ((update_law text level longer a (length trace.cycles)).0 h) [
            | inl begins ↦ inl ((causes true a).1 begins)
            | inr stays ↦ inr ((held a).1 stays.0, λ ends. stays.1 ((causes false a).0 ends.0, λ begins. ends.1 ((causes true a).1 begins)))
          ]),
        );
      };
}
