-- What holds is what persists: the law of states.
use Rattle.std.proofs.Common.{◌≡◌, ℕ, zero, suc, ◌<◌, ◌≤◌, Bool, true, false, List, [], ◌∷◌, refl, subst, arith, inl, inr}
use Rattle.std.specs.Prelude.{◌⊎◌, ◌↔◌, Contains}
use Rattle.std.specs.List.{AllByRecursion}
use Rattle.std.proofs.lemmas.Bool.{cases_lt}
use Rattle.lps_terms.specs.declared.atom.Atom.{Atom}
use Rattle.lps_terms.specs.declared.cond.Cond.{Cond}
use Rattle.lps_terms.specs.declared.cond.Cond.TheVariants as c
use Rattle.lps_terms.specs.declared.text.Text.{Text}
use Rattle.lps_values.specs.Truth.{is_true}
use Rattle.lps_model.specs.declared.trace.Trace.{Trace}
use Rattle.lps_model.specs.Clauses.{clauses}
use Rattle.lps_derivation.specs.Derivation.{Agrees, IsMet}
use Rattle.lps_derivation.specs.Laws.{Passes}
use Rattle.lps_derivation.specs.Levels.{AreLevels, AreClosed}
use Rattle.lps_derivation.proofs.Reach.{same_reached}
use Rattle.lps_derivation.proofs.Truth.{same_truth}
use Rattle.lps_meaning.specs.Holds.{Causes, IsTrueOver, CausedIn, BeginsAt, Persists, HoldsUpTo, Holds, Initiated, Terminated, Ends, IsTrueAt}

-- the clauses call names alone
all_names : (text : Text) → AreClosed (clauses text) (λ name. true)
all_names text = record { calls = λ k l among here named. refl }

-- over the same facts the same is true
pub true_same : (text : Text) (level : List ℕ → ℕ) (One Two : Atom → Type 0) → ((a : Atom) → One a ↔ Two a) → (a : Atom) →
    IsTrueOver text level One a ↔ IsTrueOver text level Two a
true_same text level One Two same a = same_reached (Passes is_true) (clauses text) (λ name. true) (all_names text) One Two (λ b named. same b) level a refl

pub agrees_same : (negated : Bool) (P Q : Type 0) → P ↔ Q → Agrees negated P → Agrees negated Q
agrees_same false P Q same h = same.0 h
agrees_same true P Q same h = λ q. h (same.1 q)

met_same : (One Two : Atom → Type 0) → ((a : Atom) → One a ↔ Two a) → (conds : List Cond) →
    AllByRecursion (IsMet (Passes is_true) One) conds → AllByRecursion (IsMet (Passes is_true) Two) conds
met_same One Two same [] h = tt
met_same One Two same (c.Lit l ∷ conds) h = (agrees_same l.negated (One l.atom) (Two l.atom) (same l.atom) h.0, met_same One Two same conds h.1)
met_same One Two same (c.Built b ∷ conds) h = (h.0, met_same One Two same conds h.1)

-- over the same truth in the state before, by one assignment of levels and by another, the same is caused
causes_by : (text : Text) (level other : List ℕ → ℕ) (initiates : Bool) (One Two : Atom → Type 0) →
    ((a : Atom) → IsTrueOver text level One a ↔ IsTrueOver text other Two a) → (events : List Atom) (fluent : Atom) →
    Causes text level initiates One events fluent → Causes text other initiates Two events fluent
causes_by text level other initiates One Two same events fluent h = record {
  instance = h.instance;
  of_text = h.of_text;
  kind = h.kind;
  event = h.event;
  effect = h.effect;
  conds = met_same (IsTrueOver text level One) (IsTrueOver text other Two) same h.instance.conds h.conds;
}

pub turn : {P Q : Type 0} → P ↔ Q → Q ↔ P
turn same = (same.1, same.0)

pub causes_same : (text : Text) (level : List ℕ → ℕ) (initiates : Bool) (One Two : Atom → Type 0) → ((a : Atom) → One a ↔ Two a) →
    (events : List Atom) (fluent : Atom) → Causes text level initiates One events fluent → Causes text level initiates Two events fluent
causes_same text level initiates One Two same events fluent h = causes_by text level level initiates One Two (true_same text level One Two same) events fluent h

module _ (text : Text) (level : List ℕ → ℕ) (trace : Trace) where
  -- over the same states before, the same persists
  module _ (One Two : ℕ → Atom → Type 0) (i : ℕ) (same : (j : ℕ) → j < i → (a : Atom) → One j a ↔ Two j a) where
    caused_same : (initiates : Bool) (k : ℕ) (fluent : Atom) → k ≤ i → CausedIn text level trace One initiates k fluent → CausedIn text level trace Two initiates k fluent
    caused_same initiates zero fluent upto h = h
    caused_same initiates (suc k) fluent upto h = causes_same text level initiates (One k) (Two k) (same k (omega arith)) _ fluent h

    caused_back : (initiates : Bool) (k : ℕ) (fluent : Atom) → k ≤ i → CausedIn text level trace Two initiates k fluent → CausedIn text level trace One initiates k fluent
    caused_back initiates zero fluent upto h = h
    caused_back initiates (suc k) fluent upto h = causes_same text level initiates (Two k) (One k) (λ a. turn (same k (omega arith) a)) _ fluent h

    begins_same : (j : ℕ) (fluent : Atom) → j ≤ i → BeginsAt text level trace One j fluent → BeginsAt text level trace Two j fluent
    begins_same j fluent upto (inl initial) = inl initial
    begins_same j fluent upto (inr initiated) = inr (caused_same true j fluent upto initiated)

    persists_same : (fluent : Atom) → Persists text level trace One i fluent → Persists text level trace Two i fluent
    persists_same fluent h = record {
      since = h.since;
      by_then = h.by_then;
      begins = begins_same h.since fluent h.by_then h.begins;
      lasts = λ k after upto ends. h.lasts k after upto (caused_back false k fluent upto ends.0, λ initiated. ends.1 (caused_same true k fluent upto initiated));
    }

  both_ways : (One Two : ℕ → Atom → Type 0) (i : ℕ) → ((j : ℕ) → j < i → (a : Atom) → One j a ↔ Two j a) → (fluent : Atom) →
      Persists text level trace One i fluent ↔ Persists text level trace Two i fluent
  both_ways One Two i same fluent = (persists_same One Two i same fluent, persists_same Two One i (λ j lt a. turn (same j lt a)) fluent)

  -- what is seen from two states of one state is the same
  seen_same : (n m i : ℕ) (fluent : Atom) → i ≤ n → i ≤ m → HoldsUpTo text level trace n i fluent ↔ HoldsUpTo text level trace m i fluent
  seen_same zero zero i fluent low below = ((λ h. h), (λ h. h))
  seen_same zero (suc m) i fluent low below = both_ways (λ j a. ⊥) (HoldsUpTo text level trace m) i (λ j lt a. absurd (omega arith)) fluent
  seen_same (suc n) zero i fluent low below = both_ways (HoldsUpTo text level trace n) (λ j a. ⊥) i (λ j lt a. absurd (omega arith)) fluent
  seen_same (suc n) (suc m) i fluent low below =
      both_ways (HoldsUpTo text level trace n) (HoldsUpTo text level trace m) i (λ j lt a. seen_same n m j a (omega arith) (omega arith)) fluent

  -- from a state the states before it are seen as they are
  as_they_are : (n j : ℕ) (a : Atom) → j ≤ n → HoldsUpTo text level trace n j a ↔ Holds text level trace j a
  as_they_are n j a upto = seen_same n j j a upto (omega arith)

  pub is_persistence : (i : ℕ) (fluent : Atom) → Holds text level trace i fluent ↔ Persists text level trace (Holds text level trace) i fluent
  is_persistence zero fluent = both_ways (λ j a. ⊥) (Holds text level trace) 0 (λ j lt a. absurd (omega arith)) fluent
  is_persistence (suc i) fluent =
      both_ways (HoldsUpTo text level trace i) (Holds text level trace) (suc i) (λ j lt a. as_they_are i j a (omega arith)) fluent

  module _ (fluent : Atom) where
    abbrev Lasting : ℕ → Type 0
    Lasting i = Persists text level trace (Holds text level trace) i fluent

    at_start : (j : ℕ) → j ≡ 0 → BeginsAt text level trace (Holds text level trace) j fluent → Contains trace.initial fluent
    at_start zero first (inl initial) = initial.1
    at_start zero first (inr initiated) = absurd initiated
    at_start (suc j) first h = absurd (omega (arith, first))

    pub start_law : Holds text level trace 0 fluent ↔ Contains trace.initial fluent
    start_law = (
      (λ h. let l = (is_persistence 0 fluent).0 h in at_start l.since (omega (arith, l.by_then)) l.begins),
      (λ initial. (is_persistence 0 fluent).1 (record { since = 0; by_then = omega arith; begins = inl (refl, initial); lasts = λ k after upto. absurd (omega arith) })),
    )

    in_cycle : (i : ℕ) → BeginsAt text level trace (Holds text level trace) (suc i) fluent → Initiated text level trace (suc i) fluent
    in_cycle i (inl initial) = absurd (omega (arith, initial.0))
    in_cycle i (inr initiated) = initiated

    later : (i : ℕ) → Lasting (suc i) → Initiated text level trace (suc i) fluent ⊎ (Lasting i × (Ends text level trace (suc i) fluent → ⊥))
    later i h =
        elim (cases_lt h.since (suc i)) [
          | inl early ↦ inr (
            record { since = h.since; by_then = omega arith; begins = h.begins; lasts = λ k after upto. h.lasts k after (omega arith) },
            h.lasts (suc i) early (omega arith),
          )
          | inr now ↦ let same : h.since ≡ suc i = omega (arith, h.by_then) in
              inl (in_cycle i (subst (λ j. BeginsAt text level trace (Holds text level trace) j fluent) same h.begins))
        ]

    kept : (i : ℕ) (h : Lasting i) → (Ends text level trace (suc i) fluent → ⊥) → (k : ℕ) → h.since < k → k ≤ suc i → Ends text level trace k fluent → ⊥
    kept i h stays k after upto =
        elim (cases_lt k (suc i)) [
          | inl early ↦ h.lasts k after (omega arith)
          | inr now ↦ let same : suc i ≡ k = omega arith in subst (λ j. Ends text level trace j fluent → ⊥) same stays
        ]

    earlier : (i : ℕ) → Initiated text level trace (suc i) fluent ⊎ (Lasting i × (Ends text level trace (suc i) fluent → ⊥)) → Lasting (suc i)
    earlier i (inl initiated) = record { since = suc i; by_then = omega arith; begins = inr initiated; lasts = λ k after upto. absurd (omega arith) }
    earlier i (inr held) = record {
      since = held.0.since;
      by_then = omega (arith, held.0.by_then);
      begins = held.0.begins;
      lasts = λ k after upto. kept i held.0 held.1 k after upto;
    }

    pub update_law : (i : ℕ) → Holds text level trace (suc i) fluent
        ↔ (Initiated text level trace (suc i) fluent ⊎ (Holds text level trace i fluent × (Ends text level trace (suc i) fluent → ⊥)))
    update_law i = (
      (λ h. elim (later i ((is_persistence (suc i) fluent).0 h)) [ inl a ↦ inl a | inr b ↦ inr ((is_persistence i fluent).1 b.0, b.1) ]),
      (λ h. (is_persistence (suc i) fluent).1 (earlier i (elim h [ inl a ↦ inl a | inr b ↦ inr ((is_persistence i fluent).0 b.0, b.1) ]))),
    )

    pub decided_law : (i : ℕ) → Initiated text level trace (suc i) fluent ⊎ (Initiated text level trace (suc i) fluent → ⊥) →
        Holds text level trace (suc i) fluent
        ↔ ((Holds text level trace i fluent × (Terminated text level trace (suc i) fluent → ⊥)) ⊎ Initiated text level trace (suc i) fluent)
    decided_law i (inl is) = ((λ h. inr is), (λ h. (update_law i).1 (inl is)))
    decided_law i (inr is_not) = (
      (λ h. elim ((update_law i).0 h) [ inl a ↦ inr a | inr b ↦ inl (b.0, λ t. b.1 (t, is_not)) ]),
      (λ h. (update_law i).1 (elim h [ inl b ↦ inr (b.0, λ e. b.1 e.0) | inr a ↦ inl a ])),
    )

-- ---- levels

module _ (text : Text) (level other : List ℕ → ℕ) (levels : AreLevels (clauses text) level) (others : AreLevels (clauses text) other) (trace : Trace) where
  -- the same facts are true of by both
  same_over : (One Two : Atom → Type 0) → ((a : Atom) → One a ↔ Two a) → (a : Atom) → IsTrueOver text level One a ↔ IsTrueOver text other Two a
  same_over One Two same a =
      let first = true_same text level One Two same a in
      let second = same_truth (Passes is_true) (clauses text) Two level other levels others a in
      ((λ h. second.0 (first.0 h)), (λ h. first.1 (second.1 h)))

  pub holds_by_levels : (i : ℕ) (fluent : Atom) → Holds text level trace i fluent ↔ Holds text other trace i fluent
  holds_by_levels zero fluent =
      let one = start_law text level trace fluent in let two = start_law text other trace fluent in
      ((λ h. two.1 (one.0 h)), (λ h. one.1 (two.0 h)))
  holds_by_levels (suc i) fluent =
      let before = same_over (Holds text level trace i) (Holds text other trace i) (holds_by_levels i) in
      let there : (initiates : Bool) → CausedIn text level trace (Holds text level trace) initiates (suc i) fluent → CausedIn text other trace (Holds text other trace) initiates (suc i) fluent =
      λ initiates h. causes_by text level other initiates (Holds text level trace i) (Holds text other trace i) before _ fluent h in
      let back : (initiates : Bool) → CausedIn text other trace (Holds text other trace) initiates (suc i) fluent → CausedIn text level trace (Holds text level trace) initiates (suc i) fluent =
      λ initiates h. causes_by text other level initiates (Holds text other trace i) (Holds text level trace i) (λ a. turn (before a)) _ fluent h in
      let one = update_law text level trace fluent i in let two = update_law text other trace fluent i in (
        (λ h. two.1 (elim (one.0 h) [
          | inl a ↦ inl (there true a)
          | inr b ↦ inr ((holds_by_levels i fluent).0 b.0, λ e. b.1 (back false e.0, λ x. e.1 (there true x)))
        ])),
        (λ h. one.1 (elim (two.0 h) [
          | inl a ↦ inl (back true a)
          | inr b ↦ inr ((holds_by_levels i fluent).1 b.0, λ e. b.1 (there false e.0, λ x. e.1 (back true x)))
        ])),
      )

  pub true_by_levels : (i : ℕ) (a : Atom) → IsTrueAt text level trace i a ↔ IsTrueAt text other trace i a
  true_by_levels i a = same_over (Holds text level trace i) (Holds text other trace i) (holds_by_levels i) a
