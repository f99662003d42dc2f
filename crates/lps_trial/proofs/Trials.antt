-- Trials that are made longer, taken back, and begun anew in the state after them.
use Rattle.std.proofs.Common.{ℕ, Bool, false, ◌≡◌, List, [], ◌∷◌, ◌++◌, ◌+◌, length, take, refl, sym, ap, subst, ◌∙◌, inl, inr, not, true, arith}
use Rattle.std.specs.Prelude.{◌↔◌, ◌⊎◌, ◌||◌, ◌&&◌, Contains, Result, Ok, Err, OnOk}
use Rattle.std.specs.List.{filter}
use Rattle.std.specs.List.Sorted.{IsStrictlySortedBy}
use Rattle.std.proofs.lemmas.List.{length-append, take_all}
use Rattle.std.proofs.lemmas.List.Elements.{Contains-append_cases, Contains-append_left, Contains-append_right}
use Rattle.lps_terms.specs.declared.atom.Atom.{Atom}
use Rattle.lps_terms.specs.declared.effects.Effects.{Effects}
use Rattle.lps_terms.specs.declared.text.Text.{Text}
use Rattle.lps_terms.specs.Order.{atom_cmp}
use Rattle.lps_model.specs.Acceptance.{IsAccepted}
use Rattle.lps_model.specs.Clauses.{clauses}
use Rattle.lps_model.specs.Formed.{is_formed}
use Rattle.lps_model.proofs.Elements.{nothing_contained}
use Rattle.lps_derivation.specs.Levels.{AreLevels}
use Rattle.lps_facts.specs.Facts.{IsLater, TrailedSet, is_among, members, with_effects, with_facts}
use Rattle.lps_facts.proofs.Sequences.{later_itself, later_still, members_with_effects}
use Rattle.lps_causal.specs.Effects.{AreEffects}
use Rattle.lps_causal.specs.Names.{AreEvents, AreFluents, IsFluent}
use Rattle.lps_causal.specs.Next.{AreBegun, IsAfter, IsUpdate}
use Rattle.lps_causal.proofs.Merging.{after_has_fluents, after_more, after_none, after_once, after_same, begun_more, begun_none, ended_more, ended_none, fluents_after, is_update}
use Rattle.lps_causal.proofs.Settled.{kept_is}
use Rattle.lps_solve.proofs.Accepted.{accepted_is_sound}
use Rattle.lps_solve.proofs.Facts.{among_contains, contains_among}
use Rattle.lps_precond.specs.Stages.{AreNews, ViolateNone}
use Rattle.lps_precond.proofs.Happened.{with_events}
use Rattle.lps_precond.proofs.News.{nothing_violated}
use Rattle.lps_trial.specs.Trial.{IsGrown, IsLonger, IsMoment, IsTrial, TrialState, back_at, made_at_once, moment_of, no_facts, trial_in}

-- ---- taken back

pub none_taken : {X : Type 0} (xs : List X) → take 0 xs ≡ []
none_taken [] = refl
none_taken (x ∷ xs) = refl

-- the first part of the first part of a list
taken : {X : Type 0} (one two three : List X) → take (length one) two ≡ one → take (length two) three ≡ two → take (length one) three ≡ one
taken [] two three first second = none_taken three
taken (x ∷ xs) [] three first second = absurd (cc)
taken (x ∷ xs) (y ∷ ys) [] first second = absurd (cc)
taken (x ∷ xs) (y ∷ ys) (z ∷ zs) first second =
    let heads : z ≡ y = cc in
    let others : y ≡ x = cc in
    let rest : take (length xs) zs ≡ xs = taken xs ys zs (cc) (cc) in
    (λ i. (heads ∙ others) i ∷ rest i)

pub longer_still : (x y z : TrialState) → IsLonger x y → IsLonger y z → IsLonger x z
longer_still x y z one two = record {
  state = two.state ∙ one.state;
  next = later_still x.next y.next z.next one.next two.next;
  begun = later_still x.begun y.begun z.begun one.begun two.begun;
  ended = taken x.ended y.ended z.ended one.ended two.ended;
  events = taken x.events y.events z.events one.events two.events;
  happened = later_still x.happened y.happened z.happened one.happened two.happened;
}

pub longer_itself : (x : TrialState) → IsLonger x x
longer_itself x = record {
  state = refl;
  next = later_itself x.next;
  begun = later_itself x.begun;
  ended = take_all (length x.ended) x.ended (omega arith);
  events = take_all (length x.events) x.events (omega arith);
  happened = later_itself x.happened;
}

-- all of a list is its first part
pub all_taken : {X : Type 0} (xs : List X) → take (length xs) xs ≡ xs
all_taken xs = take_all (length xs) xs (omega arith)

pub longer_by : (x y : TrialState) → y.state ≡ x.state → IsLater x.next y.next → IsLater x.begun y.begun → take (length x.ended) y.ended ≡ x.ended → take (length x.events) y.events ≡ x.events →
    IsLater x.happened y.happened → IsLonger x y
longer_by x y state next begun ended events happened = record { state = state; next = next; begun = begun; ended = ended; events = events; happened = happened }

-- the same of a trial that is seen as the earlier one
pub longer_from : (x old y : TrialState) → x ≡ old → y.state ≡ x.state → IsLater x.next y.next → IsLater x.begun y.begun → take (length x.ended) y.ended ≡ x.ended → take (length x.events) y.events ≡ x.events →
    IsLater x.happened y.happened → IsLonger old y
longer_from x old y same state next begun ended events happened = subst (λ (t : TrialState). IsLonger t y) same (longer_by x y state next begun ended events happened)

pub is_moment : (x y : TrialState) → IsLonger x y → IsMoment (moment_of x) y
is_moment x y longer = record { next = longer.next.0; begun = longer.begun.0; happened = longer.happened.0 }

pub taken_back : (x y : TrialState) → IsLonger x y → back_at (moment_of x) y ≡ x
taken_back x y longer = λ i. record { state = longer.state i; next = longer.next.1 i; begun = longer.begun.1 i; ended = longer.ended i; events = longer.events i; happened = longer.happened.1 i }

-- ---- no events

pub is_first : (text : Text) (state : TrailedSet) → AreFluents text (members state) → IsStrictlySortedBy atom_cmp (members state) → IsTrial text (trial_in state)
is_first text state fluents sorted = record {
  grown = record {
    fluents = fluents;
    happening = record { each = λ a h. absurd (nothing_contained a h) };
    next_fluents = fluents;
    next_is = λ level levels. after_none text level (members state) sorted;
    begun_are = λ level levels. begun_none text level (members state);
    ended_are = λ level levels. ended_none text level (members state);
    happened_are = λ a. ((λ h. h), (λ h. h));
  };
  allowed = λ accepted formed. nothing_violated text accepted formed (members state) (members state);
}

-- ---- what effects leave as it is

-- a list with more at its end that is no longer
no_more : {X : Type 0} (xs ys : List X) → length (xs ++ ys) ≡ length ys → xs ≡ []
no_more [] ys e = refl
no_more (x ∷ xs) ys e = absurd (let more : length (xs ++ ys) ≡ length xs + length ys = length-append xs ys in omega (arith, e, more))

-- a fluent that is neither initiated anew nor ended stays as it is
module _ (made : Effects) (facts begun : TrailedSet) (now : (a : Atom) → Contains made.terminated a → Contains (members begun) a → Contains made.initiated a) (a : Atom)
    (off : Contains (filter (λ x. not (is_among (members facts) x)) made.initiated ++ filter (λ x. not (is_among (members begun) x)) made.terminated) a → ⊥) where
  -- what is initiated was there
  was_there : is_among made.initiated a ≡ true → (there : Bool) → is_among (members facts) a ≡ there → there ≡ true
  was_there new true is = refl
  was_there new false is =
      absurd (off (Contains-append_left (filter (λ x. not (is_among (members facts) x)) made.initiated) (filter (λ x. not (is_among (members begun) x)) made.terminated) a
      ((kept_is (members facts) made.initiated a).1 (contains_among a made.initiated new, λ at. (let yes : is_among (members facts) a ≡ true = among_contains a (members facts) at in cc)))))

  -- what is terminated is initiated
  comes_back : is_among made.terminated a ≡ true → (here : Bool) → is_among (members begun) a ≡ here → is_among made.initiated a ≡ true
  comes_back out true is = among_contains a made.initiated (now a (contains_among a made.terminated out) (contains_among a (members begun) is))
  comes_back out false is =
      absurd (off (Contains-append_right (filter (λ x. not (is_among (members facts) x)) made.initiated) (filter (λ x. not (is_among (members begun) x)) made.terminated) a
      ((kept_is (members begun) made.terminated a).1 (contains_among a made.terminated out, λ at. (let yes : is_among (members begun) a ≡ true = among_contains a (members begun) at in cc)))))

  same_by : (new out there : Bool) → (new ≡ true → there ≡ true) → (out ≡ true → new ≡ true) → (new || (there && not out)) ≡ there
  same_by true out there was back = sym (was refl)
  same_by false true there was back = absurd (let no = back refl in cc)
  same_by false false true was back = refl
  same_by false false false was back = refl

  same_among : is_among (members (with_effects made facts)) a ≡ is_among (members facts) a
  same_among =
      members_with_effects made facts a
      ∙ same_by (is_among made.initiated a) (is_among made.terminated a) (is_among (members facts) a) (λ new. was_there new (is_among (members facts) a) refl)
      (λ out. comes_back out (is_among (members begun) a) refl)

  pub unchanged : Contains (members (with_effects made facts)) a ↔ Contains (members facts) a
  unchanged = (
    λ h. contains_among a (members facts) (sym same_among ∙ among_contains a (members (with_effects made facts)) h),
    λ h. contains_among a (members (with_effects made facts)) (same_among ∙ among_contains a (members facts) h),
  )

-- ---- more events

more_events : (text : Text) (events more : List Atom) → AreEvents text events → AreEvents text more → AreEvents text (events ++ more)
more_events text events more old new = record { each = λ a h. elim (Contains-append_cases events more a h) [ inl first ↦ old.each a first | inr later ↦ new.each a later ] }

-- where the set has exactly some events it has with more events exactly these too
happened_more : (facts : TrailedSet) (events more : List Atom) (a : Atom) → Contains (members facts) a ↔ Contains events a → Contains (members (with_facts true more facts)) a ↔ Contains (events ++ more) a
happened_more facts events more a are = (
  λ h. elim ((with_events facts more a).0 h) [ inl old ↦ Contains-append_left events more a (are.0 old) | inr new ↦ Contains-append_right events more a new ],
  λ h. (with_events facts more a).1 (elim (Contains-append_cases events more a h) [ inl old ↦ inl (are.1 old) | inr new ↦ inr new ]),
)

module _ (text : Text) (old : TrialState) (is : IsGrown text old) (events : List Atom) (happening : AreEvents text events) (effects made : Effects)
    (are : (level : List ℕ → ℕ) → AreLevels (clauses text) level → AreEffects text level (members old.state) events effects) (new_fluents : AreFluents text effects.initiated)
    (initiated : made.initiated ≡ effects.initiated) (terminated : made.terminated ≡ filter (λ a. not (is_among (members old.begun) a)) effects.terminated) where
  abbrev longer : TrialState
  longer = record {
    state = old.state;
    next = with_effects made old.next;
    begun = with_facts true made.initiated old.begun;
    ended = old.ended ++ made.terminated;
    events = old.events ++ events;
    happened = with_facts true events old.happened;
  }

  gone : (a : Atom) → Contains made.terminated a ↔ (Contains effects.terminated a × (Contains (members old.begun) a → ⊥))
  gone a =
      subst (λ (atoms : List Atom). Contains atoms a ↔ (Contains effects.terminated a × (Contains (members old.begun) a → ⊥))) (sym terminated) (kept_is (members old.begun) effects.terminated a)

  begun_so : (level : List ℕ → ℕ) → AreLevels (clauses text) level → AreBegun text level (members old.state) (old.events ++ events) (members (with_facts true made.initiated old.begun))
  begun_so level levels =
      subst (λ (atoms : List Atom). AreBegun text level (members old.state) (old.events ++ events) (members (with_facts true atoms old.begun))) (sym initiated)
      (begun_more text level (members old.state) old.events events effects (are level levels) old.begun (is.begun_are level levels))

  is_longer : IsGrown text longer
  is_longer = record {
    fluents = is.fluents;
    happening = more_events text old.events events is.happening happening;
    next_fluents = fluents_after text old.next made is.next_fluents (subst (AreFluents text) (sym initiated) new_fluents);
    next_is = λ level levels.
        after_more text level (members old.state) old.events events effects (are level levels) old.begun (is.begun_are level levels) made initiated gone old.next (is.next_is level levels);
    begun_are = begun_so;
    ended_are = λ level levels.
        ended_more text level (members old.state) old.events events effects (are level levels) old.begun (is.begun_are level levels) made initiated gone old.next (is.next_is level levels)
        old.ended (is.ended_are level levels);
    happened_are = λ a. happened_more old.happened old.events events a (is.happened_are a);
  }

  -- a trial that has just these
  pub is_longer_so : (state next begun : TrailedSet) (ended all : List Atom) (happened : TrailedSet) → state ≡ old.state → next ≡ with_effects made old.next → begun ≡ with_facts true made.initiated old.begun →
      ended ≡ old.ended ++ made.terminated → all ≡ old.events ++ events → happened ≡ with_facts true events old.happened →
      IsGrown text (record { state = state; next = next; begun = begun; ended = ended; events = all; happened = happened })
  is_longer_so state next begun ended all happened state_is next_is begun_is ended_is all_is happened_is =
      let same : (record { state = state; next = next; begun = begun; ended = ended; events = all; happened = happened }) ≡ longer =
      λ i. record { state = state_is i; next = next_is i; begun = begun_is i; ended = ended_is i; events = all_is i; happened = happened_is i } in
      subst (IsGrown text) (sym same) is_longer

  -- ---- what is new

  -- a fluent that is terminated and has begun is initiated by these events
  initiated_now : (begun : TrailedSet) → begun ≡ with_facts true made.initiated old.begun → (a : Atom) → Contains made.terminated a → Contains (members begun) a → Contains made.initiated a
  initiated_now begun is' a ended here =
      elim ((with_events old.begun made.initiated a).0 (subst (λ (set : TrailedSet). Contains (members set) a) is' here)) [ inl before ↦ absurd (((gone a).0 ended).1 before) | inr now ↦ now ]

  -- what is new
  pub news_are : ViolateNone text (members old.happened) (members old.state) (members old.next) → AreFluents text effects.terminated → (state next begun happened : TrailedSet) (all touched : List Atom) → state ≡ old.state → next ≡ with_effects made old.next →
      begun ≡ with_facts true made.initiated old.begun → happened ≡ with_facts true events old.happened → all ≡ old.events ++ events →
      touched ≡ filter (λ a. not (is_among (members old.next) a)) made.initiated ++ filter (λ a. not (is_among (members begun) a)) made.terminated → AreNews text all events (members happened) (members state) (members next) touched
  news_are allowed ended state next begun happened all touched state_is next_is begun_is happened_is all_is touched_is = record {
    old = members old.happened;
    earlier = members old.next;
    split = λ a. subst (λ (set : TrailedSet). Contains (members set) a ↔ (Contains (members old.happened) a ⊎ Contains events a)) (sym happened_is) (with_events old.happened events a);
    first = λ none a h.
        let nothing : old.events ≡ [] = no_more old.events events (sym (ap length all_is) ∙ none) in
        nothing_contained a (subst (λ (atoms : List Atom). Contains atoms a) nothing ((is.happened_are a).0 h));
    untouched = λ a off.
        subst (λ (set : TrailedSet). Contains (members set) a ↔ Contains (members old.next) a) (sym next_is)
        (unchanged made old.next begun (initiated_now begun begun_is) a (λ at. off (subst (λ (atoms : List Atom). Contains atoms a) (sym touched_is) at)));
    fluents = is.next_fluents;
    touched_are = record { each = λ a at. touched_fluent a (subst (λ (atoms : List Atom). Contains atoms a) touched_is at) };
    allowed = subst (λ (set : TrailedSet). ViolateNone text (members old.happened) (members set) (members old.next)) (sym state_is) allowed;
  }
    where
      touched_fluent : (a : Atom) → Contains (filter (λ x. not (is_among (members old.next) x)) made.initiated ++ filter (λ x. not (is_among (members begun) x)) made.terminated) a → IsFluent text a
      touched_fluent a at =
          elim (Contains-append_cases (filter (λ x. not (is_among (members old.next) x)) made.initiated) (filter (λ x. not (is_among (members begun) x)) made.terminated) a at) [
            | inl new ↦ new_fluents.each a (subst (λ (atoms : List Atom). Contains atoms a) initiated ((kept_is (members old.next) made.initiated a).0 new).0)
            | inr out ↦ ended.each a ((gone a).0 ((kept_is (members begun) made.terminated a).0 out).0).0
          ]

-- ---- results

pub on_ok : {T E : Type 0} (r : Result T E) (P : Type 0) → P → OnOk r P
on_ok (Ok x) P p = p
on_ok (Err e) P p = tt

-- ---- the state after the events

module _ (text : Text) (accepted : IsAccepted text) (formed : is_formed text ≡ true) (old : TrialState) (is : IsGrown text old) (sorted : IsStrictlySortedBy atom_cmp (members old.state)) where
  abbrev after : List Atom
  after = members (made_at_once old).state

  after_is : (level : List ℕ → ℕ) → AreLevels (clauses text) level → IsAfter text level (members old.state) old.events after
  after_is level levels = after_once text level old.state old.events (members old.begun) old.ended (is.begun_are level levels) (is.ended_are level levels) sorted

  after_fluents : AreFluents text after
  after_fluents = after_has_fluents text accepted formed (members old.state) old.events after is.fluents after_is

  pub is_next : IsUpdate text (members old.state) old.events after
  is_next = is_update text (members old.state) old.events after after_fluents after_is

  -- the same state before and after, with nothing begun
  pub is_anew : (state next begun happened : TrailedSet) → members state ≡ after → members next ≡ members old.next → begun ≡ no_facts → happened ≡ no_facts →
      IsTrial text (record { state = state; next = next; begun = begun; ended = []; events = []; happened = happened })
  is_anew state next begun happened state_is next_is nothing none = record {
    grown = record {
      fluents = subst (AreFluents text) (sym state_is) after_fluents;
      happening = record { each = λ a h. absurd (nothing_contained a h) };
      next_fluents = subst (AreFluents text) (sym next_is) is.next_fluents;
      next_is = λ level levels.
          subst (λ (facts : List Atom). IsAfter text level facts [] (members next)) (sym state_is)
          (subst (IsAfter text level after []) (sym next_is) (after_same text level (members old.state) old.events after (members old.next) (after_is level levels) (is.next_is level levels)));
      begun_are = λ level levels. subst (AreBegun text level (members state) []) (sym (ap members nothing)) (begun_none text level (members state));
      ended_are = λ level levels. ended_none text level (members state);
      happened_are = λ a. subst (λ (facts : List Atom). Contains facts a ↔ Contains [] a) (sym (ap members none)) ((λ h. h), (λ h. h));
    };
    allowed = λ accepted formed.
        subst (λ (set : TrailedSet). ViolateNone text (members set) (members state) (members next)) (sym none) (nothing_violated text accepted formed (members state) (members next));
  }

-- ---- what is new in the state after

module _ (text : Text) (accepted : IsAccepted text) (formed : is_formed text ≡ true) (trial : TrialState) (is : IsGrown text trial) where
  some_levels : (level : List ℕ → ℕ) × AreLevels (clauses text) level
  some_levels = let sound = accepted_is_sound text accepted formed [] (λ a there. absurd (nothing_contained a there)) in (sound.level, sound.levels)

  abbrev new_facts : List Atom
  new_facts = filter (λ a. not (is_among (members trial.state) a)) (members trial.begun)

  pub new_or_old : (a : Atom) → Contains (members trial.next) a → Contains (members trial.state) a ⊎ Contains new_facts a
  new_or_old a there =
      let l = some_levels in
      elim (((is.next_is l.0 l.1).exact a).0 there) [
        | inl begins ↦ by (is_among (members trial.state) a) refl ((is.begun_are l.0 l.1 a).1 begins)
        | inr was ↦ inl was.0
      ]
    where
      by : (old : Bool) → is_among (members trial.state) a ≡ old → Contains (members trial.begun) a → Contains (members trial.state) a ⊎ Contains new_facts a
      by true e begins = inl (contains_among a (members trial.state) e)
      by false e begins = inr ((kept_is (members trial.state) (members trial.begun) a).1 (begins, λ was. let none : true ≡ false = sym (among_contains a (members trial.state) was) ∙ e in cc))

  pub new_only : (a : Atom) → Contains new_facts a → Contains (members trial.next) a × (Contains (members trial.state) a → ⊥)
  new_only a there =
      let l = some_levels in
      let new = (kept_is (members trial.state) (members trial.begun) a).0 there in
      (((is.next_is l.0 l.1).exact a).1 (inl ((is.begun_are l.0 l.1 a).0 new.0)), new.1)
