-- Rounds that are begun, judged, asked, made longer by a pick, and taken back.
use Rattle.std.proofs.Common.{◌≡◌, ◌∙◌, ℕ, Bool, true, false, List, [], ◌∷◌, ◌++◌, map, length, take, not, refl, sym, ap, subst, inl, inr, arith, append_assoc, Option, Some, None}
use Rattle.std.specs.Prelude.{◌↔◌, ◌==◌, Contains, IsTrue, MatchOption, if◌then◌else◌}
use Rattle.std.specs.List.{AllByRecursion}
use Rattle.std.specs.List.Sorted.{IsStrictlySortedBy}
use Rattle.std.specs.Option.{is_none}
use Rattle.std.proofs.lemmas.Bool.{eq-eqb, eqb-true}
use Rattle.std.proofs.lemmas.List.{append-nil, length-append, map-append, take-append-le}
use Rattle.std.proofs.lemmas.List.Concat.{flat_map-append}
use Rattle.std.proofs.lemmas.List.Elements.{Contains-append_cases, Contains-append_left, Contains-push}
use Rattle.lps_terms.specs.declared.atom.Atom.{Atom}
use Rattle.lps_terms.specs.declared.text.Text.{Text}
use Rattle.lps_terms.specs.Order.{atom_cmp}
use Rattle.lps_terms.specs.OrderLaws.{atom_cmp-IsAntisymmetric, atom_cmp_total}
use Rattle.lps_model.specs.declared.cycle.Cycle.{Cycle}
use Rattle.lps_model.specs.declared.cycle.Group.{Group}
use Rattle.lps_model.specs.declared.cycle.Pick.{Pick}
use Rattle.lps_model.specs.Acceptance.{IsAccepted}
use Rattle.lps_model.specs.Formed.{is_formed}
use Rattle.lps_model.specs.Run.{first_trace}
use Rattle.lps_model.specs.Trace.{happens_in}
use Rattle.lps_model.proofs.Elements.{first_or_later, nothing_contained, sorted_same}
use Rattle.lps_causal.specs.Names.{AreEvents}
use Rattle.lps_causal.specs.Next.{IsUpdate}
use Rattle.lps_choice.specs.Choices.{Admits, Answers, goals_of, pick_of}
use Rattle.lps_goaltrees.specs.declared.goal.Goal.{Goal}
use Rattle.lps_precond.specs.Judged.{IsJudged}
use Rattle.lps_trial.specs.Trial.{InState, IsLonger, IsMoment, IsTrial, Moment, TrialState, back_at, moment_of}
use Rattle.lps_trial.proofs.Trials.{all_taken, is_moment, longer_itself, longer_still, none_taken, taken_back}
use Rattle.lps_cycle.specs.declared.candidates.Candidate.{Candidate}
use Rattle.lps_cycle.specs.Candidates.{AreAsked, Proposer, groups_of, is_picked_among, number_of, numbers_of, proposers_of, with_pick, with_picks}
use Rattle.lps_cycle.specs.Round.{AreProposers, IsNoted, IsRound, IsSince, MayHappen, Setting, ViolatesAfter, by_picks, choice_in}
use Rattle.lps_cycle.proofs.RoundsMay.{every}
use Rattle.lps_cycle.proofs.RoundsStates.{is_first_state, some_levels}

-- ---- nothing happens yet

pub anew_round : (text : Text) (trial : TrialState) (candidates : List Candidate) (picks : List Pick) (start : Moment) → IsTrial text trial → trial.events ≡ [] → start ≡ moment_of trial → candidates ≡ [] → picks ≡ [] →
    IsRound text trial 0 candidates picks start
anew_round text trial candidates picks start is none marked no_candidates no_picks = record {
  is = is;
  since = record { first = trial; is = is; anew = none; marked = marked; longer = longer_itself trial };
  within = omega arith;
  events = none ∙ sym (ap (λ (es : List Atom). es ++ by_picks picks) (none_taken trial.events) ∙ ap by_picks no_picks);
  may = subst (AllByRecursion (MayHappen text)) (sym no_candidates) tt;
  noted = subst (AllByRecursion (IsNoted picks)) (sym no_candidates) tt;
}

module _ (text : Text) (trial : TrialState) (start : Moment) (since : IsSince text start trial) where
  pub since_moment : IsMoment start trial
  since_moment = subst (λ (m : Moment). IsMoment m trial) (sym since.marked) (is_moment since.first trial since.longer)

  pub back_is : back_at start trial ≡ since.first
  back_is = ap (λ (m : Moment). back_at m trial) since.marked ∙ taken_back since.first trial since.longer

  pub since_longer : (later : TrialState) → IsLonger trial later → IsSince text start later
  since_longer later longer =
      record { first = since.first; is = since.is; anew = since.anew; marked = since.marked; longer = longer_still since.first trial later since.longer longer }

pub back_round : (text : Text) (trial back : TrialState) (count : ℕ) (old candidates : List Candidate) (before picks : List Pick) (start : Moment) → IsRound text trial count old before start →
    back ≡ back_at start trial → candidates ≡ [] → picks ≡ [] → IsRound text back 0 candidates picks start
back_round text trial back count old candidates before picks start is same no_candidates no_picks =
    subst (λ (t : TrialState). IsRound text t 0 candidates picks start) (sym (same ∙ back_is text trial start is.since))
    (anew_round text is.since.first candidates picks start is.since.is is.since.anew is.since.marked no_candidates no_picks)

-- ---- what is judged and asked

-- without picks the candidates are noted the same way
pub judged_round : (text : Text) (old new : TrialState) (count : ℕ) (candidates : List Candidate) (picks : List Pick) (start : Moment) → IsRound text old count candidates picks start → picks ≡ [] →
    IsTrial text new → IsLonger old new → (all : ℕ) → all ≡ length new.events → IsRound text new all candidates picks start
judged_round text old new count candidates picks start is none trial longer all are = record {
  is = trial;
  since = since_longer text old start is.since new longer;
  within = omega (arith, are);
  events = sym (ap (λ (picks : List Pick). take all new.events ++ by_picks picks) none ∙ append-nil (take all new.events) ∙ ap (λ n. take n new.events) are ∙ all_taken new.events);
  may = is.may;
  noted = is.noted;
}

free_noted : (text : Text) (time : ℕ) (goals : List Goal) (candidates : List Candidate) → AreAsked text time goals candidates → AllByRecursion (IsNoted []) candidates
free_noted text time [] [] are = tt
free_noted text time [] (c ∷ cs) are = absurd are
free_noted text time (goal ∷ goals) [] are = absurd are
free_noted text time (goal ∷ goals) (c ∷ cs) are =
    ((λ flag. absurd (let free : c.is_picked ≡ false = are.0.free in let is : c.is_picked ≡ true = flag in cc), λ at. absurd (nothing_contained (number_of c) at)), free_noted text time goals cs are.1)

pub asked_round : (text : Text) (trial : TrialState) (count : ℕ) (old candidates : List Candidate) (picks : List Pick) (start : Moment) → IsRound text trial count old picks start → picks ≡ [] → (time : ℕ) (goals : List Goal) →
    AreAsked text time goals candidates → AllByRecursion (MayHappen text) candidates → IsRound text trial count candidates picks start
asked_round text trial count old candidates picks start is none time goals are may = record {
  is = is.is;
  since = is.since;
  within = is.within;
  events = is.events;
  may = may;
  noted = subst (λ (picks : List Pick). AllByRecursion (IsNoted picks) candidates) (sym none) (free_noted text time goals candidates are);
}

pub asked_proposers : (text : Text) (time : ℕ) (goals : List Goal) (candidates : List Candidate) → AreAsked text time goals candidates → AreProposers text time goals (proposers_of candidates)
asked_proposers text time [] [] are = tt
asked_proposers text time [] (c ∷ cs) are = absurd are
asked_proposers text time (goal ∷ goals) [] are = absurd are
asked_proposers text time (goal ∷ goals) (c ∷ cs) are = (record { number = ap (λ n. n.0) are.0.number; proposed = are.0.proposed }, asked_proposers text time goals cs are.1)

-- ---- candidates

pub proposing : (candidates : List Candidate) → map (λ (p : Proposer). p.goal) (proposers_of candidates) ≡ numbers_of candidates
proposing [] = refl
proposing (c ∷ cs) = ap (λ (ns : List ℕ). number_of c ∷ ns) (proposing cs)

pub pending_at : (candidates : List Candidate) (goal : ℕ) → Contains (map (λ (p : Proposer). p.goal) (proposers_of candidates)) goal → Contains (numbers_of candidates) goal
pending_at candidates goal at = subst (λ (ns : List ℕ). Contains ns goal) (proposing candidates) at

pub same_proposers : (goal : ℕ) (candidates : List Candidate) → proposers_of (with_picks goal candidates) ≡ proposers_of candidates
same_proposers goal [] = refl
same_proposers goal (c ∷ cs) = ap (λ (ps : List Proposer). record { goal = number_of c; groups = c.proposals } ∷ ps) (same_proposers goal cs)

-- what holds by a test of numbers
pub by_number : (x goal : ℕ) (P : Bool → Type 0) → (x ≡ goal → P true) → ((x ≡ goal → ⊥) → P false) → P (x == goal)
by_number x goal P equal differ = by (x == goal) refl
  where
    by : (test : Bool) → (x == goal) ≡ test → P test
    by true e = equal (eqb-true x goal e)
    by false e = differ (λ same. let is : (x == goal) ≡ true = eq-eqb x goal same in cc)

-- a proposal of one of them is of events
pub proposed_may : (text : Text) (candidates : List Candidate) → AllByRecursion (MayHappen text) candidates → (goal : ℕ) (group : Group) → Contains (groups_of (proposers_of candidates) goal) group → AreEvents text group.atoms
proposed_may text [] may goal group at = absurd (nothing_contained group at)
proposed_may text (c ∷ cs) may goal group at =
    by_number (number_of c) goal (λ test. Contains (if test then c.proposals else groups_of (proposers_of cs) goal) group → AreEvents text group.atoms)
    (λ same at. every (λ (group : Group). AreEvents text group.atoms) c.proposals may.0 group at) (λ other at. proposed_may text cs may.1 goal group at) at

-- whether one of them has a pick is noted
pub noted_so : (candidates : List Candidate) (picks : List Pick) → AllByRecursion (IsNoted picks) candidates → (goal : ℕ) → Contains (numbers_of candidates) goal →
    IsTrue (is_picked_among candidates goal) ↔ Contains (goals_of picks) goal
noted_so [] picks noted goal at = absurd (nothing_contained goal at)
noted_so (c ∷ cs) picks noted goal at =
    by_number (number_of c) goal (λ test. IsTrue (if test then c.is_picked else is_picked_among cs goal) ↔ Contains (goals_of picks) goal)
    (λ same. subst (λ n. IsTrue c.is_picked ↔ Contains (goals_of picks) n) same noted.0)
    (λ other. noted_so cs picks noted.1 goal (elim (first_or_later (number_of c) (numbers_of cs) goal at) [ inl same ↦ absurd (other same) | inr later ↦ later ]))

-- ---- a pick is made

goals_more : (picks : List Pick) (pick : Pick) → goals_of (picks ++ pick ∷ []) ≡ goals_of picks ++ pick.goal ∷ []
goals_more picks pick = map-append (λ (p : Pick). p.goal) picks (pick ∷ [])

pub picks_more : (picks : List Pick) (pick : Pick) → by_picks (picks ++ pick ∷ []) ≡ by_picks picks ++ pick.group.atoms
picks_more picks pick = flat_map-append (λ (p : Pick). p.group.atoms) picks (pick ∷ []) ∙ ap (λ (atoms : List Atom). by_picks picks ++ atoms) (append-nil pick.group.atoms)

noted_more : (picks : List Pick) (goal : ℕ) (group : Group) (candidates : List Candidate) → AllByRecursion (IsNoted picks) candidates →
    AllByRecursion (IsNoted (picks ++ pick_of goal group ∷ [])) (with_picks goal candidates)
noted_more picks goal group [] noted = tt
noted_more picks goal group (c ∷ cs) noted =
    (subst (λ (goals : List ℕ). IsTrue (with_pick goal c).is_picked ↔ Contains goals (number_of c)) (sym (goals_more picks (pick_of goal group))) here, noted_more picks goal group cs noted.1)
  where
    here : IsTrue (with_pick goal c).is_picked ↔ Contains (goals_of picks ++ goal ∷ []) (number_of c)
    here =
        by_number (number_of c) goal (λ test. IsTrue (if test then true else c.is_picked) ↔ Contains (goals_of picks ++ goal ∷ []) (number_of c))
        (λ same. (λ flag. subst (Contains (goals_of picks ++ goal ∷ [])) (sym same) (Contains-push (goals_of picks) goal), λ at. refl))
        (λ other. (
          λ flag. Contains-append_left (goals_of picks) (goal ∷ []) (number_of c) (noted.0.0 flag),
          λ at. elim (Contains-append_cases (goals_of picks) (goal ∷ []) (number_of c) at) [
            | inl old ↦ noted.0.1 old
            | inr new ↦ absurd (elim (first_or_later goal [] (number_of c) new) [ inl same ↦ other (sym same) | inr later ↦ nothing_contained (number_of c) later ])
          ],
        ))

may_more : (text : Text) (goal : ℕ) (candidates : List Candidate) → AllByRecursion (MayHappen text) candidates → AllByRecursion (MayHappen text) (with_picks goal candidates)
may_more text goal [] may = tt
may_more text goal (c ∷ cs) may = (may.0, may_more text goal cs may.1)

module _ (text : Text) (old new : TrialState) (count : ℕ) (candidates : List Candidate) (picks : List Pick) (start : Moment) (is : IsRound text old count candidates picks start) (goal : ℕ) (group : Group)
    (more : new.events ≡ old.events ++ group.atoms) where
  -- the events of the batch stay the same
  pub same_admitted : take count new.events ≡ take count old.events
  same_admitted = ap (take count) more ∙ take-append-le count old.events group.atoms is.within

  pub picked_round : IsTrial text new → IsLonger old new → IsRound text new count (with_picks goal candidates) (picks ++ pick_of goal group ∷ []) start
  picked_round trial longer = record {
    is = trial;
    since = since_longer text old start is.since new longer;
    within = omega (arith, is.within, ap length more, length-append old.events group.atoms);
    events =
        more ∙ ap (λ (es : List Atom). es ++ group.atoms) is.events ∙ append_assoc (take count old.events) (by_picks picks) group.atoms
        ∙ (λ i. sym same_admitted i ++ sym (picks_more picks (pick_of goal group)) i);
    may = may_more text goal candidates is.may;
    noted = noted_more picks goal group candidates is.noted;
  }

-- ---- what is answered of a group

pub turned : (x y : Bool) → not x ≡ y → not y ≡ x
turned true y e = ap not (sym e)
turned false y e = ap not (sym e)

-- the events that are tried are those of the picks with those of the group
pub tried_events : (text : Text) (trial : TrialState) (count : ℕ) (candidates : List Candidate) (picks : List Pick) (start : Moment) → IsRound text trial count candidates picks start → (atoms : List Atom) →
    trial.events ++ atoms ≡ (take count trial.events ++ by_picks picks) ++ atoms
tried_events text trial count candidates picks start is atoms = ap (λ (es : List Atom). es ++ atoms) is.events

pub answered : (setting : Setting) (picks : List Pick) (group : Group) → IsAccepted setting.text → is_formed setting.text ≡ true → IsStrictlySortedBy atom_cmp setting.facts → (together : List Atom) →
    together ≡ (setting.admitted ++ by_picks picks) ++ group.atoms → (found : Option ℕ) → InState setting.text setting.facts (λ level trace. IsJudged setting.text level trace together found) →
    Answers (choice_in setting) picks group (is_none found)
answered setting picks group accepted formed sorted together are None judged = λ k violates.
    let some = some_levels setting.text accepted formed in
    let state = is_first_state setting.text some.0 setting.facts sorted in
    judged some.0 some.1 (first_trace setting.facts) state k (subst (λ (es : List Atom). ViolatesAfter setting.text setting.facts es k) (sym are) violates some.0 some.1 (first_trace setting.facts) state)
answered setting picks group accepted formed sorted together are (Some k) judged =
    (k, subst (λ (es : List Atom). ViolatesAfter setting.text setting.facts es k) are (λ level levels trace state. (judged level levels trace state).0))

-- what is admitted is not refused
pub not_refused : (setting : Setting) (picks : List Pick) (group : Group) → Admits (choice_in setting) picks group → (together : List Atom) → together ≡ (setting.admitted ++ by_picks picks) ++ group.atoms →
    (k : ℕ) → InState setting.text setting.facts (λ level trace. IsJudged setting.text level trace together (Some k)) → ⊥
not_refused setting picks group admits together are k judged =
    admits k (subst (λ (es : List Atom). ViolatesAfter setting.text setting.facts es k) are (λ level levels trace state. (judged level levels trace state).0))

-- the case in which the events were made longer
pub made_longer : (setting : Setting) (picks : List Pick) (group : Group) → Admits (choice_in setting) picks group → (old new : TrialState) → old.events ++ group.atoms ≡ (setting.admitted ++ by_picks picks) ++ group.atoms →
    (found : Option ℕ) → InState setting.text setting.facts (λ level trace. IsJudged setting.text level trace (old.events ++ group.atoms) found) → MatchOption found (new.events ≡ old.events ++ group.atoms) (λ k. new ≡ old) →
    new.events ≡ old.events ++ group.atoms
made_longer setting picks group admits old new are None judged longer = longer
made_longer setting picks group admits old new are (Some k) judged longer = absurd (not_refused setting picks group admits (old.events ++ group.atoms) are k judged)

-- ---- the state after

abbrev cycle_with : List Atom → Cycle
cycle_with events = record { events = []; verdicts = []; picks = pick_of 0 (record { atoms = events }) ∷ [] }

-- the events make one state of the facts
pub same_update : (text : Text) → IsAccepted text → is_formed text ≡ true → (facts : List Atom) → IsStrictlySortedBy atom_cmp facts → (events one two : List Atom) → IsUpdate text facts events one → IsUpdate text facts events two → one ≡ two
same_update text accepted formed facts sorted events one two first second =
    let some = some_levels text accepted formed in
    let state = is_first_state text some.0 facts sorted in
    let happens : happens_in (cycle_with events) ≡ events = append-nil events in
    let here = first.state some.0 some.1 (first_trace facts) (cycle_with events) happens state in
    let there = second.state some.0 some.1 (first_trace facts) (cycle_with events) happens state in
    sorted_same atom_cmp_total atom_cmp-IsAntisymmetric one two here.sorted there.sorted (λ a at. (there.exact a).1 ((here.exact a).0 at)) (λ a at. (here.exact a).1 ((there.exact a).0 at))
