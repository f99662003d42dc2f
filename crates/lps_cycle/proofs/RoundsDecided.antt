-- The choice in a round is that of the next cycle, in each trace of which these facts are the last state and these goals are the pending ones.
use Rattle.std.proofs.Common.{◌≡◌, ◌∙◌, ◌≤◌, ℕ, List, [], ◌∷◌, ◌++◌, map, length, refl, sym, ap, subst, inl, inr, Option, Some, None}
use Rattle.std.specs.Prelude.{◌↔◌, Contains, IsTrue, if◌then◌else◌}
use Rattle.std.specs.List.{AllByRecursion}
use Rattle.std.specs.List.Sorted.{IsStrictlySortedBy}
use Rattle.std.specs.Ordering.{nat_cmp, on}
use Rattle.std.specs.declared.cmp.Ordering.TheVariants.{Less}
use Rattle.lps_terms.specs.declared.atom.Atom.{Atom}
use Rattle.lps_terms.specs.declared.text.Text.{Text}
use Rattle.lps_model.specs.declared.cycle.Group.{Group}
use Rattle.lps_model.specs.declared.cycle.Pick.{Pick}
use Rattle.lps_model.specs.declared.trace.Trace.{Trace}
use Rattle.lps_model.specs.Acceptance.{IsAccepted}
use Rattle.lps_model.specs.Clauses.{clauses}
use Rattle.lps_model.specs.Formed.{is_formed}
use Rattle.lps_model.specs.Rules.{numbered}
use Rattle.lps_model.proofs.Elements.{first_is_contained, first_or_later, later_is_contained, nothing_contained}
use Rattle.lps_derivation.specs.Levels.{AreLevels}
use Rattle.lps_meaning.specs.declared.goal.Closed.{Closed}
use Rattle.lps_meaning.specs.declared.goal.Closed.TheVariants as c
use Rattle.lps_meaning.specs.declared.goal.GoalKey.{GoalKey}
use Rattle.lps_meaning.specs.Cycles.{IsPendingNumber}
use Rattle.lps_meaning.specs.Goals.{IsClosed, IsPending}
use Rattle.lps_meaning.specs.Plain.{Ranked}
use Rattle.lps_meaning.specs.Reports.{IsState}
use Rattle.lps_meaning.proofs.Lists.{number_contained}
use Rattle.lps_causal.specs.Names.{AreFluents}
use Rattle.lps_choice.specs.Choices.{ArePicks, Choice, Extends}
use Rattle.lps_choice.specs.Standing.{AreProposals, IsChoiceOf, IsRanked}
use Rattle.lps_goaltrees.specs.declared.goal.Goal.{Goal}
use Rattle.lps_goaltrees.specs.Followed.{IsAmong, StandsFor}
use Rattle.lps_goaltrees.specs.Laws.{OffersAreProposals}
use Rattle.lps_goaltrees.specs.Offers.{AreProposed, IsOffered}
use Rattle.lps_goaltrees.specs.Pursued.{Pursuit}
use Rattle.lps_cycle.specs.Candidates.{Proposer, groups_of}
use Rattle.lps_cycle.specs.Round.{AreProposers, choice_in}
use Rattle.lps_cycle.proofs.Rounds.{by_number}
use Rattle.lps_cycle.proofs.RoundsStates.{violates_same}

-- ---- statuses and numbers

-- a goal that is closed is not pending
closed_is_not_pending : (text : Text) (level : List ℕ → ℕ) (trace : Trace) (depth : ℕ) (key : GoalKey) (now : ℕ) (how : Closed) → IsClosed text level trace depth key now how → IsPending text level trace depth key now → ⊥
closed_is_not_pending text level trace depth key now c.Solved closed pending = pending.0 closed
closed_is_not_pending text level trace depth key now c.Failed closed pending = closed.1 pending.1
closed_is_not_pending text level trace depth key now c.Cut closed pending = closed.1 pending.1

-- one number has one key
one_key : (keys : List GoalKey) (n m : ℕ) (key other : GoalKey) → n ≡ m → numbered keys n ≡ Some key → numbered keys m ≡ Some other → key ≡ other
one_key keys n m key other same is there = ap (key_or key) (sym is ∙ ap (numbered keys) same ∙ there)
  where
    key_or : GoalKey → Option GoalKey → GoalKey
    key_or default None = default
    key_or default (Some key) = key

-- ---- goals and proposers

module _ (text : Text) (time : ℕ) where
  proposers_higher : (x : ℕ) (goals : List Goal) (ps : List Proposer) → AreProposers text time goals ps → AllByRecursion (λ (goal : Goal). nat_cmp x goal.goal.0 ≡ Less) goals →
      AllByRecursion (λ y. nat_cmp x y ≡ Less) (map (λ (p : Proposer). p.goal) ps)
  proposers_higher x [] [] are h = tt
  proposers_higher x [] (p ∷ ps) are h = absurd are
  proposers_higher x (goal ∷ goals) [] are h = absurd are
  proposers_higher x (goal ∷ goals) (p ∷ ps) are h = (subst (λ n. nat_cmp x n ≡ Less) (sym are.0.number) h.0, proposers_higher x goals ps are.1 h.1)

  proposers_rise : (goals : List Goal) (ps : List Proposer) → AreProposers text time goals ps → IsStrictlySortedBy (on (λ (goal : Goal). goal.goal.0) nat_cmp) goals → IsStrictlySortedBy nat_cmp (map (λ (p : Proposer). p.goal) ps)
  unfolding IsStrictlySortedBy
  proposers_rise [] [] are rising = tt
  proposers_rise [] (p ∷ ps) are rising = absurd are
  proposers_rise (goal ∷ goals) [] are rising = absurd are
  proposers_rise (goal ∷ goals) (p ∷ ps) are rising = (
    proposers_higher p.goal goals ps are.1 (subst (λ n. AllByRecursion (λ (other : Goal). nat_cmp n other.goal.0 ≡ Less) goals) (sym are.0.number) rising.0),
    proposers_rise goals ps are.1 rising.1,
  )

  -- a number of a proposer is that of a goal, and the other way round
  goal_of : (goals : List Goal) (ps : List Proposer) → AreProposers text time goals ps → (n : ℕ) → Contains (map (λ (p : Proposer). p.goal) ps) n → IsAmong goals n
  goal_of [] [] are n at = absurd (nothing_contained n at)
  goal_of [] (p ∷ ps) are n at = absurd are
  goal_of (goal ∷ goals) [] are n at = absurd are
  goal_of (goal ∷ goals) (p ∷ ps) are n at =
      elim (first_or_later p.goal (map (λ (p : Proposer). p.goal) ps) n at) [
        | inl same ↦ (goal, first_is_contained goal goals, sym are.0.number ∙ same)
        | inr later ↦ let found = goal_of goals ps are.1 n later in (found.0, later_is_contained goal goals found.0 found.1, found.2)
      ]

  number_of_goal : (goals : List Goal) (ps : List Proposer) → AreProposers text time goals ps → (goal : Goal) → Contains goals goal → Contains (map (λ (p : Proposer). p.goal) ps) goal.goal.0
  number_of_goal [] ps are goal at = absurd (nothing_contained goal at)
  number_of_goal (first ∷ goals) [] are goal at = absurd are
  number_of_goal (first ∷ goals) (p ∷ ps) are goal at =
      elim (first_or_later first goals goal at) [
        | inl same ↦ subst (Contains (map (λ (p : Proposer). p.goal) (p ∷ ps))) (are.0.number ∙ ap (λ (g : Goal). g.goal.0) same) (first_is_contained p.goal (map (λ (p : Proposer). p.goal) ps))
        | inr later ↦ later_is_contained p.goal (map (λ (p : Proposer). p.goal) ps) goal.goal.0 (number_of_goal goals ps are.1 goal later)
      ]

  -- what is found under a number is what a goal with this number proposes
  found_groups : (goals : List Goal) (ps : List Proposer) → AreProposers text time goals ps → (n : ℕ) → IsAmong goals n → (goal : Goal) × Contains goals goal × (goal.goal.0 ≡ n) × AreProposed text time goal.nodes (groups_of ps n)
  found_groups [] ps are n among = absurd (nothing_contained among.0 among.1)
  found_groups (first ∷ goals) [] are n among = absurd are
  found_groups (first ∷ goals) (p ∷ ps) are n among =
      by_number p.goal n (λ test. (goal : Goal) × Contains (first ∷ goals) goal × (goal.goal.0 ≡ n) × AreProposed text time goal.nodes (if test then p.groups else groups_of ps n))
      (λ same. (first, first_is_contained first goals, sym are.0.number ∙ same, are.0.proposed))
      (λ other.
      let found = found_groups goals ps are.1 n (
        among.0,
        elim (first_or_later first goals among.0 among.1) [
          | inl same ↦ absurd (other (are.0.number ∙ ap (λ (g : Goal). g.goal.0) same ∙ among.2))
          | inr later ↦ later
        ],
        among.2,
      ) in (found.0, later_is_contained first goals found.0 found.1, found.2, found.3))

-- ---- the choice

module _ (offers : OffersAreProposals) (text : Text) (accepted : IsAccepted text) (formed : IsTrue (is_formed text)) (facts : List Atom) (fluents : AreFluents text facts) (level : List ℕ → ℕ)
    (levels : AreLevels (clauses text) level) (trace : Trace) (state : IsState text level trace (length trace.cycles) facts) (depth : ℕ) (pursuit : Pursuit) (stands : StandsFor text level depth trace pursuit)
    (ps : List Proposer) (are : AreProposers text (length trace.cycles) pursuit.goals ps) where
  pending_key : (goal : Goal) → Contains pursuit.goals goal → (n : ℕ) → goal.goal.0 ≡ n → IsPendingNumber text level depth trace stands.keys n goal.key
  pending_key goal at n same = (ap (numbered stands.keys) (sym same) ∙ stands.kept.numbers goal at, stands.pending goal at)

  among_pending : (n : ℕ) (key : GoalKey) → IsPendingNumber text level depth trace stands.keys n key → IsAmong pursuit.goals n
  among_pending n key pending =
      elim (stands.others n key pending.0) [
        | inl among ↦ among
        | inr closed ↦ absurd (closed_is_not_pending text level trace depth key (length trace.cycles) closed.0 closed.1 pending.1)
      ]

  -- what is offered by a goal is what it proposes
  ranked_of : (goal : Goal) → Contains pursuit.goals goal → (r : Ranked) → IsOffered text (length trace.cycles) goal.nodes r ↔ IsRanked text level depth trace goal.key r
  ranked_of goal at r =
      let after : goal.key.time ≤ length trace.cycles = stands.kept.early goal.key (number_contained stands.keys goal.goal.0 goal.key (stands.kept.numbers goal at)) in
      let is = offers text accepted formed level trace depth goal after (stands.kept.followed goal at) r in
      ((λ o. let m = is.0 o in record { proposal = m.0; alternative = m.1; of_rank = m.2 }), (λ k. is.1 (k.proposal, k.alternative, k.of_rank)))

  are_proposals : (goal : Goal) → Contains pursuit.goals goal → (groups : List Group) → AreProposed text (length trace.cycles) goal.nodes groups → AreProposals text level depth trace goal.key groups
  are_proposals goal at groups proposed = record {
    ranked = proposed.ranked;
    told = proposed.told;
    sorted = proposed.sorted;
    each = λ r among. (ranked_of goal at r).0 (proposed.each r among);
    first = λ r is. proposed.first r ((ranked_of goal at r).1 is);
  }

  pub is_choice : (admitted : List Atom) → IsChoiceOf text level depth trace stands.keys admitted (choice_in (record { text = text; facts = facts; admitted = admitted; proposers = ps }))
  is_choice admitted = record {
    rising = proposers_rise text (length trace.cycles) pursuit.goals ps are stands.kept.rising;
    pending = λ n. (
      (λ at. let goal = goal_of text (length trace.cycles) pursuit.goals ps are n at in (goal.0.key, pending_key goal.0 goal.1 n goal.2)),
      (λ pending.
          let goal = among_pending n pending.0 pending.1 in
          subst (Contains (map (λ (p : Proposer). p.goal) ps)) goal.2 (number_of_goal text (length trace.cycles) pursuit.goals ps are goal.0 goal.1)),
    );
    proposals = λ n key pending.
        let found = found_groups text (length trace.cycles) pursuit.goals ps are n (among_pending n key pending) in
        let same = one_key stands.keys found.0.goal.0 n found.0.key key found.2 (stands.kept.numbers found.0 found.1) pending.0 in
        subst (λ (key : GoalKey). AreProposals text level depth trace key (groups_of ps n)) same (are_proposals found.0 found.1 (groups_of ps n) found.3);
    before = refl;
    violates = λ happening k. (
      (λ all. all level levels trace state),
      (λ here other others next there. violates_same text accepted formed facts fluents level other levels others trace next state there happening k here),
    );
  }

-- all picks are legal, where none was made before
pub all_legal : (choice : Choice) (made all : List Pick) → made ≡ [] → Extends choice made all → ArePicks choice [] all
all_legal choice made all none extends =
    let same : all ≡ extends.more = extends.whole ∙ ap (λ (picks : List Pick). picks ++ extends.more) none in
    subst (ArePicks choice []) (sym same) (subst (λ (picks : List Pick). ArePicks choice picks extends.more) none extends.picks)
