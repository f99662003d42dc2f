-- When a choice stands for the choice of a cycle that may follow a trace, and what then holds of picks.
use Rattle.std.specs.Prelude.{◌≡◌, ◌↔◌, ◌++◌, ℕ, List, map, Contains}
use Rattle.std.specs.List.{flat_map}
use Rattle.std.specs.List.Sorted.{IsStrictlySortedBy}
use Rattle.std.specs.Ordering.{nat_cmp}
use Rattle.std.specs.declared.cmp.Ordering.TheVariants.{Less}
use Rattle.lps_terms.specs.declared.atom.Atom.{Atom}
use Rattle.lps_terms.specs.declared.text.Text.{Text}
use Rattle.lps_model.specs.declared.cycle.Group.{Group}
use Rattle.lps_model.specs.declared.cycle.Pick.{Pick}
use Rattle.lps_model.specs.declared.trace.Trace.{Trace}
use Rattle.lps_meaning.specs.declared.goal.GoalKey.{GoalKey}
use Rattle.lps_meaning.specs.Cycles.{IsProposal, IsPendingNumber}
use Rattle.lps_meaning.specs.Denials.{ViolatesNumber}
use Rattle.lps_meaning.specs.Plain.{Ranked, ranked_cmp}
use Rattle.lps_meaning.specs.Sequences.{rank}
use Rattle.lps_choice.specs.Choices.{Choice, goals_of}

module _ (text : Text) (level : List ℕ → ℕ) (depth : ℕ) (trace : Trace) where
  -- a proposal of the goal, with the alternative and the rank of a plan that it is of
  pub record IsRanked (key : GoalKey) (r : Ranked) : Type 0 where
    pub proposal : IsProposal text level depth trace key r.group
    pub alternative : proposal.live.plan.reaches.alternative ≡ r.alternative
    pub of_rank : rank proposal.end ≡ r.rank

  -- the groups are the proposals of the goal, each at the first place that an alternative and a rank give it
  pub record AreProposals (key : GoalKey) (groups : List Group) : Type 0 where
    pub ranked : List Ranked
    pub told : groups ≡ map (λ r. record { atoms = r.group }) ranked
    pub sorted : IsStrictlySortedBy ranked_cmp ranked
    pub each : (r : Ranked) → Contains ranked r → IsRanked key r
    pub first : (r : Ranked) → IsRanked key r → (s : Ranked) × Contains ranked s × (s.group ≡ r.group) × (ranked_cmp r s ≡ Less → ⊥)

  -- each proposal of a pending goal without a pick violates a denial, with the picks and what happens before them
  abbrev pub NoMore : List GoalKey → List Atom → List Pick → Type 0
  NoMore keys events picks = (n : ℕ) (key : GoalKey) (group : List Atom) → IsPendingNumber text level depth trace keys n key → (Contains (goals_of picks) n → ⊥) →
      IsProposal text level depth trace key group → (k : ℕ) × ViolatesNumber text level trace (events ++ flat_map (λ pick. pick.group.atoms) picks ++ group) k

  -- The choice is that of the next cycle: of the goals that are pending now, with their proposals, after these events, under the
  -- denials of the text.
  pub record IsChoiceOf (keys : List GoalKey) (events : List Atom) (choice : Choice) : Type 0 where
    pub rising : IsStrictlySortedBy nat_cmp choice.goals
    pub pending : (n : ℕ) → Contains choice.goals n ↔ ((key : GoalKey) × IsPendingNumber text level depth trace keys n key)
    pub proposals : (n : ℕ) (key : GoalKey) → IsPendingNumber text level depth trace keys n key → AreProposals key (choice.proposals n)
    pub before : choice.events ≡ events
    pub violates : (happening : List Atom) (k : ℕ) → choice.Violates happening k ↔ ViolatesNumber text level trace happening k
