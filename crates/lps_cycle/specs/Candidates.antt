-- The pending goals of a cycle that is being made: what each of them proposes, and whether one of its proposals was picked.
use Rattle.std.specs.Prelude.{◌≡◌, ◌==◌, ℕ, Bool, true, false, List, [], ◌∷◌, map, if◌then◌else◌}
use Rattle.std.specs.List.{AllZip}
use Rattle.std.specs.List.Sorted.{IsStrictlySortedBy}
use Rattle.std.specs.Ordering.{nat_cmp}
use Rattle.lps_terms.specs.declared.text.Text.{Text}
use Rattle.lps_model.specs.declared.cycle.Group.{Group}
use Rattle.lps_goaltrees.specs.declared.asked.Asked.{Asked}
use Rattle.lps_goaltrees.specs.declared.goal.Goal.{Goal}
use Rattle.lps_goaltrees.specs.Offers.{AreProposed}
use Rattle.lps_cycle.specs.declared.candidates.Candidate.{Candidate}

-- the number of its goal
abbrev pub number_of : Candidate → ℕ
number_of candidate = candidate.goal.0

abbrev pub numbers_of : List Candidate → List ℕ
numbers_of candidates = map number_of candidates

-- the goals go by rising number
abbrev pub AreRising : List Candidate → Type 0
AreRising candidates = IsStrictlySortedBy nat_cmp (numbers_of candidates)

-- ---- what is proposed

-- a goal, and what it proposes
pub record Proposer : Type 0 where
  pub goal : ℕ
  pub groups : List Group

abbrev pub proposer_of : Candidate → Proposer
proposer_of candidate = record { goal = candidate.goal.0; groups = candidate.proposals }

abbrev pub proposers_of : List Candidate → List Proposer
proposers_of candidates = map proposer_of candidates

-- what a goal among them proposes
abbrev pub groups_of : List Proposer → ℕ → List Group
groups_of [] goal = []
groups_of (first ∷ others) goal = if first.goal == goal then first.groups else groups_of others goal

-- the candidate is the goal with what it proposes at a time, of which nothing was picked
pub record IsAsked (text : Text) (time : ℕ) (goal : Goal) (candidate : Candidate) : Type 0 where
  pub number : candidate.goal ≡ goal.goal
  pub proposed : AreProposed text time goal.nodes candidate.proposals
  pub free : candidate.is_picked ≡ false

-- a goal that was asked, of which nothing was picked
abbrev pub unpicked : Asked → Candidate
unpicked asked = record { goal = asked.goal; proposals = asked.proposals.items; is_picked = false }

-- each of them is that of a goal
abbrev pub AreAsked : Text → ℕ → List Goal → List Candidate → Type 0
AreAsked text time goals candidates = AllZip (IsAsked text time) goals candidates

-- ---- what is picked

-- whether a goal among them has a pick
abbrev pub is_picked_among : List Candidate → ℕ → Bool
is_picked_among [] goal = false
is_picked_among (first ∷ others) goal = if number_of first == goal then first.is_picked else is_picked_among others goal

-- the candidate once a goal has a pick
abbrev pub with_pick : ℕ → Candidate → Candidate
with_pick goal candidate = record { goal = candidate.goal; proposals = candidate.proposals; is_picked = if number_of candidate == goal then true else candidate.is_picked }

abbrev pub with_picks : ℕ → List Candidate → List Candidate
with_picks goal candidates = map (with_pick goal) candidates
