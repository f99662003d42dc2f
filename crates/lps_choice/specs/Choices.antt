-- Which picks may be made in a cycle, in words that speak of no text.
use Rattle.std.specs.Prelude.{◌≡◌, ◌⊎◌, ◌++◌, ℕ, Bool, true, false, List, [], ◌∷◌, map, Contains}
use Rattle.std.specs.List.{flat_map}
use Rattle.lps_terms.specs.declared.atom.Atom.{Atom}
use Rattle.lps_model.specs.declared.cycle.Group.{Group}
use Rattle.lps_model.specs.declared.cycle.Pick.{Pick}

-- What there is to choose from in a cycle: the numbers of the pending goals, rising; for each of them its proposals, in the order in
-- which they are preferred; the events that happen before any pick; and which denials are violated by which events.
pub record Choice : Type 1 where
  pub goals : List ℕ
  pub proposals : ℕ → List Group
  pub events : List Atom
  pub Violates : List Atom → ℕ → Type 0

-- the goals of some picks
abbrev pub goals_of : List Pick → List ℕ
goals_of picks = map (λ pick. pick.goal) picks

abbrev pub pick_of : ℕ → Group → Pick
pick_of goal group = record { goal = goal; group = group }

-- a goal has no pick yet
abbrev pub IsFree : List Pick → ℕ → Type 0
IsFree made goal = Contains (goals_of made) goal → ⊥

module _ (choice : Choice) where
  -- what happens by some picks
  abbrev pub events_with : List Pick → List Atom
  events_with made = choice.events ++ flat_map (λ pick. pick.group.atoms) made

  -- after some picks, a group violates no denial
  abbrev pub Admits : List Pick → Group → Type 0
  Admits made group = (k : ℕ) → choice.Violates (events_with made ++ group.atoms) k → ⊥

  -- after some picks, a group violates a denial
  abbrev pub Refuses : List Pick → Group → Type 0
  Refuses made group = (k : ℕ) × choice.Violates (events_with made ++ group.atoms) k

  -- whether a group is admitted
  abbrev pub Answers : List Pick → Group → Bool → Type 0
  Answers made group true = Admits made group
  Answers made group false = Refuses made group

  -- a group is a proposal of a pending goal
  abbrev pub IsProposed : Group → Type 0
  IsProposed group = (goal : ℕ) × Contains choice.goals goal × Contains (choice.proposals goal) group

  -- after some picks, one more may be made: of a pending goal without a pick, one of its proposals, which violates no denial
  pub record IsPick (made : List Pick) (pick : Pick) : Type 0 where
    pub pending : Contains choice.goals pick.goal
    pub free : IsFree made pick.goal
    pub proposed : Contains (choice.proposals pick.goal) pick.group
    pub admitted : Admits made pick.group

  -- after some picks, these may be made one after the other
  abbrev pub ArePicks : List Pick → List Pick → Type 0
  ArePicks made [] = Unit {0}
  ArePicks made (pick ∷ picks) = IsPick made pick × ArePicks (made ++ pick ∷ []) picks

  -- all picks are some that were made before, and more that may be made after them
  pub record Extends (made all : List Pick) : Type 0 where
    pub more : List Pick
    pub whole : all ≡ made ++ more
    pub picks : ArePicks made more

  -- after some picks, a goal gets none: it has one, or each of its proposals violates a denial
  abbrev pub IsPassedOver : List Pick → ℕ → Type 0
  IsPassedOver made goal = Contains (goals_of made) goal ⊎ ((group : Group) → Contains (choice.proposals goal) group → Refuses made group)

  -- after some picks, none is left to be made
  abbrev pub IsSettled : List Pick → Type 0
  IsSettled made = (goal : ℕ) → Contains choice.goals goal → IsPassedOver made goal

  -- a given pick is made where it may be
  abbrev pub TakesGiven : Pick → List Pick → List Pick → Bool → Type 0
  TakesGiven pick made all true = IsPick made pick × (all ≡ made ++ pick ∷ [])
  TakesGiven pick made all false = (IsPick made pick → ⊥) × (all ≡ made)
