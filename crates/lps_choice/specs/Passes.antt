-- Picks that are made by passes over the pending goals, each of which gives each goal its first proposal that may be picked.
use Rattle.std.specs.Prelude.{◌≡◌, ◌⊎◌, ◌++◌, ◌<◌, ℕ, zero, suc, Bool, true, false, List, [], ◌∷◌, Option, Some, None, length, reverse, Contains}
use Rattle.lps_terms.specs.declared.prefer.Prefer.{Prefer}
use Rattle.lps_terms.specs.declared.prefer.Prefer.TheVariants.{Oldest, Newest}
use Rattle.lps_model.specs.declared.cycle.Group.{Group}
use Rattle.lps_model.specs.declared.cycle.Pick.{Pick}
use Rattle.lps_choice.specs.Choices.{Choice, Admits, Refuses, IsFree, IsPassedOver, pick_of}

-- the order in which a pass goes over goals that are given rising
abbrev pub in_order : Prefer → List ℕ → List ℕ
in_order Oldest goals = goals
in_order Newest goals = reverse goals

-- picks were made after some, unless the number is 0
abbrev pub Grows : List Pick → List Pick → ℕ → Type 0
Grows made all zero = all ≡ made
Grows made all (suc n) = length made < length all

module _ (choice : Choice) where
  -- the group is the first of some proposals that is admitted after some picks: each before it is refused
  abbrev pub IsFirst : List Pick → List Group → Group → Type 0
  IsFirst made [] group = ⊥
  IsFirst made (first ∷ more) group = ((group ≡ first) × Admits choice made first) ⊎ (Refuses choice made first × IsFirst made more group)

  -- a pass gives a goal this group: the goal has no pick, and the group is the first of its proposals that is admitted
  pub record IsGiven (made : List Pick) (goal : ℕ) (group : Group) : Type 0 where
    pub free : IsFree made goal
    pub first : IsFirst made (choice.proposals goal) group

  -- the first of some proposals that is admitted, or none where each is refused
  abbrev pub IsFirstFound : List Pick → List Group → Option Group → Type 0
  IsFirstFound made groups (Some group) = IsFirst made groups group
  IsFirstFound made groups None = (group : Group) → Contains groups group → Refuses choice made group

  -- what a pass gives a goal, or none where it passes it over
  abbrev pub IsNext : List Pick → ℕ → Option Group → Type 0
  IsNext made goal (Some group) = IsGiven made goal group
  IsNext made goal None = IsPassedOver choice made goal

  -- from some picks a pass comes to these by one goal, whether it gives it a group or not
  abbrev pub Gives : ℕ → List Pick → List Pick → Bool → Type 0
  Gives goal made all true = (group : Group) × IsGiven made goal group × (all ≡ made ++ pick_of goal group ∷ [])
  Gives goal made all false = IsPassedOver choice made goal × (all ≡ made)

  -- a pass over goals leads from some picks to all of these
  abbrev pub Pass : List ℕ → List Pick → List Pick → Type 0
  Pass [] made all = all ≡ made
  Pass (goal ∷ goals) made all = (IsPassedOver choice made goal × Pass goals made all)
      ⊎ ((group : Group) × IsGiven made goal group × Pass goals (made ++ pick_of goal group ∷ []) all)

  -- passes one after the other: each but the last makes a pick, and the last makes none
  pub data AllPasses (order : List ℕ) : List Pick → List Pick → Type 0 where
    last : {made all : List Pick} → Pass order made made → all ≡ made → AllPasses order made all
    more : {made all : List Pick} (next : List Pick) → Pass order made next → length made < length next → AllPasses order next all → AllPasses order made all

  -- the picks that the plain chooser leads to
  abbrev pub ArePlain : Prefer → List Pick → List Pick → Type 0
  ArePlain prefer made all = AllPasses (in_order prefer choice.goals) made all
