-- What a goal proposes, told from its nodes.
use Rattle.std.specs.Prelude.{◌≡◌, ◌⊎◌, ◌↔◌, ◌++◌, ◌∷◌, [], ◌≤◌, ℕ, List, map, Contains}
use Rattle.std.specs.List.Sorted.{IsStrictlySortedBy}
use Rattle.std.specs.declared.cmp.Ordering.TheVariants.{Less}
use Rattle.lps_terms.specs.declared.text.Text.{Text}
use Rattle.lps_model.specs.declared.cycle.Group.{Group}
use Rattle.lps_meaning.specs.declared.node.Node.{Node}
use Rattle.lps_meaning.specs.Plain.{Ranked, ranked_cmp}
use Rattle.lps_nodes.specs.NextSteps.{IsProposed}
use Rattle.lps_goaltrees.specs.declared.asked.Asked.{Asked}
use Rattle.lps_goaltrees.specs.declared.goal.Goal.{Goal}

module _ (text : Text) (now : ℕ) (nodes : List Node) where
  -- one of the nodes with the most groups done proposes the group, with its alternative and its rank
  pub record IsOffered (r : Ranked) : Type 0 where
    pub node : Node
    pub among : Contains nodes node
    pub most : (other : Node) → Contains nodes other → other.done ≤ node.done
    pub alternative : node.alternative ≡ r.alternative
    pub of_rank : node.rank ≡ r.rank
    pub proposed : IsProposed text now node r.group

  -- these are what the nodes propose
  abbrev pub AreOffers : List Ranked → Type 0
  AreOffers offers = (r : Ranked) → Contains offers r ↔ IsOffered r

  -- the groups that the nodes propose, each once: at the first place that an alternative and a rank give it
  pub record AreProposed (groups : List Group) : Type 0 where
    pub ranked : List Ranked
    pub told : groups ≡ map (λ r. record { atoms = r.group }) ranked
    pub sorted : IsStrictlySortedBy ranked_cmp ranked
    pub each : (r : Ranked) → Contains ranked r → IsOffered r
    pub once : (r other : Ranked) → Contains ranked r → Contains ranked other → r.group ≡ other.group → r ≡ other
    pub first : (r : Ranked) → IsOffered r → (s : Ranked) × Contains ranked s × (s.group ≡ r.group) × (ranked_cmp r s ≡ Less → ⊥)

-- the goal is asked what it proposes
pub record IsAskedOf (text : Text) (time : ℕ) (goal : Goal) (asked : Asked) : Type 0 where
  pub number : asked.goal ≡ goal.goal
  pub proposed : AreProposed text time goal.nodes asked.proposals.items

-- a node with so many groups done proposes the group, with its alternative and its rank
pub record IsOfferOf (text : Text) (now most : ℕ) (node : Node) (r : Ranked) : Type 0 where
  pub done : node.done ≡ most
  pub alternative : node.alternative ≡ r.alternative
  pub of_rank : node.rank ≡ r.rank
  pub proposed : IsProposed text now node r.group

-- what the node proposes is added, if it has so many groups done
abbrev pub AddsOffer : Text → ℕ → ℕ → Node → List Ranked → List Ranked → Type 0
AddsOffer text now most node old new = (r : Ranked) → Contains new r ↔ (Contains old r ⊎ IsOfferOf text now most node r)

-- the group is added, unless it is there
abbrev pub AddsGroup : Group → List Group → List Group → Type 0
AddsGroup group old new = (Contains old group × (new ≡ old)) ⊎ ((Contains old group → ⊥) × (new ≡ old ++ group ∷ []))

-- the groups of some proposals, each once at its first place
pub record AreFirsts (offers : List Ranked) (groups : List Group) : Type 0 where
  pub ranked : List Ranked
  pub told : groups ≡ map (λ r. record { atoms = r.group }) ranked
  pub sorted : IsStrictlySortedBy ranked_cmp ranked
  pub each : (r : Ranked) → Contains ranked r → Contains offers r
  pub once : (r other : Ranked) → Contains ranked r → Contains ranked other → r.group ≡ other.group → r ≡ other
  pub first : (r : Ranked) → Contains offers r → (s : Ranked) × Contains ranked s × (s.group ≡ r.group) × (ranked_cmp r s ≡ Less → ⊥)
