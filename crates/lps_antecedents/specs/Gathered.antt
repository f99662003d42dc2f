-- What is gathered for a cycle, and what is added to it.
pub use Rattle.lps_antecedents.specs.Lists.{AreOnce, ByOne, Gains, HasExactly}
use Rattle.std.specs.Prelude.{◌≡◌, ◌≤◌, ℕ, zero, suc, List, [], ◌∷◌, Some}
use Rattle.std.specs.List.{flat_map}
use Rattle.lps_terms.specs.declared.atom.Atom.{Atom}
use Rattle.lps_terms.specs.declared.text.Text.{Text}
use Rattle.lps_model.specs.declared.trace.Trace.{Trace}
use Rattle.lps_model.specs.Clauses.{clauses}
use Rattle.lps_model.specs.Rules.{Rule, numbered, rules}
use Rattle.lps_derivation.specs.Levels.{AreLevels}
use Rattle.lps_meaning.specs.declared.goal.GoalKey.{GoalKey}
use Rattle.lps_meaning.specs.declared.node.Carry.{Carry}
use Rattle.lps_meaning.specs.declared.node.Node.{Node}
use Rattle.lps_meaning.specs.declared.when.When.{When}
use Rattle.lps_meaning.specs.declared.when.When.TheVariants.{Known, Unknown}
use Rattle.lps_meaning.specs.Goals.{IsGoal}
use Rattle.lps_nodes.specs.Plans.{EndsWith, GoesOnTo, IsWaiting, antecedent_entrance, key_carry}
use Rattle.lps_meeting.specs.Stages.{IsStateOf}
use Rattle.lps_antecedents.specs.declared.gathered.Gathered.{Gathered}
use Rattle.lps_antecedents.specs.declared.held.Held.{Held}

-- ---- what is added

-- one of these nodes waits for the rule
abbrev pub IsLeftFor : ℕ → List Node → Held → Type 0
IsLeftFor rule nodes = ByOne nodes (λ node h. h ≡ record { rule = rule; node = node })

abbrev pub number_in : When → List ℕ
number_in (Known n) = n ∷ []
number_in (Unknown k) = []

-- the times that are known
abbrev pub numbers_in : List When → List ℕ
numbers_in times = flat_map number_in times

-- the key of a goal of the rule that gets this, all of it known
abbrev pub key_of : ℕ → ℕ → Carry → GoalKey
key_of rule time carry = record { rule = rule; values = carry.values; times = numbers_in carry.times; time = time }

-- it is the key for one of these
abbrev pub IsKeyOf : ℕ → ℕ → List Carry → GoalKey → Type 0
IsKeyOf rule time ended = ByOne ended (λ carry key. key ≡ key_of rule time carry)

-- ---- what is gathered, by walks over the whole trace

module _ (text : Text) (level : List ℕ → ℕ) (trace : Trace) (now : ℕ) where
  -- one that waited goes on to the other; antecedents have no macro calls, so that any depth serves
  abbrev pub HeldGoesOnTo : Held → Held → Type 0
  HeldGoesOnTo h other = (other.rule ≡ h.rule)
      × (rule : Rule) × (numbered (rules text) h.rule ≡ Some rule) × GoesOnTo text level trace 1 (antecedent_entrance rule) now h.node other.node

  -- one that waited ends with the key
  abbrev pub HeldEndsWith : Held → GoalKey → Type 0
  HeldEndsWith h key = (key.rule ≡ h.rule) × (key.time ≡ suc now)
      × (rule : Rule) × (numbered (rules text) h.rule ≡ Some rule) × EndsWith text level trace 1 (antecedent_entrance rule) now h.node (key_carry key)

-- Whatever trace has this initial state: what waits at 0 for the first rules, so many of them, is gathered, and the keys of their goals.
abbrev pub IsGatheredAtFirst : Text → List Atom → ℕ → Gathered → Type 0
IsGatheredAtFirst text facts count g =
    (level : List ℕ → ℕ) → AreLevels (clauses text) level → (trace : Trace) → IsStateOf text level trace zero facts →
    HasExactly g.held.items (λ h. (h.rule ≤ count) × IsWaiting text level trace zero h.rule h.node)
    × HasExactly g.keys.keys (λ key. (key.rule ≤ count) × (key.time ≡ zero) × IsGoal text level trace key)
