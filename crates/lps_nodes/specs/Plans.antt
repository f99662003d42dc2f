-- What a sequence gives at a time, told by walks over the whole trace: the nodes that are left of its live plans, what its instances that end
-- then carry, and whether a plan of it is cut; and what becomes of each node in the next cycle.
use Rattle.std.specs.Prelude.{◌≡◌, ◌↔◌, ℕ, suc, true, false, List, [], map, Some, Contains}
use Rattle.std.specs.List.Sorted.{IsStrictlySortedBy}
use Rattle.lps_terms.specs.declared.atom.Atom.{Atom}
use Rattle.lps_terms.specs.declared.item.Item.{Item}
use Rattle.lps_terms.specs.declared.term.Term.{Term}
use Rattle.lps_terms.specs.declared.text.Text.{Text}
use Rattle.lps_model.specs.declared.trace.Trace.{Trace}
use Rattle.lps_model.specs.Rules.{Rule, numbered, rules}
use Rattle.lps_meaning.specs.declared.goal.GoalKey.{GoalKey}
use Rattle.lps_meaning.specs.declared.node.Carry.{Carry}
use Rattle.lps_meaning.specs.declared.node.Node.{Node}
use Rattle.lps_meaning.specs.declared.when.When.TheVariants.{Known}
use Rattle.lps_meaning.specs.Cycles.{IsNextGroup, key_cmp}
use Rattle.lps_meaning.specs.Goals.{AreAllGround, CanGoOn, IsGoal}
use Rattle.lps_meaning.specs.Sequences.{AreLimits, IsWithin, Place, Times, Values, Walk, is_call, start}
use Rattle.lps_nodes.specs.Nodes.{IsResidual, IsWaitingNode}
use Rattle.lps_nodes.specs.Shapes.{Sequence, all_known, alternative_of, antecedent_of}

-- ---- where plans begin

-- a sequence that is entered: the values and times given to it, since when its steps may begin, and the number of the alternative that its
-- nodes bear, 0 for an antecedent
pub record Entrance : Type 0 where
  pub sequence : Sequence
  pub values : List Term
  pub times : List ℕ
  pub since : ℕ
  pub alternative : ℕ

-- an antecedent is entered at 0, with nothing given
abbrev pub antecedent_entrance : Rule → Entrance
antecedent_entrance rule = record { sequence = antecedent_of rule; values = []; times = []; since = 0; alternative = 0 }

-- an alternative is entered at the time of its goal, with what the goal's key gives
abbrev pub alternative_entrance : Rule → GoalKey → ℕ → List Item → Entrance
alternative_entrance rule key number items =
    record { sequence = alternative_of rule items; values = key.values; times = key.times; since = key.time; alternative = number }

-- the antecedent of rule number n of the text is entered so
pub record IsAntecedentEntered (text : Text) (n : ℕ) (entrance : Entrance) : Type 0 where
  pub rule : Rule
  pub of_text : numbered (rules text) n ≡ Some rule
  pub entered : entrance ≡ antecedent_entrance rule

-- an alternative of the goal with this key, by its number, is entered so
pub record IsAlternativeEntered (text : Text) (key : GoalKey) (number : ℕ) (entrance : Entrance) : Type 0 where
  pub rule : Rule
  pub of_text : numbered (rules text) key.rule ≡ Some rule
  pub items : List Item
  pub of_rule : numbered rule.alternatives number ≡ Some items
  pub entered : entrance ≡ alternative_entrance rule key number items

-- ---- what an entrance gives by a time

module _ (text : Text) (level : List ℕ → ℕ) (trace : Trace) (depth : ℕ) (entrance : Entrance) where
  -- ground values and times that agree with what is given, and a walk with them by now to the place, whose calls nest at most the depth
  pub record IsReached (now : ℕ) (s : Values) (t : Times) (place : Place) : Type 0 where
    pub ground : AreAllGround s
    pub given_values : map (s 0) entrance.sequence.given_values ≡ entrance.values
    pub given_times : map (t 0) entrance.sequence.given_times ≡ entrance.times
    pub walk : Walk text level trace entrance.sequence.given_values s t now place (start text entrance.since entrance.sequence.items)
    pub within : IsWithin depth place

  -- a plan that is live now: it can go on, and its next step is no macro call
  pub record IsLivePlan (now : ℕ) (s : Values) (t : Times) (place : Place) : Type 0 where
    pub reached : IsReached now s t place
    pub on : CanGoOn text entrance.sequence.given_values s t now entrance.sequence.items place
    pub no_call : is_call text on.next.item ≡ false

  -- a plan that is cut now: it could go on, but its next step is a macro call that nests one deeper than the depth
  pub record IsCutPlan (now : ℕ) (s : Values) (t : Times) (place : Place) : Type 0 where
    pub reached : IsReached now s t place
    pub on : CanGoOn text entrance.sequence.given_values s t now entrance.sequence.items place
    pub call : is_call text on.next.item ≡ true
    pub deep : on.next.nest ≡ depth

  -- an instance that ends now: all of the sequence is true by now, and not before
  pub record IsOver (now : ℕ) (s : Values) (t : Times) (place : Place) : Type 0 where
    pub reached : IsReached now s t place
    pub whole : place.left ≡ []
    pub limits : AreLimits t entrance.sequence.items place.links
    pub last : place.before ≡ now

  -- the node is what is left at the place
  pub record IsLeft (s : Values) (t : Times) (place : Place) (node : Node) : Type 0 where
    pub residual : IsResidual entrance.sequence s t place node
    pub alternative : node.alternative ≡ entrance.alternative

  -- this is carried, all of it known
  pub record IsCarried (s : Values) (t : Times) (carry : Carry) : Type 0 where
    pub values : carry.values ≡ map (s 0) entrance.sequence.carried_values
    pub times : carry.times ≡ map (all_known t 0) entrance.sequence.carried_times

  -- the node is what is left of a plan that is live now
  pub record IsNode (now : ℕ) (node : Node) : Type 0 where
    pub values : Values
    pub times : Times
    pub place : Place
    pub live : IsLivePlan now values times place
    pub left : IsLeft values times place node

  -- an instance that ends now carries this
  pub record IsEnded (now : ℕ) (carry : Carry) : Type 0 where
    pub values : Values
    pub times : Times
    pub place : Place
    pub over : IsOver now values times place
    pub carried : IsCarried values times carry

  -- a plan is cut now
  pub record IsCutNow (now : ℕ) : Type 0 where
    pub values : Values
    pub times : Times
    pub place : Place
    pub cut : IsCutPlan now values times place

  -- ---- what becomes of a node

  -- the node is what is left of a live plan now, through which these values and times come by a later time to the place
  pub record IsThrough (now later : ℕ) (node : Node) (s : Values) (t : Times) (place : Place) : Type 0 where
    pub middle : Place
    pub live : IsLivePlan now s t middle
    pub left : IsLeft s t middle node
    pub walk : Walk text level trace entrance.sequence.given_values s t later place middle

  -- in the next cycle the node goes on to the other: a live plan that leaves the one comes to a live plan that leaves the other
  pub record GoesOnTo (now : ℕ) (node other : Node) : Type 0 where
    pub values : Values
    pub times : Times
    pub place : Place
    pub live : IsLivePlan (suc now) values times place
    pub left : IsLeft values times place other
    pub through : IsThrough now (suc now) node values times place

  -- in the next cycle the node is held: a plan that leaves it is live still, with no step made
  pub record IsHeld (now : ℕ) (node : Node) : Type 0 where
    pub values : Values
    pub times : Times
    pub place : Place
    pub live : IsLivePlan now values times place
    pub still : IsLivePlan (suc now) values times place
    pub left : IsLeft values times place node

  -- in the next cycle an instance ends that comes through the node, and carries this
  pub record EndsWith (now : ℕ) (node : Node) (carry : Carry) : Type 0 where
    pub values : Values
    pub times : Times
    pub place : Place
    pub over : IsOver (suc now) values times place
    pub carried : IsCarried values times carry
    pub through : IsThrough now (suc now) node values times place

  -- in the next cycle a plan is cut that comes through the node
  pub record IsCutNext (now : ℕ) (node : Node) : Type 0 where
    pub values : Values
    pub times : Times
    pub place : Place
    pub cut : IsCutPlan (suc now) values times place
    pub through : IsThrough now (suc now) node values times place

  -- ---- what is proposed now

  -- a live plan that leaves the node has this group as its next step, which begins now
  pub record Proposes (now : ℕ) (node : Node) (group : List Atom) : Type 0 where
    pub values : Values
    pub times : Times
    pub place : Place
    pub live : IsLivePlan now values times place
    pub left : IsLeft values times place node
    pub next : IsNextGroup text values times now live.on.next live.on.rest group

-- what an antecedent carries to the goal with this key
abbrev pub key_carry : GoalKey → Carry
key_carry key = record { values = key.values; times = map (λ n. Known n) key.times }

-- ---- all rules of a text

module _ (text : Text) (level : List ℕ → ℕ) (trace : Trace) where
  -- the list is the keys of a cycle: of the goals that are created in it, in order and each once
  pub record AreKeysOf (cycle : ℕ) (keys : List GoalKey) : Type 0 where
    pub sorted : IsStrictlySortedBy key_cmp keys
    pub exact : (key : GoalKey) → Contains keys key ↔ ((key.time ≡ cycle) × IsGoal text level trace key)

  -- the node is what is left now of a partly matched antecedent: that of rule number n. What waits stands for the trace where it has
  -- exactly these nodes, each once with the number of its rule.
  pub record IsWaiting (now n : ℕ) (node : Node) : Type 0 where
    pub rule : Rule
    pub of_text : numbered (rules text) n ≡ Some rule
    pub waits : IsWaitingNode text level trace rule now node
