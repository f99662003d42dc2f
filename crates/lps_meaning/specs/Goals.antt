-- Which goals a trace has, when a rule is true, what the plans of a goal are, and its status.
use Rattle.std.specs.Prelude.{◌≡◌, ◌≤◌, ℕ, true, false, IsTrue, List, [], ◌∷◌, map, Option, Some, None, if◌then◌else◌}
use Rattle.std.specs.List.{AllByRecursion, filter, flat_map}
use Rattle.lps_terms.specs.declared.item.Item.{Item}
use Rattle.lps_terms.specs.declared.text.Text.{Text}
use Rattle.lps_model.specs.declared.trace.Trace.{Trace}
use Rattle.lps_model.specs.Order.{occurs, times_of}
use Rattle.lps_model.specs.VariableLists.{item_vars}
use Rattle.lps_derivation.specs.Ground.{is_ground}
use Rattle.lps_meaning.specs.declared.goal.Closed.{Closed}
use Rattle.lps_meaning.specs.declared.goal.Closed.TheVariants as c
use Rattle.lps_meaning.specs.declared.goal.GoalKey.{GoalKey}
use Rattle.lps_model.specs.Rules.{Rule, rules, numbered}
use Rattle.lps_meaning.specs.Sequences.{Entry, Place, Values, Times, is_step, is_call, AreInOrder, AreLimits, IsAhead, IsSmallSoFar, Walk, start, IsWithin}

-- ---- what an antecedent and its alternatives share

-- these numbers without repetitions, and without those seen before
abbrev pub distinct : List ℕ → List ℕ → List ℕ
distinct seen [] = []
distinct seen (v ∷ vs) = if occurs v seen then distinct seen vs else v ∷ distinct (v ∷ seen) vs

-- what stands in the antecedent and in some alternative, by first occurrence
abbrev pub shared : (Item → List ℕ) → Rule → List ℕ
shared parts rule = filter (λ v. occurs v (flat_map (flat_map parts) rule.alternatives)) (distinct [] (flat_map parts rule.antecedent))

-- the shared data variables
abbrev pub shared_values : Rule → List ℕ
shared_values = shared item_vars

-- the shared times
abbrev pub shared_times : Rule → List ℕ
shared_times = shared times_of

-- each value is a ground term
abbrev pub AreAllGround : Values → Type 0
AreAllGround s = (env v : ℕ) → IsTrue (is_ground (s env v))

-- these values and times are those of the key
pub record AreOfKey (rule : Rule) (key : GoalKey) (s : Values) (t : Times) : Type 0 where
  pub values : map (s 0) (shared_values rule) ≡ key.values
  pub times : map (t 0) (shared_times rule) ≡ key.times

-- ---- what is left of a sequence

-- What is left at a place can still come true after now, with these values and times: its first entry is a step and begins after
-- now, the steps left stand in order, the constraints are true, and with what is known put in nothing is large.
pub record CanGoOn (text : Text) (given : List ℕ) (s : Values) (t : Times) (now : ℕ) (items : List Item) (place : Place) : Type 0 where
  pub next : Entry
  pub rest : List Entry
  pub is_next : place.left ≡ next ∷ rest
  pub step : is_step next.item ≡ true
  pub ahead : IsAhead now (t next.env) next.item
  pub in_order : AreInOrder text t place.before place.left
  pub limits : AreLimits t items place.links
  pub small : AllByRecursion (IsSmallSoFar given s place) place.left

module _ (text : Text) (level : List ℕ → ℕ) (trace : Trace) where
  -- ---- goals and rules

  -- an instance of the antecedent is true, and has this key: its shared values and times, and its last time
  pub record HasInstance (rule : Rule) (key : GoalKey) : Type 0 where
    pub values : Values
    pub times : Times
    pub ground : AreAllGround values
    pub of_key : AreOfKey rule key values times
    pub end : Place
    pub walk : Walk text level trace [] values times key.time end (start text 0 rule.antecedent)
    pub whole : end.left ≡ []
    pub limits : AreLimits times rule.antecedent end.links
    pub last : end.before ≡ key.time

  -- the key is that of a goal, which is created in cycle key.time
  pub record IsGoal (key : GoalKey) : Type 0 where
    pub rule : Rule
    pub of_text : numbered (rules text) key.rule ≡ Some rule
    pub instance : HasInstance rule key

  -- a walk over an alternative of the goal with this key, from the key's time on and by now
  pub record Reaches (key : GoalKey) (now : ℕ) (end : Place) : Type 0 where
    pub rule : Rule
    pub of_text : numbered (rules text) key.rule ≡ Some rule
    pub alternative : ℕ
    pub items : List Item
    pub of_rule : numbered rule.alternatives alternative ≡ Some items
    pub values : Values
    pub times : Times
    pub ground : AreAllGround values
    pub of_key : AreOfKey rule key values times
    pub walk : Walk text level trace (shared_values rule) values times now end (start text key.time items)

  -- an alternative is true from the key's time up to now, at any nesting
  pub record IsFulfilled (key : GoalKey) (now : ℕ) : Type 0 where
    pub end : Place
    pub reaches : Reaches key now end
    pub whole : end.left ≡ []
    pub limits : AreLimits reaches.times reaches.items end.links

  -- and by an instance that nests at most the depth
  pub record IsFulfilledWithin (depth : ℕ) (key : GoalKey) (now : ℕ) : Type 0 where
    pub met : IsFulfilled key now
    pub within : IsWithin depth met.end

  -- rule number n is true by now: for each instance of its antecedent an alternative is true from its last time on
  abbrev pub IsRuleTrue : ℕ → ℕ → Type 0
  IsRuleTrue now n = (key : GoalKey) → key.rule ≡ n → key.time ≤ now → IsGoal key → IsFulfilled key now

  -- ---- plans

  -- a plan at now: an alternative is true up to the place, and can go on
  pub record IsPlan (depth : ℕ) (key : GoalKey) (now : ℕ) (end : Place) : Type 0 where
    pub reaches : Reaches key now end
    pub within : IsWithin depth end
    pub on : CanGoOn text (shared_values reaches.rule) reaches.values reaches.times now reaches.items end

  -- a live plan: its next step is no macro call
  pub record IsLive (depth : ℕ) (key : GoalKey) (now : ℕ) (end : Place) : Type 0 where
    pub plan : IsPlan depth key now end
    pub no_call : is_call text plan.on.next.item ≡ false

  -- a cut plan: its next step is a macro call that nests one deeper than the depth
  pub record IsCut (depth : ℕ) (key : GoalKey) (now : ℕ) (end : Place) : Type 0 where
    pub plan : IsPlan depth key now end
    pub call : is_call text plan.on.next.item ≡ true
    pub deep : plan.on.next.nest ≡ depth

  -- the goal has a live plan now
  abbrev pub HasLive : ℕ → GoalKey → ℕ → Type 0
  HasLive depth key now = (end : Place) × IsLive depth key now end

  -- the goal has met a cut plan at some time from its own up to now
  abbrev pub HasMetCut : ℕ → GoalKey → ℕ → Type 0
  HasMetCut depth key now = (end : Place) × (at : ℕ) × (key.time ≤ at) × (at ≤ now) × IsCut depth key at end

  -- ---- status

  -- the goal is pending now: it is not solved, and has a live plan
  abbrev pub IsPending : ℕ → GoalKey → ℕ → Type 0
  IsPending depth key now = (IsFulfilledWithin depth key now → ⊥) × HasLive depth key now

  -- the goal is closed so, each way by itself
  abbrev pub IsClosed : ℕ → GoalKey → ℕ → Closed → Type 0
  IsClosed depth key now c.Solved = IsFulfilledWithin depth key now
  IsClosed depth key now c.Cut = (IsFulfilledWithin depth key now → ⊥) × (HasLive depth key now → ⊥) × HasMetCut depth key now
  IsClosed depth key now c.Failed = (IsFulfilledWithin depth key now → ⊥) × (HasLive depth key now → ⊥) × (HasMetCut depth key now → ⊥)

  -- the status of the goal: how it is closed, or nothing while it is pending
  abbrev pub HasStatus : ℕ → GoalKey → ℕ → Option Closed → Type 0
  HasStatus depth key now None = IsPending depth key now
  HasStatus depth key now (Some closed) = IsClosed depth key now closed
