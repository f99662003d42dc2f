-- Nodes: the residuals of live plans and of partly matched antecedents, and how many symbols are kept.
use Rattle.std.specs.Prelude.{◌≡◌, ◌⊎◌, ◌↔◌, ◌+◌, ◌*◌, ℕ, false, List, [], length, sum, sum_by, Some, slice_get, Contains}
use Rattle.std.specs.List.{AllZip}
use Rattle.lps_terms.specs.declared.built.Built.{Built}
use Rattle.lps_terms.specs.declared.built.Built.TheVariants as b
use Rattle.lps_terms.specs.declared.text.Text.{Text}
use Rattle.lps_terms.specs.Symbols.{symbols_of, symbols_of_all, atom_symbols_of}
use Rattle.lps_model.specs.declared.trace.Trace.{Trace}
use Rattle.lps_derivation.specs.Expressions.{expr_symbols_of}
use Rattle.lps_meaning.specs.declared.goal.Closed.{Closed}
use Rattle.lps_meaning.specs.declared.goal.GoalKey.{GoalKey}
use Rattle.lps_meaning.specs.declared.node.LeftItem.{LeftItem}
use Rattle.lps_meaning.specs.declared.node.LeftItem.TheVariants as l
use Rattle.lps_meaning.specs.declared.node.Node.{Node}
use Rattle.lps_meaning.specs.Cycles.{AreGoals}
use Rattle.lps_meaning.specs.Goals.{AreAllGround, CanGoOn, IsLive, IsPending, IsClosed}
use Rattle.lps_model.specs.Rules.{Rule, rules}
use Rattle.lps_meaning.specs.Sequences.{Place, Values, Times, Walk, start, rank, done, is_call}
use Rattle.lps_nodes.specs.Shapes.{Sequence, alternative_of, antecedent_of, Shape, IsGeneral, IsCanonical, untested}

-- what is left in a node
abbrev pub left_in : Node → Shape
left_in node = record { carry = node.carry; rest = node.rest; limits = node.limits }

-- what is left at a place, with canonical numbers and without the constraints whose times are all known
pub record IsResidual (q : Sequence) (s : Values) (t : Times) (place : Place) (node : Node) : Type 0 where
  pub whole : Shape
  pub general : IsGeneral q s t place whole
  pub tested : left_in node ≡ untested whole
  pub canonical : IsCanonical (untested whole)
  pub of_rank : node.rank ≡ rank place
  pub of_done : node.done ≡ done place

module _ (text : Text) (level : List ℕ → ℕ) (trace : Trace) where
  -- the node is what is left of a live plan of the goal
  pub record IsGoalNode (depth : ℕ) (key : GoalKey) (now : ℕ) (node : Node) : Type 0 where
    pub end : Place
    pub live : IsLive text level trace depth key now end
    pub alternative : node.alternative ≡ live.plan.reaches.alternative
    pub residual : IsResidual (alternative_of live.plan.reaches.rule live.plan.reaches.items) live.plan.reaches.values live.plan.reaches.times end node

  -- the node is what is left of a partly matched antecedent
  pub record IsWaitingNode (rule : Rule) (now : ℕ) (node : Node) : Type 0 where
    pub values : Values
    pub times : Times
    pub ground : AreAllGround values
    pub end : Place
    pub walk : Walk text level trace [] values times now end (start text 0 rule.antecedent)
    pub on : CanGoOn text [] values times now rule.antecedent end
    pub no_call : is_call text on.next.item ≡ false
    pub alternative : node.alternative ≡ 0
    pub residual : IsResidual (antecedent_of rule) values times end node

-- ---- sizes

abbrev pub built_size : Built → ℕ
built_size (b.Same x y) = 1 + symbols_of x + symbols_of y
built_size (b.Differ x y) = 1 + symbols_of x + symbols_of y
built_size (b.Is x e) = 1 + symbols_of x + expr_symbols_of e
built_size (b.Compare rel x y) = 1 + expr_symbols_of x + expr_symbols_of y

-- the size of an item left: one more than its atom for each of its times
abbrev pub left_size : LeftItem → ℕ
left_size (l.At lit time) = atom_symbols_of lit.atom + 1
left_size (l.Bare lit) = atom_symbols_of lit.atom
left_size (l.Built built) = built_size built
left_size (l.Span a from to) = atom_symbols_of a + 2

-- the size of a node; a constraint counts 3
abbrev pub node_size : Node → ℕ
node_size node = 1 + length node.rank + symbols_of_all node.carry.values + length node.carry.times
    + sum_by (λ left. left_size left.item) node.rest + 3 * length node.limits

-- the size of a pending goal with its nodes
abbrev pub goal_size : GoalKey → List Node → ℕ
goal_size key nodes = 1 + symbols_of_all key.values + length key.times + sum_by node_size nodes

-- ---- what is kept

-- the list has exactly what P says, each once
pub record IsListOf {X : Type 0} (P : X → Type 0) (xs : List X) : Type 0 where
  pub once : (i j : ℕ) (x : X) → slice_get xs i ≡ Some x → slice_get xs j ≡ Some x → i ≡ j
  pub exact : (x : X) → Contains xs x ↔ P x

module _ (text : Text) (level : List ℕ → ℕ) (depth : ℕ) (trace : Trace) (now : ℕ) where
  -- the symbols kept for a rule: those of the nodes of its antecedent
  abbrev pub IsKeptForRule : Rule → ℕ → Type 0
  IsKeptForRule rule size = (nodes : List Node) × IsListOf (IsWaitingNode text level trace rule now) nodes × (size ≡ sum_by node_size nodes)

  -- the symbols kept for a goal: those of the goal and its nodes while it is pending, and none once it is closed
  abbrev pub IsKeptForGoal : GoalKey → ℕ → Type 0
  IsKeptForGoal key size =
      (IsPending text level trace depth key now × ((nodes : List Node) × IsListOf (IsGoalNode text level trace depth key now) nodes × (size ≡ goal_size key nodes)))
      ⊎ (((how : Closed) × IsClosed text level trace depth key now how) × (size ≡ 0))

  -- the symbols kept now, for all rules and all goals
  pub record IsKept (size : ℕ) : Type 0 where
    pub keys : List GoalKey
    pub goals : AreGoals text level trace now keys
    pub for_rules : List ℕ
    pub are_for_rules : AllZip IsKeptForRule (rules text) for_rules
    pub for_goals : List ℕ
    pub are_for_goals : AllZip IsKeptForGoal keys for_goals
    pub all : size ≡ sum for_rules + sum for_goals
