-- What is kept by rule and by goal, told from what waits and what is pursued.
use Rattle.std.proofs.Common.{ℕ, ◌≡◌, ◌≤◌, ◌<◌, ◌+◌, ◌∙◌, Bool, true, false, cond, eqb, List, [], ◌∷◌, length, refl, sym, ap, subst, inl, inr}
use Rattle.std.specs.Prelude.{Contains, Option, Some, None, sum_by}
use Rattle.std.specs.List.{cons_option, filter_map}
use Rattle.std.proofs.lemmas.Bool.{eq-eqb, eqb-true}
use Rattle.std.proofs.lemmas.List.Sums.{sum_by-cons}
use Rattle.lps_terms.specs.declared.text.Text.{Text}
use Rattle.lps_model.specs.declared.trace.Trace.{Trace}
use Rattle.lps_model.specs.Rules.{Rule, numbered, rules}
use Rattle.lps_meaning.specs.declared.goal.GoalKey.{GoalKey}
use Rattle.lps_meaning.specs.declared.node.Node.{Node}
use Rattle.lps_meaning.specs.Goals.{IsPending}
use Rattle.lps_meaning.proofs.Numbers.{numbered_one, some_same}
use Rattle.lps_nodes.specs.Nodes.{IsGoalNode, IsKeptForGoal, IsKeptForRule, IsListOf, IsWaitingNode, goal_size, node_size}
use Rattle.lps_antecedents.specs.declared.held.Held.{Held}
use Rattle.lps_antecedents.specs.Waiting.{StandsFor as WaitsFor}
use Rattle.lps_antecedents.proofs.Lists.{number_within}
use Rattle.lps_goaltrees.specs.declared.goal.Goal.{Goal}
use Rattle.lps_goaltrees.specs.Followed.{StandsAt}
use Rattle.lps_goaltrees.specs.Pursued.{Pursuit}
use Rattle.lps_goaltrees.proofs.Lists.{of_chosen, to_chosen}
use Rattle.lps_limits.specs.Laws.{KeptIsTold, SizesAreTold}
use Rattle.lps_limits.proofs.Once.{once_chosen}
use Rattle.lps_limits.proofs.Sums.{at, by_number, nothing_more, one_number, sum_by_number, zipped_by_number}

-- ---- by rule

-- the node, where it waits for the rule with this number
abbrev node_for : ℕ → Held → Option Node
node_for n h = cond (eqb h.rule n) (Some h.node) None

is_node_for : (n : ℕ) (h : Held) (node : Node) → node_for n h ≡ Some node → (h.rule ≡ n) × (h.node ≡ node)
is_node_for n h node e = by (eqb h.rule n) refl e
  where
    by : (b : Bool) → eqb h.rule n ≡ b → cond b (Some h.node) None ≡ Some node → (h.rule ≡ n) × (h.node ≡ node)
    by true is e = (eqb-true h.rule n is, some_same e)
    by false is e = absurd cc

one_node_for : (n : ℕ) (h other : Held) (node : Node) → node_for n h ≡ Some node → node_for n other ≡ Some node → h ≡ other
one_node_for n h other node e f =
    let a = is_node_for n h node e in
    let b = is_node_for n other node f in
    λ i. record { rule = (a.0 ∙ sym b.0) i; node = (a.1 ∙ sym b.1) i }

-- the nodes that wait for the rule with this number
abbrev nodes_for : ℕ → List Held → List Node
nodes_for n held = filter_map (node_for n) held

abbrev held_size : Held → ℕ
held_size h = node_size h.node

sum_for : (n : ℕ) (held : List Held) → sum_by (at (λ h. h.rule) held_size n) held ≡ sum_by node_size (nodes_for n held)
sum_for n [] = refl
sum_for n (h ∷ held) = sum_by-cons (at (λ h. h.rule) held_size n) h held ∙ ap (λ k. at (λ h. h.rule) held_size n h + k) (sum_for n held) ∙ by (eqb h.rule n)
  where
    by : (b : Bool) → cond b (node_size h.node) 0 + sum_by node_size (nodes_for n held) ≡ sum_by node_size (cons_option (cond b (Some h.node) None) (nodes_for n held))
    by true = sym (sum_by-cons node_size h.node (nodes_for n held))
    by false = nothing_more (sum_by node_size (nodes_for n held))

module _ (text : Text) (level : List ℕ → ℕ) (depth : ℕ) (trace : Trace) (now : ℕ) (held : List Held) (stands : WaitsFor text level trace now held) where
  within_rules : (h : Held) → Contains held h → (0 < h.rule) × (h.rule ≤ length (rules text))
  within_rules h among = let waits = (stands.exact h).0 among in number_within (rules text) h.rule waits.rule waits.of_text

  kept_for_rule : (n : ℕ) (rule : Rule) → numbered (rules text) n ≡ Some rule → IsKeptForRule text level depth trace now rule (sum_by (at (λ h. h.rule) held_size n) held)
  kept_for_rule n rule of_text = (
    nodes_for n held,
    record {
      once = once_chosen (node_for n) (one_node_for n) held stands.once;
      exact = λ node. (
        λ h. let m = of_chosen (node_for n) held node h in
            let is = is_node_for n m.0 node m.2 in
            let waits = (stands.exact m.0).0 m.1 in
            let same : waits.rule ≡ rule = numbered_one (rules text) n waits.rule rule (subst (λ k. numbered (rules text) k ≡ Some waits.rule) is.0 waits.of_text) of_text in
            subst (λ r. IsWaitingNode text level trace r now node) same (subst (IsWaitingNode text level trace waits.rule now) is.1 waits.waits),
        λ waits. let h : Held = record { rule = n; node = node } in
            to_chosen (node_for n) held h node ((stands.exact h).1 (record { rule = rule; of_text = of_text; waits = waits })) (ap (λ b. cond b (Some node) None) (eq-eqb n n refl)),
      );
    },
    sum_for n held,
  )

-- ---- by goal

abbrev number_of : Goal → ℕ
number_of goal = goal.goal.0

abbrev size_of : Goal → ℕ
size_of goal = goal_size goal.key goal.nodes

module _ (text : Text) (level : List ℕ → ℕ) (depth : ℕ) (trace : Trace) (now : ℕ) (p : Pursuit) (stands : StandsAt text level trace depth now p) where
  within_keys : (goal : Goal) → Contains p.goals goal → (0 < goal.goal.0) × (goal.goal.0 ≤ length stands.keys)
  within_keys goal among = number_within stands.keys goal.goal.0 goal.key (stands.kept.numbers goal among)

  kept_for_goal : (n : ℕ) (key : GoalKey) → numbered stands.keys n ≡ Some key → IsKeptForGoal text level depth trace now key (sum_by (at number_of size_of n) p.goals)
  kept_for_goal n key numbered_so = elim (one_number number_of size_of n p.goals stands.kept.rising) [
    | inl m ↦
        let goal : Goal = m.0 in
        let same : goal.key ≡ key = numbered_one stands.keys n goal.key key (subst (λ k. numbered stands.keys k ≡ Some goal.key) m.2 (stands.kept.numbers goal m.1)) numbered_so in
        inl (
          subst (λ k. IsPending text level trace depth k now) same (stands.pending goal m.1),
          (
            goal.nodes,
            subst (λ k. IsListOf (IsGoalNode text level trace depth k now) goal.nodes) same (stands.kept.followed goal m.1).nodes,
            m.3 ∙ ap (λ k. goal_size k goal.nodes) same,
          ),
        )
    | inr none ↦ elim (stands.others n key numbered_so) [
      | inl among ↦ absurd (none.0 among.0 among.1 among.2)
      | inr closed ↦ inr (closed, none.1)
    ]
  ]

-- ---- together

pub kept_is_told : KeptIsTold
kept_is_told text level depth trace held p waits stands =
    let now = length trace.cycles in
    let by_rule = sum_by_number (λ h. h.rule) held_size held (rules text) (within_rules text level depth trace now held waits) in
    let by_goal = sum_by_number number_of size_of p.goals stands.keys (within_keys text level depth trace now p stands) in
    record {
      keys = stands.keys;
      goals = stands.goals;
      for_rules = by_number (λ h. h.rule) held_size held 0 (rules text);
      are_for_rules = zipped_by_number (λ h. h.rule) held_size (IsKeptForRule text level depth trace now) held (rules text) (kept_for_rule text level depth trace now held waits);
      for_goals = by_number number_of size_of p.goals 0 stands.keys;
      are_for_goals = zipped_by_number number_of size_of (IsKeptForGoal text level depth trace now) p.goals stands.keys (kept_for_goal text level depth trace now p stands);
      all = λ i. sym by_rule i + sym by_goal i;
    }

pub sizes_are_told : SizesAreTold
sizes_are_told text level depth trace facts held p are_facts waits stands =
    record { facts = facts; are_facts = are_facts; state = refl; kept = kept_is_told text level depth trace held p waits stands; log = refl }
