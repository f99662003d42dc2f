-- A trace has one size of its state, one of what is kept and one of its log.
use Rattle.std.proofs.Common.{ℕ, ◌≡◌, ◌+◌, ◌∙◌, List, [], ◌∷◌, refl, sym, ap, subst, inl, inr}
use Rattle.std.specs.Prelude.{length, sum, sum_by}
use Rattle.std.specs.List.{AllZip}
use Rattle.lps_terms.specs.declared.atom.Atom.{Atom}
use Rattle.lps_terms.specs.declared.text.Text.{Text}
use Rattle.lps_terms.specs.Symbols.{symbols_of_all}
use Rattle.lps_terms.specs.OrderLaws.{atom_cmp-IsAntisymmetric, atom_cmp_total}
use Rattle.lps_model.specs.declared.trace.Trace.{Trace}
use Rattle.lps_model.specs.Rules.{Rule, rules}
use Rattle.lps_model.proofs.Elements.{sorted_same}
use Rattle.lps_meaning.specs.declared.goal.Closed.{Closed}
use Rattle.lps_meaning.specs.declared.goal.Closed.TheVariants as c
use Rattle.lps_meaning.specs.declared.goal.GoalKey.{GoalKey}
use Rattle.lps_meaning.specs.declared.node.Node.{Node}
use Rattle.lps_meaning.specs.Goals.{IsClosed, IsPending}
use Rattle.lps_meaning.specs.Reports.{IsState}
use Rattle.lps_meaning.proofs.Numbers.{goals_unique}
use Rattle.lps_nodes.specs.Nodes.{IsKept, IsKeptForGoal, IsKeptForRule, IsListOf, node_size}
use Rattle.lps_limits.specs.Laws.{SizesAreUnique}
use Rattle.lps_limits.specs.Sizes.{state_size}
use Rattle.lps_limits.proofs.Once.{same_sums}

one_sum : {P : Node → Type 0} (nodes others : List Node) → IsListOf P nodes → IsListOf P others → sum_by node_size nodes ≡ sum_by node_size others
one_sum nodes others a b = same_sums node_size nodes others a.once b.once (λ node. (λ h. (b.exact node).1 ((a.exact node).0 h), λ h. (a.exact node).1 ((b.exact node).0 h)))

one_each : {X : Type 0} (R : X → ℕ → Type 0) → ((x : X) (m n : ℕ) → R x m → R x n → m ≡ n) → (xs : List X) (ms ns : List ℕ) → AllZip R xs ms → AllZip R xs ns → ms ≡ ns
one_each R one [] [] [] a b = refl
one_each R one [] [] (n ∷ ns) a b = absurd b
one_each R one [] (m ∷ ms) ns a b = absurd a
one_each R one (x ∷ xs) [] ns a b = absurd a
one_each R one (x ∷ xs) (m ∷ ms) [] a b = absurd b
one_each R one (x ∷ xs) (m ∷ ms) (n ∷ ns) a b = let first = one x m n a.0 b.0 in let rest = one_each R one xs ms ns a.1 b.1 in λ i. first i ∷ rest i

module _ (text : Text) (level : List ℕ → ℕ) (depth : ℕ) (trace : Trace) (now : ℕ) where
  one_for_rule : (rule : Rule) (m n : ℕ) → IsKeptForRule text level depth trace now rule m → IsKeptForRule text level depth trace now rule n → m ≡ n
  one_for_rule rule m n a b = a.2 ∙ one_sum a.0 b.0 a.1 b.1 ∙ sym b.2

  pending_not_closed : (key : GoalKey) (how : Closed) → IsPending text level trace depth key now → IsClosed text level trace depth key now how → ⊥
  pending_not_closed key c.Solved p h = p.0 h
  pending_not_closed key c.Failed p h = h.1 p.1
  pending_not_closed key c.Cut p h = h.1 p.1

  one_for_goal : (key : GoalKey) (m n : ℕ) → IsKeptForGoal text level depth trace now key m → IsKeptForGoal text level depth trace now key n → m ≡ n
  one_for_goal key m n (inl a) (inl b) = a.1.2 ∙ ap (λ k. 1 + symbols_of_all key.values + length key.times + k) (one_sum a.1.0 b.1.0 a.1.1 b.1.1) ∙ sym b.1.2
  one_for_goal key m n (inl a) (inr b) = absurd (pending_not_closed key b.0.0 a.0 b.0.1)
  one_for_goal key m n (inr a) (inl b) = absurd (pending_not_closed key a.0.0 b.0 a.0.1)
  one_for_goal key m n (inr a) (inr b) = a.1 ∙ sym b.1

  one_kept : (m n : ℕ) → IsKept text level depth trace now m → IsKept text level depth trace now n → m ≡ n
  one_kept m n a b =
      let keys = goals_unique text level trace now a.keys b.keys a.goals b.goals in
      let for_rules = one_each (IsKeptForRule text level depth trace now) one_for_rule (rules text) a.for_rules b.for_rules a.are_for_rules b.are_for_rules in
      let for_goals = one_each (IsKeptForGoal text level depth trace now) one_for_goal b.keys a.for_goals b.for_goals
      (subst (λ keys. AllZip (IsKeptForGoal text level depth trace now) keys a.for_goals) keys a.are_for_goals) b.are_for_goals in
      a.all ∙ (λ i. sum (for_rules i) + sum (for_goals i)) ∙ sym b.all

  one_state : (facts others : List Atom) → IsState text level trace now facts → IsState text level trace now others → facts ≡ others
  one_state facts others a b =
      sorted_same atom_cmp_total atom_cmp-IsAntisymmetric facts others a.sorted b.sorted
      (λ fluent h. (b.exact fluent).1 ((a.exact fluent).0 h)) (λ fluent h. (a.exact fluent).1 ((b.exact fluent).0 h))

pub sizes_are_unique : SizesAreUnique
sizes_are_unique text level depth trace sizes others a b =
    let now = length trace.cycles in
    let state = a.state ∙ ap state_size (one_state text level depth trace now a.facts b.facts a.are_facts b.are_facts) ∙ sym b.state in
    let kept = one_kept text level depth trace now sizes.kept others.kept a.kept b.kept in
    let log = a.log ∙ sym b.log in
    λ i. record { state = state i; kept = kept i; log = log i }
