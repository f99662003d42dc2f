-- What is kept of a goal is right at its own time, and in each cycle after it.
use Rattle.std.proofs.Common.{ℕ, suc, ◌≡◌, ◌≤◌, ◌<◌, ◌⊎◌, true, false, List, [], length, refl, sym, subst, arith, inl, inr, ◌∙◌}
use Rattle.std.specs.Prelude.{◌↔◌, IsTrue, Contains, Some}
use Rattle.lps_terms.specs.declared.text.Text.{Text}
use Rattle.lps_model.specs.declared.trace.Trace.{Trace}
use Rattle.lps_model.specs.Acceptance.{IsAccepted}
use Rattle.lps_model.specs.Formed.{is_formed}
use Rattle.lps_model.specs.Rules.{Rule, numbered, rules}
use Rattle.lps_model.proofs.Elements.{nothing_contained}
use Rattle.lps_meaning.specs.declared.goal.GoalKey.{GoalKey}
use Rattle.lps_meaning.specs.declared.node.Node.{Node}
use Rattle.lps_meaning.specs.Goals.{IsFulfilledWithin}
use Rattle.lps_meaning.proofs.Numbers.{numbered_one}
use Rattle.lps_nodes.specs.Nodes.{IsGoalNode, IsListOf}
use Rattle.lps_nodes.specs.Plans.{Entrance, IsAlternativeEntered, alternative_entrance}
use Rattle.lps_nodes.proofs.ComingFromNodes.{ends_come, nodes_come}
use Rattle.lps_nodes.proofs.Entrances.{goal_nodes}
use Rattle.lps_seq.specs.Found.{AreOnce}
use Rattle.lps_goaltrees.specs.declared.found.Found.{Found}
use Rattle.lps_goaltrees.specs.declared.goal.Goal.{Goal}
use Rattle.lps_goaltrees.specs.Followed.{IsFollowed}
use Rattle.lps_goaltrees.specs.Found.{EndsAtOnce, EndsNext, Grows, HasAlternative, IsEnteredNode, IsNextNode}
use Rattle.lps_goaltrees.specs.Laws.{EndsNow}
use Rattle.lps_goaltrees.proofs.Ends.{solved_at_once, solved_later, solved_next}
use Rattle.lps_goaltrees.proofs.Growing.{entered_of_text, entered_since}
use Rattle.lps_goaltrees.proofs.Lists.{at_contains, numbered_place, numbered_there, true_false}

-- nothing is there at all, so nothing twice
none_twice : (nodes : List Node) → nodes ≡ [] → AreOnce nodes
none_twice nodes none i j x at_i at_j = absurd (nothing_contained x (subst (λ ns. Contains ns x) none (at_contains nodes x i at_i)))

-- nothing was there before
from_nothing : {N : Node → Type 0} (old new : List Node) → old ≡ [] → ((o : Node) → Contains new o ↔ (Contains old o ⊎ N o)) → (o : Node) → Contains new o ↔ N o
from_nothing old new none among o = (
  λ h. elim ((among o).0 h) [
    | inl before ↦ absurd (nothing_contained o (subst (λ ns. Contains ns o) none before))
    | inr n ↦ n
  ],
  λ n. (among o).1 (inr n),
)

-- the numbers of the alternatives of a rule
pub has_alternative : (text : Text) (key : GoalKey) (rule : Rule) → numbered (rules text) key.rule ≡ Some rule → (k : ℕ) → k < length rule.alternatives → HasAlternative text key (suc k)
has_alternative text key rule of_text k lt =
    let items = numbered_there rule.alternatives k lt in
    (alternative_entrance rule key (suc k) items.0, record { rule = rule; of_text = of_text; items = items.0; of_rule = items.1; entered = refl })

pub alternative_place : (text : Text) (key : GoalKey) (rule : Rule) → numbered (rules text) key.rule ≡ Some rule → (count : ℕ) → count ≡ length rule.alternatives →
    (number : ℕ) (e : Entrance) → IsAlternativeEntered text key number e → (k : ℕ) × (k < count) × IsAlternativeEntered text key (suc k) e
alternative_place text key rule of_text count all number e entered =
    let same : entered.rule ≡ rule = numbered_one (rules text) key.rule entered.rule rule entered.of_text of_text in
    let at = numbered_place entered.rule.alternatives number entered.items entered.of_rule in (
      at.0,
      subst (λ n. at.0 < n) (sym all) (subst (λ (r : Rule). at.0 < length r.alternatives) same at.2),
      subst (λ n. IsAlternativeEntered text key n e) at.1 entered,
    )

module _ (text : Text) (level : List ℕ → ℕ) (trace : Trace) (depth : ℕ) where
  -- ---- at its own time

  pub is_begun : (goal : Goal) (rule : Rule) → numbered (rules text) goal.key.rule ≡ Some rule → (count : ℕ) → count ≡ length rule.alternatives → (old new : Found) →
      old.nodes.items ≡ [] → old.solved ≡ false → goal.nodes ≡ new.nodes.items → goal.solved ≡ new.solved →
      Grows old new (λ node. (k : ℕ) × (k < count) × IsEnteredNode text level trace depth goal.key (suc k) node) ((k : ℕ) × (k < count) × EndsAtOnce text level trace depth goal.key (suc k)) →
      IsFollowed text level trace depth goal.key.time goal
  is_begun goal rule of_text count all old new none unsolved nodes solved grows =
      let key : GoalKey = goal.key in
      let place = alternative_place text key rule of_text count all in
      record {
        nodes = subst (IsListOf (IsGoalNode text level trace depth key key.time)) (sym nodes) (record {
          once = grows.once (none_twice old.nodes.items none);
          exact = λ o. let among = from_nothing old.nodes.items new.nodes.items none grows.nodes o in (
            λ h. let m = among.0 h in (goal_nodes text level trace depth key key.time o).1 (suc m.0, m.2.0, m.2.1, m.2.2),
            λ h. let m = (goal_nodes text level trace depth key key.time o).0 h in
                let at = place m.0 m.1 m.2 in
                among.1 (at.0, at.1, (m.1, at.2, m.3)),
          );
        });
        solved = λ is. elim (grows.solved (sym solved ∙ is)) [
          | inl before ↦ absurd (true_false (sym before ∙ unsolved))
          | inr m ↦ (solved_at_once text level trace depth key).1 (suc m.0, m.2.0, m.2.1, m.2.2, m.2.3)
        ];
        unsolved = λ is h.
            let m = (solved_at_once text level trace depth key).0 h in
            let at = place m.0 m.1 m.2 in
            (grows.unsolved (sym solved ∙ is)).1 (at.0, at.1, (m.1, at.2, m.3, m.4));
      }

  -- ---- a cycle later

  module _ (accepted : IsAccepted text) (formed : IsTrue (is_formed text)) (now : ℕ) (goal next : Goal) (after : goal.key.time ≤ now) where
    abbrev key : GoalKey
    key = goal.key

    not_before : (number : ℕ) (e : Entrance) → IsAlternativeEntered text key number e → e.since ≤ now
    not_before number e entered = subst (λ n. n ≤ now) (sym (entered_since text key number e entered)) after

    -- what an alternative leaves, or ends with, comes from its nodes
    next_node : (o : Node) → IsGoalNode text level trace depth key (suc now) o ↔ ((node : Node) × IsGoalNode text level trace depth key now node × IsNextNode text level trace depth key now node o)
    next_node o = (
      λ h. let m = (goal_nodes text level trace depth key (suc now) o).0 h in
          let come = (nodes_come text accepted formed level trace depth m.1 (entered_of_text text key m.0 m.1 m.2) now (not_before m.0 m.1 m.2) o).0 m.3 in
          (come.0, (goal_nodes text level trace depth key now come.0).1 (m.0, m.1, m.2, come.1), (m.0, m.1, m.2, come.1, come.2)),
      λ m. (goal_nodes text level trace depth key (suc now) o).1 (
        m.2.0,
        m.2.1,
        m.2.2,
        (nodes_come text accepted formed level trace depth m.2.1 (entered_of_text text key m.2.0 m.2.1 m.2.2) now (not_before m.2.0 m.2.1 m.2.2) o).1 (m.0, m.2.3, m.2.4),
      ),
    )

    next_end : EndsNow text level trace depth key (suc now) ↔ ((node : Node) × IsGoalNode text level trace depth key now node × EndsNext text level trace depth key now node)
    next_end = (
      λ m. let come = (ends_come text accepted formed level trace depth m.1 (entered_of_text text key m.0 m.1 m.2) now (not_before m.0 m.1 m.2) m.3).0 m.4 in
          (come.0, (goal_nodes text level trace depth key now come.0).1 (m.0, m.1, m.2, come.1), (m.0, m.1, m.2, come.1, m.3, come.2)),
      λ m. (
        m.2.0,
        m.2.1,
        m.2.2,
        m.2.4,
        (ends_come text accepted formed level trace depth m.2.1 (entered_of_text text key m.2.0 m.2.1 m.2.2) now (not_before m.2.0 m.2.1 m.2.2) m.2.4).1 (m.0, m.2.3, m.2.5),
      ),
    )

    -- something ends of what was left
    abbrev AnyEnds : Type 0
    AnyEnds = (node : Node) × Contains goal.nodes node × EndsNext text level trace depth key now node

    pub is_followed_next : IsFollowed text level trace depth now goal → next.key ≡ goal.key → AreOnce next.nodes →
        ((o : Node) → Contains next.nodes o ↔ ((node : Node) × Contains goal.nodes node × IsNextNode text level trace depth key now node o)) →
        (next.solved ≡ true → (goal.solved ≡ true) ⊎ AnyEnds) → (next.solved ≡ false → (goal.solved ≡ false) × (AnyEnds → ⊥)) → IsFollowed text level trace depth (suc now) next
    is_followed_next was same once among solved unsolved = record {
      nodes = subst (λ (k : GoalKey). IsListOf (IsGoalNode text level trace depth k (suc now)) next.nodes) (sym same) (record {
        once = once;
        exact = λ o. (
          λ h. let m = (among o).0 h in (next_node o).1 (m.0, (was.nodes.exact m.0).0 m.1, m.2),
          λ h. let m = (next_node o).0 h in (among o).1 (m.0, (was.nodes.exact m.0).1 m.1, m.2),
        );
      });
      solved = λ is. subst (λ (k : GoalKey). IsFulfilledWithin text level trace depth k (suc now)) (sym same) (elim (solved is) [
        | inl held ↦ solved_later text level trace depth key now (suc now) (one_later now) (was.solved held)
        | inr m ↦ (solved_next text level trace depth key now after).1 (inr (next_end.1 (m.0, (was.nodes.exact m.0).0 m.1, m.2)))
      ]);
      unsolved = λ is h.
          let u = unsolved is in
          elim ((solved_next text level trace depth key now after).0 (subst (λ (k : GoalKey). IsFulfilledWithin text level trace depth k (suc now)) same h)) [
            | inl held ↦ was.unsolved u.0 held
            | inr ends ↦ let m = next_end.0 ends in u.1 (m.0, (was.nodes.exact m.0).1 m.1, m.2)
          ];
    }
      where
        one_later : (n : ℕ) → n ≤ suc n
        one_later n = omega arith

    pub is_advanced : IsFollowed text level trace depth now goal → next.key ≡ goal.key → (old new : Found) → old.nodes.items ≡ [] → old.solved ≡ goal.solved →
        next.nodes ≡ new.nodes.items → next.solved ≡ new.solved →
        Grows old new (λ other. (node : Node) × Contains goal.nodes node × IsNextNode text level trace depth goal.key now node other)
        ((node : Node) × Contains goal.nodes node × EndsNext text level trace depth goal.key now node) →
        IsFollowed text level trace depth (suc now) next
    is_advanced was same old new none before nodes solved grows =
        is_followed_next was same (subst AreOnce (sym nodes) (grows.once (none_twice old.nodes.items none)))
        (λ o. subst (λ (ns : List Node). Contains ns o ↔ ((node : Node) × Contains goal.nodes node × IsNextNode text level trace depth goal.key now node o)) (sym nodes)
        (from_nothing old.nodes.items new.nodes.items none grows.nodes o))
        (λ is. elim (grows.solved (sym solved ∙ is)) [
          | inl held ↦ inl (sym before ∙ held)
          | inr ends ↦ inr ends
        ])
        (λ is. let u = grows.unsolved (sym solved ∙ is) in (sym before ∙ u.0, u.1))
