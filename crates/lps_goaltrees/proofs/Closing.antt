-- Closing goals: what is left stands for the trace, and what is closed is what is closed in the cycle.
use Rattle.std.proofs.Common.{ℕ, suc, ◌≡◌, ◌≤◌, ◌⊎◌, ◌∙◌, Bool, true, false, cond, List, [], ◌∷◌, ◌++◌, length, refl, sym, ap, subst, arith, inl, inr}
use Rattle.std.specs.Prelude.{◌↔◌, Contains, Option, Some, None}
use Rattle.std.specs.List.{filter}
use Rattle.std.proofs.lemmas.List.Kept.{IsStrictlySortedBy-filter}
use Rattle.std.specs.List.Sorted.{IsStrictlySortedBy}
use Rattle.std.specs.Ordering.{nat_cmp, on}
use Rattle.lps_terms.specs.declared.text.Text.{Text}
use Rattle.lps_model.specs.declared.trace.Trace.{Trace}
use Rattle.lps_model.specs.Acceptance.{IsAccepted}
use Rattle.lps_model.specs.Rules.{numbered}
use Rattle.lps_model.proofs.Elements.{first_is_contained, nothing_contained}
use Rattle.lps_meaning.specs.declared.goal.Closed.{Closed}
use Rattle.lps_meaning.specs.declared.goal.Closed.TheVariants as c
use Rattle.lps_meaning.specs.declared.goal.GoalId.{GoalId}
use Rattle.lps_meaning.specs.declared.goal.GoalKey.{GoalKey}
use Rattle.lps_meaning.specs.declared.node.Node.{Node}
use Rattle.lps_meaning.specs.Cycles.{AreGoals}
use Rattle.lps_meaning.specs.Goals.{HasLive, HasStatus, IsClosed, IsPending}
use Rattle.lps_meaning.specs.Laws.{IsContinuation}
use Rattle.lps_meaning.specs.Reports.{AreClosedIn, is_pending}
use Rattle.lps_meaning.proofs.Numbers.{numbered_one}
use Rattle.lps_meaning.proofs.ReportLaws.{one_status}
use Rattle.lps_statuses.specs.Laws.{StatusStays}
use Rattle.lps_goaltrees.specs.declared.goal.Goal.{Goal}
use Rattle.lps_goaltrees.specs.Followed.{AreCallFree, Closes, IsFollowed, Pursues, StandsAt}
use Rattle.lps_goaltrees.specs.Pursued.{Pursuit, closed_as, closed_without, closing_of, with_number}
use Rattle.lps_goaltrees.proofs.GoalNodes.{live_node, no_cut_met}
use Rattle.lps_goaltrees.proofs.Lists.{of_filtered, to_filtered}

some_none : {A : Type 0} {x : A} → Some x ≡ None → ⊥
some_none e = cc

-- ---- what is told from what is kept

module _ (text : Text) (free : AreCallFree text) (level : List ℕ → ℕ) (trace : Trace) (depth now : ℕ) where
  -- the status of a goal is that which is told from what is kept of it
  pub has_status : (goal : Goal) → IsFollowed text level trace depth now goal → HasStatus text level trace depth goal.key now (closed_as goal)
  has_status goal kept = by goal.solved goal.nodes refl refl
    where
      key : GoalKey
      key = goal.key

      no_live : goal.nodes ≡ [] → HasLive text level trace depth goal.key now → ⊥
      no_live none live =
          let n = live_node text level trace depth goal.key now live.0 live.1 in
          nothing_contained n.0 (subst (λ ns. Contains ns n.0) none ((kept.nodes.exact n.0).1 n.1))

      by : (solved : Bool) (nodes : List Node) → goal.solved ≡ solved → goal.nodes ≡ nodes →
          HasStatus text level trace depth goal.key now (cond solved (Some c.Solved) (closed_without nodes))
      by true nodes is are = kept.solved is
      by false [] is are = (kept.unsolved is, no_live are, no_cut_met text free level trace depth goal.key now)
      by false (node ∷ nodes) is are =
          let n = (kept.nodes.exact node).0 (subst (λ ns. Contains ns node) (sym are) (first_is_contained node nodes)) in
          (kept.unsolved is, (n.end, n.live))

  -- a goal that is closed is told so
  told : (goal : Goal) → IsFollowed text level trace depth now goal → (status : Option Closed) → HasStatus text level trace depth goal.key now status → closed_as goal ≡ status
  told goal kept status has = one_status text level trace depth goal.key now (closed_as goal) status (has_status goal kept) has

  as_status : (goal : Goal) → IsFollowed text level trace depth now goal → (status : Option Closed) → closed_as goal ≡ status → HasStatus text level trace depth goal.key now status
  as_status goal kept status is = subst (HasStatus text level trace depth goal.key now) is (has_status goal kept)

-- ---- tests

pub pending_is : (status : Option Closed) → is_pending status ≡ true → status ≡ None
pending_is None is = refl
pending_is (Some c.Solved) is = absurd cc
pending_is (Some c.Failed) is = absurd cc
pending_is (Some c.Cut) is = absurd cc

pub closing_is : (number n : GoalId) (status : Option Closed) (how : Closed) → with_number number status ≡ Some (n, how) → (number ≡ n) × (status ≡ Some how)
closing_is number n None how e = absurd (some_none (sym e))
closing_is number n (Some other) how e = let same : (number, other) ≡ (n, how) = some_same e in (ap (λ p. p.0) same, ap (λ p. Some p.1) same)
  where
    some_same : {A : Type 0} {x y : A} → Some x ≡ Some y → x ≡ y
    some_same e = cc

-- ---- closing

-- a trace goes on from itself
goes_on : (trace : Trace) → IsContinuation trace trace
goes_on trace = record { initial = refl; more = []; cycles = sym (append_nil trace.cycles) }
  where
    append_nil : {X : Type 0} (xs : List X) → xs ++ [] ≡ xs
    append_nil [] = refl
    append_nil (x ∷ xs) = ap (λ more. x ∷ more) (append_nil xs)

module _ (stay : StatusStays IsAccepted) (text : Text) (accepted : IsAccepted text) (free : AreCallFree text) (level : List ℕ → ℕ) (trace : Trace) (depth now : ℕ)
    (upto : now ≤ length trace.cycles) (keys : List GoalKey) (goals : AreGoals text level trace now keys) (old : Pursuit) (was : Pursues text level trace depth now keys old) where
  abbrev test : Goal → Bool
  test goal = is_pending (closed_as goal)

  -- the goal with a number has the key with that number
  same_key : (goal : Goal) → Contains old.goals goal → (n : ℕ) (key : GoalKey) → goal.goal.0 ≡ n → numbered keys n ≡ Some key → goal.key ≡ key
  same_key goal there n key is at = numbered_one keys n goal.key key (subst (λ n. numbered keys n ≡ Some goal.key) is (was.kept.numbers goal there)) at

  -- each goal is told to be pending or to be closed
  pending_or_closed : (goal : Goal) → Contains old.goals goal → (test goal ≡ true) ⊎ ((how : Closed) × (closed_as goal ≡ Some how))
  pending_or_closed goal there = by (closed_as goal) refl
    where
      by : (status : Option Closed) → closed_as goal ≡ status → (test goal ≡ true) ⊎ ((how : Closed) × (closed_as goal ≡ Some how))
      by None is = inl (ap is_pending is)
      by (Some how) is = inr (how, is)

  pub stands : (new : Pursuit) → new.goals ≡ filter test old.goals → new.next ≡ old.next → StandsAt text level trace depth now new
  stands new left next =
      let back : (goal : Goal) → Contains new.goals goal → Contains old.goals goal × (test goal ≡ true) =
      λ goal h. of_filtered test old.goals goal (subst (λ gs. Contains gs goal) left h) in
      record {
        keys = keys;
        goals = goals;
        kept = record {
          next = next ∙ was.kept.next;
          early = was.kept.early;
          rising = subst (λ gs. IsStrictlySortedBy (on (λ (g : Goal). g.goal.0) nat_cmp) gs) (sym left) (IsStrictlySortedBy-filter (on (λ (g : Goal). g.goal.0) nat_cmp) test old.goals was.kept.rising);
          numbers = λ goal h. was.kept.numbers goal (back goal h).0;
          followed = λ goal h. was.kept.followed goal (back goal h).0;
        };
        pending = λ goal h. let m = back goal h in
            as_status text free level trace depth now goal (was.kept.followed goal m.0) None (pending_is (closed_as goal) m.1);
        others = λ n key h. elim (was.others n key h) [
          | inl m ↦ elim (pending_or_closed m.0 m.1) [
            | inl pending ↦ inl (m.0, subst (λ gs. Contains gs m.0) (sym left) (to_filtered test old.goals m.0 m.1 pending), m.2)
            | inr closed ↦ inr (
              closed.0,
              subst (λ (k : GoalKey). IsClosed text level trace depth k now closed.0) (same_key m.0 m.1 n key m.2 h)
                  (as_status text free level trace depth now m.0 (was.kept.followed m.0 m.1) (Some closed.0) closed.1),
            )
          ]
          | inr closed ↦ inr (
            closed.3,
            stay text level depth accepted closed.3 trace trace (goes_on trace) key closed.0 now closed.2 (within closed.0 now (length trace.cycles) closed.1 upto) (before closed.0 now closed.1) closed.4,
          )
        ];
      }
    where
      before : (j n : ℕ) → n ≡ suc j → j ≤ n
      before j n is = omega (arith, is)

      within : (j n m : ℕ) → n ≡ suc j → n ≤ m → j ≤ m
      within j n m is le = omega (arith, is)

  -- what was closed before is not closed in this cycle
  not_before : (key : GoalKey) (j : ℕ) → now ≡ suc j → key.time ≤ j → (how : Closed) → IsClosed text level trace depth key j how →
      (key.time ≡ now) ⊎ ((i : ℕ) × (now ≡ suc i) × (key.time ≤ i) × IsPending text level trace depth key i) → ⊥
  not_before key j is after how closed (inl new) = early key.time j now is after new
    where
      early : (k j n : ℕ) → n ≡ suc j → k ≤ j → k ≡ n → ⊥
      early k j n is le new = omega (arith, is, new)
  not_before key j is after how closed (inr pending) =
      some_none (sym (one_status text level trace depth key j None (Some how) (subst (λ i. IsPending text level trace depth key i) (same pending.0 j now pending.1 is) pending.3) closed))
    where
      same : (i j n : ℕ) → n ≡ suc i → n ≡ suc j → i ≡ j
      same i j n one two = omega (arith, one, two)

  -- these are the goals that are told to be closed, by rising number
  pub closed_in : (closed : List (GoalId × Closed)) → IsStrictlySortedBy (on (λ (p : GoalId × Closed). p.0.0) nat_cmp) closed →
      ((p : GoalId × Closed) → Contains closed p ↔ ((goal : Goal) × Contains old.goals goal × (closing_of goal ≡ Some p))) → AreClosedIn text level depth trace keys now closed
  closed_in closed sorted exact = record {
    sorted = sorted;
    exact = λ n how. (
      λ h. let m = (exact (record { 0 = n }, how)).0 h in
          let is = closing_is m.0.goal (record { 0 = n }) (closed_as m.0) how m.2 in
          record {
            key = m.0.key;
            goal = subst (λ n. numbered keys n ≡ Some m.0.key) (ap (λ n. n.0) is.0) (was.kept.numbers m.0 m.1);
            closed = as_status text free level trace depth now m.0 (was.kept.followed m.0 m.1) (Some how) is.1;
            before = was.open_until m.0 m.1;
          },
      λ h. elim (was.others n h.key h.goal) [
        | inl m ↦ (exact (record { 0 = n }, how)).1 (
          m.0,
          m.1,
          closing n how m.0 m.2
              (told text free level trace depth now m.0 (was.kept.followed m.0 m.1) (Some how)
              (subst (λ (k : GoalKey). IsClosed text level trace depth k now how) (sym (same_key m.0 m.1 n h.key m.2 h.goal)) h.closed)),
        )
        | inr closed ↦ absurd (not_before h.key closed.0 closed.1 closed.2 closed.3 closed.4 h.before)
      ],
    );
  }
    where
      closing : (n : ℕ) (how : Closed) (goal : Goal) → goal.goal.0 ≡ n → closed_as goal ≡ Some how → closing_of goal ≡ Some (record { 0 = n }, how)
      closing n how goal number is = ap (with_number goal.goal) is ∙ ap (λ k. Some (record { 0 = k }, how)) number

pub closes : StatusStays IsAccepted → (old new : Pursuit) (closed : List (GoalId × Closed)) → new.goals ≡ filter (λ goal. is_pending (closed_as goal)) old.goals → new.next ≡ old.next →
    IsStrictlySortedBy (on (λ (p : GoalId × Closed). p.0.0) nat_cmp) closed → ((p : GoalId × Closed) → Contains closed p ↔ ((goal : Goal) × Contains old.goals goal × (closing_of goal ≡ Some p))) →
    Closes old new closed
closes stay old new closed left next sorted exact text accepted free level trace depth now upto keys goals was = (
  stands stay text accepted free level trace depth now upto keys goals old was new left next,
  closed_in stay text accepted free level trace depth now upto keys goals old was closed sorted exact,
)
