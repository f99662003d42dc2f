-- What is reported of a cycle depends on the cycles up to it alone, is one, and tells the cycle.
use Rattle.std.proofs.Common.{◌≡◌, ℕ, zero, suc, ◌<◌, ◌≤◌, List, [], ◌∷◌, ◌++◌, length, refl, sym, ap, subst, ◌∙◌, arith, inl, inr}
use Rattle.std.specs.Prelude.{◌-◌, Contains, Option, Some, None, slice_get}
use Rattle.std.specs.declared.cmp.Ordering.{Ordering}
use Rattle.std.specs.declared.cmp.Ordering.TheVariants.{Less, Equal, Greater}
use Rattle.std.specs.Cmp.{nat_cmp_is}
use Rattle.std.specs.List.{AllZip, count_by}
use Rattle.std.specs.List.Sorted.{IsStrictlySortedBy}
use Rattle.std.specs.Ordering.{nat_cmp, on}
use Rattle.std.proofs.lemmas.List.Elements.{All-from_recursion, All-contains}
use Rattle.std.proofs.lemmas.Map.Keys.{sorted_head, sorted_tail}
use Rattle.lps_terms.specs.declared.atom.Atom.{Atom}
use Rattle.lps_terms.specs.declared.text.Text.{Text}
use Rattle.lps_terms.specs.OrderLaws.{atom_cmp_total, atom_cmp-IsAntisymmetric}
use Rattle.lps_model.specs.declared.cycle.Cycle.{Cycle}
use Rattle.lps_model.specs.declared.trace.Trace.{Trace}
use Rattle.lps_model.specs.Run.{AreInitial}
use Rattle.lps_model.specs.Trace.{cycle_at, cycle_or_none}
use Rattle.lps_model.proofs.Elements.{first_or_later, first_is_contained, later_is_contained, nothing_contained, sorted_same}
use Rattle.lps_model.proofs.Growth.{AreSame, same_back}
use Rattle.lps_meaning.specs.declared.goal.Closed.{Closed}
use Rattle.lps_meaning.specs.declared.goal.Closed.TheVariants as c
use Rattle.lps_meaning.specs.declared.goal.Counts.{Counts}
use Rattle.lps_meaning.specs.declared.goal.GoalId.{GoalId}
use Rattle.lps_meaning.specs.declared.goal.GoalKey.{GoalKey}
use Rattle.lps_meaning.specs.declared.goal.NewGoal.{NewGoal}
use Rattle.lps_meaning.specs.Cycles.{AreGoals}
use Rattle.lps_meaning.specs.Goals.{IsClosed, HasStatus}
use Rattle.lps_meaning.specs.Reports.{IsState, IsClosedIn, AreCreated, AreClosedIn, Block, IsBlockOf, IsBlock, AreBlocks, AreCounts, IsReport, block_text, last_line, is_pending, is_failed, is_cut}
use Rattle.lps_model.specs.Rules.{numbered}
use Rattle.lps_meaning.proofs.Numbers.{goals_unique, numbered_one}
use Rattle.lps_meaning.proofs.Prefixes.{holds_same, goal_same, status_same}
use Rattle.lps_meaning.proofs.Splits.{le_or_lt}

-- ---- from one trace to another with the same cycles

module _ (text : Text) (level : List ℕ → ℕ) (now : ℕ) (trace other : Trace) (same : AreSame now trace other) where
  abbrev back : AreSame now other trace
  back = same_back now trace other same

  state_same : (k : ℕ) (facts : List Atom) → k ≤ now → IsState text level trace k facts → IsState text level other k facts
  state_same k facts le h = record {
    sorted = h.sorted;
    exact = λ fluent. let both = holds_same text level now trace other same k le fluent in
        ((λ among. both.0 ((h.exact fluent).0 among)), (λ holds. (h.exact fluent).1 (both.1 holds)));
  }

  goals_same : (k : ℕ) (keys : List GoalKey) → k ≤ now → AreGoals text level trace k keys → AreGoals text level other k keys
  goals_same k keys le h = record {
    sorted = h.sorted;
    exact = λ key. (
      (λ among. let g = (h.exact key).0 among in (g.0, goal_same text level now trace other same key (let x = g.0 in omega arith) g.1)),
      (λ g. (h.exact key).1 (g.0, goal_same text level now other trace back key (let x = g.0 in omega arith) g.1)),
    );
  }

  closed_same : (depth : ℕ) (keys : List GoalKey) (k n : ℕ) (how : Closed) → k ≤ now → IsClosedIn text level depth trace keys k n how → IsClosedIn text level depth other keys k n how
  closed_same depth keys k n how le h = record {
    key = h.key;
    goal = h.goal;
    closed = status_same text level now trace other same depth h.key k le (Some how) h.closed;
    before = elim h.before [
      | inl new ↦ inl new
      | inr b ↦ inr (b.0, b.1, b.2, status_same text level now trace other same depth h.key b.0 (let e = b.1 in omega (arith, e)) None b.3)
    ];
  }

module _ (text : Text) (level : List ℕ → ℕ) (depth now : ℕ) (trace other : Trace) (same : AreSame now trace other) where
  block_of_same : (k : ℕ) (block : Block) → k ≤ now → IsBlockOf text level depth trace k block → IsBlockOf text level depth other k block
  block_of_same k block le h = record {
    cycle = h.cycle ∙ same.cycles k le;
    state = state_same text level now trace other same k block.facts le h.state;
    keys = h.keys;
    goals = goals_same text level now trace other same k h.keys le h.goals;
    created = record { sorted = h.created.sorted; exact = h.created.exact };
    closed = record {
      sorted = h.closed.sorted;
      exact = λ n how. (
        (λ among. closed_same text level now trace other same depth h.keys k n how le ((h.closed.exact n how).0 among)),
        (λ is. (h.closed.exact n how).1 (closed_same text level now other trace (same_back now trace other same) depth h.keys k n how le is)),
      );
    };
  }

  pub block_same : (k : ℕ) (bytes : List ℕ) → k ≤ now → IsBlock text level depth trace k bytes → IsBlock text level depth other k bytes
  block_same k bytes le h = (h.0, block_of_same k h.0 le h.1, h.2)

-- ---- one block, one report

pub one_status : (text : Text) (level : List ℕ → ℕ) (trace : Trace) (depth : ℕ) (key : GoalKey) (now : ℕ) (a b : Option Closed) →
    HasStatus text level trace depth key now a → HasStatus text level trace depth key now b → a ≡ b
one_status text level trace depth key now None None h k = refl
one_status text level trace depth key now None (Some c.Solved) h k = absurd (h.0 k)
one_status text level trace depth key now None (Some c.Failed) h k = absurd (k.1 h.1)
one_status text level trace depth key now None (Some c.Cut) h k = absurd (k.1 h.1)
one_status text level trace depth key now (Some c.Solved) None h k = absurd (k.0 h)
one_status text level trace depth key now (Some c.Failed) None h k = absurd (h.1 k.1)
one_status text level trace depth key now (Some c.Cut) None h k = absurd (h.1 k.1)
one_status text level trace depth key now (Some c.Solved) (Some c.Solved) h k = refl
one_status text level trace depth key now (Some c.Solved) (Some c.Failed) h k = absurd (k.0 h)
one_status text level trace depth key now (Some c.Solved) (Some c.Cut) h k = absurd (k.0 h)
one_status text level trace depth key now (Some c.Failed) (Some c.Solved) h k = absurd (h.0 k)
one_status text level trace depth key now (Some c.Failed) (Some c.Failed) h k = refl
one_status text level trace depth key now (Some c.Failed) (Some c.Cut) h k = absurd (h.2 k.2)
one_status text level trace depth key now (Some c.Cut) (Some c.Solved) h k = absurd (h.0 k)
one_status text level trace depth key now (Some c.Cut) (Some c.Failed) h k = absurd (k.2 h.2)
one_status text level trace depth key now (Some c.Cut) (Some c.Cut) h k = refl

-- two lists that rise by a number, with the same elements, of which a number tells which, are one list
module _ {X : Type 0} (f : X → ℕ) where
  abbrev cmp_f : X → X → Ordering
  cmp_f = on f nat_cmp

  less_is : (a b : ℕ) → nat_cmp a b ≡ Less → a < b
  less_is a b e =
      elim (le_or_lt b a) [
        | inl le ↦ elim (le_or_lt a b) [
          | inl back ↦ let same : a ≡ b = omega arith in let tie : Equal ≡ nat_cmp a b = nat_cmp_is a b Equal same in absurd (cc)
          | inr lt ↦ let over : Greater ≡ nat_cmp a b = nat_cmp_is a b Greater lt in absurd (cc)
        ]
        | inr lt ↦ lt
      ]

  above : (x : X) (xs : List X) (q : X) → IsStrictlySortedBy cmp_f (x ∷ xs) → Contains xs q → f x < f q
  above x xs q s among = less_is (f x) (f q) (All-contains (λ y. cmp_f x y ≡ Less) xs q (All-from_recursion (λ y. cmp_f x y ≡ Less) xs (sorted_head cmp_f x xs s)) among)

  least : (x : X) (xs : List X) (q : X) → IsStrictlySortedBy cmp_f (x ∷ xs) → Contains (x ∷ xs) q → f x ≤ f q
  least x xs q s among = elim (first_or_later x xs q among) [ inl e ↦ let same : f x ≡ f q = ap f e in omega (arith, same) | inr later ↦ let lt = above x xs q s later in omega arith ]

  without : (x y : X) (xs ys : List X) (q : X) → IsStrictlySortedBy cmp_f (x ∷ xs) → f y ≡ f x → Contains xs q → Contains (y ∷ ys) q → Contains ys q
  without x y xs ys q s e among within =
      elim (first_or_later y ys q within) [
        | inl here ↦ let lt = above x xs q s among in let same : f y ≡ f q = ap f here in absurd (omega (arith, e, same))
        | inr later ↦ later
      ]

  pub rising_same : (xs ys : List X) → IsStrictlySortedBy cmp_f xs → IsStrictlySortedBy cmp_f ys → ((q : X) → Contains xs q → Contains ys q) → ((q : X) → Contains ys q → Contains xs q) →
      ((p q : X) → Contains xs p → Contains ys q → f p ≡ f q → p ≡ q) → xs ≡ ys
  rising_same [] [] s t within back ties = refl
  rising_same [] (y ∷ ys) s t within back ties = absurd (nothing_contained y (back y (first_is_contained y ys)))
  rising_same (x ∷ xs) [] s t within back ties = absurd (nothing_contained x (within x (first_is_contained x xs)))
  rising_same (x ∷ xs) (y ∷ ys) s t within back ties =
      let one = least x xs y s (back y (first_is_contained y ys)) in
      let two = least y ys x t (within x (first_is_contained x xs)) in
      let e : f y ≡ f x = omega arith in
      let e' : f x ≡ f y = omega arith in
      let same = ties x y (first_is_contained x xs) (first_is_contained y ys) e' in
      let rest = rising_same xs ys (sorted_tail cmp_f x xs s) (sorted_tail cmp_f y ys t)
      (λ q among. without x y xs ys q s e among (within q (later_is_contained x xs q among)))
      (λ q among. without y x ys xs q t e' among (back q (later_is_contained y ys q among)))
      (λ p q among among'. ties p q (later_is_contained x xs p among) (later_is_contained y ys q among')) in
      λ i. same i ∷ rest i

module _ (text : Text) (level : List ℕ → ℕ) (depth : ℕ) (trace : Trace) where
  state_unique : (k : ℕ) (facts others : List Atom) → IsState text level trace k facts → IsState text level trace k others → facts ≡ others
  state_unique k facts others s t =
      sorted_same atom_cmp_total atom_cmp-IsAntisymmetric facts others s.sorted t.sorted
      (λ q among. (t.exact q).1 ((s.exact q).0 among)) (λ q among. (s.exact q).1 ((t.exact q).0 among))

  module _ (keys : List GoalKey) (k : ℕ) where
    created_unique : (one other : List NewGoal) → AreCreated text level depth trace keys k one → AreCreated text level depth trace keys k other → one ≡ other
    created_unique one other s t = rising_same (λ g. g.goal.0) one other s.sorted t.sorted
        (λ q among. (t.exact q.goal.0 q.key).1 ((s.exact q.goal.0 q.key).0 among)) (λ q among. (s.exact q.goal.0 q.key).1 ((t.exact q.goal.0 q.key).0 among))
        (λ p q among among' e.
        let one_key = ((s.exact p.goal.0 p.key).0 among).0 in
        let two_key = ((t.exact q.goal.0 q.key).0 among').0 in
        let same : p.key ≡ q.key = numbered_one keys q.goal.0 p.key q.key (subst (λ n. numbered keys n ≡ Some p.key) e one_key) two_key in
        λ i. record { goal = record { 0 = e i }; key = same i })

    one_way : (n : ℕ) (how other : Closed) → IsClosedIn text level depth trace keys k n how → IsClosedIn text level depth trace keys k n other → how ≡ other
    one_way n how other h g =
        let key : g.key ≡ h.key = numbered_one keys n g.key h.key g.goal h.goal in
        some_how (one_status text level trace depth h.key k (Some how) (Some other) h.closed (subst (λ z. IsClosed text level trace depth z k other) key g.closed))
      where
        how_in : Closed → Option Closed → Closed
        how_in d None = d
        how_in d (Some x) = x

        some_how : Some how ≡ Some other → how ≡ other
        some_how e = ap (how_in how) e

    closed_unique : (one other : List (GoalId × Closed)) → AreClosedIn text level depth trace keys k one → AreClosedIn text level depth trace keys k other → one ≡ other
    closed_unique one other s t = rising_same (λ g. g.0.0) one other s.sorted t.sorted
        (λ q among. (t.exact q.0.0 q.1).1 ((s.exact q.0.0 q.1).0 among)) (λ q among. (s.exact q.0.0 q.1).1 ((t.exact q.0.0 q.1).0 among))
        (λ p q among among' e.
        let here = subst (λ n. IsClosedIn text level depth trace keys k n p.1) e ((s.exact p.0.0 p.1).0 among) in
        let same : p.1 ≡ q.1 = one_way q.0.0 p.1 q.1 here ((t.exact q.0.0 q.1).0 among') in
        λ i. (record { 0 = e i }, same i))

  block_of_unique : (k : ℕ) (one other : Block) → IsBlockOf text level depth trace k one → IsBlockOf text level depth trace k other → one ≡ other
  block_of_unique k one other h g =
      let keys : g.keys ≡ h.keys = goals_unique text level trace k g.keys h.keys g.goals h.goals in
      let cycle : one.cycle ≡ other.cycle = h.cycle ∙ sym g.cycle in
      let facts = state_unique k one.facts other.facts h.state g.state in
      let created = created_unique h.keys k one.created other.created h.created (subst (λ ks. AreCreated text level depth trace ks k other.created) keys g.created) in
      let closed = closed_unique h.keys k one.closed other.closed h.closed (subst (λ ks. AreClosedIn text level depth trace ks k other.closed) keys g.closed) in
      λ i. record { cycle = cycle i; facts = facts i; created = created i; closed = closed i }

  pub block_unique : (k : ℕ) (bytes others : List ℕ) → IsBlock text level depth trace k bytes → IsBlock text level depth trace k others → bytes ≡ others
  block_unique k bytes others h g = h.2 ∙ ap (block_text k) (block_of_unique k h.0 g.0 h.1 g.1) ∙ sym g.2

  blocks_unique : (first n : ℕ) (bytes others : List ℕ) → AreBlocks text level depth trace first n bytes → AreBlocks text level depth trace first n others → bytes ≡ others
  blocks_unique first zero bytes others h g = h ∙ sym g
  blocks_unique first (suc n) bytes others h g =
      let block = block_unique first h.0 g.0 h.2 g.2 in
      let rest = blocks_unique (suc first) n h.1 g.1 h.3 g.3 in
      h.4 ∙ (λ i. block i ++ rest i) ∙ sym g.4

  abbrev Has : GoalKey → Option Closed → Type 0
  Has key status = HasStatus text level trace depth key (length trace.cycles) status

  statuses_unique : (keys : List GoalKey) (one other : List (Option Closed)) → AllZip Has keys one → AllZip Has keys other → one ≡ other
  statuses_unique [] [] [] h g = refl
  statuses_unique [] [] (y ∷ ys) h g = absurd g
  statuses_unique [] (x ∷ xs) other h g = absurd h
  statuses_unique (key ∷ keys) [] other h g = absurd h
  statuses_unique (key ∷ keys) (x ∷ xs) [] h g = absurd g
  statuses_unique (key ∷ keys) (x ∷ xs) (y ∷ ys) h g =
      let same = one_status text level trace depth key (length trace.cycles) x y h.0 g.0 in
      let rest = statuses_unique keys xs ys h.1 g.1 in
      λ i. same i ∷ rest i

  pub counts_unique : (one other : Counts) → AreCounts text level depth trace one → AreCounts text level depth trace other → one ≡ other
  counts_unique one other h g =
      let keys : g.keys ≡ h.keys = goals_unique text level trace (length trace.cycles) g.keys h.keys g.goals h.goals in
      let statuses = statuses_unique h.keys h.statuses g.statuses h.each (subst (λ ks. AllZip Has ks g.statuses) keys g.each) in
      let pending : one.pending ≡ other.pending = sym h.pending ∙ ap (count_by is_pending) statuses ∙ g.pending in
      let failed : one.failed ≡ other.failed = sym h.failed ∙ ap (count_by is_failed) statuses ∙ g.failed in
      let cut : one.cut ≡ other.cut = sym h.cut ∙ ap (count_by is_cut) statuses ∙ g.cut in
      λ i. record { pending = pending i; failed = failed i; cut = cut i }

  pub report_unique : (first : ℕ) (bytes others : List ℕ) → IsReport text level depth trace first bytes → IsReport text level depth trace first others → bytes ≡ others
  report_unique first bytes others h g =
      let blocks = blocks_unique first (suc (length trace.cycles) - first) h.blocks g.blocks h.are_blocks g.are_blocks in
      let counts = counts_unique h.counts g.counts h.are_counts g.are_counts in
      h.spelled ∙ (λ i. blocks i ++ last_line (counts i)) ∙ sym g.spelled

-- ---- what is reported tells the trace

cycle_of : (xs ys : List Cycle) → length xs ≡ length ys → ((k : ℕ) → k < length xs → cycle_or_none (slice_get xs k) ≡ cycle_or_none (slice_get ys k)) → xs ≡ ys
cycle_of [] [] len each = refl
cycle_of [] (y ∷ ys) len each = absurd (omega (arith, len))
cycle_of (x ∷ xs) [] len each = absurd (omega (arith, len))
cycle_of (x ∷ xs) (y ∷ ys) len each =
    let first : x ≡ y = each 0 (omega arith) in
    let rest = cycle_of xs ys (omega (arith, len)) (λ k lt. each (suc k) (omega arith)) in
    λ i. first i ∷ rest i

-- two traces with the initial facts of one text, and the same cycles
pub trace_of_cycles : (text : Text) (trace other : Trace) → AreInitial text trace.initial → AreInitial text other.initial →
    length trace.cycles ≡ length other.cycles → ((k : ℕ) → k < length trace.cycles → cycle_at trace (suc k) ≡ cycle_at other (suc k)) → trace ≡ other
trace_of_cycles text trace other s t len each =
    let initial : trace.initial ≡ other.initial = sorted_same atom_cmp_total atom_cmp-IsAntisymmetric trace.initial other.initial s.sorted t.sorted
    (λ q among. (t.exact q).1 ((s.exact q).0 among)) (λ q among. (s.exact q).1 ((t.exact q).0 among)) in
    let cycles = cycle_of trace.cycles other.cycles len each in
    λ i. record { initial = initial i; cycles = cycles i }

pub trace_of_blocks : (text : Text) (level : List ℕ → ℕ) (depth : ℕ) (trace other : Trace) → AreInitial text trace.initial → AreInitial text other.initial →
    length trace.cycles ≡ length other.cycles →
    ((k : ℕ) → k ≤ length trace.cycles → (block : Block) × IsBlockOf text level depth trace k block × IsBlockOf text level depth other k block) → trace ≡ other
trace_of_blocks text level depth trace other s t len each =
    trace_of_cycles text trace other s t len (λ k lt. let b = each (suc k) (omega arith) in sym b.1.cycle ∙ b.2.cycle)
