-- The goals of a trace by status: as many are pending as are pursued, and as many have failed as had before and as are closed so now.
use Rattle.std.proofs.Common.{ℕ, zero, suc, ◌≡◌, ◌≤◌, ◌+◌, Bool, true, false, List, [], length, refl, sym, ap, subst, ◌∙◌, arith, inl, inr}
use Rattle.std.specs.Prelude.{◌⊎◌, ◌↔◌, Contains, Option, Some, None, slice_get, map}
use Rattle.std.specs.List.{AllZip, count_by, filter}
use Rattle.std.specs.List.Sorted.{IsStrictlySortedBy}
use Rattle.std.specs.Ordering.{nat_cmp, on}
use Rattle.std.proofs.lemmas.List.{length-map}
use Rattle.std.proofs.lemmas.List.Kept.{IsStrictlySortedBy-filter}
use Rattle.std.proofs.lemmas.List.Sums.{length-filter}
use Rattle.lps_terms.specs.declared.text.Text.{Text}
use Rattle.lps_model.specs.declared.trace.Trace.{Trace}
use Rattle.lps_model.specs.Rules.{numbered}
use Rattle.lps_model.proofs.Elements.{nothing_contained}
use Rattle.lps_meaning.specs.declared.goal.Closed.{Closed}
use Rattle.lps_meaning.specs.declared.goal.Closed.TheVariants as c
use Rattle.lps_meaning.specs.declared.goal.GoalId.{GoalId}
use Rattle.lps_meaning.specs.declared.goal.GoalKey.{GoalKey}
use Rattle.lps_meaning.specs.Goals.{HasStatus, IsClosed, IsPending}
use Rattle.lps_meaning.specs.Reports.{AreClosedIn, AreCounts, is_cut, is_failed, is_pending}
use Rattle.lps_meaning.proofs.Numbers.{numbered_one}
use Rattle.lps_meaning.proofs.ReportLaws.{one_status}
use Rattle.lps_choice.proofs.Lists.{image_of, of_image}
use Rattle.lps_goaltrees.specs.declared.goal.Goal.{Goal}
use Rattle.lps_goaltrees.specs.Followed.{AreCallFree, StandsFor}
use Rattle.lps_goaltrees.specs.Pursued.{Pursuit}
use Rattle.lps_goaltrees.proofs.GoalNodes.{no_cut_met}
use Rattle.lps_goaltrees.proofs.Lists.{of_filtered, to_filtered}
use Rattle.lps_cycle.specs.Making.{failed_among}
use Rattle.lps_cycle.proofs.Counting.{AreNew, chosen, counted, from_one, numbers_rise, passes_at, passes_there, passing, zipped_back, zipped_there}

-- ---- tests

none_is_pending : (status : Option Closed) → is_pending status ≡ true → status ≡ None
none_is_pending None is = refl
none_is_pending (Some c.Solved) is = absurd cc
none_is_pending (Some c.Failed) is = absurd cc
none_is_pending (Some c.Cut) is = absurd cc

pub failed_is : (status : Option Closed) → is_failed status ≡ true → status ≡ Some c.Failed
failed_is None is = absurd cc
failed_is (Some c.Solved) is = absurd cc
failed_is (Some c.Failed) is = refl
failed_is (Some c.Cut) is = absurd cc

cut_is : (status : Option Closed) → is_cut status ≡ true → status ≡ Some c.Cut
cut_is None is = absurd cc
cut_is (Some c.Solved) is = absurd cc
cut_is (Some c.Failed) is = absurd cc
cut_is (Some c.Cut) is = refl

-- ---- numbers of goals

-- the numbers of the goals that are closed as failed
abbrev failed_numbers : List (GoalId × Closed) → List ℕ
failed_numbers closed = map (λ g. g.0.0) (filter (λ g. is_failed (Some g.1)) closed)

number_is : (closed : List (GoalId × Closed)) (n : ℕ) → Contains (failed_numbers closed) n → Contains closed (record { 0 = n }, c.Failed)
number_is closed n there =
    let m = of_image (λ (g : GoalId × Closed). g.0.0) (filter (λ g. is_failed (Some g.1)) closed) n there in
    let f = of_filtered (λ (g : GoalId × Closed). is_failed (Some g.1)) closed m.0 m.1 in
    subst (Contains closed) (same m.0 n m.2 f.1) f.0
  where
    same : (g : GoalId × Closed) (n : ℕ) → g.0.0 ≡ n → is_failed (Some g.1) ≡ true → g ≡ (record { 0 = n }, c.Failed)
    same (number, c.Failed) n is failed = λ i. (record { 0 = is i }, c.Failed)
    same (number, c.Solved) n is failed = absurd cc
    same (number, c.Cut) n is failed = absurd cc

is_number : (closed : List (GoalId × Closed)) (n : ℕ) → Contains closed (record { 0 = n }, c.Failed) → Contains (failed_numbers closed) n
is_number closed n there =
    image_of (λ (g : GoalId × Closed). g.0.0) (filter (λ g. is_failed (Some g.1)) closed) (record { 0 = n }, c.Failed)
    (to_filtered (λ (g : GoalId × Closed). is_failed (Some g.1)) closed (record { 0 = n }, c.Failed) there refl)

as_many : (closed : List (GoalId × Closed)) → length (failed_numbers closed) ≡ failed_among closed
as_many closed = length-map (filter (λ g. is_failed (Some g.1)) closed) (λ g. g.0.0) ∙ length-filter (λ g. is_failed (Some g.1)) closed

none_rise : IsStrictlySortedBy nat_cmp []
unfolding IsStrictlySortedBy
none_rise = tt

numbered_from_one : {X : Type 0} (xs : List X) (n : ℕ) (x : X) → numbered xs n ≡ Some x → 1 ≤ n
numbered_from_one xs zero x is = absurd cc
numbered_from_one xs (suc n) x is = omega arith

-- ---- what is pursued, and the statuses of all goals

module _ (text : Text) (free : AreCallFree text) (level : List ℕ → ℕ) (depth : ℕ) (trace : Trace) (p : Pursuit) (stands : StandsFor text level depth trace p) where
  abbrev now : ℕ
  now = length trace.cycles

  abbrev Has : GoalKey → Option Closed → Type 0
  Has key status = HasStatus text level trace depth key now status

  abbrev numbers : List ℕ
  numbers = map (λ (g : Goal). g.goal.0) p.goals

  -- the goal with a number is pursued, so it is pending
  among_pending : (n : ℕ) (key : GoalKey) → numbered stands.keys n ≡ Some key → (goal : Goal) → Contains p.goals goal → goal.goal.0 ≡ n → Has key None
  among_pending n key at goal there is =
      let same : goal.key ≡ key = numbered_one stands.keys n goal.key key (subst (λ m. numbered stands.keys m ≡ Some goal.key) is (stands.kept.numbers goal there)) at in
      subst (λ k. Has k None) same (stands.pending goal there)

  status_of : (i : ℕ) (key : GoalKey) → slice_get stands.keys i ≡ Some key → (status : Option Closed) × Has key status
  status_of i key at = elim (stands.others (suc i) key at) [
    | inl m ↦ (None, among_pending (suc i) key at m.0 m.1 m.2)
    | inr closed ↦ (Some closed.0, closed.1)
  ]

  pub statuses : (ss : List (Option Closed)) × AllZip Has stands.keys ss
  statuses = chosen Has stands.keys status_of

  module _ (ss : List (Option Closed)) (all : AllZip Has stands.keys ss) where
    -- a test holds at a place exactly where the goal with this number has a status with it
    pub status_at : (i : ℕ) (key : GoalKey) (status : Option Closed) → slice_get stands.keys i ≡ Some key → Has key status → slice_get ss i ≡ Some status
    status_at i key status at has =
        let m = zipped_there Has stands.keys ss all i key at in
        m.1 ∙ ap (λ s. Some s) (one_status text level trace depth key now m.0 status m.2 has)

    goal_at : (test : Option Closed → Bool) (i : ℕ) → passes_at test ss i ≡ true → (key : GoalKey) × (status : Option Closed) × (slice_get stands.keys i ≡ Some key) × Has key status × (test status ≡ true)
    goal_at test i is =
        let m = passing test ss i is in
        let b = zipped_back Has stands.keys ss all i m.0 m.1 in
        (b.0, m.0, b.1, b.2, m.2)

    pending_count : count_by is_pending ss ≡ length p.goals
    pending_count =
        let all_new = from_one (passes_at is_pending ss) (passes_at is_pending []) numbers (numbers_rise (λ (g : Goal). g.goal.0) p.goals stands.kept.rising)
        (λ n there. let m = of_image (λ (g : Goal). g.goal.0) p.goals n there in
        numbered_from_one stands.keys n m.0.key (subst (λ k. numbered stands.keys k ≡ Some m.0.key) m.2 (stands.kept.numbers m.0 m.1)))
        (λ i is. absurd cc) (λ i. (to i, λ both. back i both.0)) in
        omega (arith, counted is_pending 1 [] ss numbers all_new, length-map p.goals (λ (g : Goal). g.goal.0))
      where
        to : (i : ℕ) → Contains numbers (suc i) → (passes_at is_pending ss i ≡ true) × (false ≡ false)
        to i there =
            let m = of_image (λ (g : Goal). g.goal.0) p.goals (suc i) there in
            let at : slice_get stands.keys i ≡ Some m.0.key = subst (λ k. numbered stands.keys k ≡ Some m.0.key) m.2 (stands.kept.numbers m.0 m.1) in
            (passes_there is_pending ss i None (status_at i m.0.key None at (stands.pending m.0 m.1)), refl)

        back : (i : ℕ) → passes_at is_pending ss i ≡ true → Contains numbers (suc i)
        back i is =
            let g = goal_at is_pending i is in
            elim (stands.others (suc i) g.0 g.2) [
              | inl m ↦ subst (Contains numbers) m.2 (image_of (λ (g : Goal). g.goal.0) p.goals m.0 m.1)
              | inr closed ↦ absurd (some_none (one_status text level trace depth g.0 now (Some closed.0) None closed.1
                  (subst (Has g.0) (none_is_pending g.1 g.4) g.3)))
            ]
          where
            some_none : {x : Closed} → Some x ≡ None → ⊥
            some_none e = cc

    cut_count : count_by is_cut ss ≡ 0
    cut_count = counted is_cut 1 [] ss [] (from_one (passes_at is_cut ss) (passes_at is_cut []) [] none_rise (λ n there. absurd (nothing_contained n there)) (λ i is. absurd cc)
        (λ i. (
          λ there. absurd (nothing_contained (suc i) there),
          λ both. absurd (let g = goal_at is_cut i both.0 in
              no_cut_met text free level trace depth g.0 now (subst (Has g.0) (cut_is g.1 g.4) g.3).2),
        )))

    -- Of the goals that have failed, those had not before that are among these that are closed in the last cycle.
    module _ (closed : List (GoalId × Closed)) (keys : List GoalKey) (same : keys ≡ stands.keys) (are : AreClosedIn text level depth trace keys now closed) (before : List (Option Closed))
        (kept : (i : ℕ) → passes_at is_failed before i ≡ true → passes_at is_failed ss i ≡ true)
        (open_until : (i : ℕ) (key : GoalKey) → slice_get stands.keys i ≡ Some key → IsClosed text level trace depth key now c.Failed →
        ((key.time ≡ now) ⊎ ((j : ℕ) × (now ≡ suc j) × (key.time ≤ j) × IsPending text level trace depth key j)) ↔ (passes_at is_failed before i ≡ false)) where
      abbrev failed : ℕ → Bool
      failed = passes_at is_failed before

      failed_new : AreNew 1 (passes_at is_failed ss) failed (failed_numbers closed)
      failed_new = from_one (passes_at is_failed ss) failed (failed_numbers closed)
          (numbers_rise (λ (g : GoalId × Closed). g.0.0) (filter (λ g. is_failed (Some g.1)) closed)
          (IsStrictlySortedBy-filter (on (λ (g : GoalId × Closed). g.0.0) nat_cmp) (λ g. is_failed (Some g.1)) closed are.sorted))
          (λ n there. let is = (are.exact n c.Failed).0 (number_is closed n there) in numbered_from_one keys n is.key is.goal)
          kept (λ i. (to i, back i))
        where
          to : (i : ℕ) → Contains (failed_numbers closed) (suc i) → (passes_at is_failed ss i ≡ true) × (failed i ≡ false)
          to i there =
              let is = (are.exact (suc i) c.Failed).0 (number_is closed (suc i) there) in
              let at : slice_get stands.keys i ≡ Some is.key = subst (λ ks. slice_get ks i ≡ Some is.key) same is.goal in
              (passes_there is_failed ss i (Some c.Failed) (status_at i is.key (Some c.Failed) at is.closed), (open_until i is.key at is.closed).0 is.before)

          back : (i : ℕ) → (passes_at is_failed ss i ≡ true) × (failed i ≡ false) → Contains (failed_numbers closed) (suc i)
          back i both =
              let g = goal_at is_failed i both.0 in
              let has = subst (Has g.0) (failed_is g.1 g.4) g.3 in
              is_number closed (suc i) ((are.exact (suc i) c.Failed).1 (record {
                key = g.0;
                goal = subst (λ ks. slice_get ks i ≡ Some g.0) (sym same) g.2;
                closed = has;
                before = (open_until i g.0 g.2 has).1 both.1;
              }))

      pub failed_count : count_by is_failed ss ≡ count_by is_failed before + failed_among closed
      failed_count = omega (arith, counted is_failed 1 before ss (failed_numbers closed) failed_new, as_many closed)

    pub are_counts : (failed : ℕ) → count_by is_failed ss ≡ failed → AreCounts text level depth trace (record { pending = length p.goals; failed = failed; cut = 0 })
    are_counts failed is = record {
      keys = stands.keys;
      goals = stands.goals;
      statuses = ss;
      each = all;
      pending = pending_count;
      failed = is;
      cut = cut_count;
    }
