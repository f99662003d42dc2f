-- Goals carried over a cycle: new ones get the next numbers, behind those of earlier times, and what then stands for the trace.
use Rattle.std.proofs.Common.{ℕ, zero, suc, ◌≡◌, ◌≤◌, ◌<◌, ◌⊎◌, ◌+◌, ◌∙◌, List, [], ◌∷◌, ◌++◌, length, refl, sym, ap, subst, arith, inl, inr, append_assoc}
use Rattle.std.specs.Prelude.{Contains, Some, slice_get}
use Rattle.std.specs.declared.cmp.Ordering.{Ordering}
use Rattle.std.specs.declared.cmp.Ordering.TheVariants.{Less, Equal, Greater}
use Rattle.std.specs.List.{AllByRecursion}
use Rattle.std.specs.List.Sorted.{IsStrictlySortedBy}
use Rattle.std.specs.Ordering.{nat_cmp, on, ordering_then}
use Rattle.std.proofs.lemmas.List.{append-nil}
use Rattle.std.proofs.lemmas.List.Elements.{Contains-append_cases, Contains-append_left, Contains-append_right, Contains-push}
use Rattle.lps_terms.specs.declared.atom.Atom.{Atom}
use Rattle.lps_terms.specs.declared.text.Text.{Text}
use Rattle.lps_model.specs.declared.trace.Trace.{Trace}
use Rattle.lps_model.specs.Acceptance.{IsAccepted}
use Rattle.lps_model.specs.Rules.{numbered}
use Rattle.lps_model.proofs.Elements.{first_is_contained, first_or_later, later_is_contained, nothing_contained}
use Rattle.lps_meaning.specs.declared.goal.Closed.{Closed}
use Rattle.lps_meaning.specs.declared.goal.GoalId.{GoalId}
use Rattle.lps_meaning.specs.declared.goal.GoalKey.{GoalKey}
use Rattle.lps_meaning.specs.declared.goal.NewGoal.{NewGoal}
use Rattle.lps_meaning.specs.Cycles.{AreGoals, key_cmp}
use Rattle.lps_meaning.specs.Reports.{AreCreated}
use Rattle.lps_meaning.proofs.Lists.{number_contained, of_each}
use Rattle.lps_meaning.proofs.Occurrences.{all_joined}
use Rattle.lps_nodes.specs.Plans.{AreKeysOf}
use Rattle.lps_meeting.specs.Stages.{IsStateOf}
use Rattle.lps_antecedents.specs.Waiting.{StandAfter, StandAtFirst}
use Rattle.lps_goaltrees.specs.Followed.{AreCallFree, Closes, IsAdded, IsLedOn, Pursues}
use Rattle.lps_goaltrees.specs.Pursued.{Pursuit}
use Rattle.lps_goaltrees.proofs.Lists.{numbered_place}
use Rattle.lps_cycle.specs.Agenda.{AgendaState, AreAdded, AreBefore, AreKeysOfGoals, AreOfTime, BeginsWith, GoesOn, IsPursuedOn, IsRenewed, goals_from}

-- ---- keys by time

then_less : (r s : Ordering) → r ≡ Less → ordering_then r s ≡ Less
then_less Less s e = refl
then_less Equal s e = absurd cc
then_less Greater s e = absurd cc

less_number : (n m : ℕ) → n < m → nat_cmp n m ≡ Less
less_number n m lt = grind arith

earlier_first : (a b : GoalKey) → a.time < b.time → key_cmp a b ≡ Less
earlier_first a b lt = then_less _ _ (less_number a.time b.time lt)

sorted_joined : {K : Type 0} (cmp : K → K → Ordering) (xs ys : List K) → IsStrictlySortedBy cmp xs → IsStrictlySortedBy cmp ys →
    ((x y : K) → Contains xs x → Contains ys y → cmp x y ≡ Less) → IsStrictlySortedBy cmp (xs ++ ys)
unfolding IsStrictlySortedBy
sorted_joined cmp [] ys one other across = other
sorted_joined cmp (x ∷ xs) ys one other across = (
  all_joined (λ y. cmp x y ≡ Less) xs ys one.0 (of_each (λ y. cmp x y ≡ Less) ys (λ y h. across x y (first_is_contained x xs) h)),
  sorted_joined cmp xs ys one.1 other (λ z y h among. across z y (later_is_contained x xs z h) among),
)

last_or_before : (k now time : ℕ) → time ≡ suc now → k ≤ time → (k ≤ now) ⊎ (k ≡ time)
last_or_before k now time at le = subst (λ t. (k ≤ now) ⊎ (k ≡ t)) (sym at) (by k now (omega (arith, at, le)))
  where
    by : (k n : ℕ) → k ≤ suc n → (k ≤ n) ⊎ (k ≡ suc n)
    by zero n le = inl (omega arith)
    by (suc zero) zero le = inr refl
    by (suc (suc k)) zero le = absurd (omega (arith, le))
    by (suc k) (suc n) le = elim (by k n (omega (arith, le))) [ inl lt ↦ inl (omega (arith, lt)) | inr e ↦ inr (ap suc e) ]

module _ (text : Text) (level : List ℕ → ℕ) (trace : Trace) where
  -- the goals by now are those by the time before, and behind them those of now
  pub goals_after : (now time : ℕ) → time ≡ suc now → (before keys : List GoalKey) → AreGoals text level trace now before → AreKeysOf text level trace time keys →
      AreGoals text level trace time (before ++ keys)
  goals_after now time at before keys were new = record {
    sorted = sorted_joined key_cmp before keys were.sorted new.sorted
        (λ a b early late. earlier_first a b (below a.time b.time ((were.exact a).0 early).0 ((new.exact b).0 late).0));
    exact = λ key. (
      λ h. elim (Contains-append_cases before keys key h) [
        | inl old ↦ let m = (were.exact key).0 old in (later key.time m.0, m.1)
        | inr one ↦ let m = (new.exact key).0 one in (same key.time time m.0, m.1)
      ],
      λ m. elim (last_or_before key.time now time at m.0) [
        | inl old ↦ Contains-append_left before keys key ((were.exact key).1 (old, m.1))
        | inr e ↦ Contains-append_right before keys key ((new.exact key).1 (e, m.1))
      ],
    );
  }
    where
      below : (k m : ℕ) → k ≤ now → m ≡ time → k < m
      below k m le is = omega (arith, le, is, at)

      later : (k : ℕ) → k ≤ now → k ≤ time
      later k le = omega (arith, le, at)

      same : (k n : ℕ) → k ≡ n → k ≤ n
      same k n e = omega (arith, e)

  pub goals_first : (keys : List GoalKey) → AreKeysOf text level trace zero keys → AreGoals text level trace zero keys
  goals_first keys new = record {
    sorted = new.sorted;
    exact = λ key. (
      λ h. let m = (new.exact key).0 h in (to key.time m.0, m.1),
      λ m. (new.exact key).1 (from key.time m.0, m.1),
    );
  }
    where
      to : (k : ℕ) → k ≡ zero → k ≤ zero
      to k e = omega (arith, e)

      from : (k : ℕ) → k ≤ zero → k ≡ zero
      from k le = omega (arith, le)

  pub of_goals : (time : ℕ) (keys : List GoalKey) → time ≤ 1000000 → AreKeysOf text level trace time keys → AreKeysOfGoals text keys
  of_goals time keys early new key h = let m = (new.exact key).0 h in (within key.time m.0, (level, trace, m.1))
    where
      within : (k : ℕ) → k ≡ time → k ≤ 1000000
      within k e = omega (arith, early, e)

-- ---- goals by number

abbrev new_goal : ℕ → GoalKey → NewGoal
new_goal n key = record { goal = record { 0 = n }; key = key }

plus_none : (n : ℕ) → n ≡ n + 0
plus_none n = omega arith

plus_next : (n k : ℕ) → suc n + k ≡ n + suc k
plus_next n k = omega arith

none_plus : (n : ℕ) → n ≡ 0 + n
none_plus n = omega arith

next_plus : (n k : ℕ) → suc n + k ≡ suc (n + k)
next_plus n k = omega arith

goals_pushed : (n : ℕ) (keys : List GoalKey) (key : GoalKey) → goals_from n (keys ++ key ∷ []) ≡ goals_from n keys ++ new_goal (n + length keys) key ∷ []
goals_pushed n [] key = ap (λ m. new_goal m key ∷ []) (plus_none n)
goals_pushed n (k ∷ keys) key =
    ap (λ gs. new_goal n k ∷ gs) (goals_pushed (suc n) keys key ∙ ap (λ m. goals_from (suc n) keys ++ new_goal m key ∷ []) (plus_next n (length keys)))

above_new : (k n : ℕ) (keys : List GoalKey) → k < n → AllByRecursion (λ g. nat_cmp k g.goal.0 ≡ Less) (goals_from n keys)
above_new k n [] lt = tt
above_new k n (key ∷ keys) lt = (less_number k n lt, above_new k (suc n) keys (omega (arith, lt)))

rising_new : (n : ℕ) (keys : List GoalKey) → IsStrictlySortedBy (on (λ (g : NewGoal). g.goal.0) nat_cmp) (goals_from n keys)
unfolding IsStrictlySortedBy
rising_new n [] = tt
rising_new n (key ∷ keys) = (above_new n (suc n) keys (omega arith), rising_new (suc n) keys)

none_there : {X : Type 0} {x : X} (k : ℕ) → slice_get [] k ≡ Some x → ⊥
none_there zero e = cc
none_there (suc k) e = cc

some_same : {X : Type 0} {x y : X} → Some x ≡ Some y → x ≡ y
some_same e = cc

from_new : (n : ℕ) (keys : List GoalKey) (m : ℕ) (key : GoalKey) → Contains (goals_from n keys) (new_goal m key) → (k : ℕ) × (m ≡ n + k) × (slice_get keys k ≡ Some key)
from_new n [] m key h = absurd (nothing_contained (new_goal m key) h)
from_new n (x ∷ keys) m key h = elim (first_or_later (new_goal n x) (goals_from (suc n) keys) (new_goal m key) h) [
  | inl e ↦ (zero, sym (ap (λ (g : NewGoal). g.goal.0) e) ∙ plus_none n, ap (λ (g : NewGoal). Some g.key) e)
  | inr later ↦ let r = from_new (suc n) keys m key later in (suc r.0, r.1 ∙ plus_next n r.0, r.2)
]

to_new : (n : ℕ) (keys : List GoalKey) (k : ℕ) (key : GoalKey) → slice_get keys k ≡ Some key → Contains (goals_from n keys) (new_goal (n + k) key)
to_new n [] k key e = absurd (none_there k e)
to_new n (x ∷ keys) zero key e =
    subst (λ g. Contains (goals_from n (x ∷ keys)) g) (ap (λ m. new_goal m x) (plus_none n) ∙ ap (new_goal (n + 0)) (some_same e)) (first_is_contained (new_goal n x) (goals_from (suc n) keys))
to_new n (x ∷ keys) (suc k) key e = later_is_contained (new_goal n x) (goals_from (suc n) keys) (new_goal (n + suc k) key)
    (subst (λ m. Contains (goals_from (suc n) keys) (new_goal m key)) (plus_next n k) (to_new (suc n) keys k key e))

get_behind : {X : Type 0} (xs ys : List X) (k : ℕ) → slice_get (xs ++ ys) (length xs + k) ≡ slice_get ys k
get_behind [] ys k = ap (slice_get ys) (sym (none_plus k))
get_behind (x ∷ xs) ys k = ap (slice_get (x ∷ (xs ++ ys))) (next_plus (length xs) k) ∙ get_behind xs ys k

get_joined : {X : Type 0} (xs ys : List X) (k : ℕ) (x : X) → slice_get (xs ++ ys) k ≡ Some x → (slice_get xs k ≡ Some x) ⊎ ((j : ℕ) × (k ≡ length xs + j) × (slice_get ys j ≡ Some x))
get_joined [] ys k x e = inr (k, none_plus k, e)
get_joined (z ∷ xs) ys zero x e = inl e
get_joined (z ∷ xs) ys (suc k) x e = elim (get_joined xs ys k x e) [
  | inl early ↦ inl early
  | inr late ↦ inr (late.0, ap suc late.1 ∙ sym (next_plus (length xs) late.0), late.2)
]

-- those with the next numbers are the new ones
pub are_created : (text : Text) (level : List ℕ → ℕ) (depth : ℕ) (trace : Trace) (time : ℕ) (before keys : List GoalKey) → AreBefore time before → AreOfTime time keys →
    (created : List NewGoal) (n : ℕ) → n ≡ suc (length before) → created ≡ goals_from n keys → AreCreated text level depth trace (before ++ keys) time created
are_created text level depth trace time before keys early of_time created n next is =
    subst (AreCreated text level depth trace (before ++ keys) time) (sym (is ∙ ap (λ m. goals_from m keys) next)) (record {
      sorted = rising_new (suc (length before)) keys;
      exact = λ m key. (
        λ h. let r = from_new (suc (length before)) keys m key h in (
          subst (λ n. numbered (before ++ keys) n ≡ Some key) (sym (r.1 ∙ next_plus (length before) r.0)) (get_behind before keys r.0 ∙ r.2),
          of_time key (number_contained keys (suc r.0) key r.2),
        ),
        λ h. let at = numbered_place (before ++ keys) m key h.0 in
            elim (get_joined before keys at.0 key (subst (λ n. numbered (before ++ keys) n ≡ Some key) at.1 h.0)) [
              | inl old ↦ absurd (not_now key.time (early key (number_contained before (suc at.0) key old)) h.1)
              | inr one ↦ subst (λ n. Contains (goals_from (suc (length before)) keys) (new_goal n key)) (sym (at.1 ∙ ap suc one.1 ∙ sym (next_plus (length before) one.0))) (to_new (suc (length before)) keys one.0 key one.2)
            ],
      );
    })
  where
    not_now : (k : ℕ) → k < time → k ≡ time → ⊥
    not_now k lt e = omega (arith, lt, e)

-- ---- goals that are added and closed

module _ (text : Text) (depth : ℕ) (facts : List Atom) where
  pub none_added : (p : Pursuit) (created : List NewGoal) → created ≡ [] → AreAdded text depth facts [] p p created
  none_added p created none = record {
    created_are = none;
    next = plus_none p.next;
    pursues = λ time of_time level levels trace state before was. subst (λ ks. Pursues text level trace depth time ks p) (sym (append-nil before)) was;
  }

  pub one_added : (keys : List GoalKey) (old mid new : Pursuit) (created : List NewGoal) (goal : GoalId) (key : GoalKey) → AreAdded text depth facts keys old mid created →
      goal.0 ≡ mid.next → new.next ≡ suc mid.next → IsAdded text depth key facts mid new → AreAdded text depth facts (keys ++ key ∷ []) old new (created ++ record { goal = goal; key = key } ∷ [])
  one_added keys old mid new created goal key so_far number next added = record {
    created_are = ap (λ gs. gs ++ new_goal goal.0 key ∷ []) so_far.created_are ∙ ap (λ n. goals_from old.next keys ++ new_goal n key ∷ []) (number ∙ so_far.next) ∙ sym (goals_pushed old.next keys key);
    next = next ∙ ap suc so_far.next ∙ one_more old.next keys;
    pursues = λ time of_time level levels trace state before was.
        let at : key.time ≡ time = of_time key (Contains-push keys key) in
        let was = so_far.pursues time (λ k h. of_time k (Contains-append_left keys (key ∷ []) k h)) level levels trace state before was in
        let more = subst (λ t. IsStateOf text level trace t facts → Pursues text level trace depth t (before ++ keys) mid → Pursues text level trace depth t ((before ++ keys) ++ key ∷ []) new) at
        (λ state was. added level levels trace state (before ++ keys) was) state was in
        subst (λ ks. Pursues text level trace depth time ks new) (append_assoc before keys (key ∷ [])) more;
  }
    where
      one_more : (n : ℕ) (ks : List GoalKey) → suc (n + length ks) ≡ n + length (ks ++ key ∷ [])
      one_more n [] = omega arith
      one_more n (k ∷ ks) = let rest = one_more n ks in omega (arith, rest)

  module _ (accepted : IsAccepted text) (free : AreCallFree text) where
    pub renewed : (keys : List GoalKey) (old mid new : Pursuit) (created : List NewGoal) (closed : List (GoalId × Closed)) → AreAdded text depth facts keys old mid created → Closes mid new closed →
        IsRenewed text depth facts keys old new created closed
    renewed keys old mid new created closed added closes time of_time level levels trace state within before early goals was =
        let done = closes text accepted free level trace depth time within (before ++ keys) goals (added.pursues time of_time level levels trace state before was) in (
          done.0,
          record {
            keys = before ++ keys;
            goals = goals;
            created_are = are_created text level depth trace time before keys early of_time created old.next was.kept.next added.created_are;
            closed_are = done.1;
          },
        )

  pub pursued_on : (time : ℕ) (events : List Atom) (keys : List GoalKey) (old mid new : Pursuit) (created : List NewGoal) (closed : List (GoalId × Closed)) →
      IsLedOn text depth time facts events old mid → IsRenewed text depth facts keys mid new created closed → IsPursuedOn text depth time facts events keys old new created closed
  pursued_on time events keys old mid new created closed led renewed level levels trace state happen within now at new_keys stands =
      renewed time (λ key h. ((new_keys.exact key).0 h).0) level levels trace state within stands.keys (λ key h. below key.time ((stands.goals.exact key).0 h).0)
      (goals_after text level trace now time at stands.keys keys stands.goals new_keys) (led level levels trace state happen now at stands)
    where
      below : (k : ℕ) → k ≤ now → k < time
      below k le = omega (arith, le, at)

  -- ---- the whole agenda

  pub begins_with : (keys : List GoalKey) (first : Pursuit) (agenda : AgendaState) (created : List NewGoal) (closed : List (GoalId × Closed)) →
      ((level : List ℕ → ℕ) (trace : Trace) → Pursues text level trace depth 0 [] first) → StandAtFirst text facts agenda.waiting.held keys →
      IsRenewed text depth facts keys first agenda.goals.pursuit created closed → BeginsWith text depth facts agenda created closed
  begins_with keys first agenda created closed none stand renewed level levels trace state =
      let waits = stand level levels trace state in
      let goals = renewed 0 (λ key h. ((waits.1.exact key).0 h).0) level levels trace state (omega arith) [] (λ key h. absurd (nothing_contained key h))
      (goals_first text level trace keys waits.1) (none level trace) in
      (record { waiting = waits.0; goals = goals.0 }, goals.1)

  pub goes_on : (time : ℕ) (events : List Atom) (keys : List GoalKey) (old new : AgendaState) (created : List NewGoal) (closed : List (GoalId × Closed)) →
      StandAfter text time facts events old.waiting.held new.waiting.held keys → IsPursuedOn text depth time facts events keys old.goals.pursuit new.goals.pursuit created closed →
      GoesOn text depth time facts events old new created closed
  goes_on time events keys old new created closed after on level levels trace reached =
      let waits = after level levels trace reached.now reached.after reached.state reached.happening reached.stands.waiting in
      let goals = on level levels trace reached.state reached.happening reached.within reached.now reached.after waits.1 reached.stands.goals in
      (record { waiting = waits.0; goals = goals.0 }, goals.1)
