-- A stage that steps can be made on stays so once its first item is met.
use Rattle.std.proofs.Common.{ℕ, Bool, true, false, ◌≡◌, ◌≤◌, ◌<◌, List, [], ◌∷◌, ◌++◌, map, drop, get_or, length, refl, sym, ap, subst, ◌∙◌, inl, inr, arith}
use Rattle.std.specs.Prelude.{◌⊎◌, ◌&&◌, ◌||◌, nat_lt, zero, suc, Contains, IsTrue}
use Rattle.std.specs.List.{AllByRecursion, filter, flat_map}
use Rattle.std.proofs.lemmas.Bool.Decides.{nat_tests}
use Rattle.lps_terms.specs.declared.term.Term.{Term}
use Rattle.lps_terms.specs.Put.{after, put}
use Rattle.lps_facts.specs.Facts.{members}
use Rattle.lps_model.specs.declared.trace.Trace.{Trace}
use Rattle.lps_model.specs.Clauses.{clauses}
use Rattle.lps_model.specs.Known.{learnt}
use Rattle.lps_model.specs.VariableLists.{args_vars, term_vars}
use Rattle.lps_meaning.specs.declared.node.Left.{Left}
use Rattle.lps_meaning.specs.declared.node.LeftCon.{LeftCon}
use Rattle.lps_meaning.specs.declared.node.LeftItem.{LeftItem}
use Rattle.lps_meaning.specs.declared.node.LeftItem.TheVariants as l
use Rattle.lps_meaning.specs.declared.when.When.{When}
use Rattle.lps_meaning.specs.declared.when.When.TheVariants.{Known, Unknown}
use Rattle.lps_meaning.proofs.Lists.{of_filter, of_flat}
use Rattle.lps_nodes.specs.Conditions.{is_same_time}
use Rattle.lps_nodes.specs.Nodes.{left_in}
use Rattle.lps_nodes.specs.Shapes.{Shape, left_unknowns, left_vars, put_left, put_left_con, put_left_item, put_shape, put_when, shape_unknowns, shape_vars, unknowns}
use Rattle.lps_nodes.proofs.ShapeLaws.{after_when, rest_put, shape_put}
use Rattle.lps_nodes.proofs.ShapeTerms.{same_item, vars_of_put}
use Rattle.lps_windows.specs.Bounds.{IsShort}
use Rattle.lps_windows.specs.Windows.{IsTime, IsWithin}
use Rattle.lps_windows.proofs.Bounding.{short_within}
use Rattle.lps_residual.specs.Limits.{is_open}
use Rattle.lps_residual.specs.Moments.{AreModedLeft, HappensOrHolds, IsDecided, IsTimeOf}
use Rattle.lps_residual.specs.Putting.{value_at, when_at}
use Rattle.lps_solve.specs.Moded.{IsClosed}
use Rattle.lps_solve.proofs.Closed.{closed_stays}
use Rattle.lps_solve.proofs.Sets.{all_learnt, one_known}
use Rattle.lps_solve.proofs.Vars.{all_append, all_first, all_second, all_weaker, of_are_within}
use Rattle.lps_meeting.specs.declared.moment.Moment.{Moment}
use Rattle.lps_meeting.specs.declared.stage.Stage.{Stage}
use Rattle.lps_meeting.specs.declared.ways.Ways.{Ways}
use Rattle.lps_meeting.specs.Stages.{AreEventsFor, IsFirst, IsReadyStage}
use Rattle.lps_meeting.specs.Steps.{AreTimesWhenMet, AreValuesBy, AreWays, IsAtTime, IsDue, IsLeftBelow, IsReadyItem, IsTimesOf, IsOf, before_then, is_due, is_span, joins_at, limits_with, stage_behind}
use Rattle.lps_residual.proofs.Knowing.{AreIn}
use Rattle.lps_residual.proofs.Moding.{moded_put}
use Rattle.lps_residual.proofs.Readying.{no_calls_put}

-- ---- lists

module _ {X Y : Type 0} (f : X → Y) (P : Y → Type 0) where
  all_mapped : (xs : List X) → AllByRecursion (λ x. P (f x)) xs → AllByRecursion P (map f xs)
  all_mapped [] h = tt
  all_mapped (x ∷ xs) h = (h.0, all_mapped xs h.1)

all_to_mapped : {X Y : Type 0} (f : X → Y) (P : X → Type 0) (Q : Y → Type 0) → ((x : X) → P x → Q (f x)) → (xs : List X) → AllByRecursion P xs → AllByRecursion Q (map f xs)
all_to_mapped f P Q to xs h = all_mapped f Q xs (all_weaker P (λ x. Q (f x)) to xs h)

-- what is so of each of the lists is so of all of them
all_flat : (P : ℕ → Type 0) (f : ℕ → List ℕ) (vs : List ℕ) → AllByRecursion (λ v. AllByRecursion P (f v)) vs → AllByRecursion P (flat_map f vs)
all_flat P f [] h = tt
all_flat P f (v ∷ vs) h = all_append P (f v) (flat_map f vs) h.0 (all_flat P f vs h.1)

-- the variables of a term among some are among theirs
at_each : (P : ℕ → Type 0) (xs : List Term) (i : ℕ) (d : Term) → AllByRecursion P (args_vars xs) → i < length xs → AllByRecursion P (term_vars (get_or xs i d))
at_each P [] i d h below = absurd (omega (arith, below))
at_each P (x ∷ xs) zero d h below = all_first P (term_vars x) (args_vars xs) h
at_each P (x ∷ xs) (suc i) d h below = at_each P xs i d (all_second P (term_vars x) (args_vars xs) h) (omega (arith, below))

-- ---- times

module _ (unknowns time : ℕ) (early : time ≤ 1000000) (item : LeftItem) (whens : List When) (are : AreTimesWhenMet unknowns time item whens) where
  abbrev w : ℕ → When
  w = when_at whens

  time_put : (at : When) → IsTime unknowns at → IsTime unknowns (put_when w at)
  time_put (Known n) h = h
  time_put (Unknown k) h = by (w k) refl
    where
      by : (at : When) → w k ≡ at → IsTime unknowns at
      by (Known n) e = let le = are.early k n e in omega (arith, le, early)
      by (Unknown j) e = subst (λ i. i < unknowns) (sym (are.own k j e)) h

  con_put : (con : LeftCon) → IsWithin unknowns con → IsWithin unknowns (put_left_con w con)
  con_put con h = record { left = time_put con.left h.left; right = time_put con.right h.right; low = h.low; high = h.high }

  item_times_put : (s : ℕ → Term) (other : LeftItem) → IsTimeOf unknowns other → IsTimeOf unknowns (put_left_item s w other)
  item_times_put s (l.At lit at) h = time_put at h
  item_times_put s (l.Bare lit) h = tt
  item_times_put s (l.Built built) h = tt
  item_times_put s (l.Span a from to) h = (time_put from h.0, time_put to h.1)

  -- the times put in are times at which the item is met
  own_times : IsTimesOf whens w
  own_times k below = by (w k) refl
    where
      by : (at : When) → w k ≡ at → IsOf at (w k)
      by (Known n) e = e
      by (Unknown j) e = tt

  pub met_then : IsAtTime w time item
  met_then = (are.exact w).1 own_times

-- unknown times in range have numbers in range
unknown_below : (n : ℕ) (time : When) → IsTime n time → AllByRecursion (λ k. k < n) (unknowns time)
unknown_below n (Known k) h = tt
unknown_below n (Unknown k) h = (h, tt)

unknowns_below : (n : ℕ) (item : LeftItem) → IsTimeOf n item → AllByRecursion (λ k. k < n) (left_unknowns item)
unknowns_below n (l.At lit time) h = unknown_below n time h
unknowns_below n (l.Bare lit) h = tt
unknowns_below n (l.Built built) h = tt
unknowns_below n (l.Span a from to) h = all_append (λ k. k < n) (unknowns from) (unknowns to) (unknown_below n from h.0) (unknown_below n to h.1)

-- a time that becomes known is so whatever is put in for others
is_then : (w x y : ℕ → When) (at : When) (n : ℕ) → put_when w at ≡ Known n → AllByRecursion (λ k. after_when x w k ≡ after_when y w k) (unknowns at)
is_then w x y (Known m) n e = tt
is_then w x y (Unknown k) n e = (ap (put_when x) e ∙ sym (ap (put_when y) e), tt)

settled_times : (w x y : ℕ → When) (time : ℕ) (item : LeftItem) → IsAtTime w time item → AllByRecursion (λ k. after_when x w k ≡ after_when y w k) (left_unknowns item)
settled_times w x y time (l.At lit at) h = is_then w x y at time h
settled_times w x y time (l.Bare lit) h = tt
settled_times w x y time (l.Built built) h = tt
settled_times w x y zero (l.Span a from to) h = absurd h
settled_times w x y (suc before) (l.Span a from to) h =
    all_append (λ k. after_when x w k ≡ after_when y w k) (unknowns from) (unknowns to) (is_then w x y from before h.0) (is_then w x y to (suc before) h.1)

-- ---- values

module _ (n : ℕ) (terms row values : List Term) (are : AreValuesBy n terms row values) where
  value_below : (v : ℕ) → v < n → AllByRecursion (λ u. u < n) (term_vars (value_at values v))
  value_below v below = at_each (λ u. u < n) values v _ (of_are_within n values are.within) (subst (λ m. v < m) (sym are.count) below)

  -- the values make the terms the row
  pub own_row : map (put (value_at values)) terms ≡ row
  own_row = (are.exact (value_at values)).1 are.own

-- ---- constraints that stay

module _ {Y : Type 0} where
  abbrev head_or : Y → List Y → Y
  head_or d [] = d
  head_or d (y ∷ ys) = y

  abbrev behind_head : List Y → List Y
  behind_head [] = []
  behind_head (y ∷ ys) = ys

module _ {X Y : Type 0} where
  each_same : (f g : X → Y) (xs : List X) → map f xs ≡ map g xs → AllByRecursion (λ x. f x ≡ g x) xs
  each_same f g [] e = tt
  each_same f g (x ∷ xs) e = (ap (head_or (f x)) e, each_same f g xs (ap behind_head e))

  all_same : (f g : X → Y) (xs : List X) → AllByRecursion (λ x. f x ≡ g x) xs → map f xs ≡ map g xs
  all_same f g [] h = refl
  all_same f g (x ∷ xs) h = λ i. h.0 i ∷ all_same f g xs h.1 i

  -- two ways to change the same elements are the same on those that pass a test
  same_passing : (f g : X → Y) (test : X → Bool) (xs : List X) → map f xs ≡ map g xs → map f (filter test xs) ≡ map g (filter test xs)
  same_passing f g test xs e = all_same f g (filter test xs) (of_filter (λ x. f x ≡ g x) test xs (each_same f g xs e))

-- ---- the first item

module _ (m : Moment) (stage : Stage) (ready : IsReadyStage m stage) (item : LeftItem) (first : IsFirst stage item) where
  abbrev here : Left
  here = record { item = item; nest = first.0 }

  pub behind_is : drop 1 stage.node.rest ≡ first.1
  behind_is = ap (drop 1) first.2

  pub ready_item : IsReadyItem m.program.now item
  ready_item = record {
    scope = ready.moded.scope;
    declared = ready.moded.declared;
    seen = ready.moded.seen;
    moded = (subst (AreModedLeft ready.moded.scope []) first.2 ready.moded.moded).0;
  }

  vars_in_rest : AllByRecursion (λ v. v < m.variables) (left_vars item ++ flat_map (λ left. left_vars left.item) first.1)
  vars_in_rest =
      subst (λ rest. AllByRecursion (λ v. v < m.variables) (flat_map (λ left. left_vars left.item) rest)) first.2
      (all_second (λ v. v < m.variables) (args_vars stage.node.carry.values) (flat_map (λ left. left_vars left.item) stage.node.rest) ready.variables)

  pub below_item : IsLeftBelow m.variables item
  below_item = all_first (λ v. v < m.variables) (left_vars item) (flat_map (λ left. left_vars left.item) first.1) vars_in_rest

  pub time_item : IsTimeOf m.unknowns item
  time_item = (subst (AllByRecursion (λ left. IsTimeOf m.unknowns left.item)) first.2 ready.timed.items).0

  -- what is left behind the item
  abbrev pub left_behind : Shape
  left_behind = record { carry = stage.node.carry; rest = first.1; limits = stage.node.limits }

  pub vars_behind : AllByRecursion (λ v. v < m.variables) (shape_vars left_behind)
  vars_behind =
      all_append (λ v. v < m.variables) (args_vars stage.node.carry.values) (flat_map (λ left. left_vars left.item) first.1)
      (all_first (λ v. v < m.variables) (args_vars stage.node.carry.values) (flat_map (λ left. left_vars left.item) stage.node.rest) ready.variables)
      (all_second (λ v. v < m.variables) (left_vars item) (flat_map (λ left. left_vars left.item) first.1) vars_in_rest)

  pub unknowns_behind : AllByRecursion (λ k. k < m.unknowns) (shape_unknowns left_behind)
  unknowns_behind =
      let of_times : List ℕ = flat_map unknowns stage.node.carry.times in
      let of_rest : List ℕ = flat_map (λ left. left_unknowns left.item) first.1 in
      let of_limits : List ℕ = flat_map (λ con. unknowns con.left ++ unknowns con.right) stage.node.limits in
      all_append (λ k. k < m.unknowns) (of_times ++ of_rest) of_limits
      (all_append (λ k. k < m.unknowns) of_times of_rest (of_flat (IsTime m.unknowns) (λ k. k < m.unknowns) unknowns (unknown_below m.unknowns) stage.node.carry.times ready.timed.carried)
      (of_flat (λ left. IsTimeOf m.unknowns left.item) (λ k. k < m.unknowns) (λ left. left_unknowns left.item) (λ left h. unknowns_below m.unknowns left.item h) first.1
      (subst (AllByRecursion (λ left. IsTimeOf m.unknowns left.item)) first.2 ready.timed.items).1))
      (of_flat (IsWithin m.unknowns) (λ k. k < m.unknowns) (λ con. unknowns con.left ++ unknowns con.right)
      (λ con h. all_append (λ k. k < m.unknowns) (unknowns con.left) (unknowns con.right) (unknown_below m.unknowns con.left h.left) (unknown_below m.unknowns con.right h.right)) stage.node.limits ready.timed.limits)

  module _ (whens : List When) (times : AreTimesWhenMet m.unknowns m.time item whens) where
    limits_within : AllByRecursion (IsWithin m.unknowns) (limits_with stage (when_at whens))
    limits_within = all_to_mapped (put_left_con (when_at whens)) (IsWithin m.unknowns) (IsWithin m.unknowns) (con_put m.unknowns m.time ready.early item whens times) stage.node.limits ready.timed.limits

    pub short_limits : AllByRecursion IsShort (limits_with stage (when_at whens))
    short_limits = all_weaker (IsWithin m.unknowns) IsShort (short_within m.unknowns) (limits_with stage (when_at whens)) limits_within

    module _ (ways : Ways) (are_ways : AreWays (clauses m.program.now) (members m.facts.now) m.events.now m.variables item ways) (row : List Term) (among : Contains (map (λ v. v.0) ways.rows.items) row)
        (values : List Term) (are_values : AreValuesBy m.variables ways.terms row values) where
      abbrev s : ℕ → Term
      s = value_at values

      abbrev at : ℕ → When
      at = when_at whens

      abbrev next : Stage
      next = stage_behind stage m.time s at item

      -- each variable of the item has a value
      pub item_closed : AllByRecursion (λ v. IsClosed (s v)) (left_vars item)
      item_closed = are_ways.closed s (subst (Contains (map (λ v. v.0) ways.rows.items)) (sym (own_row m.variables ways.terms row values are_values)) among)

      variables_behind : AllByRecursion (λ v. v < m.variables) (shape_vars (left_in next.node))
      variables_behind =
          let left : Shape = record { carry = stage.node.carry; rest = drop 1 stage.node.rest; limits = stage.node.limits } in
          let all = subst (λ rest. AllByRecursion (λ v. v < m.variables) (shape_vars (record { carry = stage.node.carry; rest = rest; limits = stage.node.limits }))) (sym behind_is) vars_behind in
          subst (AllByRecursion (λ v. v < m.variables)) (sym (vars_of_put s at left))
          (all_flat (λ v. v < m.variables) (λ v. term_vars (s v)) (shape_vars left)
          (all_weaker (λ v. v < m.variables) (λ v. AllByRecursion (λ u. u < m.variables) (term_vars (s v))) (value_below m.variables ways.terms row values are_values) (shape_vars left) all))

      moded_behind : AreModedLeft ready.moded.scope [] next.node.rest
      moded_behind =
          let learnt_closed =
          all_learnt (λ v. AreIn [] (term_vars (s v))) [] (left_vars item) tt
          (all_weaker (λ v. IsClosed (s v)) (λ v. AreIn [] (term_vars (s v))) (λ v closed. subst (AreIn []) (sym closed) tt) (left_vars item) item_closed) in
          moded_put s ready.moded.scope at (learnt [] (left_vars item)) [] (λ v known. one_known (λ v. AreIn [] (term_vars (s v))) (learnt [] (left_vars item)) v learnt_closed known) (drop 1 stage.node.rest)
          (subst (AreModedLeft ready.moded.scope (learnt [] (left_vars item))) (sym behind_is) (subst (AreModedLeft ready.moded.scope []) first.2 ready.moded.moded).1)

      -- the item is the same whatever is put in after the values and times
      same_after : (v u : ℕ → Term) (x y : ℕ → When) → put_left_item (after v s) (after_when x at) item ≡ put_left_item (after u s) (after_when y at) item
      same_after v u x y =
          same_item (after v s) (after u s) (after_when x at) (after_when y at) item
          (all_weaker (λ k. IsClosed (s k)) (λ k. after v s k ≡ after u s k) (λ k closed. closed_stays v (s k) closed ∙ sym (closed_stays u (s k) closed)) (left_vars item) item_closed)
          (settled_times at x y m.time item (met_then m.unknowns m.time ready.early item whens times))

      decided_behind : IsDecided (left_in next.node)
      decided_behind v u x y e =
          let rest : map (put_left (after v s) (after_when x at)) stage.node.rest ≡ map (put_left (after u s) (after_when y at)) stage.node.rest =
          ap (map (put_left (after v s) (after_when x at))) first.2
          ∙ (λ i. record { item = same_after v u x y i; nest = first.0 } ∷ (sym (ap (map (put_left (after v s) (after_when x at))) behind_is) ∙ sym (rest_put v s x at (drop 1 stage.node.rest)) ∙ e
          ∙ rest_put u s y at (drop 1 stage.node.rest) ∙ ap (map (put_left (after u s) (after_when y at))) behind_is) i)
          ∙ sym (ap (map (put_left (after u s) (after_when y at))) first.2) in
          let whole : put_shape v x (put_shape s at (left_in stage.node)) ≡ put_shape u y (put_shape s at (left_in stage.node)) =
          shape_put v s x at (left_in stage.node) ∙ ready.decided (after v s) (after u s) (after_when x at) (after_when y at) rest ∙ sym (shape_put u s y at (left_in stage.node)) in
          λ i. record {
            carry = (whole i).carry;
            rest = e i;
            limits = same_passing (put_left_con x) (put_left_con y) is_open (limits_with stage at) (ap (λ (g : Shape). g.limits) whole) i;
          }

      all_dropped : {X : Type 0} (P : X → Type 0) (xs : List X) → AllByRecursion P xs → AllByRecursion P (drop 1 xs)
      all_dropped P [] h = tt
      all_dropped P (x ∷ xs) h = h.1

      before_behind : (other : LeftItem) → (before_then stage.before m.time other ≡ m.time) ⊎ (suc (before_then stage.before m.time other) ≡ m.time)
      before_behind (l.At lit time) = inl refl
      before_behind (l.Bare lit) = ready.before
      before_behind (l.Built built) = ready.before
      before_behind (l.Span a from to) = inl refl

      joins_behind : (other : LeftItem) → is_span other ≡ true → before_then stage.before m.time other ≡ m.time
      joins_behind (l.At lit time) e = absurd (cc)
      joins_behind (l.Bare lit) e = absurd (cc)
      joins_behind (l.Built built) e = absurd (cc)
      joins_behind (l.Span a from to) e = refl

      pub ready_behind : IsReadyStage m next
      ready_behind = record {
        variables = variables_behind;
        moded = record { scope = ready.moded.scope; declared = ready.moded.declared; seen = ready.moded.seen; moded = moded_behind };
        decided = decided_behind;
        timed = record {
          few = ready.timed.few;
          items = all_to_mapped (put_left s at) (λ left. IsTimeOf m.unknowns left.item) (λ left. IsTimeOf m.unknowns left.item)
              (λ left h. item_times_put m.unknowns m.time ready.early item whens times s left.item h) (drop 1 stage.node.rest)
              (all_dropped (λ left. IsTimeOf m.unknowns left.item) stage.node.rest ready.timed.items);
          limits = of_filter (IsWithin m.unknowns) is_open (limits_with stage at) limits_within;
          carried = all_to_mapped (put_when at) (IsTime m.unknowns) (IsTime m.unknowns) (time_put m.unknowns m.time ready.early item whens times) stage.node.carry.times ready.timed.carried;
        };
        no_calls = no_calls_put s at m.program.now (drop 1 stage.node.rest) (all_dropped (λ left. HappensOrHolds m.program.now left.item) stage.node.rest ready.no_calls);
        before = before_behind item;
        joins = joins_behind item;
        early = ready.early;
      }

-- ---- events

-- where no event is known none is met, so none is known behind the item
module _ (m : Moment) (stage : Stage) (trace : Trace) (s : ℕ → Term) (w : ℕ → When) where
  pub no_joins : (from to : When) (time : ℕ) → stage.joins ≡ false → joins_at stage from to time ≡ false
  no_joins from to zero none = refl
  no_joins from to (suc before) none = ap (λ joins. joins && (is_same_time from (Known before) && is_same_time to (Known (suc before)))) none

  not_earlier : (n k : ℕ) → n ≡ k → nat_lt n k ≡ false
  not_earlier n k e = grind (arith, nat_tests)

  neither : (one two : Bool) → one ≡ false → two ≡ false → (one || two) ≡ true → ⊥
  neither true two e f h = cc
  neither false true e f h = cc
  neither false false e f h = cc

  pub not_due : (from to : When) → stage.before ≡ m.time → stage.joins ≡ false → IsTrue (is_due stage from to m.time) → ⊥
  not_due from to same none due =
      neither (nat_lt stage.before m.time) (joins_at stage from to m.time) (not_earlier stage.before m.time same) (no_joins from to m.time none) due

  pub events_behind : (item : LeftItem) → IsDue stage m.time item → AreEventsFor m stage trace → AreEventsFor m (stage_behind stage m.time s w item) trace
  events_behind item due (inl same) = inl same
  events_behind (l.At lit time) due (inr none) = inr (refl, refl)
  events_behind (l.Bare lit) due (inr none) = inr (none.0, refl)
  events_behind (l.Built built) due (inr none) = inr (none.0, refl)
  events_behind (l.Span a from to) due (inr none) = absurd (not_due from to none.0 none.1 due)
