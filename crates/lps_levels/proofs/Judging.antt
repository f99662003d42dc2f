-- Levels by number, and the first cycle.
use Rattle.std.proofs.Common.{◌≡◌, ◌⊎◌, ℕ, ◌+◌, ◌<◌, ◌≤◌, suc, zero, Bool, true, false, cond, not, nat_lt, ◌||◌, List, [], ◌∷◌, ◌++◌, length, get_or, take, drop, Contains, Option, Some, None, is_none, slice_index, refl, sym, ap, subst, ◌∙◌, arith, inl, inr}
use Rattle.std.proofs.lemmas.Bool.{cases_lt, leb-true, le-leb, lt-ltb}
use Rattle.std.proofs.lemmas.List.{drop_more, get_or_append_left, get_or_push, map-append, take-append-drop, take_all, take_more}
use Rattle.std.proofs.lemmas.List.Elements.{All-contains, Contains-get_or, Contains-push_cases}
use Rattle.std.proofs.lemmas.List.Sums.{sum_by-cons}
use Rattle.lps_model.specs.Calls.{Call}
use Rattle.lps_model.specs.Levels.{HasNoWay, IsStrictCycle, IsWay}
use Rattle.lps_levels.specs.declared.edge.Edge.{Edge}
use Rattle.lps_levels.specs.Graphs.{IsGraph, IsWithin, call_by, calls_by, is_lower, is_no_higher, name_at}
use Rattle.lps_levels.specs.Distances.{AreDistances, AreRight, AreUnreached, HaveNoStrictCycle, IsOnNoCycle, IsStrictCycleOf, NeverRise, distance_at, missing}
use Rattle.lps_levels.proofs.Graphs.{among_map, called_by, edge_of, no_shorter}
use Rattle.lps_levels.proofs.LeastWays.{none_or_some}

-- ---- levels that never rise

falls : (edges : List Edge) (levels : List ℕ) → NeverRise edges levels → (edge : Edge) → Contains edges edge → slice_index levels edge.callee ≤ slice_index levels edge.caller
falls edges levels never edge c = leb-true _ _ (All-contains (λ e. is_no_higher levels e ≡ true) edges edge never c)

falls_along : (names : List (List ℕ)) (edges : List Edge) (levels : List ℕ) → IsGraph names edges → NeverRise edges levels → (way : List (List ℕ)) (number end : ℕ) → number < length names → end < length names
    → IsWay (calls_by names edges) (name_at names number) (name_at names end) way → slice_index levels end ≤ slice_index levels number
falls_along names edges levels graph never [] number end number_in end_in w = omega (arith, ap (slice_index levels) (graph.apart number end number_in end_in w))
falls_along names edges levels graph never (name ∷ rest) number end number_in end_in w =
    let e = edge_of names edges graph number w.1.0 number_in w.1.1 in
    let on = falls_along names edges levels graph never rest e.edge.callee end e.within.callee end_in (subst (λ n. IsWay (calls_by names edges) n (name_at names end) rest) (sym e.goes) w.1.2) in
    omega (arith, on, falls edges levels never e.edge e.among, ap (slice_index levels) e.starts)

-- an edge to a lower level lies on no cycle
pub lower_is_on_no_cycle : (names : List (List ℕ)) (edges : List Edge) (levels : List ℕ) → IsGraph names edges → NeverRise edges levels → (edge : Edge) → IsWithin (length names) edge
    → slice_index levels edge.callee < slice_index levels edge.caller → IsOnNoCycle names edges edge
lower_is_on_no_cycle names edges levels graph never edge within lower way w =
    absurd (omega (arith, lower, falls_along names edges levels graph never way edge.callee edge.caller within.callee within.caller w))

-- ---- how many names have no way

abbrev weight_of : Option ℕ → ℕ
weight_of d = cond (is_none d) 1 0

one_le : (x y : Option ℕ) → (x ≡ None → y ≡ None) → weight_of x ≤ weight_of y
one_le None y h = omega (arith, ap weight_of (h refl))
one_le (Some d) y h = omega arith

missing_le : (xs ys : List (Option ℕ)) → length xs ≡ length ys → ((k : ℕ) → distance_at xs k ≡ None → k < length xs → distance_at ys k ≡ None) → missing xs ≤ missing ys
missing_le [] ys long h = omega arith
missing_le (x ∷ xs) [] long h = absurd (omega (arith, long))
missing_le (x ∷ xs) (y ∷ ys) long h =
    let rest = missing_le xs ys (omega (arith, long)) (λ k e lt. h (suc k) e (omega (arith, lt))) in
    omega (arith, rest, one_le x y (λ e. h 0 e (omega arith)), sum_by-cons weight_of x xs, sum_by-cons weight_of y ys)

missing_lt : (xs ys : List (Option ℕ)) → length xs ≡ length ys → ((k : ℕ) → distance_at xs k ≡ None → k < length xs → distance_at ys k ≡ None)
    → (at : ℕ) → at < length xs → is_none (distance_at xs at) ≡ false → distance_at ys at ≡ None → missing xs < missing ys
missing_lt [] ys long h at lt some none = absurd (omega (arith, lt))
missing_lt (x ∷ xs) [] long h at lt some none = absurd (omega (arith, long))
missing_lt (x ∷ xs) (y ∷ ys) long h zero lt some none =
    let rest = missing_le xs ys (omega (arith, long)) (λ k e lt'. h (suc k) e (omega (arith, lt'))) in
    let heavy = ap weight_of none in
    omega (arith, rest, heavy, light_one x some, sum_by-cons weight_of x xs, sum_by-cons weight_of y ys)
  where
    light_one : (d : Option ℕ) → is_none d ≡ false → weight_of d ≡ 0
    light_one None e = absurd (cc)
    light_one (Some d) e = refl
missing_lt (x ∷ xs) (y ∷ ys) long h (suc at) lt some none =
    let rest = missing_lt xs ys (omega (arith, long)) (λ k e lt'. h (suc k) e (omega (arith, lt'))) at (omega (arith, lt)) some none in
    omega (arith, rest, one_le x y (λ e. h 0 e (omega arith)), sum_by-cons weight_of x xs, sum_by-cons weight_of y ys)

-- a way goes on by a call
way_on : (names : List (List ℕ)) (edges : List Edge) (edge : Edge) → Contains edges edge → (way : List (List ℕ)) (start : List ℕ) → IsWay (calls_by names edges) start (name_at names edge.caller) way
    → IsWay (calls_by names edges) start (name_at names edge.callee) (way ++ name_at names edge.caller ∷ [])
way_on names edges edge c [] start w =
    subst (λ n. IsWay (calls_by names edges) n (name_at names edge.callee) (name_at names edge.caller ∷ [])) (sym w) (refl, (name_at names edge.callee, called_by names edges edge c, refl))
way_on names edges edge c (name ∷ rest) start w = (w.0, (w.1.0, w.1.1, way_on names edges edge c rest w.1.0 w.1.2))

module _ (names : List (List ℕ)) (edges : List Edge) (levels : List ℕ) (graph : IsGraph names edges) (u : AreUnreached names edges levels) where
  module _ (edge : Edge) (among : Contains edges edge) where
    abbrev within : IsWithin (length names) edge
    within = All-contains (IsWithin (length names)) edges edge graph.within among

    abbrev to_caller : (distances : List (Option ℕ)) × AreDistances names edges edge.caller distances × (slice_index levels edge.caller ≡ missing distances)
    to_caller = u.counted edge.caller within.caller

    abbrev to_callee : (distances : List (Option ℕ)) × AreDistances names edges edge.callee distances × (slice_index levels edge.callee ≡ missing distances)
    to_callee = u.counted edge.callee within.callee

    same_size : length to_callee.0 ≡ length to_caller.0
    same_size = to_callee.1.reached.size ∙ sym to_caller.1.reached.size

    -- what has no way to the callee has none to the caller
    missed : (k : ℕ) → distance_at to_callee.0 k ≡ None → k < length to_callee.0 → distance_at to_caller.0 k ≡ None
    missed k e lt = by (distance_at to_caller.0 k) refl
      where
        k_in : k < length names
        k_in = omega (arith, lt, to_callee.1.reached.size)

        by : (d : Option ℕ) → distance_at to_caller.0 k ≡ d → distance_at to_caller.0 k ≡ None
        by None is = is
        by (Some d) is =
            let way = to_caller.1.reached.reached k d is in
            let near = no_shorter names edges edge.callee to_callee.0 graph within.callee to_callee.1 (way.0 ++ name_at names edge.caller ∷ []) k k_in (way_on names edges edge among way.0 (name_at names k) way.1) in
            absurd (none_or_some (distance_at to_callee.0 k) near.distance e near.found)

    no_higher : slice_index levels edge.callee ≤ slice_index levels edge.caller
    no_higher = omega (arith, missing_le to_callee.0 to_caller.0 same_size missed, to_callee.2, to_caller.2)

    lower : IsOnNoCycle names edges edge → slice_index levels edge.callee < slice_index levels edge.caller
    lower none = omega (arith, missing_lt to_callee.0 to_caller.0 same_size missed edge.callee (omega (arith, within.callee, to_callee.1.reached.size)) (ap is_none to_callee.1.reached.start) (by (distance_at to_caller.0 edge.callee) refl), to_callee.2, to_caller.2)
      where
        by : (d : Option ℕ) → distance_at to_caller.0 edge.callee ≡ d → distance_at to_caller.0 edge.callee ≡ None
        by None is = is
        by (Some d) is = let way = to_caller.1.reached.reached edge.callee d is in absurd (none way.0 way.1)

  pub unreached_never_rise : NeverRise edges levels
  unreached_never_rise k d lt = le-leb _ _ (no_higher (get_or edges k d) (Contains-get_or edges k d lt))

  -- where no strict call lies on a cycle, these are levels
  pub unreached_are_right : HaveNoStrictCycle names edges edges → AreRight names edges levels
  unreached_are_right none = record {
    size = u.size;
    no_higher = unreached_never_rise;
    lower = λ k d lt. by (get_or edges k d) (Contains-get_or edges k d lt) (get_or edges k d).is_strict refl;
  }
    where
      by : (edge : Edge) → Contains edges edge → (strict : Bool) → edge.is_strict ≡ strict → is_lower levels edge ≡ true
      by edge c false e = ap (λ b. not b || nat_lt (slice_index levels edge.callee) (slice_index levels edge.caller)) e
      by edge c true e = ap (λ b. not b || nat_lt (slice_index levels edge.callee) (slice_index levels edge.caller)) e ∙ lt-ltb _ _ (lower edge c (none edge c e))

-- ---- the first strict edge on a cycle

pub no_cycle_more : (names : List (List ℕ)) (edges : List Edge) (count : ℕ) (default : Edge) → count < length edges → ((get_or edges count default).is_strict ≡ true → IsOnNoCycle names edges (get_or edges count default))
    → HaveNoStrictCycle names edges (take count edges) → HaveNoStrictCycle names edges (take (count + 1) edges)
no_cycle_more names edges count default lt new old edge c strict =
    by (Contains-push_cases (take count edges) (get_or edges count default) edge (subst (λ es. Contains es edge) (take_more edges count default lt) c))
  where
    by : Contains (take count edges) edge ⊎ (get_or edges count default ≡ edge) → IsOnNoCycle names edges edge
    by (inl c') = old edge c' strict
    by (inr same) = subst (λ (e : Edge). e.is_strict ≡ true → IsOnNoCycle names edges e) same new strict

pub no_cycle_all : (names : List (List ℕ)) (edges : List Edge) (count : ℕ) → length edges ≤ count → HaveNoStrictCycle names edges (take count edges) → HaveNoStrictCycle names edges edges
no_cycle_all names edges count all h = subst (HaveNoStrictCycle names edges) (take_all count edges all) h

pub cycle_is_first : (names : List (List ℕ)) (edges : List Edge) (count : ℕ) (default : Edge) (cycle : List (List ℕ)) → count < length edges → HaveNoStrictCycle names edges (take count edges)
    → IsStrictCycleOf names edges (get_or edges count default) cycle → IsStrictCycle (calls_by names edges) cycle
cycle_is_first names edges count default cycle lt none s = record {
  before = calls_by names (take count edges);
  call = call_by names (get_or edges count default);
  after = calls_by names (drop (count + 1) edges);
  split = ap (calls_by names) (sym (take-append-drop count edges) ∙ ap (λ es. take count edges ++ es) (drop_more edges count default lt))
      ∙ map-append (call_by names) (take count edges) (get_or edges count default ∷ drop (count + 1) edges);
  strict = s.strict;
  first = first;
  way = s.cycle_of.way;
  back = s.cycle_of.back;
  around = s.cycle_of.around;
}
  where
    first : (other : Call) → Contains (calls_by names (take count edges)) other → other.is_strict ≡ true → HasNoWay (calls_by names edges) other.callee other.caller
    first other c strict =
        let found = among_map (call_by names) (take count edges) other c in
        subst (λ (call : Call). HasNoWay (calls_by names edges) call.callee call.caller) found.2 (none found.0 found.1 (ap (λ (call : Call). call.is_strict) found.2 ∙ strict))

-- ---- the parts of the code

pub unreached_more : (names : List (List ℕ)) (edges : List Edge) (levels new : List ℕ) (count value : ℕ) (distances : List (Option ℕ)) → new ≡ levels ++ value ∷ [] → length levels ≡ count → AreDistances names edges count distances → value ≡ missing distances
    → ((goal : ℕ) → goal < count → (distances : List (Option ℕ)) × AreDistances names edges goal distances × (slice_index levels goal ≡ missing distances))
    → (goal : ℕ) → goal < count + 1 → (distances : List (Option ℕ)) × AreDistances names edges goal distances × (slice_index new goal ≡ missing distances)
unreached_more names edges levels new count value distances is long d counted old goal lt = by (cases_lt goal count)
  where
    by : (goal < count) ⊎ (count ≤ goal) → (distances : List (Option ℕ)) × AreDistances names edges goal distances × (slice_index new goal ≡ missing distances)
    by (inl low) =
        let before = old goal low in
        (before.0, before.1, ap (λ xs. slice_index xs goal) is ∙ get_or_append_left levels (value ∷ []) 0 goal (omega (arith, low, long)) ∙ before.2)
    by (inr high) =
        let same : count ≡ goal = omega (arith, lt, high) in
        (distances, subst (λ g. AreDistances names edges g distances) same d, ap (λ xs. slice_index xs goal) is ∙ get_or_push levels value 0 goal (long ∙ same) ∙ counted)
