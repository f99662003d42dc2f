-- How distances spread from a goal.
use Rattle.std.proofs.Common.{◌≡◌, ◌⊎◌, ℕ, ◌+◌, ◌<◌, ◌≤◌, suc, Bool, true, false, cond, ◌||◌, rules, List, [], ◌∷◌, ◌++◌, length, get_or, set, take, Contains, Option, Some, None, is_none, refl, sym, ap, subst, ◌∙◌, arith, inl, inr}
use Rattle.std.proofs.lemmas.Bool.{cases_eq, eqb-true}
use Rattle.std.proofs.lemmas.List.{get_or_default, get_or-set_same, get_or-set_other, length-set, take_more, take_all}
use Rattle.std.proofs.lemmas.List.Elements.{All-contains, Contains-push_cases}
use Rattle.std.proofs.lemmas.List.Sums.{sum_by-set}
use Rattle.lps_levels.specs.declared.edge.Edge.{Edge}
use Rattle.lps_model.specs.Levels.{IsCalled, IsWay}
use Rattle.lps_levels.specs.Graphs.{IsGraph, IsWithin, calls_by, name_at}
use Rattle.lps_levels.specs.Distances.{AreDistances, AreDistancesTo, AreReached, IsExtended, IsNear, distance_at, is_distance, missing}
use Rattle.lps_levels.proofs.Graphs.{called_by}

abbrev weight_of : Option ℕ → ℕ
weight_of d = cond (is_none d) 1 0

-- the first edges have given their callers the next distance
pub record IsSpreading (names : List (List ℕ)) (edges : List Edge) (goal depth count : ℕ) (before now : List (Option ℕ)) (has_grown : Bool) : Type 0 where
  pub reached : AreReached names edges goal now
  pub most : (number distance : ℕ) → distance_at now number ≡ Some distance → distance ≤ suc depth
  pub closed : (edge : Edge) → Contains edges edge → (distance : ℕ) → distance_at now edge.callee ≡ Some distance → distance < depth → IsNear now edge.caller (suc distance)
  pub passed : (edge : Edge) → Contains (take count edges) edge → distance_at now edge.callee ≡ Some depth → IsNear now edge.caller (suc depth)
  pub fewer : missing now ≤ missing before
  pub grown : has_grown ≡ true → missing now < missing before
  pub same : has_grown ≡ false → (number distance : ℕ) → distance_at now number ≡ Some distance → distance ≤ depth

pub spreading_none : (names : List (List ℕ)) (edges : List Edge) (goal depth : ℕ) (before : List (Option ℕ)) → AreDistancesTo depth names edges goal before → IsSpreading names edges goal depth 0 before before false
spreading_none names edges goal depth before d = record {
  reached = d.reached;
  most = λ number distance e. omega (arith, d.most number distance e);
  closed = d.closed;
  passed = λ edge c e. absurd (omega (arith, c.1));
  fewer = omega arith;
  grown = λ e. absurd (cc);
  same = λ e. d.most;
}

-- ---- one edge more

pushed : (edges : List Edge) (count : ℕ) (edge other : Edge) → count < length edges → edge ≡ get_or edges count edge → Contains (take (count + 1) edges) other → Contains (take count edges) other ⊎ (edge ≡ other)
pushed edges count edge other lt at c =
    Contains-push_cases (take count edges) edge other
    (subst (λ es. Contains es other) (take_more edges count edge lt ∙ ap (λ e. take count edges ++ e ∷ []) (sym at)) c)

at_depth : (found : Option ℕ) (depth : ℕ) → is_distance found depth ≡ true → found ≡ Some depth
at_depth None depth e = absurd (cc)
at_depth (Some d) depth e = ap Some (eqb-true d depth e)

at_itself : (depth : ℕ) → is_distance (Some depth) depth ≡ true
at_itself depth = search rules

pub spreading_kept : (names : List (List ℕ)) (edges : List Edge) (goal depth count : ℕ) (before now : List (Option ℕ)) (has_grown : Bool) (edge : Edge) → count < length edges → edge ≡ get_or edges count edge
    → (distance_at now edge.callee ≡ Some depth → is_none (distance_at now edge.caller) ≡ false)
    → IsSpreading names edges goal depth count before now has_grown → IsSpreading names edges goal depth (count + 1) before now has_grown
spreading_kept names edges goal depth count before now has_grown edge lt at has s = record {
  reached = s.reached;
  most = s.most;
  closed = s.closed;
  passed = λ other c e. by other e (pushed edges count edge other lt at c);
  fewer = s.fewer;
  grown = s.grown;
  same = s.same;
}
  where
    there : (found : Option ℕ) → distance_at now edge.caller ≡ found → is_none found ≡ false → IsNear now edge.caller (suc depth)
    there None is e = absurd (cc)
    there (Some d) is e = record { distance = d; found = is; near = s.most edge.caller d is }

    by : (other : Edge) → distance_at now other.callee ≡ Some depth → Contains (take count edges) other ⊎ (edge ≡ other) → IsNear now other.caller (suc depth)
    by other e (inl c) = s.passed other c e
    by other e (inr same) = subst (λ o. distance_at now o.callee ≡ Some depth → IsNear now o.caller (suc depth)) same (λ e'. there (distance_at now edge.caller) refl (has e')) e

module _ (names : List (List ℕ)) (edges : List Edge) (goal depth count : ℕ) (before now : List (Option ℕ)) (has_grown : Bool) (edge : Edge) (graph : IsGraph names edges)
    (lt : count < length edges) (at : edge ≡ get_or edges count edge) (among : Contains edges edge)
    (near : distance_at now edge.callee ≡ Some depth) (none : distance_at now edge.caller ≡ None) (s : IsSpreading names edges goal depth count before now has_grown) where
  abbrev after : List (Option ℕ)
  after = set now edge.caller (Some (suc depth))

  abbrev within : IsWithin (length names) edge
  within = All-contains (IsWithin (length names)) edges edge graph.within among

  in_now : edge.caller < length now
  in_now = omega (arith, within.caller, s.reached.size)

  at_caller : distance_at after edge.caller ≡ Some (suc depth)
  at_caller = get_or-set_same now edge.caller (Some (suc depth)) None in_now

  elsewhere : (number : ℕ) → (number ≡ edge.caller → ⊥) → distance_at after number ≡ distance_at now number
  elsewhere number other = get_or-set_other now edge.caller number (Some (suc depth)) None other

  -- what had a distance keeps it
  kept : (number distance : ℕ) → distance_at now number ≡ Some distance → distance_at after number ≡ Some distance
  kept number distance e = elsewhere number (λ same. is_not (sym none ∙ sym (ap (distance_at now) same) ∙ e)) ∙ e
    where
      is_not : None ≡ Some distance → ⊥
      is_not e' = absurd (cc)

  kept_near : (number most : ℕ) → IsNear now number most → IsNear after number most
  kept_near number most n = record { distance = n.distance; found = kept number n.distance n.found; near = n.near }

  -- what has a distance is the caller, or had it
  had : (number distance : ℕ) → distance_at after number ≡ Some distance → ((number ≡ edge.caller) × (distance ≡ suc depth)) ⊎ (distance_at now number ≡ Some distance)
  had number distance e = by (cases_eq number edge.caller)
    where
      same_distance : Some distance ≡ Some (suc depth) → distance ≡ suc depth
      same_distance e' = cc

      by : (number ≡ edge.caller) ⊎ (number ≡ edge.caller → ⊥) → ((number ≡ edge.caller) × (distance ≡ suc depth)) ⊎ (distance_at now number ≡ Some distance)
      by (inl same) = inl (same, same_distance (sym e ∙ ap (distance_at after) same ∙ at_caller))
      by (inr other) = inr (sym (elsewhere number other) ∙ e)

  -- a distance that is not the new one was there before
  had_before : (number distance : ℕ) → (distance ≡ suc depth → ⊥) → distance_at after number ≡ Some distance → distance_at now number ≡ Some distance
  had_before number distance not_new e = by (had number distance e)
    where
      by : ((number ≡ edge.caller) × (distance ≡ suc depth)) ⊎ (distance_at now number ≡ Some distance) → distance_at now number ≡ Some distance
      by (inl new) = absurd (not_new new.1)
      by (inr old) = old

  reached_after : AreReached names edges goal after
  reached_after = record {
    size = length-set now edge.caller (Some (suc depth)) ∙ s.reached.size;
    start = kept goal 0 s.reached.start;
    reached = λ number distance e. by number distance (had number distance e);
  }
    where
      by : (number distance : ℕ) → ((number ≡ edge.caller) × (distance ≡ suc depth)) ⊎ (distance_at now number ≡ Some distance)
          → (way : List (List ℕ)) × IsWay (calls_by names edges) (name_at names number) (name_at names goal) way × (length way ≡ distance)
      by number distance (inr old) = s.reached.reached number distance old
      by number distance (inl new) =
          let on = s.reached.reached edge.callee depth near in
          let start : name_at names edge.caller ≡ name_at names number = ap (name_at names) (sym new.0) in (
            name_at names number ∷ on.0,
            (refl, (name_at names edge.callee, subst (λ n. IsCalled (calls_by names edges) n (name_at names edge.callee)) start (called_by names edges edge among), on.1)),
            omega (arith, on.2, new.1),
          )

  most_after : (number distance : ℕ) → distance_at after number ≡ Some distance → distance ≤ suc depth
  most_after number distance e = by (had number distance e)
    where
      by : ((number ≡ edge.caller) × (distance ≡ suc depth)) ⊎ (distance_at now number ≡ Some distance) → distance ≤ suc depth
      by (inl new) = omega (arith, new.1)
      by (inr old) = s.most number distance old

  passed_after : (other : Edge) → Contains (take (count + 1) edges) other → distance_at after other.callee ≡ Some depth → IsNear after other.caller (suc depth)
  passed_after other c e = by (pushed edges count edge other lt at c)
    where
      by : Contains (take count edges) other ⊎ (edge ≡ other) → IsNear after other.caller (suc depth)
      by (inl c') = kept_near other.caller (suc depth) (s.passed other c' (had_before other.callee depth (λ new. omega (arith, new)) e))
      by (inr same) = subst (λ o. IsNear after o.caller (suc depth)) same (record { distance = suc depth; found = at_caller; near = omega arith })

  fewer_after : missing after < missing before
  fewer_after =
      let weight = ap weight_of none in
      omega (arith, sum_by-set weight_of now edge.caller (Some (suc depth)) None in_now, weight, s.fewer)

  pub spreading_more : IsSpreading names edges goal depth (count + 1) before after true
  spreading_more = record {
    reached = reached_after;
    most = most_after;
    closed = λ other c distance e low. kept_near other.caller (suc distance) (s.closed other c distance (had_before other.callee distance (λ new. omega (arith, new, low)) e) low);
    passed = passed_after;
    fewer = omega (arith, fewer_after);
    grown = λ e. fewer_after;
    same = λ e. absurd (cc);
  }

-- one edge more
pub spreading_step : (names : List (List ℕ)) (edges : List Edge) (goal depth count : ℕ) (before now next : List (Option ℕ)) (has_grown is_new grown : Bool) (default : Edge) → IsGraph names edges
    → count < length edges → IsExtended depth (get_or edges count default) now next is_new → grown ≡ (is_new || has_grown)
    → IsSpreading names edges goal depth count before now has_grown → IsSpreading names edges goal depth (count + 1) before next grown
spreading_step names edges goal depth count before now next has_grown is_new grown default graph lt x is s =
    subst (λ g. IsSpreading names edges goal depth (count + 1) before next g) (sym is) (by is_new x)
  where
    at : get_or edges count default ≡ get_or edges count (get_or edges count default)
    at = get_or_default edges count default (get_or edges count default) lt

    by : (is_new : Bool) → IsExtended depth (get_or edges count default) now next is_new → IsSpreading names edges goal depth (count + 1) before next (is_new || has_grown)
    by false x =
        subst (λ found. IsSpreading names edges goal depth (count + 1) before found has_grown) (sym x.0)
        (spreading_kept names edges goal depth count before now has_grown (get_or edges count default) lt at (λ e. x.1 (ap (λ d. is_distance d depth) e ∙ at_itself depth)) s)
    by true x =
        subst (λ found. IsSpreading names edges goal depth (count + 1) before found true) (sym x.2)
        (spreading_more names edges goal depth count before now has_grown (get_or edges count default) graph lt at (count, lt, sym at)
        (at_depth (distance_at now (get_or edges count default).callee) depth x.0) x.1 s)

-- ---- all edges

-- all ways of one call more are found
pub spreading_all : (names : List (List ℕ)) (edges : List Edge) (goal depth count : ℕ) (before now : List (Option ℕ)) (has_grown : Bool) → length edges ≤ count
    → IsSpreading names edges goal depth count before now has_grown → AreDistancesTo (suc depth) names edges goal now
spreading_all names edges goal depth count before now has_grown all s = record {
  reached = s.reached;
  most = s.most;
  closed = λ edge c distance e low. by edge c distance e low (cases_eq distance depth);
}
  where
    by : (edge : Edge) → Contains edges edge → (distance : ℕ) → distance_at now edge.callee ≡ Some distance → distance < suc depth → (distance ≡ depth) ⊎ (distance ≡ depth → ⊥) → IsNear now edge.caller (suc distance)
    by edge c distance e low (inr other) = s.closed edge c distance e (omega (arith, other, low))
    by edge c distance e low (inl same) =
        let there : Contains (take count edges) edge = subst (λ es. Contains es edge) (sym (take_all count edges all)) c in
        let near = s.passed edge there (e ∙ ap Some same) in
        record { distance = near.distance; found = near.found; near = omega (arith, near.near, same) }

-- where nothing was found at the last depth, all ways are found
pub distances_all : (names : List (List ℕ)) (edges : List Edge) (goal depth : ℕ) (distances : List (Option ℕ)) → AreDistancesTo (suc depth) names edges goal distances
    → ((number distance : ℕ) → distance_at distances number ≡ Some distance → distance ≤ depth) → AreDistances names edges goal distances
distances_all names edges goal depth distances d low = record {
  reached = d.reached;
  closed = λ edge c distance e. d.closed edge c distance e (omega (arith, low edge.callee distance e));
}
