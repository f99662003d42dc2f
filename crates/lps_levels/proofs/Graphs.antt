-- Edges and the calls that they are.
use Rattle.std.proofs.Common.{◌≡◌, ◌⊎◌, ℕ, ◌<◌, List, [], ◌∷◌, length, map, Contains, Option, Some, refl, sym, ap, subst, ◌∙◌, arith, inl, inr}
use Rattle.std.proofs.lemmas.List.Elements.{All-contains}
use Rattle.lps_model.specs.Calls.{Call}
use Rattle.lps_model.specs.Levels.{IsCalled, IsWay}
use Rattle.lps_levels.specs.declared.edge.Edge.{Edge}
use Rattle.lps_levels.specs.Graphs.{IsGraph, IsWithin, call_by, calls_by, name_at}
use Rattle.lps_levels.specs.Distances.{AreDistances, IsNear, distance_at}
use Rattle.lps_levels.proofs.Ways.{first_is_among, first_or_later, later_is_among}

-- ---- elements of a mapped list

pub map_is_among : {X Y : Type 0} (f : X → Y) (xs : List X) (x : X) → Contains xs x → Contains (map f xs) (f x)
map_is_among f [] x c = absurd (omega (arith, c.1))
map_is_among f (y ∷ ys) x c = by (map_is_among f ys x) (first_or_later y ys x c)
  where
    by : (Contains ys x → Contains (map f ys) (f x)) → (y ≡ x) ⊎ Contains ys x → Contains (map f (y ∷ ys)) (f x)
    by later (inl same) = subst (λ z. Contains (f y ∷ map f ys) (f z)) same (first_is_among (f y) (map f ys))
    by later (inr c') = later_is_among (f y) (map f ys) (f x) (later c')

pub among_map : {X Y : Type 0} (f : X → Y) (xs : List X) (y : Y) → Contains (map f xs) y → (x : X) × Contains xs x × (f x ≡ y)
among_map f [] y c = absurd (omega (arith, c.1))
among_map f (x ∷ xs) y c = by (among_map f xs y) (first_or_later (f x) (map f xs) y c)
  where
    by : (Contains (map f xs) y → (z : _) × Contains xs z × (f z ≡ y)) → (f x ≡ y) ⊎ Contains (map f xs) y → (z : _) × Contains (x ∷ xs) z × (f z ≡ y)
    by later (inl same) = (x, first_is_among x xs, same)
    by later (inr c') = let r = later c' in (r.0, later_is_among x xs r.0 r.1, r.2)

-- ---- calls

pub called_by : (names : List (List ℕ)) (edges : List Edge) (edge : Edge) → Contains edges edge → IsCalled (calls_by names edges) (name_at names edge.caller) (name_at names edge.callee)
called_by names edges edge c = record { call = call_by names edge; among = map_is_among (call_by names) edges edge c; starts = refl; goes = refl }

-- an edge that is the call from a number to a name
pub record IsEdgeOf (names : List (List ℕ)) (edges : List Edge) (number : ℕ) (next : List ℕ) : Type 0 where
  pub edge : Edge
  pub among : Contains edges edge
  pub within : IsWithin (length names) edge
  pub starts : edge.caller ≡ number
  pub goes : name_at names edge.callee ≡ next

pub edge_of : (names : List (List ℕ)) (edges : List Edge) → IsGraph names edges → (number : ℕ) (next : List ℕ) → number < length names → IsCalled (calls_by names edges) (name_at names number) next → IsEdgeOf names edges number next
edge_of names edges graph number next lt called =
    let found = among_map (call_by names) edges called.call called.among in
    let within : IsWithin (length names) found.0 = All-contains (IsWithin (length names)) edges found.0 graph.within found.1 in
    record {
      edge = found.0;
      among = found.1;
      within = within;
      starts = graph.apart found.0.caller number within.caller lt (ap (λ (c : Call). c.caller) found.2 ∙ called.starts);
      goes = ap (λ (c : Call). c.callee) found.2 ∙ called.goes;
    }

-- a name with a way to the goal has a distance, which is no longer
pub no_shorter : (names : List (List ℕ)) (edges : List Edge) (goal : ℕ) (distances : List (Option ℕ)) → IsGraph names edges → goal < length names → AreDistances names edges goal distances
    → (way : List (List ℕ)) (number : ℕ) → number < length names → IsWay (calls_by names edges) (name_at names number) (name_at names goal) way → IsNear distances number (length way)
no_shorter names edges goal distances graph goal_in d [] number lt w =
    let same : number ≡ goal = graph.apart number goal lt goal_in w in
    record { distance = 0; found = subst (λ n. distance_at distances n ≡ Some 0) (sym same) d.reached.start; near = omega arith }
no_shorter names edges goal distances graph goal_in d (name ∷ rest) number lt w =
    let e = edge_of names edges graph number w.1.0 lt w.1.1 in
    let way : IsWay (calls_by names edges) (name_at names e.edge.callee) (name_at names goal) rest = subst (λ n. IsWay (calls_by names edges) n (name_at names goal) rest) (sym e.goes) w.1.2 in
    let near = no_shorter names edges goal distances graph goal_in d rest e.edge.callee e.within.callee way in
    let here = d.closed e.edge e.among near.distance near.found in
    record { distance = here.distance; found = subst (λ n. distance_at distances n ≡ Some here.distance) e.starts here.found; near = omega (arith, here.near, near.near) }
