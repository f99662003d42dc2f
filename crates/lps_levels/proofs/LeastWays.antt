-- The least way to a goal, call by call.
use Rattle.std.proofs.Common.{◌≡◌, ◌⊎◌, ℕ, ◌+◌, ◌-◌, ◌<◌, ◌≤◌, suc, Bool, true, false, cond, nat_eq, ◌&&◌, rules, List, [], ◌∷◌, ◌++◌, length, get_or, take, Contains, Option, Some, None, Ordering, refl, sym, ap, subst, ◌∙◌, arith, inl, inr}
use Rattle.std.specs.declared.cmp.Ordering.TheVariants.{Less, Equal, Greater}
use Rattle.std.specs.Ordering.{is_lt, ordering_reverse, ordering_then}
use Rattle.std.specs.Cmp.Lexicographic.{slice_cmp}
use Rattle.std.specs.Option.{ForSome, MatchOption}
use Rattle.std.proofs.lemmas.List.{append_assoc, take_more}
use Rattle.std.proofs.lemmas.List.Elements.{All-contains, All-take, Contains-append_left, Contains-push, Contains-push_cases}
use Rattle.std.proofs.lemmas.Bool.{eqb-true}
use Rattle.lps_terms.specs.Names.{name_cmp}
use Rattle.lps_terms.specs.OrderLaws.{name_cmp_total, name_cmp-IsAntisymmetric}
use Rattle.lps_model.specs.Levels.{IsCalled, IsLeastWay, IsWay}
use Rattle.lps_levels.specs.declared.edge.Edge.{Edge}
use Rattle.lps_levels.specs.Graphs.{IsGraph, IsWithin, calls_by, name_at}
use Rattle.lps_levels.specs.Distances.{AreDistances, HasNoCallee, IsLeastCallee, IsNear, better, comes_before, distance_at, is_at, is_distance}
use Rattle.lps_levels.proofs.Graphs.{called_by, edge_of, no_shorter}

some_same : (a b : ℕ) → Some a ≡ Some b → a ≡ b
some_same a b e = cc

-- a distance that is found twice is one
near_is : (distances : List (Option ℕ)) (number distance most : ℕ) → distance_at distances number ≡ Some distance → IsNear distances number most → distance ≤ most
near_is distances number distance most e n = omega (arith, some_same distance n.distance (sym e ∙ n.found), n.near)

first_decides : (r s : Ordering) → r ≡ Less → ordering_then r s ≡ Greater → ⊥
first_decides Less s e g = absurd (cc)
first_decides Equal s e g = absurd (cc)
first_decides Greater s e g = absurd (cc)

tied_first : (r s : Ordering) → r ≡ Equal → ordering_then r s ≡ Greater → s ≡ Greater
tied_first Less s e g = absurd (cc)
tied_first Equal s e g = g
tied_first Greater s e g = absurd (cc)

tied : (name : List ℕ) → name_cmp name name ≡ Equal
tied name = by (name_cmp name name) (name_cmp_total.antisymm name name)
  where
    by : (r : Ordering) → r ≡ ordering_reverse r → r ≡ Equal
    by Less e = absurd (cc)
    by Equal e = refl
    by Greater e = absurd (cc)

module _ (names : List (List ℕ)) (edges : List Edge) (goal : ℕ) (distances : List (Option ℕ)) (graph : IsGraph names edges) (goal_in : goal < length names) (d : AreDistances names edges goal distances) where
  -- at the goal no call is left
  pub way_ends : (number : ℕ) → distance_at distances number ≡ Some 0 → IsLeastWay (calls_by names edges) (name_at names number) (name_at names goal) []
  way_ends number e = record {
    is_way = at (d.reached.reached number 0 e);
    shortest = λ other w. omega arith;
    least = λ other w long g. none other long g;
  }
    where
      at : (way : List (List ℕ)) × IsWay (calls_by names edges) (name_at names number) (name_at names goal) way × (length way ≡ 0) → IsWay (calls_by names edges) (name_at names number) (name_at names goal) []
      at r = by r.0 r.1 r.2
        where
          by : (way : List (List ℕ)) → IsWay (calls_by names edges) (name_at names number) (name_at names goal) way → length way ≡ 0 → name_at names number ≡ name_at names goal
          by [] w e' = w
          by (name ∷ rest) w e' = absurd (omega (arith, e'))

      none : (other : List (List ℕ)) → length other ≡ 0 → slice_cmp name_cmp [] other ≡ Greater → ⊥
      none [] long g = absurd (cc)
      none (name ∷ rest) long g = absurd (cc)

  module _ (number left next : ℕ) (number_in : number < length names) (far : distance_at distances number ≡ Some (suc left)) (callee : IsLeastCallee names edges distances number left next)
      (way : List (List ℕ)) (w : IsLeastWay (calls_by names edges) (name_at names next) (name_at names goal) way) where
    within : next < length names
    within =
        let edge_in : IsWithin (length names) callee.edge = All-contains (IsWithin (length names)) edges callee.edge graph.within callee.among in
        subst (λ n. n < length names) callee.called edge_in.callee

    called : IsCalled (calls_by names edges) (name_at names number) (name_at names next)
    called = subst (λ n. IsCalled (calls_by names edges) (name_at names number) (name_at names n)) callee.called
        (subst (λ n. IsCalled (calls_by names edges) (name_at names n) (name_at names callee.edge.callee)) callee.calls (called_by names edges callee.edge callee.among))

    -- the way from the callee is as long as its distance
    long_way : length way ≡ left
    long_way =
        let found = d.reached.reached next left callee.near in
        let low = w.shortest found.0 found.1 in
        let near = near_is distances next left (length way) callee.near (no_shorter names edges goal distances graph goal_in d way next within w.is_way) in
        omega (arith, low, near, found.2)

    same_length : (other : List (List ℕ)) → IsWay (calls_by names edges) (name_at names number) (name_at names goal) other → suc left ≤ length other
    same_length other o = near_is distances number (suc left) (length other) far (no_shorter names edges goal distances graph goal_in d other number number_in o)

    -- of two ways of one length on from callees of one distance
    rest_least : (e : Edge) → Contains edges e → e.caller ≡ number → (rest : List (List ℕ)) → IsWay (calls_by names edges) (name_at names e.callee) (name_at names goal) rest → length rest ≡ length way
        → distance_at distances e.callee ≡ Some left → slice_cmp name_cmp way rest ≡ Greater → ⊥
    rest_least e c starts rest r long near g = by (name_cmp (name_at names next) (name_at names e.callee)) refl
      where
        heads : (way' rest' : List (List ℕ)) → IsWay (calls_by names edges) (name_at names next) (name_at names goal) way' → IsWay (calls_by names edges) (name_at names e.callee) (name_at names goal) rest'
            → length rest' ≡ length way' → name_cmp (name_at names next) (name_at names e.callee) ≡ Less → slice_cmp name_cmp way' rest' ≡ Greater → ⊥
        heads [] [] w' r' l less g' = absurd (cc)
        heads [] (y ∷ ys) w' r' l less g' = absurd (cc)
        heads (x ∷ xs) [] w' r' l less g' = absurd (omega (arith, l))
        heads (x ∷ xs) (y ∷ ys) w' r' l less g' = first_decides (name_cmp x y) (slice_cmp name_cmp xs ys) ((λ i. name_cmp (w'.0 i) (r'.0 i)) ∙ less) g'

        by : (r' : Ordering) → name_cmp (name_at names next) (name_at names e.callee) ≡ r' → ⊥
        by Less is = heads way rest w.is_way r long is g
        by Equal is =
            let same : name_at names next ≡ name_at names e.callee = name_cmp-IsAntisymmetric _ _ is in
            w.least rest (subst (λ n. IsWay (calls_by names edges) n (name_at names goal) rest) (sym same) r) long g
        by Greater is = callee.least e c starts near is

    least_on : (other : List (List ℕ)) → IsWay (calls_by names edges) (name_at names number) (name_at names goal) other → length other ≡ suc (length way) → slice_cmp name_cmp (name_at names number ∷ way) other ≡ Greater → ⊥
    least_on [] o long g = absurd (omega (arith, long))
    least_on (name ∷ rest) o long g =
        let e = edge_of names edges graph number o.1.0 number_in o.1.1 in
        let r : IsWay (calls_by names edges) (name_at names e.edge.callee) (name_at names goal) rest = subst (λ n. IsWay (calls_by names edges) n (name_at names goal) rest) (sym e.goes) o.1.2 in
        let near = no_shorter names edges goal distances graph goal_in d rest e.edge.callee e.within.callee r in
        let back = d.closed e.edge e.among near.distance near.found in
        let caller = near_is distances number (suc left) (suc near.distance) far (record { distance = back.distance; found = subst (λ n. distance_at distances n ≡ Some back.distance) e.starts back.found; near = back.near }) in
        let here : near.distance ≡ left = omega (arith, caller, near.near, long, long_way) in
        rest_least e.edge e.among e.starts rest r (omega (arith, long)) (near.found ∙ ap Some here)
        (tied_first (name_cmp (name_at names number) name) (slice_cmp name_cmp way rest) (ap (name_cmp (name_at names number)) o.0 ∙ tied (name_at names number)) g)

    -- the least way from a name goes on from its least callee
    pub way_goes_on : IsLeastWay (calls_by names edges) (name_at names number) (name_at names goal) (name_at names number ∷ way)
    way_goes_on = record {
      is_way = (refl, (name_at names next, called, w.is_way));
      shortest = λ other o. omega (arith, same_length other o, long_way);
      least = λ other o long g. least_on other o long g;
    }

  -- a name at a distance has a callee at one less
  pub has_callee : (number left : ℕ) → number < length names → distance_at distances number ≡ Some (suc left) → HasNoCallee edges distances number left → ⊥
  has_callee number left number_in far none = by (d.reached.reached number (suc left) far)
    where
      on : (way : List (List ℕ)) → IsWay (calls_by names edges) (name_at names number) (name_at names goal) way → length way ≡ suc left → ⊥
      on [] w long = absurd (omega (arith, long))
      on (name ∷ rest) w long =
          let e = edge_of names edges graph number w.1.0 number_in w.1.1 in
          let r : IsWay (calls_by names edges) (name_at names e.edge.callee) (name_at names goal) rest = subst (λ n. IsWay (calls_by names edges) n (name_at names goal) rest) (sym e.goes) w.1.2 in
          let near = no_shorter names edges goal distances graph goal_in d rest e.edge.callee e.within.callee r in
          let back = d.closed e.edge e.among near.distance near.found in
          let caller = near_is distances number (suc left) (suc near.distance) far (record { distance = back.distance; found = subst (λ n. distance_at distances n ≡ Some back.distance) e.starts back.found; near = back.near }) in
          let here : near.distance ≡ left = omega (arith, caller, near.near, long) in
          none e.edge e.among e.starts (near.found ∙ ap Some here)

      by : (way : List (List ℕ)) × IsWay (calls_by names edges) (name_at names number) (name_at names goal) way × (length way ≡ suc left) → ⊥
      by r = on r.0 r.1 r.2

-- ---- the least callee

module _ (names : List (List ℕ)) (distances : List (Option ℕ)) (caller distance : ℕ) (front : List Edge) (edge : Edge) where
  abbrev more : List Edge
  more = front ++ edge ∷ []

  abbrev serves : Bool
  serves = nat_eq edge.caller caller && is_at distances edge.callee distance

  both_true : (a b : Bool) → (a && b) ≡ true → (a ≡ true) × (b ≡ true)
  both_true true b e = (refl, e)
  both_true false b e = absurd (cc)

  at_distance : (found : Option ℕ) → is_distance found distance ≡ true → found ≡ Some distance
  at_distance None e = absurd (cc)
  at_distance (Some f) e = ap Some (eqb-true f distance e)

  serves_both : serves ≡ true → (edge.caller ≡ caller) × (distance_at distances edge.callee ≡ Some distance)
  serves_both e =
      let both = both_true (nat_eq edge.caller caller) (is_at distances edge.callee distance) e in
      (eqb-true edge.caller caller both.0, at_distance (distance_at distances edge.callee) both.1)

  itself : (n : ℕ) → nat_eq n n ≡ true
  itself n = search rules

  does_serve : edge.caller ≡ caller → distance_at distances edge.callee ≡ Some distance → serves ≡ true
  does_serve starts near =
      (λ i. nat_eq (starts i) caller && is_distance (near i) distance) ∙ (λ i. itself caller i && itself distance i)

  is_not_true : (b : Bool) → b ≡ false → b ≡ true → ⊥
  is_not_true true e f = absurd (cc)
  is_not_true false e f = absurd (cc)

  old_least : (callee : ℕ) → IsLeastCallee names front distances caller distance callee
      → (edge.caller ≡ caller → distance_at distances edge.callee ≡ Some distance → name_cmp (name_at names callee) (name_at names edge.callee) ≡ Greater → ⊥)
      → IsLeastCallee names more distances caller distance callee
  old_least callee h new = record {
    edge = h.edge;
    among = Contains-append_left front (edge ∷ []) h.edge h.among;
    calls = h.calls;
    called = h.called;
    near = h.near;
    least = λ other c starts near. by other starts near (Contains-push_cases front edge other c);
  }
    where
      by : (other : Edge) → other.caller ≡ caller → distance_at distances other.callee ≡ Some distance → Contains front other ⊎ (edge ≡ other) → name_cmp (name_at names callee) (name_at names other.callee) ≡ Greater → ⊥
      by other starts near (inl c) = h.least other c starts near
      by other starts near (inr same) =
          subst (λ (o : Edge). o.caller ≡ caller → distance_at distances o.callee ≡ Some distance → name_cmp (name_at names callee) (name_at names o.callee) ≡ Greater → ⊥) same new starts near

  new_least : edge.caller ≡ caller → distance_at distances edge.callee ≡ Some distance
      → ((other : Edge) → Contains front other → other.caller ≡ caller → distance_at distances other.callee ≡ Some distance → name_cmp (name_at names edge.callee) (name_at names other.callee) ≡ Greater → ⊥)
      → IsLeastCallee names more distances caller distance edge.callee
  new_least starts near old = record {
    edge = edge;
    among = Contains-push front edge;
    calls = starts;
    called = refl;
    near = near;
    least = λ other c starts' near'. by other starts' near' (Contains-push_cases front edge other c);
  }
    where
      not_greater : (name : List ℕ) → name_cmp name name ≡ Greater → ⊥
      not_greater name g = equal_or (sym (tied name) ∙ g)
        where
          equal_or : Equal ≡ Greater → ⊥
          equal_or e = absurd (cc)

      by : (other : Edge) → other.caller ≡ caller → distance_at distances other.callee ≡ Some distance → Contains front other ⊎ (edge ≡ other) → name_cmp (name_at names edge.callee) (name_at names other.callee) ≡ Greater → ⊥
      by other starts' near' (inl c) = old other c starts' near'
      by other starts' near' (inr same) = subst (λ (o : Edge). name_cmp (name_at names edge.callee) (name_at names o.callee) ≡ Greater → ⊥) same (not_greater (name_at names edge.callee))

  after_lower : (a b c : List ℕ) → is_lt (name_cmp a b) ≡ true → (name_cmp b c ≡ Greater → ⊥) → name_cmp a c ≡ Greater → ⊥
  after_lower a b c lt not_greater g = by (name_cmp b c) refl
    where
      less : (r : Ordering) → is_lt r ≡ true → r ≡ Less
      less Less e = refl
      less Equal e = absurd (cc)
      less Greater e = absurd (cc)

      clash : (r : Ordering) → r ≡ Less → r ≡ Greater → ⊥
      clash Less e f = absurd (cc)
      clash Equal e f = absurd (cc)
      clash Greater e f = absurd (cc)

      by : (r : Ordering) → name_cmp b c ≡ r → ⊥
      by Less e = clash (name_cmp a c) (name_cmp_total.trans a b c (less (name_cmp a b) lt) e) g
      by Equal e = clash (name_cmp a c) (ap (name_cmp a) (sym (name_cmp-IsAntisymmetric b c e)) ∙ less (name_cmp a b) lt) g
      by Greater e = not_greater e

  turned : (a b : List ℕ) → is_lt (name_cmp a b) ≡ false → name_cmp b a ≡ Greater → ⊥
  turned a b not_lt g = by (name_cmp a b) (name_cmp_total.antisymm a b) not_lt
    where
      by : (r : Ordering) → r ≡ ordering_reverse (name_cmp b a) → is_lt r ≡ false → ⊥
      by Less e f = absurd (cc)
      by Equal e f = equal_less (e ∙ ap ordering_reverse g)
        where
          equal_less : Equal ≡ Less → ⊥
          equal_less e' = absurd (cc)
      by Greater e f = greater_less (e ∙ ap ordering_reverse g)
        where
          greater_less : Greater ≡ Less → ⊥
          greater_less e' = absurd (cc)

  pub better_more : (least : Option ℕ) → MatchOption least (HasNoCallee front distances caller distance) (IsLeastCallee names front distances caller distance)
      → MatchOption (better names distances caller distance least edge) (HasNoCallee more distances caller distance) (IsLeastCallee names more distances caller distance)
  better_more least h = by least h serves refl (comes_before names edge.callee least) refl
    where
      by : (least : Option ℕ) → MatchOption least (HasNoCallee front distances caller distance) (IsLeastCallee names front distances caller distance)
          → (does : Bool) → serves ≡ does → (first : Bool) → comes_before names edge.callee least ≡ first
          → MatchOption (cond (does && first) (Some edge.callee) least) (HasNoCallee more distances caller distance) (IsLeastCallee names more distances caller distance)
      by None h false e first f = λ other c starts near. at other starts near (Contains-push_cases front edge other c)
        where
          at : (other : Edge) → other.caller ≡ caller → distance_at distances other.callee ≡ Some distance → Contains front other ⊎ (edge ≡ other) → ⊥
          at other starts near (inl c) = h other c starts near
          at other starts near (inr same) =
              subst (λ (o : Edge). o.caller ≡ caller → distance_at distances o.callee ≡ Some distance → ⊥) same (λ starts' near'. is_not_true serves e (does_serve starts' near')) starts near
      by (Some callee) h false e first f = old_least callee h (λ starts near g. is_not_true serves e (does_serve starts near))
      by None h true e true f = let s = serves_both e in new_least s.0 s.1 (λ other c starts near g. h other c starts near)
      by None h true e false f = absurd (is_not_true true f refl)
      by (Some callee) h true e true f =
          let s = serves_both e in
          new_least s.0 s.1 (λ other c starts near g. after_lower (name_at names edge.callee) (name_at names callee) (name_at names other.callee) f (h.least other c starts near) g)
      by (Some callee) h true e false f = old_least callee h (λ starts near g. turned (name_at names edge.callee) (name_at names callee) f g)

-- the least callee so far is a name's number
pub callee_within : (names : List (List ℕ)) (edges : List Edge) (distances : List (Option ℕ)) (caller distance count : ℕ) (least : Option ℕ) → IsGraph names edges
    → MatchOption least (HasNoCallee (take count edges) distances caller distance) (IsLeastCallee names (take count edges) distances caller distance) → ForSome least (λ callee. callee < length names)
callee_within names edges distances caller distance count None graph h callee e = absurd (cc)
callee_within names edges distances caller distance count (Some found) graph h callee e =
    let edge_in : IsWithin (length names) h.edge = All-contains (IsWithin (length names)) (take count edges) h.edge (All-take (IsWithin (length names)) count edges graph.within) h.among in
    subst (λ n. n < length names) (h.called ∙ some_same found callee e) edge_in.callee

-- ---- steps of the loops

pub least_step : (names : List (List ℕ)) (edges : List Edge) (distances : List (Option ℕ)) (caller distance count : ℕ) (least result : Option ℕ) (default : Edge) → count < length edges
    → result ≡ better names distances caller distance least (get_or edges count default)
    → MatchOption least (HasNoCallee (take count edges) distances caller distance) (IsLeastCallee names (take count edges) distances caller distance)
    → MatchOption result (HasNoCallee (take (count + 1) edges) distances caller distance) (IsLeastCallee names (take (count + 1) edges) distances caller distance)
least_step names edges distances caller distance count least result default lt is h =
    subst (λ es. MatchOption result (HasNoCallee es distances caller distance) (IsLeastCallee names es distances caller distance)) (sym (take_more edges count default lt))
    (subst (λ r. MatchOption r (HasNoCallee (take count edges ++ get_or edges count default ∷ []) distances caller distance) (IsLeastCallee names (take count edges ++ get_or edges count default ∷ []) distances caller distance)) (sym is)
    (better_more names distances caller distance (take count edges) (get_or edges count default) least h))

pub least_start : (names : List (List ℕ)) (edges : List Edge) (distances : List (Option ℕ)) (caller distance : ℕ) → MatchOption None (HasNoCallee (take 0 edges) distances caller distance) (IsLeastCallee names (take 0 edges) distances caller distance)
least_start names edges distances caller distance other c starts near = absurd (omega (arith, c.1))

pub callee_in_names : (names : List (List ℕ)) (edges : List Edge) (distances : List (Option ℕ)) (caller distance callee : ℕ) → IsGraph names edges → IsLeastCallee names edges distances caller distance callee → callee < length names
callee_in_names names edges distances caller distance callee graph h =
    let edge_in : IsWithin (length names) h.edge = All-contains (IsWithin (length names)) edges h.edge graph.within h.among in
    subst (λ n. n < length names) h.called edge_in.callee

pub way_step : (names : List (List ℕ)) (edges : List Edge) (goal : ℕ) (distances : List (Option ℕ)) → IsGraph names edges → goal < length names → AreDistances names edges goal distances
    → (start number left next : ℕ) (way items : List (List ℕ)) (name : List ℕ) → number < length names → 0 < left → distance_at distances number ≡ Some left → IsLeastCallee names edges distances number (left - 1) next
    → items ≡ way ++ name ∷ [] → name ≡ name_at names number
    → ((rest : List (List ℕ)) → IsLeastWay (calls_by names edges) (name_at names number) (name_at names goal) rest → IsLeastWay (calls_by names edges) (name_at names start) (name_at names goal) (way ++ rest))
    → (rest : List (List ℕ)) → IsLeastWay (calls_by names edges) (name_at names next) (name_at names goal) rest → IsLeastWay (calls_by names edges) (name_at names start) (name_at names goal) (items ++ rest)
way_step names edges goal distances graph goal_in d start number left next way items name number_in positive far callee pushed is goes_on rest w =
    let more : left ≡ suc (left - 1) = omega (arith, positive) in
    let here = way_goes_on names edges goal distances graph goal_in d number (left - 1) next number_in (far ∙ ap Some more) callee rest w in
    let joined : items ++ rest ≡ way ++ (name_at names number ∷ rest) = ap (λ xs. xs ++ rest) pushed ∙ append_assoc way (name ∷ []) rest ∙ ap (λ n. way ++ (n ∷ rest)) is in
    subst (IsLeastWay (calls_by names edges) (name_at names start) (name_at names goal)) (sym joined) (goes_on (name_at names number ∷ rest) here)

pub none_or_some : (found : Option ℕ) (distance : ℕ) → found ≡ None → found ≡ Some distance → ⊥
none_or_some None distance e f = absurd (cc)
none_or_some (Some d) distance e f = absurd (cc)
