-- What is left where a sequence is entered can be stepped on.
use Rattle.std.proofs.Common.{ℕ, ◌≡◌, ◌⊎◌, ◌<◌, ◌≤◌, Bool, true, false, cond, List, [], ◌∷◌, ◌++◌, map, refl, sym, ap, subst, ◌∙◌, arith, inl, inr, Contains}
use Rattle.std.specs.List.{AllByRecursion, filter, flat_map}
use Rattle.std.proofs.lemmas.Grind.{flat_map-append}
use Rattle.std.proofs.lemmas.List.Elements.{Contains-append_left, Contains-append_right}
use Rattle.lps_terms.specs.declared.item.Item.{Item}
use Rattle.lps_terms.specs.declared.item.Item.TheVariants as i
use Rattle.lps_terms.specs.declared.term.Term.{Term}
use Rattle.lps_terms.specs.declared.term.Term.TheVariants as t
use Rattle.lps_terms.specs.declared.text.Text.{Text}
use Rattle.lps_model.specs.Order.{occurs}
use Rattle.lps_model.specs.VariableLists.{item_vars, term_vars}
use Rattle.lps_model.proofs.Elements.{first_is_contained, later_is_contained}
use Rattle.lps_meaning.specs.declared.node.Left.{Left}
use Rattle.lps_meaning.specs.declared.node.LeftCon.{LeftCon}
use Rattle.lps_meaning.specs.declared.when.When.{When}
use Rattle.lps_meaning.proofs.Occurrences.{all_joined, all_to, vars-Sym}
use Rattle.lps_meaning.proofs.Stepped.{IsConOf, IsStepped, IsTimeOf}
use Rattle.lps_nodes.specs.LedLaws.{IsWithoutCalls}
use Rattle.lps_nodes.specs.Plans.{Entrance}
use Rattle.lps_nodes.specs.Shapes.{Shape, con_of, left_of, left_unknowns, left_vars, put_left, shape_unknowns, shape_vars, unknowns}
use Rattle.lps_nodes.proofs.ShapeTerms.{same_shape, vars_of_put}
use Rattle.lps_windows.specs.Windows.{IsTime, IsWithin}
use Rattle.lps_residual.specs.Limits.{is_open, with_limits}
use Rattle.lps_residual.specs.Moments.{AreModedLeft, HappensOrHolds, IsTimeOf as IsLeftTime}
use Rattle.lps_residual.proofs.Knowing.{AreIn, IsIn}
use Rattle.lps_residual.proofs.Moding.{moded_put}
use Rattle.lps_meeting.proofs.Occurring.{decided_by_occurring}
use Rattle.lps_unify.specs.Canonical.{place_of}
use Rattle.lps_seq.specs.Leads.{CanBeStepped}
use Rattle.lps_seq.specs.Starts.{IsGiven, entered_node, given_value, given_when, left_whole_of}
use Rattle.lps_seq.proofs.Distinct.{all_at, all_occur, given_closed, given_known, has_place, not_known, occurring}
use Rattle.lps_seq.proofs.Entrances.{rest_put}
use Rattle.lps_seq.proofs.Written.{AreModedIn, IsFormedTimes, items_left_vars, shift_in_range}

-- ---- lists

own_all : {X : Type 0} (xs : List X) → AllByRecursion (Contains xs) xs
own_all [] = tt
own_all (x ∷ xs) = (first_is_contained x xs, all_to (Contains xs) (Contains (x ∷ xs)) (λ y there. later_is_contained x xs y there) xs (own_all xs))

own_front : {X : Type 0} (xs ys : List X) → AllByRecursion (Contains (xs ++ ys)) xs
own_front xs ys = all_to (Contains xs) (Contains (xs ++ ys)) (λ x there. Contains-append_left xs ys x there) xs (own_all xs)

behind : {X : Type 0} (xs ys zs : List X) → AllByRecursion (Contains ys) zs → AllByRecursion (Contains (xs ++ ys)) zs
behind xs ys zs h = all_to (Contains ys) (Contains (xs ++ ys)) (λ x there. Contains-append_right xs ys x there) zs h

in_front : {X : Type 0} (ys zs xs : List X) → AllByRecursion (Contains ys) xs → AllByRecursion (Contains (ys ++ zs)) xs
in_front ys zs xs h = all_to (Contains ys) (Contains (ys ++ zs)) (λ x there. Contains-append_left ys zs x there) xs h

front_two : {X : Type 0} (xs ys zs : List X) → AllByRecursion (Contains ((xs ++ ys) ++ zs)) xs
front_two xs ys zs = in_front (xs ++ ys) zs xs (own_front xs ys)

second_two : {X : Type 0} (xs ys zs : List X) → AllByRecursion (Contains ((xs ++ ys) ++ zs)) ys
second_two xs ys zs = in_front (xs ++ ys) zs ys (behind xs ys ys (own_all ys))

-- what one number gives is among what all give
flat_among : (f : ℕ → List ℕ) (vs : List ℕ) → AllByRecursion (λ v. AllByRecursion (Contains (flat_map f vs)) (f v)) vs
flat_among f [] = tt
flat_among f (v ∷ vs) = (own_front (f v) (flat_map f vs), all_to (λ u. AllByRecursion (Contains (flat_map f vs)) (f u)) (λ u. AllByRecursion (Contains (f v ++ flat_map f vs)) (f u)) (λ u h. behind (f v) (flat_map f vs) (f u) h) vs (flat_among f vs))

all_flat : {X Y : Type 0} (P : Y → Type 0) (f : X → List Y) (xs : List X) → AllByRecursion (λ x. AllByRecursion P (f x)) xs → AllByRecursion P (flat_map f xs)
all_flat P f [] h = tt
all_flat P f (x ∷ xs) h = all_joined P (f x) (flat_map f xs) h.0 (all_flat P f xs h.1)

all_mapped : {X Y : Type 0} (P : Y → Type 0) (f : X → Y) (xs : List X) → AllByRecursion (λ x. P (f x)) xs → AllByRecursion P (map f xs)
all_mapped P f [] h = tt
all_mapped P f (x ∷ xs) h = (h.0, all_mapped P f xs h.1)

all_kept : {X : Type 0} (P : X → Type 0) (test : X → Bool) (xs : List X) → AllByRecursion P xs → AllByRecursion P (filter test xs)
all_kept P test [] h = tt
all_kept P test (x ∷ xs) h = by (test x) (all_kept P test xs h.1) where
  by : (b : Bool) → AllByRecursion P (filter test xs) → AllByRecursion P (cond b (x ∷ filter test xs) (filter test xs))
  by true rest = (h.0, rest)
  by false rest = rest

-- ---- what is asked of a sequence

-- What is known of a sequence of an accepted text that is entered: what it has at its items, what may be known before, and which times and
-- variables stand where.
pub record IsWellEntered (text : Text) (e : Entrance) : Type 0 where
  pub happens : IsWithoutCalls text e.sequence → (u : ℕ → Term) (w : ℕ → When) → AllByRecursion (λ left. HappensOrHolds text left.item) (flat_map (left_of u w 0) e.sequence.items)
  pub known : List ℕ
  pub moded : AreModedIn text known (flat_map left_whole_of e.sequence.items)
  pub known_given : (v : ℕ) → IsIn known v → occurs v (flat_map item_vars e.sequence.items) ≡ true → occurs v e.sequence.given_values ≡ true
  pub count : ℕ
  pub few : count ≤ 255
  pub times : AllByRecursion (IsFormedTimes count) e.sequence.items
  pub cons : AllByRecursion (IsConOf (λ k. (occurs k e.sequence.given_times ≡ true) ⊎ IsStepped k e.sequence.items)) e.sequence.items
  pub carried_values : AllByRecursion (λ v. occurs v (flat_map item_vars e.sequence.items) ≡ true) e.sequence.carried_values
  pub carried_times : AllByRecursion (λ k. IsStepped k e.sequence.items) e.sequence.carried_times

module _ (text : Text) (e : Entrance) (well : IsWellEntered text e) (given : IsGiven e) where
  abbrev f : ℕ → Term
  f = given_value e.sequence.given_values e.values

  abbrev h : ℕ → When
  h = given_when e.sequence.given_times e.times

  abbrev items : List Item
  items = e.sequence.items

  abbrev rest : List Left
  rest = flat_map (left_of f h 0) items

  -- ---- variables

  abbrev whole : Shape
  whole = record { carry = record { values = []; times = [] }; rest = flat_map left_whole_of items; limits = [] }

  rest_vars : flat_map (λ left. left_vars left.item) rest ≡ flat_map (λ v. term_vars (f v)) (flat_map item_vars items)
  rest_vars =
      ap (flat_map (λ (left : Left). left_vars left.item)) (sym (rest_put f h items)) ∙ vars_of_put f h whole ∙ ap (flat_map (λ v. term_vars (f v))) (items_left_vars items)

  -- what is known before is closed where it stands in the items, and elsewhere it does not matter
  abbrev closed_else : ℕ → Term
  closed_else v = cond (occurs v (flat_map item_vars items)) (f v) (t.Sym [])

  covers : (v : ℕ) → IsIn well.known v → AreIn [] (term_vars (closed_else v))
  covers v there = by (occurs v (flat_map item_vars items)) refl where
    by : (b : Bool) → occurs v (flat_map item_vars items) ≡ b → AreIn [] (term_vars (cond b (f v) (t.Sym [])))
    by true is = subst (AreIn []) (sym (given_closed e.sequence.given_values e.values given.values given.ground v (well.known_given v there is))) tt
    by false is = subst (AreIn []) (sym (vars-Sym [])) tt

  agrees : AllByRecursion (λ v. closed_else v ≡ f v) (shape_vars whole)
  agrees =
      subst (AllByRecursion (λ v. closed_else v ≡ f v)) (sym (items_left_vars items))
      (all_to (λ v. occurs v (flat_map item_vars items) ≡ true) (λ v. closed_else v ≡ f v) (λ v is. ap (λ b. cond b (f v) (t.Sym [])) is) (flat_map item_vars items) (all_occur (flat_map item_vars items)))

  no_times : (g : Shape) (ks : List ℕ) → AllByRecursion (λ k. h k ≡ h k) ks
  no_times g [] = tt
  no_times g (k ∷ ks) = (refl, no_times g ks)

  rest_same : map (put_left closed_else h) (flat_map left_whole_of items) ≡ rest
  rest_same = ap (λ (g : Shape). g.rest) (same_shape closed_else f h h whole agrees (no_times whole (shape_unknowns whole))) ∙ rest_put f h items

  moded_rest : AreModedLeft well.moded.scope [] rest
  moded_rest = subst (AreModedLeft well.moded.scope []) rest_same (moded_put closed_else well.moded.scope h well.known [] covers (flat_map left_whole_of items) well.moded.moded)

  -- ---- times

  abbrev rest_unknowns : List Item → List ℕ
  rest_unknowns its = flat_map (λ left. left_unknowns left.item) (flat_map (left_of f h 0) its)

  -- a time of a step is left, if it is unknown
  stepped_left : (its : List Item) (k : ℕ) → IsStepped k its → AllByRecursion (Contains (rest_unknowns its)) (unknowns (h k))
  stepped_left [] k st = absurd st
  stepped_left (item ∷ its) k (inl here) =
      subst (λ ks. AllByRecursion (Contains ks) (unknowns (h k))) (sym (flat_map-append (λ (left : Left). left_unknowns left.item) (left_of f h 0 item) (flat_map (left_of f h 0) its)))
      (by item here)
    where
      by : (it : Item) → IsTimeOf k it → AllByRecursion (Contains (flat_map (λ left. left_unknowns left.item) (left_of f h 0 it) ++ rest_unknowns its)) (unknowns (h k))
      by (i.At lit time) same = subst (λ n. AllByRecursion (Contains ((unknowns (h time.0) ++ []) ++ rest_unknowns its)) (unknowns (h n))) same (front_two (unknowns (h time.0)) [] (rest_unknowns its))
      by (i.Span a from to) (inl same) =
          subst (λ n. AllByRecursion (Contains (((unknowns (h from.0) ++ unknowns (h to.0)) ++ []) ++ rest_unknowns its)) (unknowns (h n))) same (in_front ((unknowns (h from.0) ++ unknowns (h to.0)) ++ []) (rest_unknowns its) (unknowns (h from.0)) (front_two (unknowns (h from.0)) (unknowns (h to.0)) []))
      by (i.Span a from to) (inr same) =
          subst (λ n. AllByRecursion (Contains (((unknowns (h from.0) ++ unknowns (h to.0)) ++ []) ++ rest_unknowns its)) (unknowns (h n))) same (in_front ((unknowns (h from.0) ++ unknowns (h to.0)) ++ []) (rest_unknowns its) (unknowns (h to.0)) (second_two (unknowns (h from.0)) (unknowns (h to.0)) []))
      by (i.Bare lit) none = absurd none
      by (i.Built built) none = absurd none
      by (i.Con con) none = absurd none
  stepped_left (item ∷ its) k (inr later) =
      subst (λ ks. AllByRecursion (Contains ks) (unknowns (h k))) (sym (flat_map-append (λ (left : Left). left_unknowns left.item) (left_of f h 0 item) (flat_map (left_of f h 0) its)))
      (behind (flat_map (λ left. left_unknowns left.item) (left_of f h 0 item)) (rest_unknowns its) (unknowns (h k)) (stepped_left its k later))

  con_left : (k : ℕ) → (occurs k e.sequence.given_times ≡ true) ⊎ IsStepped k items → AllByRecursion (Contains (rest_unknowns items)) (unknowns (h k))
  con_left k (inl is) = subst (λ time. AllByRecursion (Contains (rest_unknowns items)) (unknowns time)) (sym (given_known e.sequence.given_times e.times given.times k is)) tt
  con_left k (inr st) = stepped_left items k st

  cons_left : (its : List Item) → AllByRecursion (IsConOf (λ k. (occurs k e.sequence.given_times ≡ true) ⊎ IsStepped k items)) its →
      AllByRecursion (λ con. AllByRecursion (Contains (rest_unknowns items)) (unknowns con.left ++ unknowns con.right)) (flat_map (con_of h) its)
  cons_left [] all = tt
  cons_left (item ∷ its) all =
      all_joined (λ con. AllByRecursion (Contains (rest_unknowns items)) (unknowns con.left ++ unknowns con.right)) (con_of h item) (flat_map (con_of h) its) (by item all.0) (cons_left its all.1)
    where
      by : (it : Item) → IsConOf (λ k. (occurs k e.sequence.given_times ≡ true) ⊎ IsStepped k items) it →
          AllByRecursion (λ con. AllByRecursion (Contains (rest_unknowns items)) (unknowns con.left ++ unknowns con.right)) (con_of h it)
      by (i.Con con) of = (all_joined (Contains (rest_unknowns items)) (unknowns (h con.left.0)) (unknowns (h con.right.0)) (con_left con.left.0 of.0) (con_left con.right.0 of.1), tt)
      by (i.At lit time) of = tt
      by (i.Bare lit) of = tt
      by (i.Built built) of = tt
      by (i.Span a from to) of = tt

  -- ---- ranges

  time_in_range : (k : ℕ) → k < well.count → IsTime well.count (h k)
  time_in_range k below = by (occurs k e.sequence.given_times) refl where
    by : (b : Bool) → occurs k e.sequence.given_times ≡ b → IsTime well.count (h k)
    by true is =
        subst (IsTime well.count) (sym (given_known e.sequence.given_times e.times given.times k is))
        (all_at (λ n. n ≤ 1000000) e.times (place_of e.sequence.given_times k) 0 given.early (subst (λ n. place_of e.sequence.given_times k < n) (sym given.times) (has_place e.sequence.given_times k is)))
    by false is = subst (IsTime well.count) (sym (not_known e.sequence.given_times e.times given.times k is)) below

  items_in_range : (its : List Item) → AllByRecursion (IsFormedTimes well.count) its → AllByRecursion (λ left. IsLeftTime well.count left.item) (flat_map (left_of f h 0) its)
  items_in_range [] all = tt
  items_in_range (item ∷ its) all =
      all_joined (λ left. IsLeftTime well.count left.item) (left_of f h 0 item) (flat_map (left_of f h 0) its) (by item all.0) (items_in_range its all.1)
    where
      by : (it : Item) → IsFormedTimes well.count it → AllByRecursion (λ left. IsLeftTime well.count left.item) (left_of f h 0 it)
      by (i.At lit time) of = (time_in_range time.0 of, tt)
      by (i.Bare lit) of = (tt, tt)
      by (i.Built built) of = (tt, tt)
      by (i.Span a from to) of = ((time_in_range from.0 of.0, time_in_range to.0 of.1), tt)
      by (i.Con con) of = tt

  cons_in_range : (its : List Item) → AllByRecursion (IsFormedTimes well.count) its → AllByRecursion (IsWithin well.count) (flat_map (con_of h) its)
  cons_in_range [] all = tt
  cons_in_range (item ∷ its) all = all_joined (IsWithin well.count) (con_of h item) (flat_map (con_of h) its) (by item all.0) (cons_in_range its all.1) where
    by : (it : Item) → IsFormedTimes well.count it → AllByRecursion (IsWithin well.count) (con_of h it)
    by (i.Con con) of =
        let shift = shift_in_range con.plus of.2 in
        (record { left = time_in_range con.left.0 of.0; right = time_in_range con.right.0 of.1; low = shift.0; high = shift.1 }, tt)
    by (i.At lit time) of = tt
    by (i.Bare lit) of = tt
    by (i.Built built) of = tt
    by (i.Span a from to) of = tt

  stepped_below : (its : List Item) (k : ℕ) → AllByRecursion (IsFormedTimes well.count) its → IsStepped k its → k < well.count
  stepped_below [] k all st = absurd st
  stepped_below (item ∷ its) k all (inl here) = by item all.0 here where
    by : (it : Item) → IsFormedTimes well.count it → IsTimeOf k it → k < well.count
    by (i.At lit time) of same = subst (λ n. n < well.count) same of
    by (i.Span a from to) of (inl same) = subst (λ n. n < well.count) same of.0
    by (i.Span a from to) of (inr same) = subst (λ n. n < well.count) same of.1
    by (i.Bare lit) of none = absurd none
    by (i.Built built) of none = absurd none
    by (i.Con con) of none = absurd none
  stepped_below (item ∷ its) k all (inr later) = stepped_below its k all.1 later

  -- ---- all

  pub limits_within : AllByRecursion (IsWithin well.count) (flat_map (con_of h) items)
  limits_within = cons_in_range items well.times

  pub start_can_be_stepped : IsWithoutCalls text e.sequence → CanBeStepped text (with_limits (entered_node e) (filter is_open (flat_map (con_of h) items)))
  start_can_be_stepped no_calls = record {
    moded = record { scope = well.moded.scope; declared = well.moded.declared; seen = well.moded.seen; moded = moded_rest };
    decided = decided_by_occurring (record { carry = record { values = map f e.sequence.carried_values; times = map h e.sequence.carried_times }; rest = rest; limits = filter is_open (flat_map (con_of h) items) })
        (all_flat (Contains (flat_map (λ left. left_vars left.item) rest)) term_vars (map f e.sequence.carried_values)
        (all_mapped (λ x. AllByRecursion (Contains (flat_map (λ left. left_vars left.item) rest)) (term_vars x)) f e.sequence.carried_values
        (subst (λ vs. AllByRecursion (λ v. AllByRecursion (Contains vs) (term_vars (f v))) e.sequence.carried_values) (sym rest_vars)
        (all_to (λ v. occurs v (flat_map item_vars items) ≡ true) (λ v. AllByRecursion (Contains (flat_map (λ v. term_vars (f v)) (flat_map item_vars items))) (term_vars (f v)))
        (occurring (λ v. AllByRecursion (Contains (flat_map (λ v. term_vars (f v)) (flat_map item_vars items))) (term_vars (f v))) (flat_map item_vars items) (flat_among (λ v. term_vars (f v)) (flat_map item_vars items)))
        e.sequence.carried_values well.carried_values))))
        (all_flat (Contains (rest_unknowns items)) unknowns (map h e.sequence.carried_times)
        (all_mapped (λ time. AllByRecursion (Contains (rest_unknowns items)) (unknowns time)) h e.sequence.carried_times
        (all_to (λ k. IsStepped k items) (λ k. AllByRecursion (Contains (rest_unknowns items)) (unknowns (h k))) (stepped_left items) e.sequence.carried_times well.carried_times)))
        (all_flat (Contains (rest_unknowns items)) (λ (con : LeftCon). unknowns con.left ++ unknowns con.right) (filter is_open (flat_map (con_of h) items))
        (all_kept (λ con. AllByRecursion (Contains (rest_unknowns items)) (unknowns con.left ++ unknowns con.right)) is_open (flat_map (con_of h) items) (cons_left items well.cons)));
    unknowns = well.count;
    timed = record {
      few = let few = well.few in omega (arith, few);
      items = items_in_range items well.times;
      limits = all_kept (IsWithin well.count) is_open (flat_map (con_of h) items) limits_within;
      carried = all_mapped (IsTime well.count) h e.sequence.carried_times
          (all_to (λ k. IsStepped k items) (λ k. IsTime well.count (h k)) (λ k st. time_in_range k (stepped_below items k well.times st)) e.sequence.carried_times well.carried_times);
    };
    no_calls = well.happens no_calls f h;
  }
