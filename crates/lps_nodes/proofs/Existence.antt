-- Each single step that values make has a most general one, so steps along a walk reach a most general shape of its end.
use Rattle.std.proofs.Common.{ℕ, ℤ, zero, suc, Bool, true, false, cond, ◌≡◌, List, [], ◌∷◌, ◌++◌, ◌∙◌, map, refl, sym, ap, subst, arith}
use Rattle.std.specs.Prelude.{pos, negsuc, nat_eq, ◌||◌, None}
use Rattle.std.specs.List.{AllByRecursion, flat_map}
use Rattle.std.proofs.lemmas.Bool.Decides.{nat_tests}
use Rattle.lps_terms.specs.declared.atom.Atom.{Atom}
use Rattle.lps_terms.specs.declared.term.Term.{Term}
use Rattle.lps_terms.specs.declared.term.Term.TheVariants as t
use Rattle.lps_terms.specs.declared.term.Term.TheVariants.{Int, Sym, Var}
use Rattle.lps_terms.specs.declared.text.Text.{Text}
use Rattle.lps_terms.specs.Forms.{term_ind}
use Rattle.lps_terms.specs.Order.{rank_of}
use Rattle.lps_terms.specs.Put.{put, put_atom, after, put-put, put-Int, put-Sym, put-App, put-Var}
use Rattle.lps_meaning.specs.declared.node.Left.{Left}
use Rattle.lps_meaning.specs.declared.node.LeftItem.{LeftItem}
use Rattle.lps_meaning.specs.declared.node.LeftItem.TheVariants as l
use Rattle.lps_meaning.specs.declared.when.When.{When}
use Rattle.lps_meaning.specs.declared.when.When.TheVariants.{Known, Unknown}
use Rattle.lps_model.specs.Rules.{MacroClause}
use Rattle.lps_meaning.specs.Sequences.{entries}
use Rattle.lps_nodes.specs.Shapes.{Shape, put_when, put_left_item, put_left, put_left_con, put_shape, left_of, con_of, left_vars, left_unknowns}
use Rattle.lps_nodes.specs.Steps.{in_front, PassesTo, Unfolds, UnfoldsTo}
use Rattle.lps_meaning.proofs.Occurrences.{all_to}
use Rattle.lps_nodes.proofs.OwnShapes.{own, own_time, own_shape}
use Rattle.lps_nodes.proofs.ShapeLaws.{after_when, item_put, map_append, flat_after, con_after, left_after, rest_put, shape_put}
use Rattle.lps_nodes.proofs.ShapeTerms.{same_item, item_same_vars, item_same_unknowns}
use Rattle.lps_nodes.proofs.Unifiers.{Pair, Solves, Unifier, unifier, pairs, pairs_solved, pairs_equal, is_in}

false_true : false ≡ true → ⊥
false_true e = cc

-- ---- items that are met

pub in_self : (vs : List ℕ) → AllByRecursion (λ v. is_in v vs ≡ true) vs
in_self [] = tt
in_self (v ∷ vs) = (ap (λ b. b || is_in v vs) (self v), all_to (λ w. is_in w vs ≡ true) (λ w. (nat_eq v w || is_in w vs) ≡ true) (λ w e. right (nat_eq v w) (is_in w vs) e) vs (in_self vs))
  where
    self : (v : ℕ) → nat_eq v v ≡ true
    self v = grind (arith, nat_tests)

    right : (a b : Bool) → b ≡ true → (a || b) ≡ true
    right true b e = refl
    right false b e = e

-- what is known of each of these is known of one
pub of_in : (P : ℕ → Type 0) (vs : List ℕ) → AllByRecursion P vs → (v : ℕ) → is_in v vs ≡ true → P v
of_in P [] all v e = absurd (false_true e)
of_in P (w ∷ vs) all v e = by (λ q. of_in P vs all.1 v q) (nat_eq w v) refl
  where
    same : (w v : ℕ) → nat_eq w v ≡ true → w ≡ v
    same w v e = grind (arith, nat_tests)

    by : (is_in v vs ≡ true → P v) → (b : Bool) → nat_eq w v ≡ b → P v
    by later true is = subst P (same w v is) all.0
    by later false is = later (sym (ap (λ b. b || is_in v vs) is) ∙ e)

-- v of these numbers, and the others in their own places
abbrev pub only : (ℕ → Term) → List ℕ → ℕ → Term
only v vs n = cond (is_in n vs) (v n) (t.Var n)

abbrev pub only_times : (ℕ → When) → List ℕ → ℕ → When
only_times x ks k = cond (is_in k ks) (x k) (Unknown k)

module _ (v0 : ℕ → Term) (x0 : ℕ → When) (item told : LeftItem) (solved : put_left_item v0 x0 item ≡ told) (fixed : (r : ℕ → Term) (z : ℕ → When) → put_left_item r z told ≡ told) where
  abbrev v : ℕ → Term
  v = only v0 (left_vars item)

  abbrev x : ℕ → When
  x = only_times x0 (left_unknowns item)

  here : put_left_item v x item ≡ told
  here =
      same_item v v0 x x0 item
      (all_to (λ n. is_in n (left_vars item) ≡ true) (λ n. v n ≡ v0 n) (λ n e. ap (λ b. cond b (v0 n) (t.Var n)) e) (left_vars item) (in_self (left_vars item)))
      (all_to (λ k. is_in k (left_unknowns item) ≡ true) (λ k. x k ≡ x0 k) (λ k e. ap (λ b. cond b (x0 k) (Unknown k)) e) (left_unknowns item) (in_self (left_unknowns item)))
      ∙ solved

  module _ (y : ℕ → Term) (z : ℕ → When) (other : put_left_item y z item ≡ told) where
    -- y makes of what stands in the item what v0 does, and changes nothing of that
    again : put_left_item (after y v0) (after_when z x0) item ≡ put_left_item v0 x0 item
    again = sym (item_put y v0 z x0 item) ∙ ap (put_left_item y z) solved ∙ fixed y z ∙ sym solved

    terms_through : (n : ℕ) → put y (v n) ≡ y n
    terms_through n = by (is_in n (left_vars item)) refl
      where
        by : (b : Bool) → is_in n (left_vars item) ≡ b → put y (cond b (v0 n) (t.Var n)) ≡ y n
        by true e =
            of_in (λ m. put y (v0 m) ≡ v0 m) (left_vars item) (item_same_vars (after y v0) v0 (after_when z x0) x0 item again) n e
            ∙ of_in (λ m. v0 m ≡ y m) (left_vars item) (item_same_vars v0 y x0 z item (solved ∙ sym other)) n e
        by false e = put-Var y n

    times_through : (k : ℕ) → put_when z (x k) ≡ z k
    times_through k = by (is_in k (left_unknowns item)) refl
      where
        by : (b : Bool) → is_in k (left_unknowns item) ≡ b → put_when z (cond b (x0 k) (Unknown k)) ≡ z k
        by true e =
            of_in (λ m. put_when z (x0 m) ≡ x0 m) (left_unknowns item) (item_same_unknowns (after y v0) v0 (after_when z x0) x0 item again) k e
            ∙ of_in (λ m. x0 m ≡ z m) (left_unknowns item) (item_same_unknowns v0 y x0 z item (solved ∙ sym other)) k e
        by false e = refl

abbrev pub first_item : LeftItem → List Left → LeftItem
first_item d [] = d
first_item d (left ∷ rest) = left.item

abbrev first_nest : ℕ → List Left → ℕ
first_nest d [] = d
first_nest d (left ∷ rest) = left.nest

abbrev rest_of : List Left → List Left
rest_of [] = []
rest_of (left ∷ rest) = rest

-- one item is met as a told one
module _ (g : Shape) (left told : Left) (lefts : List Left) (is : g.rest ≡ left ∷ lefts) (fixed : (r : ℕ → Term) (z : ℕ → When) → put_left_item r z told.item ≡ told.item)
    (v0 : ℕ → Term) (x0 : ℕ → When) (k0 : Shape) (solution : put_shape v0 x0 g ≡ in_front (told ∷ []) k0) where
  -- what the first item becomes under values that make it the told one
  rest_put_is : (y : ℕ → Term) (z : ℕ → When) → map (put_left y z) g.rest ≡ put_left y z left ∷ map (put_left y z) lefts
  rest_put_is y z = ap (map (put_left y z)) is

  item_told : (y : ℕ → Term) (z : ℕ → When) (k : Shape) → put_shape y z g ≡ in_front (told ∷ []) k → put_left_item y z left.item ≡ told.item
  item_told y z k e = ap (first_item told.item) (sym (rest_put_is y z) ∙ ap (λ h. h.rest) e)

  nest_told : left.nest ≡ told.nest
  nest_told = ap (first_nest told.nest) (sym (rest_put_is v0 x0) ∙ ap (λ h. h.rest) solution)

  solved : put_left_item v0 x0 left.item ≡ told.item
  solved = item_told v0 x0 k0 solution

  abbrev v1 : ℕ → Term
  v1 = v v0 x0 left.item told.item solved fixed

  abbrev x1 : ℕ → When
  x1 = x v0 x0 left.item told.item solved fixed

  abbrev passed_shape : Shape
  passed_shape = record { carry = (put_shape v1 x1 g).carry; rest = map (put_left v1 x1) lefts; limits = (put_shape v1 x1 g).limits }

  pub pass_one : (h : Shape) × PassesTo (told ∷ []) g h
  pass_one = (
    passed_shape,
    record {
      v = v1;
      x = x1;
      own = λ j. record {
        carry = (put_shape v1 x1 g).carry;
        rest = (rest_put_is v1 x1 ∙ (λ i. record { item = here v0 x0 left.item told.item solved fixed i; nest = nest_told i } ∷ map (put_left v1 x1) lefts)) j;
        limits = (put_shape v1 x1 g).limits;
      };
      general = λ y z k e.
          let other = item_told y z k e in
          let terms : ◌≡◌ {A = ℕ → Term} (after y v1) y = λ i n. terms_through v0 x0 left.item told.item solved fixed y z other n i in
          let times : ◌≡◌ {A = ℕ → When} (after_when z x1) z = λ i n. times_through v0 x0 left.item told.item solved fixed y z other n i in
          let whole : put_shape y z (put_shape v1 x1 g) ≡ put_shape y z g = shape_put y v1 z x1 g ∙ (λ i. put_shape (terms i) (times i) g) in
          let behind : k.rest ≡ map (put_left y z) lefts = ap rest_of (sym (ap (λ h. h.rest) e) ∙ rest_put_is y z) in
          let again : map (put_left y z) (map (put_left v1 x1) lefts) ≡ map (put_left y z) lefts = rest_put y v1 z x1 lefts ∙ (λ i. map (put_left (terms i) (times i)) lefts) in (
            y,
            z,
            λ i. record {
              carry = (ap (λ h. h.carry) (sym e) ∙ sym (ap (λ h. h.carry) whole)) i;
              rest = (behind ∙ sym again) i;
              limits = (ap (λ h. h.limits) (sym e) ∙ sym (ap (λ h. h.limits) whole)) i;
            },
          );
    },
  )

-- nothing is met
pub pass_none : (g : Shape) → PassesTo [] g g
pass_none g = record { v = own; x = own_time; own = own_shape g; general = λ y z k e. (y, z, sym e) }

-- ---- two kinds of variables in one numbering

abbrev even : ℕ → ℕ
even zero = zero
even (suc n) = suc (suc (even n))

abbrev odd : ℕ → ℕ
odd n = suc (even n)

abbrev split : {X : Type 0} → (ℕ → X) → (ℕ → X) → ℕ → X
split f h zero = f zero
split f h (suc zero) = h zero
split f h (suc (suc n)) = split (λ k. f (suc k)) (λ k. h (suc k)) n

split_even : {X : Type 0} (f h : ℕ → X) (n : ℕ) → split f h (even n) ≡ f n
split_even f h zero = refl
split_even f h (suc n) = split_even (λ k. f (suc k)) (λ k. h (suc k)) n

split_odd : {X : Type 0} (f h : ℕ → X) (n : ℕ) → split f h (odd n) ≡ h n
split_odd f h zero = refl
split_odd f h (suc n) = split_odd (λ k. f (suc k)) (λ k. h (suc k)) n

-- the variables of a call, and those of a clause
abbrev of_call : ℕ → Term
of_call n = t.Var (even n)

abbrev of_clause : ℕ → Term
of_clause n = t.Var (odd n)

abbrev in_call : List Term → List Term
in_call xs = map (put of_call) xs

abbrev in_clause : List Term → List Term
in_clause xs = map (put of_clause) xs

map_put : (s r : ℕ → Term) (xs : List Term) → map (put s) (map (put r) xs) ≡ map (put (after s r)) xs
map_put s r [] = refl
map_put s r (x ∷ xs) = λ i. put-put s r x i ∷ map_put s r xs i

call_by : (y u : ℕ → Term) (xs : List Term) → map (put (split y u)) (in_call xs) ≡ map (put y) xs
call_by y u xs = map_put (split y u) of_call xs ∙ (λ i. map (put (λ n. (put-Var (split y u) (even n) ∙ split_even y u n) i)) xs)

clause_by : (y u : ℕ → Term) (xs : List Term) → map (put (split y u)) (in_clause xs) ≡ map (put u) xs
clause_by y u xs = map_put (split y u) of_clause xs ∙ (λ i. map (put (λ n. (put-Var (split y u) (odd n) ∙ split_odd y u n) i)) xs)

-- ---- times as terms

abbrev coded : When → Term
coded (Known n) = t.Int (pos n)
coded (Unknown k) = t.Var k

abbrev decoded_integer : ℤ → When
decoded_integer (pos n) = Known n
decoded_integer (negsuc n) = Known 0

abbrev decoded : Term → When
decoded (Int z) = decoded_integer z
decoded (Var k) = Unknown k
decoded _ = Known 0

decoded_coded : (time : When) → decoded (coded time) ≡ time
decoded_coded (Known n) = refl
decoded_coded (Unknown k) = refl

abbrev IsCoded : Term → Type 0
IsCoded x = coded (decoded x) ≡ x

abbrev number_of : Term → ℤ
number_of (Int z) = z
number_of _ = pos 0

-- what becomes the code of a time is one
coded_before : (r : ℕ → Term) (x : Term) (time : When) → put r x ≡ coded time → IsCoded x
coded_before r = term_ind (λ x. (time : When) → put r x ≡ coded time → IsCoded x)
    (λ z time e. of_int z time (sym (put-Int r z) ∙ e)) (λ n time e. absurd (no_name 2 (t.Sym n) time refl (sym (put-Sym r n) ∙ e)))
    (λ n ts each time e. absurd (no_name 2 (t.App n (map (put r) ts)) time refl (sym (put-App r n ts) ∙ e))) (λ v time e. refl)
  where
    of_number : (z : ℤ) (n : ℕ) → z ≡ pos n → IsCoded (t.Int z)
    of_number z n e = subst (λ y. IsCoded (t.Int y)) (sym e) refl

    of_int : (z : ℤ) (time : When) → t.Int z ≡ coded time → IsCoded (t.Int z)
    of_int z (Known n) e = of_number z n (ap number_of e)
    of_int z (Unknown k) e = let r : ◌≡◌ {A = ℕ} 1 0 = ap rank_of e in absurd (omega arith)

    no_name : (m : ℕ) (x : Term) (time : When) → rank_of x ≡ 2 → x ≡ coded time → ⊥
    no_name m x (Known n) rank e = let r : ◌≡◌ {A = ℕ} 2 1 = sym rank ∙ ap rank_of e in omega arith
    no_name m x (Unknown k) rank e = let r : ◌≡◌ {A = ℕ} 2 0 = sym rank ∙ ap rank_of e in omega arith

-- codes go through what is put in
coded_put : (r : ℕ → Term) → ((k : ℕ) → IsCoded (r k)) → (time : When) → put r (coded time) ≡ coded (put_when (λ k. decoded (r k)) time)
coded_put r all (Known n) = put-Int r (pos n)
coded_put r all (Unknown k) = put-Var r k ∙ sym (all k)

abbrev call_time : When → When
call_time (Known n) = Known n
call_time (Unknown k) = Unknown (even k)

split_coded : (z y : ℕ → When) (n : ℕ) → IsCoded (split (λ k. coded (z k)) (λ k. coded (y k)) n)
split_coded z y zero = ap coded (decoded_coded (z 0))
split_coded z y (suc zero) = ap coded (decoded_coded (y 0))
split_coded z y (suc (suc n)) = split_coded (λ k. z (suc k)) (λ k. y (suc k)) n

-- the most general times with which a call agrees with a clause
record Timing (from to : When) (begin end : ℕ) : Type 0 where
  x : ℕ → When
  w : ℕ → When
  begins : put_when x from ≡ w begin
  ends : put_when x to ≡ w end
  general : (z y : ℕ → When) → put_when z from ≡ y begin → put_when z to ≡ y end → (c : ℕ → When) × ((k : ℕ) → put_when c (x k) ≡ z k) × ((n : ℕ) → put_when c (w n) ≡ y n)

module _ (from to : When) (begin end : ℕ) where
  abbrev equations : List Pair
  equations = (coded (call_time from), of_clause begin) ∷ (coded (call_time to), of_clause end) ∷ []

  abbrev joined : (ℕ → When) → (ℕ → When) → ℕ → Term
  joined z y = split (λ k. coded (z k)) (λ k. coded (y k))

  call_time_put : (z y : ℕ → When) (time : When) → put (joined z y) (coded (call_time time)) ≡ coded (put_when z time)
  call_time_put z y (Known n) = put-Int (joined z y) (pos n)
  call_time_put z y (Unknown k) = put-Var (joined z y) (even k) ∙ split_even (λ k. coded (z k)) (λ k. coded (y k)) k

  clause_time_put : (z y : ℕ → When) (n : ℕ) → put (joined z y) (of_clause n) ≡ coded (y n)
  clause_time_put z y n = put-Var (joined z y) (odd n) ∙ split_odd (λ k. coded (z k)) (λ k. coded (y k)) n

  times_solve : (z y : ℕ → When) → put_when z from ≡ y begin → put_when z to ≡ y end → Solves (joined z y) equations
  times_solve z y b e = (
    call_time_put z y from ∙ ap coded b ∙ sym (clause_time_put z y begin),
    (call_time_put z y to ∙ ap coded e ∙ sym (clause_time_put z y end), tt),
  )

  timing : (z0 y0 : ℕ → When) → put_when z0 from ≡ y0 begin → put_when z0 to ≡ y0 end → Timing from to begin end
  timing z0 y0 b0 e0 =
      let q = unifier equations (joined z0 y0) (times_solve z0 y0 b0 e0) in
      let codes : (j : ℕ) → IsCoded (q.sub j) = λ j.
      coded_before (joined z0 y0) (q.sub j) (decoded (joined z0 y0 j)) (q.general (joined z0 y0) (times_solve z0 y0 b0 e0) j ∙ sym (split_coded z0 y0 j)) in
      let x : ℕ → When = λ k. decoded (q.sub (even k)) in
      let w : ℕ → When = λ n. decoded (q.sub (odd n)) in
      let of_time : (time : When) (n : ℕ) → put q.sub (coded (call_time time)) ≡ put q.sub (of_clause n) → put_when x time ≡ w n =
      λ time n e. call_is q.sub codes time n e in
      record {
        x = x;
        w = w;
        begins = of_time from begin q.solves.0;
        ends = of_time to end q.solves.1.0;
        general = λ z y b e.
            let r : ℕ → Term = joined z y in
            let through : (j : ℕ) → put_when (λ k. decoded (r k)) (decoded (q.sub j)) ≡ decoded (r j) = λ j.
            sym (decoded_coded (put_when (λ k. decoded (r k)) (decoded (q.sub j))))
            ∙ ap decoded (sym (coded_put r (split_coded z y) (decoded (q.sub j))) ∙ ap (put r) (codes j) ∙ q.general r (times_solve z y b e) j) in (
              (λ k. decoded (r k)),
              (λ k. through (even k) ∙ ap decoded (split_even (λ k. coded (z k)) (λ k. coded (y k)) k) ∙ decoded_coded (z k)),
              (λ n. through (odd n) ∙ ap decoded (split_odd (λ k. coded (z k)) (λ k. coded (y k)) n) ∙ decoded_coded (y n)),
            );
      }
    where
      call_is : (sub : ℕ → Term) → ((j : ℕ) → IsCoded (sub j)) → (time : When) (n : ℕ) → put sub (coded (call_time time)) ≡ put sub (of_clause n) →
          put_when (λ k. decoded (sub (even k))) time ≡ decoded (sub (odd n))
      call_is sub codes (Known m) n e = ap decoded (sym (put-Int sub (pos m)) ∙ e ∙ put-Var sub (odd n))
      call_is sub codes (Unknown k) n e = ap decoded (sym (put-Var sub (even k)) ∙ e ∙ put-Var sub (odd n))

-- ---- calls that are unfolded

abbrev first_atom : Atom → List Left → Atom
first_atom d [] = d
first_atom d (left ∷ rest) = of_item left.item
  where
    of_item : LeftItem → Atom
    of_item (l.Span a from to) = a
    of_item _ = d

abbrev first_from : List Left → When
first_from [] = Known 0
first_from (left ∷ rest) = of_item left.item
  where
    of_item : LeftItem → When
    of_item (l.Span a from to) = from
    of_item _ = Known 0

abbrev first_to : List Left → When
first_to [] = Known 0
first_to (left ∷ rest) = of_item left.item
  where
    of_item : LeftItem → When
    of_item (l.Span a from to) = to
    of_item _ = Known 0

module _ (text : Text) (clause : MacroClause) (g : Shape) (a : Atom) (from to : When) (nest : ℕ) (lefts : List Left)
    (is : g.rest ≡ record { item = l.Span a from to; nest = nest } ∷ lefts) where
  call_of : (y : ℕ → Term) (z : ℕ → When) → map (put_left y z) g.rest ≡ record { item = l.Span (put_atom y a) (put_when z from) (put_when z to); nest = nest } ∷ map (put_left y z) lefts
  call_of y z = ap (map (put_left y z)) is

  -- what unfolding under some values says of the call
  record CallAgrees (y : ℕ → Term) (z : ℕ → When) (u : ℕ → Term) (w : ℕ → When) (k : Shape) : Type 0 where
    atoms : put_atom y a ≡ put_atom u clause.head
    begins : put_when z from ≡ w clause.begin
    ends : put_when z to ≡ w clause.end
    body : k ≡ record {
      carry = (put_shape y z g).carry;
      rest = flat_map (λ e. left_of u w e.nest e.item) (entries text 0 (suc nest) None clause.items) ++ map (put_left y z) lefts;
      limits = (put_shape y z g).limits ++ flat_map (con_of w) clause.items;
    }

  agrees : (y : ℕ → Term) (z : ℕ → When) (u : ℕ → Term) (w : ℕ → When) (k : Shape) → Unfolds text clause u w (put_shape y z g) k → CallAgrees y z u w k
  agrees y z u w k h =
      let e = sym (call_of y z) ∙ h.call in
      let nests : h.nest ≡ nest = sym (ap (first_nest nest) e) in
      let others : h.rest ≡ map (put_left y z) lefts = sym (ap rest_of e) in
      record {
        atoms = ap (first_atom clause.head) e;
        begins = ap first_from e;
        ends = ap first_to e;
        body = h.body ∙ (λ i. record {
          carry = (put_shape y z g).carry;
          rest = flat_map (λ o. left_of u w o.nest o.item) (entries text 0 (suc (nests i)) None clause.items) ++ others i;
          limits = (put_shape y z g).limits ++ flat_map (con_of w) clause.items;
        });
      }

  module _ (y0 : ℕ → Term) (z0 : ℕ → When) (u0 : ℕ → Term) (w0 : ℕ → When) (k0 : Shape) (solution : Unfolds text clause u0 w0 (put_shape y0 z0 g) k0) where
    abbrev first : CallAgrees y0 z0 u0 w0 k0
    first = agrees y0 z0 u0 w0 k0 solution

    args_first : map (put (split y0 u0)) (in_call a.args) ≡ map (put (split y0 u0)) (in_clause clause.head.args)
    args_first = call_by y0 u0 a.args ∙ ap (λ b. b.args) first.atoms ∙ sym (clause_by y0 u0 clause.head.args)

    match : Unifier (pairs (in_call a.args) (in_clause clause.head.args))
    match = unifier (pairs (in_call a.args) (in_clause clause.head.args)) (split y0 u0) (pairs_solved (split y0 u0) (in_call a.args) (in_clause clause.head.args) args_first)

    times_match : Timing from to clause.begin clause.end
    times_match = timing from to clause.begin clause.end z0 w0 first.begins first.ends

    abbrev v2 : ℕ → Term
    v2 n = match.sub (even n)

    abbrev u2 : ℕ → Term
    u2 n = match.sub (odd n)

    -- the call and the head are equal under it
    heads : put_atom v2 a ≡ put_atom u2 clause.head
    heads =
        let args : map (put match.sub) (in_call a.args) ≡ map (put match.sub) (in_clause clause.head.args) =
        pairs_equal (split y0 u0) match.sub (in_call a.args) (in_clause clause.head.args) args_first match.solves in
        let left : map (put match.sub) (in_call a.args) ≡ map (put v2) a.args = map_put match.sub of_call a.args ∙ (λ i. map (put (λ n. put-Var match.sub (even n) i)) a.args) in
        let right : map (put match.sub) (in_clause clause.head.args) ≡ map (put u2) clause.head.args =
        map_put match.sub of_clause clause.head.args ∙ (λ i. map (put (λ n. put-Var match.sub (odd n) i)) clause.head.args) in
        let all = sym left ∙ args ∙ right in
        λ i. record { name = (first.atoms i).name; args = all i }

    abbrev unfolded_shape : Shape
    unfolded_shape = record {
      carry = (put_shape v2 times_match.x g).carry;
      rest = flat_map (λ e. left_of u2 times_match.w e.nest e.item) (entries text 0 (suc nest) None clause.items) ++ map (put_left v2 times_match.x) lefts;
      limits = (put_shape v2 times_match.x g).limits ++ flat_map (con_of times_match.w) clause.items;
    }

    own_unfolds : Unfolds text clause u2 times_match.w (put_shape v2 times_match.x g) unfolded_shape
    own_unfolds = record {
      nest = nest;
      rest = map (put_left v2 times_match.x) lefts;
      body = refl;
      call = call_of v2 times_match.x ∙ (λ i. record { item = l.Span (heads i) (times_match.begins i) (times_match.ends i); nest = nest } ∷ map (put_left v2 times_match.x) lefts);
    }

    most_general : (y : ℕ → Term) (z : ℕ → When) (u : ℕ → Term) (w : ℕ → When) (k : Shape) → Unfolds text clause u w (put_shape y z g) k →
        (b : ℕ → Term) × (c : ℕ → When) × (k ≡ put_shape b c unfolded_shape)
    most_general y z u w k h =
        let q = agrees y z u w k h in
        let r : ℕ → Term = split y u in
        let solves = pairs_solved r (in_call a.args) (in_clause clause.head.args) (call_by y u a.args ∙ ap (λ b. b.args) q.atoms ∙ sym (clause_by y u clause.head.args)) in
        let terms_y : ◌≡◌ {A = ℕ → Term} (after r v2) y = λ i n. (match.general r solves (even n) ∙ split_even y u n) i in
        let terms_u : ◌≡◌ {A = ℕ → Term} (after r u2) u = λ i n. (match.general r solves (odd n) ∙ split_odd y u n) i in
        let p = times_match.general z w q.begins q.ends in
        let times_z : ◌≡◌ {A = ℕ → When} (after_when p.0 times_match.x) z = λ i n. p.1 n i in
        let times_w : ◌≡◌ {A = ℕ → When} (after_when p.0 times_match.w) w = λ i n. p.2 n i in
        let whole : put_shape r p.0 (put_shape v2 times_match.x g) ≡ put_shape y z g = shape_put r v2 p.0 times_match.x g ∙ (λ i. put_shape (terms_y i) (times_z i) g) in
        let body : map (put_left r p.0) (flat_map (λ e. left_of u2 times_match.w e.nest e.item) (entries text 0 (suc nest) None clause.items))
        ≡ flat_map (λ e. left_of u w e.nest e.item) (entries text 0 (suc nest) None clause.items) =
        flat_after (put_left r p.0) (λ e. left_of u2 times_match.w e.nest e.item) (λ e. left_of (after r u2) (after_when p.0 times_match.w) e.nest e.item)
        (λ e. left_after r u2 p.0 times_match.w e.nest e.item) (entries text 0 (suc nest) None clause.items)
        ∙ (λ i. flat_map (λ e. left_of (terms_u i) (times_w i) e.nest e.item) (entries text 0 (suc nest) None clause.items)) in
        let others : map (put_left r p.0) (map (put_left v2 times_match.x) lefts) ≡ map (put_left y z) lefts =
        rest_put r v2 p.0 times_match.x lefts ∙ (λ i. map (put_left (terms_y i) (times_z i)) lefts) in
        let cons : map (put_left_con p.0) (flat_map (con_of times_match.w) clause.items) ≡ flat_map (con_of w) clause.items =
        flat_after (put_left_con p.0) (con_of times_match.w) (con_of (after_when p.0 times_match.w)) (con_after p.0 times_match.w) clause.items
        ∙ (λ i. flat_map (con_of (times_w i)) clause.items) in (
          r,
          p.0,
          q.body ∙ (λ i. record {
            carry = sym (ap (λ h. h.carry) whole) i;
            rest = sym (map_append (put_left r p.0) (flat_map (λ e. left_of u2 times_match.w e.nest e.item) (entries text 0 (suc nest) None clause.items)) (map (put_left v2 times_match.x) lefts)
                ∙ (λ j. body j ++ others j)) i;
            limits = sym (map_append (put_left_con p.0) (put_shape v2 times_match.x g).limits (flat_map (con_of times_match.w) clause.items)
                ∙ (λ j. (ap (λ h. h.limits) whole) j ++ cons j)) i;
          }),
        )

    pub unfold_one : (h : Shape) × UnfoldsTo text clause g h
    unfold_one = (unfolded_shape, record { v = v2; x = times_match.x; u = u2; w = times_match.w; own = own_unfolds; general = most_general })
