-- Two shapes that are instances of each other are so without the constraints whose times are all known.
use Rattle.std.proofs.Common.{ℕ, Bool, true, false, cond, ◌≡◌, List, [], ◌∷◌, ◌++◌, ◌∙◌, map, refl, ap}
use Rattle.std.specs.Prelude.{◌||◌}
use Rattle.std.specs.List.{AllByRecursion, flat_map}
use Rattle.lps_terms.specs.declared.term.Term.{Term}
use Rattle.lps_meaning.specs.declared.node.LeftCon.{LeftCon}
use Rattle.lps_meaning.specs.declared.when.When.{When}
use Rattle.lps_meaning.specs.declared.when.When.TheVariants.{Known, Unknown}
use Rattle.lps_meaning.specs.Goals.{AreAllGround}
use Rattle.lps_meaning.specs.Sequences.{Place, Times, Values}
use Rattle.lps_meaning.proofs.Occurrences.{all_behind, all_front}
use Rattle.lps_nodes.specs.Led.{AreVariants}
use Rattle.lps_nodes.specs.Shapes.{IsCanonical, IsGeneral, Sequence, Shape, is_unknown, left_unknowns, put_left_con, put_shape, put_when, unknowns, untested}
use Rattle.lps_nodes.proofs.Canonical.{number_in, one_shape, unknowns_renamed}
use Rattle.lps_nodes.proofs.ShapeLaws.{after_when, shape_put, variants}
use Rattle.lps_nodes.proofs.TestedLimits.{is_open, open_limits}
use Rattle.lps_terms.specs.Put.{after}

-- a time that is renamed stays unknown
unknown_stays : (x : ℕ → When) (time : When) → AllByRecursion (λ k. x k ≡ Unknown (number_in (x k))) (unknowns time) → is_unknown (put_when x time) ≡ is_unknown time
unknown_stays x (Known n) h = refl
unknown_stays x (Unknown k) h = ap is_unknown h.0

open_renamed : (x : ℕ → When) (limits : List LeftCon) → AllByRecursion (λ k. x k ≡ Unknown (number_in (x k))) (flat_map (λ con. unknowns con.left ++ unknowns con.right) limits) →
    open_limits (map (put_left_con x) limits) ≡ map (put_left_con x) (open_limits limits)
open_renamed x [] h = refl
open_renamed x (con ∷ limits) h =
    let here = all_front (λ k. x k ≡ Unknown (number_in (x k))) (unknowns con.left ++ unknowns con.right) (flat_map (λ con. unknowns con.left ++ unknowns con.right) limits) h in
    let later = all_behind (λ k. x k ≡ Unknown (number_in (x k))) (unknowns con.left ++ unknowns con.right) (flat_map (λ con. unknowns con.left ++ unknowns con.right) limits) h in
    let left = unknown_stays x con.left (all_front (λ k. x k ≡ Unknown (number_in (x k))) (unknowns con.left) (unknowns con.right) here) in
    let right = unknown_stays x con.right (all_behind (λ k. x k ≡ Unknown (number_in (x k))) (unknowns con.left) (unknowns con.right) here) in
    by (open_renamed x limits later) (is_open (put_left_con x con)) (is_open con) (λ j. left j || right j)
  where
    by : open_limits (map (put_left_con x) limits) ≡ map (put_left_con x) (open_limits limits) → (b c : Bool) → b ≡ c →
        cond b (put_left_con x con ∷ open_limits (map (put_left_con x) limits)) (open_limits (map (put_left_con x) limits)) ≡ map (put_left_con x) (cond c (con ∷ open_limits limits) (open_limits limits))
    by more true true e = ap (λ limits. put_left_con x con ∷ limits) more
    by more false false e = more
    by more true false e = cc
    by more false true e = cc

one_way : (g h : Shape) (v u : ℕ → Term) (x y : ℕ → When) → h ≡ put_shape v x g → g ≡ put_shape u y h → untested h ≡ put_shape v x (untested g)
one_way g h v u x y there back =
    let renamed = unknowns_renamed g h v u x y there back (shape_put u v y x g) in
    let in_limits = all_behind (λ k. x k ≡ Unknown (number_in (x k))) (flat_map unknowns g.carry.times ++ flat_map (λ left. left_unknowns left.item) g.rest)
    (flat_map (λ con. unknowns con.left ++ unknowns con.right) g.limits) renamed in
    λ j. record {
      carry = (there j).carry;
      rest = (there j).rest;
      limits = (ap (λ (z : Shape). open_limits z.limits) there ∙ open_renamed x g.limits in_limits) j;
    }

pub untested_variants : (g h : Shape) → AreVariants g h → AreVariants (untested g) (untested h)
untested_variants g h r = record {
  v = r.v;
  x = r.x;
  to = one_way g h r.v r.u r.x r.y r.to r.back;
  u = r.u;
  y = r.y;
  back = one_way h g r.u r.v r.y r.x r.back r.to;
}

-- two most general shapes of a place are so
pub general_variants : (q : Sequence) (s : Values) (t : Times) → AreAllGround s → (place : Place) (g h : Shape) → IsGeneral q s t place g → IsGeneral q s t place h → AreVariants (untested g) (untested h)
general_variants q s t ground place g h one two =
    let there = variants q s t ground place g h one two in
    let back = variants q s t ground place h g two one in
    untested_variants g h (record { v = there.0; x = there.1; to = there.2; u = back.0; y = back.1; back = back.2 })

-- two instances of one shape that are both canonical are one
pub canonical_same : (g h k : Shape) → AreVariants g h → AreVariants g k → IsCanonical h → IsCanonical k → h ≡ k
canonical_same g h k one two first second =
    one_shape h k (after two.v one.u) (after one.v two.u) (after_when two.x one.y) (after_when one.x two.y)
    (two.to ∙ ap (put_shape two.v two.x) one.back ∙ shape_put two.v one.u two.x one.y h)
    (one.to ∙ ap (put_shape one.v one.x) two.back ∙ shape_put one.v two.u one.x two.y k)
    (shape_put (after one.v two.u) (after two.v one.u) (after_when one.x two.y) (after_when two.x one.y) h) first second
