-- What an item leaves where it is met: the most general, whatever names variables and unknown times have and whichever known constraints were
-- left out.
use Rattle.std.proofs.Common.{ℕ, Bool, true, false, cond, ◌≡◌, List, [], ◌∷◌, map, refl, sym, ap, subst, ◌∙◌, inl, inr}
use Rattle.std.specs.Prelude.{◌||◌}
use Rattle.std.specs.List.{AllByRecursion}
use Rattle.lps_terms.specs.Put.{after}
use Rattle.lps_meaning.specs.declared.node.Left.{Left}
use Rattle.lps_meaning.specs.declared.node.LeftCon.{LeftCon}
use Rattle.lps_meaning.specs.declared.when.When.{When}
use Rattle.lps_meaning.specs.declared.when.When.TheVariants.{Known, Unknown}
use Rattle.lps_meaning.proofs.Lists.{of_filter}
use Rattle.lps_nodes.specs.Conditions.{IsLeftLimit}
use Rattle.lps_nodes.specs.Led.{AreVariants}
use Rattle.lps_nodes.specs.Shapes.{Shape, is_unknown, put_left_con, put_shape, untested}
use Rattle.lps_nodes.specs.Steps.{PassesTo}
use Rattle.lps_nodes.proofs.ShapeLaws.{after_when, shape_put}
use Rattle.lps_nodes.proofs.TestedLimits.{AreKnownTrue, IsKnownTrue, is_open, open_limits, pass_tested}
use Rattle.lps_residual.specs.Limits.{IsOpenOrTrue}

-- ---- variants

-- an instance of the one is an instance of the other
pub passes_variant : (ls : List Left) (g k h : Shape) → AreVariants k g → PassesTo ls g h → PassesTo ls k h
passes_variant ls g k h same step = record {
  v = after step.v same.v;
  x = after_when step.x same.x;
  own = sym (shape_put step.v same.v step.x same.x k) ∙ ap (put_shape step.v step.x) (sym same.to) ∙ step.own;
  general = λ y z n e. step.general (after y same.u) (after_when z same.y) n (sym (shape_put y same.u z same.y g) ∙ ap (put_shape y z) (sym same.back) ∙ e);
}

-- two shapes that are left by the same items are variants
pub left_variants : (ls : List Left) (g h k : Shape) → PassesTo ls g h → PassesTo ls g k → AreVariants h k
left_variants ls g h k one two =
    let there = one.general two.v two.x k two.own in
    let back = two.general one.v one.x h one.own in
    record { v = there.0; x = there.1; to = there.2; u = back.0; y = back.1; back = back.2 }

pub variants_after : (g h k : Shape) → AreVariants g h → h ≡ k → AreVariants g k
variants_after g h k same e = subst (AreVariants g) e same

-- ---- constraints

pub known_of_open : (limits : List LeftCon) → AllByRecursion IsOpenOrTrue limits → AreKnownTrue limits
known_of_open [] h = tt
known_of_open (con ∷ limits) h = (by h.0, known_of_open limits h.1)
  where
    true_false : true ≡ false → ⊥
    true_false e = cc

    by : IsOpenOrTrue con → IsKnownTrue con
    by (inl is) none = absurd (true_false (sym is ∙ none))
    by (inr is) none = is

pub open_of_known : (limits : List LeftCon) → AreKnownTrue limits → AllByRecursion IsOpenOrTrue limits
open_of_known [] h = tt
open_of_known (con ∷ limits) h = (by (is_open con) refl, open_of_known limits h.1)
  where
    by : (b : Bool) → is_open con ≡ b → IsOpenOrTrue con
    by true e = inl e
    by false e = inr (h.0 e)

-- a constraint whose times are all known stays as it is
known_stays : (x : ℕ → When) (con : LeftCon) → is_open con ≡ false → put_left_con x con ≡ con
known_stays x con none = by con.left con.right refl refl
  where
    true_false : true ≡ false → ⊥
    true_false e = cc

    by : (left right : When) → con.left ≡ left → con.right ≡ right → put_left_con x con ≡ con
    by (Known n) (Known m) one two =
        (λ j. put_left_con x (record { left = one j; rel = con.rel; right = two j; plus = con.plus })) ∙ (λ j. record { left = sym one j; rel = con.rel; right = sym two j; plus = con.plus })
    by (Unknown k) right one two = absurd (true_false (sym (ap (λ time. is_unknown time || is_unknown con.right) one) ∙ none))
    by (Known n) (Unknown k) one two = absurd (true_false (sym (λ j. is_unknown (one j) || is_unknown (two j)) ∙ none))

-- where the known ones are true with something put in, they were true before
pub known_back : (x : ℕ → When) (limits : List LeftCon) → AreKnownTrue (map (put_left_con x) limits) → AreKnownTrue limits
known_back x [] h = tt
known_back x (con ∷ limits) h =
    (λ none. subst (IsLeftLimit (λ k. 0)) (known_stays x con none) (h.0 (ap is_open (known_stays x con none) ∙ none)), known_back x limits h.1)

open_twice : (limits : List LeftCon) → open_limits (open_limits limits) ≡ open_limits limits
open_twice [] = refl
open_twice (con ∷ limits) = by (open_twice limits) (is_open con) refl
  where
    by : open_limits (open_limits limits) ≡ open_limits limits → (b : Bool) → is_open con ≡ b → open_limits (cond b (con ∷ open_limits limits) (open_limits limits)) ≡ cond b (con ∷ open_limits limits) (open_limits limits)
    by more true e = ap (λ b. cond b (con ∷ open_limits (open_limits limits)) (open_limits (open_limits limits))) e ∙ ap (λ limits. con ∷ limits) more
    by more false e = more

untested_twice : (g : Shape) → untested (untested g) ≡ untested g
untested_twice g = λ i. record { carry = g.carry; rest = g.rest; limits = open_twice g.limits i }

-- ---- steps of a shape, told of another that is the same but for names and known constraints

module _ (ls : List Left) (g k h : Shape) (variants : AreVariants (untested k) g) (known : AreKnownTrue k.limits) (step : PassesTo ls g h) where
  -- the shape that the other leaves, which is the same without known constraints; they are true where these are
  pub record LeavesSame : Type 0 where
    pub left : Shape
    pub passes : PassesTo ls k left
    pub same : untested h ≡ untested left
    pub fits : AreKnownTrue h.limits → AreKnownTrue left.limits

  pub leaves_same : LeavesSame
  leaves_same =
      let found = pass_tested (untested k) k (untested_twice k) ls h (passes_variant ls g (untested k) h variants step) in
      record { left = found.0; passes = found.1; same = found.2; fits = found.3 (λ all. known) }

  -- known constraints are true behind the one where they are behind the other
  pub fits_back : (left : Shape) → PassesTo ls k left → AreKnownTrue left.limits → AreKnownTrue h.limits
  fits_back left passes true_left =
      let found = pass_tested k (untested k) (sym (untested_twice k)) ls left passes in
      let same = left_variants ls (untested k) h found.0 (passes_variant ls g (untested k) h variants step) found.1 in
      known_back same.x h.limits (subst (λ (z : Shape). AreKnownTrue z.limits) same.to (found.3 (λ all. of_filter IsKnownTrue is_open k.limits all) true_left))
