-- Constraints whose times are all known are true with all numbers where they are with some.
use Rattle.std.proofs.Common.{ℕ, Bool, true, false, cond, ◌≡◌, List, [], ◌∷◌, ◌∙◌, refl, sym, ap, subst}
use Rattle.std.specs.Prelude.{◌||◌, ◌+ℤ◌, pos, None}
use Rattle.std.specs.List.{AllByRecursion}
use Rattle.lps_terms.specs.declared.text.Text.{Text}
use Rattle.lps_meaning.specs.declared.node.Left.{Left}
use Rattle.lps_meaning.specs.declared.node.LeftCon.{LeftCon}
use Rattle.lps_meaning.specs.declared.when.When.{When}
use Rattle.lps_meaning.specs.declared.when.When.TheVariants.{Known, Unknown}
use Rattle.lps_meaning.specs.Sequences.{Relates}
use Rattle.lps_meaning.proofs.Lists.{of_filter}
use Rattle.lps_nodes.specs.Conditions.{AreLeftInOrder, CanComeTrue, IsLeftLimit, IsLeftSmall, time_in}
use Rattle.lps_nodes.specs.Shapes.{Shape, is_unknown, untested}
use Rattle.lps_nodes.proofs.TestedLimits.{AreKnownTrue, is_open, open_limits}

true_false : true ≡ false → ⊥
true_false e = cc

known_time : (x z : ℕ → ℕ) (time : When) → is_unknown time ≡ false → time_in x time ≡ time_in z time
known_time x z (Known n) none = refl
known_time x z (Unknown k) none = absurd (true_false none)

neither : (a b : Bool) → (a || b) ≡ false → (a ≡ false) × (b ≡ false)
neither true b e = absurd (true_false e)
neither false b e = (refl, e)

known_limit : (x z : ℕ → ℕ) (con : LeftCon) → is_open con ≡ false → IsLeftLimit x con → IsLeftLimit z con
known_limit x z con is h =
    let none = neither (is_unknown con.left) (is_unknown con.right) is in
    let left = known_time x z con.left none.0 in
    let right = known_time x z con.right none.1 in
    subst (λ n. Relates con.rel (pos n) (pos (time_in z con.right) +ℤ con.plus)) left (subst (λ n. Relates con.rel (pos (time_in x con.left)) (pos n +ℤ con.plus)) right h)

pub known_of_limits : (z : ℕ → ℕ) (limits : List LeftCon) → AllByRecursion (IsLeftLimit z) limits → AreKnownTrue limits
known_of_limits z [] h = tt
known_of_limits z (con ∷ limits) h = (λ none. known_limit z (λ k. 0) con none h.0, known_of_limits z limits h.1)

pub limits_of_known : (z : ℕ → ℕ) (limits : List LeftCon) → AreKnownTrue limits → AllByRecursion (IsLeftLimit z) (open_limits limits) → AllByRecursion (IsLeftLimit z) limits
limits_of_known z [] known h = tt
limits_of_known z (con ∷ limits) known h = by (limits_of_known z limits known.1) (is_open con) refl h
  where
    by : (AllByRecursion (IsLeftLimit z) (open_limits limits) → AllByRecursion (IsLeftLimit z) limits) → (b : Bool) → is_open con ≡ b →
        AllByRecursion (IsLeftLimit z) (cond b (con ∷ open_limits limits) (open_limits limits)) → AllByRecursion (IsLeftLimit z) (con ∷ limits)
    by more true is h = (h.0, more h.1)
    by more false is h = (known_limit (λ k. 0) z con is (known.0 is), more h)

-- what can come true can with other known constraints that are true
pub can_to : (text : Text) (now : ℕ) (g h : Shape) → untested g ≡ untested h → (AreKnownTrue g.limits → AreKnownTrue h.limits) → CanComeTrue text now g → CanComeTrue text now h
can_to text now g h same fit can =
    let rests : g.rest ≡ h.rest = ap (λ (z : Shape). z.rest) same in
    record {
      times = can.times;
      first = can.first;
      behind = can.behind;
      is_first = sym rests ∙ can.is_first;
      ahead = can.ahead;
      in_order = subst (AreLeftInOrder text can.times now None) rests can.in_order;
      limits = limits_of_known can.times h.limits (fit (known_of_limits can.times g.limits can.limits))
          (subst (AllByRecursion (IsLeftLimit can.times)) (ap (λ (z : Shape). z.limits) same) (of_filter (IsLeftLimit can.times) is_open g.limits can.limits));
      small = subst (AllByRecursion (λ (left : Left). IsLeftSmall left.item)) rests can.small;
    }
