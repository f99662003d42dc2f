-- Two most general shapes of a place with canonical numbers are one.
use Rattle.std.proofs.Common.{ℕ, suc, Bool, true, false, ◌≡◌, ◌<◌, List, [], ◌∷◌, ◌++◌, map, refl, sym, ap, subst, ◌∙◌, arith, inl, inr}
use Rattle.std.specs.Prelude.{◌⊎◌, cond, ◌&&◌, ◌||◌, nat_lt, nat_eq}
use Rattle.std.specs.List.{AllByRecursion, filter, flat_map}
use Rattle.std.proofs.lemmas.Bool.Decides.{nat_tests}
use Rattle.lps_terms.specs.declared.term.Term.{Term}
use Rattle.lps_terms.specs.declared.term.Term.TheVariants as t
use Rattle.lps_terms.specs.declared.term.Term.TheVariants.{Var}
use Rattle.lps_terms.specs.Forms.{term_ind}
use Rattle.lps_terms.specs.Order.{rank_of}
use Rattle.lps_terms.specs.Put.{put, after, put-Int, put-Sym, put-App, put-Var}
use Rattle.lps_model.specs.VariableLists.{term_vars}
use Rattle.lps_meaning.specs.declared.node.LeftCon.{LeftCon}
use Rattle.lps_meaning.specs.declared.node.Node.{Node}
use Rattle.lps_meaning.specs.declared.when.When.{When}
use Rattle.lps_meaning.specs.declared.when.When.TheVariants.{Known, Unknown}
use Rattle.lps_nodes.specs.Nodes.{IsResidual}
use Rattle.lps_meaning.specs.Sequences.{Place, Values, Times}
use Rattle.lps_meaning.specs.Goals.{AreAllGround}
use Rattle.lps_nodes.specs.Shapes.{Sequence, Shape, put_when, put_shape, IsCanonical, is_numbered, unknowns, is_unknown, left_unknowns, shape_vars, shape_unknowns, untested}
use Rattle.lps_meaning.proofs.Occurrences.{all_to, vars-Var}
use Rattle.lps_nodes.proofs.OwnShapes.{own, own_time, own_shape}
use Rattle.lps_meaning.proofs.Splits.{le_or_lt}
use Rattle.lps_nodes.proofs.ShapeLaws.{variants, shape_put}
use Rattle.lps_nodes.proofs.ShapeTerms.{same_shape, shape_same_vars, shape_same_unknowns, vars_of_put, unknowns_of_put}

-- ---- numbering

either_true : (a b c d : Bool) → ((a && b) || (c && d)) ≡ true → ((a ≡ true) × (b ≡ true)) ⊎ ((c ≡ true) × (d ≡ true))
either_true true true c d e = inl (refl, refl)
either_true true false true true e = inr (refl, refl)
either_true true false true false e = absurd (cc)
either_true true false false d e = absurd (cc)
either_true false b true true e = inr (refl, refl)
either_true false b true false e = absurd (cc)
either_true false b false d e = absurd (cc)

below_is : (m n : ℕ) → nat_lt m n ≡ true → m < n
below_is m n e = grind (arith, nat_tests)

equal_is : (m n : ℕ) → nat_eq m n ≡ true → m ≡ n
equal_is m n e = grind (arith, nat_tests)

-- f renames what was numbered by first occurrence to what is so numbered, and back renames it back: then f changes nothing
module _ (f back : ℕ → ℕ) where
  numbers_same : (n : ℕ) (vs : List ℕ) → ((m : ℕ) → m < n → (f m ≡ m) × (back m ≡ m)) → AllByRecursion (λ v. back (f v) ≡ v) vs →
      is_numbered n vs ≡ true → is_numbered n (map f vs) ≡ true → AllByRecursion (λ v. f v ≡ v) vs
  numbers_same n [] low renamed one two = tt
  numbers_same n (v ∷ vs) low renamed one two =
      elim (either_true (nat_lt v n) (is_numbered n vs) (nat_eq v n) (is_numbered (suc n) vs) one) [
        | inl h ↦
            let same = (low v (below_is v n h.0)).0 in
            elim (either_true (nat_lt (f v) n) (is_numbered n (map f vs)) (nat_eq (f v) n) (is_numbered (suc n) (map f vs)) two) [
              | inl g ↦ (same, numbers_same n vs low renamed.1 h.1 g.1)
              | inr g ↦ let lt = below_is v n h.0 in let at = equal_is (f v) n g.0 in absurd (omega (arith, same, at))
            ]
        | inr h ↦
            let here : v ≡ n = equal_is v n h.0 in
            elim (either_true (nat_lt (f v) n) (is_numbered n (map f vs)) (nat_eq (f v) n) (is_numbered (suc n) (map f vs)) two) [
              | inl g ↦
                  let lt = below_is (f v) n g.0 in
                  let stays = (low (f v) lt).1 in
                  let round = renamed.0 in absurd (omega (arith, here, stays, round))
              | inr g ↦
                  let at : f v ≡ n = equal_is (f v) n g.0 in
                  let first : f n ≡ n = subst (λ k. f k ≡ n) here at in
                  let second : back n ≡ n = ap back (sym at) ∙ renamed.0 ∙ here in
                  (at ∙ sym here, numbers_same (suc n) vs (below n first second low) renamed.1 h.1 g.1)
            ]
      ]
    where
      below : (n : ℕ) → f n ≡ n → back n ≡ n → ((m : ℕ) → m < n → (f m ≡ m) × (back m ≡ m)) → (m : ℕ) → m < suc n → (f m ≡ m) × (back m ≡ m)
      below n first second low m lt =
          elim (le_or_lt n m) [
            | inl le ↦ let same : n ≡ m = omega arith in (subst (λ k. f k ≡ k) same first, subst (λ k. back k ≡ k) same second)
            | inr less ↦ low m less
          ]

-- ---- what renames variables

abbrev var_in : Term → ℕ
var_in (Var v) = v
var_in _ = 0

abbrev pub number_in : When → ℕ
number_in (Unknown k) = k
number_in (Known n) = 0

is_var : (s : ℕ → Term) (n : ℕ) (x : Term) → put s x ≡ t.Var n → x ≡ t.Var (var_in x)
is_var s n = term_ind (λ x. put s x ≡ t.Var n → x ≡ t.Var (var_in x))
    (λ z e. let r : ◌≡◌ {A = ℕ} 1 0 = ap rank_of (sym (put-Int s z) ∙ e) in absurd (omega arith))
    (λ m e. let r : ◌≡◌ {A = ℕ} 2 0 = ap rank_of (sym (put-Sym s m) ∙ e) in absurd (omega arith))
    (λ m ts each e. let r : ◌≡◌ {A = ℕ} 2 0 = ap rank_of (sym (put-App s m ts) ∙ e) in absurd (omega arith))
    (λ v e. refl)

is_unknown_time : (x : ℕ → When) (k : ℕ) (time : When) → put_when x time ≡ Unknown k → time ≡ Unknown (number_in time)
is_unknown_time x k (Known n) e = cc
is_unknown_time x k (Unknown j) e = refl

-- renamed by numbers, lists of variables are renamed
renamed_vars : (s : ℕ → Term) (vs : List ℕ) → AllByRecursion (λ v. s v ≡ t.Var (var_in (s v))) vs → flat_map (λ v. term_vars (s v)) vs ≡ map (λ v. var_in (s v)) vs
renamed_vars s [] h = refl
renamed_vars s (v ∷ vs) h = λ i. (ap term_vars h.0 ∙ vars-Var (var_in (s v))) i ++ renamed_vars s vs h.1 i

renamed_unknowns : (x : ℕ → When) (ks : List ℕ) → AllByRecursion (λ k. x k ≡ Unknown (number_in (x k))) ks → flat_map (λ k. unknowns (x k)) ks ≡ map (λ k. number_in (x k)) ks
renamed_unknowns x [] h = refl
renamed_unknowns x (k ∷ ks) h = λ i. unknowns (h.0 i) ++ renamed_unknowns x ks h.1 i

-- ---- shapes

-- two shapes that are instances of each other, both with canonical numbers, are one
module _ (g h : Shape) (v v' : ℕ → Term) (x x' : ℕ → When) (there : h ≡ put_shape v x g) (back : g ≡ put_shape v' x' h)
    (again : put_shape v' x' (put_shape v x g) ≡ put_shape (after v' v) (λ k. put_when x' (x k)) g) where
  round : put_shape (after v' v) (λ k. put_when x' (x k)) g ≡ put_shape own own_time g
  round = sym again ∙ ap (put_shape v' x') (sym there) ∙ sym back ∙ sym (own_shape g)

  vars_round : AllByRecursion (λ n. put v' (v n) ≡ t.Var n) (shape_vars g)
  vars_round = shape_same_vars (after v' v) own (λ k. put_when x' (x k)) own_time g round

  unknowns_round : AllByRecursion (λ k. put_when x' (x k) ≡ Unknown k) (shape_unknowns g)
  unknowns_round = shape_same_unknowns (after v' v) own (λ k. put_when x' (x k)) own_time g round

  vars_renamed : AllByRecursion (λ n. v n ≡ t.Var (var_in (v n))) (shape_vars g)
  vars_renamed = all_to (λ n. put v' (v n) ≡ t.Var n) (λ n. v n ≡ t.Var (var_in (v n))) (λ n e. is_var v' n (v n) e) (shape_vars g) vars_round

  pub unknowns_renamed : AllByRecursion (λ k. x k ≡ Unknown (number_in (x k))) (shape_unknowns g)
  unknowns_renamed = all_to (λ k. put_when x' (x k) ≡ Unknown k) (λ k. x k ≡ Unknown (number_in (x k))) (λ k e. is_unknown_time x' k (x k) e) (shape_unknowns g) unknowns_round

  abbrev f : ℕ → ℕ
  f n = var_in (v n)

  abbrev f' : ℕ → ℕ
  f' n = var_in (v' n)

  abbrev e : ℕ → ℕ
  e k = number_in (x k)

  abbrev e' : ℕ → ℕ
  e' k = number_in (x' k)

  all_two : {X : Type 0} (P Q R : X → Type 0) → ((z : X) → P z → Q z → R z) → (zs : List X) → AllByRecursion P zs → AllByRecursion Q zs → AllByRecursion R zs
  all_two P Q R c [] p q = tt
  all_two P Q R c (z ∷ zs) p q = (c z p.0 q.0, all_two P Q R c zs p.1 q.1)

  back_again : AllByRecursion (λ n. f' (f n) ≡ n) (shape_vars g)
  back_again = all_two (λ n. put v' (v n) ≡ t.Var n) (λ n. v n ≡ t.Var (f n)) (λ n. f' (f n) ≡ n)
      (λ n one two. ap var_in (sym (ap (put v') two ∙ put-Var v' (f n)) ∙ one)) (shape_vars g) vars_round vars_renamed

  times_again : AllByRecursion (λ k. e' (e k) ≡ k) (shape_unknowns g)
  times_again = all_two (λ k. put_when x' (x k) ≡ Unknown k) (λ k. x k ≡ Unknown (e k)) (λ k. e' (e k) ≡ k)
      (λ k one two. ap number_in (sym (ap (put_when x') two) ∙ one)) (shape_unknowns g) unknowns_round unknowns_renamed

  pub one_shape : IsCanonical g → IsCanonical h → g ≡ h
  one_shape one two =
      let vars : shape_vars h ≡ map f (shape_vars g) = ap shape_vars there ∙ vars_of_put v x g ∙ renamed_vars v (shape_vars g) vars_renamed in
      let times : shape_unknowns h ≡ map e (shape_unknowns g) = ap shape_unknowns there ∙ unknowns_of_put v x g ∙ renamed_unknowns x (shape_unknowns g) unknowns_renamed in
      let fixed = numbers_same f f' 0 (shape_vars g) (λ m lt. absurd (omega arith)) back_again one.0 (sym (ap (is_numbered 0) vars) ∙ two.0) in
      let still = numbers_same e e' 0 (shape_unknowns g) (λ m lt. absurd (omega arith)) times_again one.1 (sym (ap (is_numbered 0) times) ∙ two.1) in
      let own_vars = all_two (λ n. v n ≡ t.Var (f n)) (λ n. f n ≡ n) (λ n. v n ≡ own n) (λ n a b. a ∙ ap t.Var b) (shape_vars g) vars_renamed fixed in
      let own_times = all_two (λ k. x k ≡ Unknown (e k)) (λ k. e k ≡ k) (λ k. x k ≡ own_time k) (λ k a b. a ∙ ap (λ m. Unknown m) b) (shape_unknowns g) unknowns_renamed still in
      sym (own_shape g) ∙ sym (same_shape v own x own_time g own_vars own_times) ∙ sym there

-- ---- nodes

none_unknown : (left right : When) → (is_unknown left || is_unknown right) ≡ false → unknowns left ++ unknowns right ≡ []
none_unknown (Known n) (Known m) e = refl
none_unknown (Known n) (Unknown k) e = absurd (cc)
none_unknown (Unknown j) right e = absurd (cc)

-- constraints without those whose times are all known
abbrev open_limits : List LeftCon → List LeftCon
open_limits limits = filter (λ con. is_unknown con.left || is_unknown con.right) limits

abbrev in_limits : List LeftCon → List ℕ
in_limits limits = flat_map (λ con. unknowns con.left ++ unknowns con.right) limits

untested_first : (con : LeftCon) (limits : List LeftCon) → in_limits (open_limits limits) ≡ in_limits limits → (b : Bool) →
    (is_unknown con.left || is_unknown con.right) ≡ b → in_limits (cond b (con ∷ open_limits limits) (open_limits limits)) ≡ in_limits (con ∷ limits)
untested_first con limits more true is = ap (λ ks. (unknowns con.left ++ unknowns con.right) ++ ks) more
untested_first con limits more false is = more ∙ ap (λ ks. ks ++ in_limits limits) (sym (none_unknown con.left con.right is))

-- constraints whose times are all known have no unknown ones
untested_unknowns : (limits : List LeftCon) →
    flat_map (λ con. unknowns con.left ++ unknowns con.right) (filter (λ con. is_unknown con.left || is_unknown con.right) limits)
    ≡ flat_map (λ con. unknowns con.left ++ unknowns con.right) limits
untested_unknowns [] = refl
untested_unknowns (con ∷ limits) = untested_first con limits (untested_unknowns limits) (is_unknown con.left || is_unknown con.right) refl

-- a shape is canonical where it is without those constraints
of_untested : (g : Shape) → IsCanonical (untested g) → IsCanonical g
of_untested g h = (
  h.0,
  sym (ap (λ ks. is_numbered 0 ((flat_map unknowns g.carry.times ++ flat_map (λ left. left_unknowns left.item) g.rest) ++ ks)) (untested_unknowns g.limits)) ∙ h.1,
)

-- and so it is without them
pub canonical_untested : (g : Shape) → IsCanonical g → IsCanonical (untested g)
canonical_untested g h = (
  h.0,
  ap (λ ks. is_numbered 0 ((flat_map unknowns g.carry.times ++ flat_map (λ left. left_unknowns left.item) g.rest) ++ ks)) (untested_unknowns g.limits) ∙ h.1,
)

-- a place has one residual
pub residual_unique : (seq : Sequence) (s : Values) (t : Times) → AreAllGround s → (place : Place) (n m : Node) →
    IsResidual seq s t place n → IsResidual seq s t place m → n.alternative ≡ m.alternative → n ≡ m
residual_unique seq s t ground place n m one two alternative =
    let there = variants seq s t ground place one.whole two.whole one.general two.general in
    let back = variants seq s t ground place two.whole one.whole two.general one.general in
    let same : one.whole ≡ two.whole =
    one_shape one.whole two.whole there.0 back.0 there.1 back.1 there.2 back.2 (shape_put back.0 there.0 back.1 there.1 one.whole)
    (of_untested one.whole one.canonical) (of_untested two.whole two.canonical) in
    let shapes = one.tested ∙ ap untested same ∙ sym two.tested in
    let ranks : n.rank ≡ m.rank = one.of_rank ∙ sym two.of_rank in
    let dones : n.done ≡ m.done = one.of_done ∙ sym two.of_done in
    λ i. record {
      alternative = alternative i;
      rank = ranks i;
      done = dones i;
      carry = (shapes i).carry;
      rest = (shapes i).rest;
      limits = (shapes i).limits;
    }
