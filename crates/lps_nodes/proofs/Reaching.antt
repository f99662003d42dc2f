-- Each place of a walk has a most general shape, which single steps reach.
use Rattle.std.proofs.Common.{ℕ, Bool, true, false, cond, ◌≡◌, List, [], ◌∷◌, ◌++◌, ◌∙◌, map, refl, sym, ap, subst}
use Rattle.std.specs.Prelude.{None}
use Rattle.std.specs.List.{AllByRecursion, flat_map}
use Rattle.lps_terms.specs.declared.atom.Atom.{Atom}
use Rattle.lps_terms.specs.declared.item.Item.{Item}
use Rattle.lps_terms.specs.declared.item.Item.TheVariants as i
use Rattle.lps_terms.specs.declared.term.Term.{Term}
use Rattle.lps_terms.specs.declared.term.Term.TheVariants as term
use Rattle.lps_terms.specs.declared.text.Text.{Text}
use Rattle.lps_terms.specs.declared.time_var.TimeVar.{TimeVar}
use Rattle.lps_terms.specs.Put.{put, put_atom, after, put-Var}
use Rattle.lps_model.specs.declared.trace.Trace.{Trace}
use Rattle.lps_derivation.proofs.Puts.{ground_stays}
use Rattle.lps_meaning.specs.declared.node.Left.{Left}
use Rattle.lps_meaning.specs.declared.node.LeftItem.TheVariants as l
use Rattle.lps_meaning.specs.declared.when.When.{When}
use Rattle.lps_meaning.specs.declared.when.When.TheVariants.{Known, Unknown}
use Rattle.lps_meaning.specs.Goals.{AreAllGround}
use Rattle.lps_model.specs.Rules.{MacroClause}
use Rattle.lps_meaning.specs.Sequences.{Entry, Place, Values, Times, HasSameValues, HasSameTimes, Walk, stop, pass, replace, passed, replaced, link_at, entries, start}
use Rattle.lps_nodes.specs.Shapes.{Sequence, Shape, Whens, put_when, put_left, put_shape, left_of, left_at, con_of, HasSameWhens, all_known, shape_of, IsPossible, IsGeneral}
use Rattle.lps_nodes.specs.Steps.{in_front, PassesTo, Unfolds, UnfoldsTo, Chain}
use Rattle.lps_nodes.proofs.Existence.{only, only_times, in_self, of_in, first_item, pass_one, pass_none, unfold_one}
use Rattle.lps_meaning.proofs.Occurrences.{all_to}
use Rattle.lps_nodes.proofs.ShapeLaws.{after_when, left_after, IsFresh, same_ground, shape_after, shape_split, body_open, unfolds, fresh_passed, fresh_unfolded, pass_general, unfold_general}
use Rattle.lps_nodes.proofs.Unifiers.{is_in}

all_self : {X A : Type 0} (f : X → A) (xs : List X) → AllByRecursion (λ x. f x ≡ f x) xs
all_self f [] = tt
all_self f (x ∷ xs) = (refl, all_self f xs)

-- an item that is told as it stands is met in a most general way
pass_item : (g : Shape) (us ss : ℕ → Term) (ws zs : ℕ → When) (nest : ℕ) (item : Item) (lefts : List Left) → g.rest ≡ left_of us ws nest item ++ lefts →
    ((r : ℕ → Term) (z : ℕ → When) → map (put_left r z) (left_of ss zs nest item) ≡ left_of ss zs nest item) →
    (v0 : ℕ → Term) (x0 : ℕ → When) (k0 : Shape) → put_shape v0 x0 g ≡ in_front (left_of ss zs nest item) k0 → (h : Shape) × PassesTo (left_of ss zs nest item) g h
pass_item g us ss ws zs nest (i.Con con) lefts is fixed v0 x0 k0 e = (g, pass_none g)
pass_item g us ss ws zs nest (i.At lit time) lefts is fixed v0 x0 k0 e = pass_one g _ _ lefts is (λ r z. ap (first_item (l.Bare lit)) (fixed r z)) v0 x0 k0 e
pass_item g us ss ws zs nest (i.Bare lit) lefts is fixed v0 x0 k0 e = pass_one g _ _ lefts is (λ r z. ap (first_item (l.Bare lit)) (fixed r z)) v0 x0 k0 e
pass_item g us ss ws zs nest (i.Built built) lefts is fixed v0 x0 k0 e = pass_one g _ _ lefts is (λ r z. ap (first_item (l.Built built)) (fixed r z)) v0 x0 k0 e
pass_item g us ss ws zs nest (i.Span a from to) lefts is fixed v0 x0 k0 e = pass_one g _ _ lefts is (λ r z. ap (first_item (l.Span a (Known 0) (Known 0))) (fixed r z)) v0 x0 k0 e

module _ (text : Text) (seq : Sequence) (s : Values) (t : Times) (ground : AreAllGround s) where
  -- the walk's own values and times are possible
  own_possible : (place : Place) → AllByRecursion (HasSameValues s) place.links → AllByRecursion (HasSameTimes t) place.links → IsPossible seq s t place s (all_known t)
  own_possible place vals whens = record {
    values = refl;
    times = refl;
    past = all_self (left_at s (all_known t)) place.past;
    links = vals;
    when_links = all_to (HasSameTimes t) (HasSameWhens (all_known t)) (λ link h. (ap (λ n. Known n) h.0, ap (λ n. Known n) h.1)) place.links whens;
  }

  fixed : (o : Entry) (r : ℕ → Term) (z : ℕ → When) → map (put_left r z) (left_at s (all_known t) o) ≡ left_at s (all_known t) o
  fixed o r z =
      left_after r (s o.env) z (all_known t o.env) o.nest o.item ∙ ap (λ f. left_of f (all_known t o.env) o.nest o.item) (same_ground text seq s t ground r o.env)

  module _ (level : List ℕ → ℕ) (trace : Trace) where
    pub step_pass : (place : Place) (o : Entry) (rest : List Entry) → place.left ≡ o ∷ rest → AllByRecursion (HasSameValues s) place.links → AllByRecursion (HasSameTimes t) place.links →
        (g : Shape) → IsGeneral seq s t place g → (h : Shape) × PassesTo (left_at s (all_known t) o) g h
    step_pass place o rest left vals whens g is =
        let r = is.general s (all_known t) (own_possible place vals whens) in
        pass_item g (is.values o.env) (s o.env) (is.whens o.env) (all_known t o.env) o.nest o.item (flat_map (left_at is.values is.whens) rest)
        (ap (λ h. h.rest) is.own ∙ ap (flat_map (left_at is.values is.whens)) left) (fixed o) r.0 r.1 (shape_of seq (passed t place o rest) s (all_known t))
        (sym r.2 ∙ shape_split text seq s t ground trace place o rest left s (all_known t))

    pub step_unfold : (place : Place) (o : Entry) (rest : List Entry) (left : place.left ≡ o ∷ rest) (a : Atom) (from to : TimeVar) (item : o.item ≡ i.Span a from to) (number : ℕ) (clause : MacroClause) →
        AllByRecursion (HasSameValues s) place.links → AllByRecursion (HasSameTimes t) place.links → HasSameValues s (link_at place o a from.0 to.0 number clause) →
        HasSameTimes t (link_at place o a from.0 to.0 number clause) → (g : Shape) → IsGeneral seq s t place g → (h : Shape) × UnfoldsTo text clause g h
    step_unfold place o rest left a from to item number clause vals whens same_vals same_times g is =
        let r = is.general s (all_known t) (own_possible place vals whens) in
        let known : HasSameWhens (all_known t) (link_at place o a from.0 to.0 number clause) = (ap (λ n. Known n) same_times.0, ap (λ n. Known n) same_times.1) in
        let there = unfolds text seq s t ground trace place o rest left a from to item number clause s (all_known t) same_vals known in
        unfold_one text clause g (put_atom (is.values o.env) a) (is.whens o.env from.0) (is.whens o.env to.0) o.nest (flat_map (left_at is.values is.whens) rest)
        (ap (λ h. h.rest) is.own ∙ ap (flat_map (left_at is.values is.whens)) left
        ∙ ap (λ it. left_of (is.values o.env) (is.whens o.env) o.nest it ++ flat_map (left_at is.values is.whens) rest) item)
        r.0 r.1 (s place.next) (all_known t place.next) (shape_of seq (replaced text place (link_at place o a from.0 to.0 number clause) rest) s (all_known t))
        (subst (λ k. Unfolds text clause (s place.next) (all_known t place.next) k (shape_of seq (replaced text place (link_at place o a from.0 to.0 number clause) rest) s (all_known t))) r.2 there)

    -- steps along a walk reach the most general shape of its end
    pub reach : {now : ℕ} {end place : Place} (walk : Walk text level trace seq.given_values s t now end place) → IsFresh text seq s t ground place →
        AllByRecursion (HasSameValues s) place.links → AllByRecursion (HasSameTimes t) place.links → (g : Shape) → IsGeneral seq s t place g →
        (k : Shape) × Chain walk g k × IsGeneral seq s t end k
    reach stop fresh vals whens g is = (g, refl, is)
    reach {place = place} (pass env nest joins item rest left no_call is_true small placed walk) fresh vals whens g is =
        let o : Entry = record { env = env; nest = nest; joins = joins; item = item } in
        let step = step_pass place o rest left vals whens g is in
        let r = reach walk (fresh_passed text seq s t ground level trace place o rest left fresh) vals whens step.0
        (pass_general text seq s t ground trace place o rest left g step.0 is step.1) in
        (r.0, (step.0, step.1, r.1), r.2)
    reach {place = place} (replace o rest a from to number clause left item macro named values times small walk) fresh vals whens g is =
        let step = step_unfold place o rest left a from to item number clause vals whens values times g is in
        let r = reach walk (fresh_unfolded text seq s t ground level trace place o rest a from.0 to.0 number clause left fresh) (values, vals) (times, whens) step.0
        (unfold_general text seq s t ground trace place o rest left a from to item number clause fresh g step.0 is step.1) in
        (r.0, (step.0, step.1, r.1), r.2)

  -- ---- the start

  abbrev first_values : Values
  first_values env = only (s 0) seq.given_values

  abbrev first_whens : Whens
  first_whens env = only_times (all_known t 0) seq.given_times

  map_agree : {A : Type 0} (f h : ℕ → A) (vs : List ℕ) → AllByRecursion (λ v. f v ≡ h v) vs → map f vs ≡ map h vs
  map_agree f h [] e = refl
  map_agree f h (v ∷ vs) e = λ i. e.0 i ∷ map_agree f h vs e.1 i

  abbrev head_or : {A : Type 0} → A → List A → A
  head_or d [] = d
  head_or d (x ∷ xs) = x

  abbrev tail_of : {A : Type 0} → List A → List A
  tail_of [] = []
  tail_of (x ∷ xs) = xs

  agree_map : {A : Type 0} (f h : ℕ → A) (vs : List ℕ) → map f vs ≡ map h vs → AllByRecursion (λ v. f v ≡ h v) vs
  agree_map f h [] e = tt
  agree_map f h (v ∷ vs) e = (ap (head_or (f v)) e, agree_map f h vs (ap tail_of e))

  start_possible : (since : ℕ) → IsPossible seq s t (start text since seq.items) first_values first_whens
  start_possible since = record {
    values = map_agree (first_values 0) (s 0) seq.given_values
        (all_to (λ v. is_in v seq.given_values ≡ true) (λ v. first_values 0 v ≡ s 0 v) (λ v e. ap (λ b. cond b (s 0 v) (term.Var v)) e) seq.given_values (in_self seq.given_values));
    times = map_agree (first_whens 0) (all_known t 0) seq.given_times
        (all_to (λ v. is_in v seq.given_times ≡ true) (λ v. first_whens 0 v ≡ all_known t 0 v) (λ v e. ap (λ b. cond b (all_known t 0 v) (Unknown v)) e) seq.given_times (in_self seq.given_times));
    past = tt;
    links = tt;
    when_links = tt;
  }

  -- at the start what is left depends on the first environment alone
  by_first : (since : ℕ) (u u' : Values) (w w' : Whens) → u 0 ≡ u' 0 → w 0 ≡ w' 0 → shape_of seq (start text since seq.items) u w ≡ shape_of seq (start text since seq.items) u' w'
  by_first since u u' w w' values whens = λ i. record {
    carry = record { values = map (values i) seq.carried_values; times = map (whens i) seq.carried_times };
    rest = (body_open text seq s t ground u w 0 0 None seq.items ∙ (λ j. flat_map (λ o. left_of (values j) (whens j) o.nest o.item) (entries text 0 0 None seq.items))
        ∙ sym (body_open text seq s t ground u' w' 0 0 None seq.items)) i;
    limits = flat_map (con_of (whens i)) seq.items ++ [];
  }

  values_through : (u : Values) → map (u 0) seq.given_values ≡ map (s 0) seq.given_values → (v : ℕ) → put (u 0) (first_values 0 v) ≡ u 0 v
  values_through u given v = by (is_in v seq.given_values) refl
    where
      by : (b : Bool) → is_in v seq.given_values ≡ b → put (u 0) (cond b (s 0 v) (term.Var v)) ≡ u 0 v
      by true e = ground_stays (u 0) (s 0 v) (ground 0 v) ∙ sym (of_in (λ n. u 0 n ≡ s 0 n) seq.given_values (agree_map (u 0) (s 0) seq.given_values given) v e)
      by false e = put-Var (u 0) v

  whens_through : (w : Whens) → map (w 0) seq.given_times ≡ map (all_known t 0) seq.given_times → (k : ℕ) → put_when (w 0) (first_whens 0 k) ≡ w 0 k
  whens_through w given k = by (is_in k seq.given_times) refl
    where
      by : (b : Bool) → is_in k seq.given_times ≡ b → put_when (w 0) (cond b (all_known t 0 k) (Unknown k)) ≡ w 0 k
      by true e = sym (of_in (λ n. w 0 n ≡ all_known t 0 n) seq.given_times (agree_map (w 0) (all_known t 0) seq.given_times given) k e)
      by false e = refl

  pub start_general : (since : ℕ) → (g : Shape) × IsGeneral seq s t (start text since seq.items) g
  start_general since = (
    shape_of seq (start text since seq.items) first_values first_whens,
    record {
      values = first_values;
      whens = first_whens;
      possible = start_possible since;
      own = refl;
      general = λ u w possible. (
        u 0,
        w 0,
        by_first since u (λ e. after (u 0) (first_values e)) w (λ e. after_when (w 0) (first_whens e)) (λ i v. sym (values_through u possible.values v) i) (λ i k. sym (whens_through w possible.times k) i)
            ∙ sym (shape_after text seq s t ground (start text since seq.items) first_values first_whens (u 0) (w 0)),
      );
    },
  )
