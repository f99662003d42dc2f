-- What can come true can come true under other names of variables and unknown times, with or without constraints that are true.
use Rattle.std.proofs.Common.{ℕ, ◌≡◌, ◌⊎◌, ◌≤◌, ◌<◌, Bool, true, false, cond, List, [], ◌∷◌, map, refl, sym, ap, subst, ◌∙◌, inl, inr, arith}
use Rattle.std.specs.Prelude.{Option, Some, None, ◌&&◌, ◌+ℤ◌, pos}
use Rattle.std.specs.List.{AllByRecursion, filter}
use Rattle.std.proofs.lemmas.Bool.Decides.{nat_tests}
use Rattle.lps_terms.specs.declared.atom.Atom.{Atom}
use Rattle.lps_terms.specs.declared.term.Term.{Term}
use Rattle.lps_terms.specs.declared.text.Text.{Text}
use Rattle.lps_facts.proofs.Sets.{true_not_false}
use Rattle.lps_model.specs.Order.{happens}
use Rattle.lps_model.specs.Rules.{is_macro, kind_of}
use Rattle.lps_meaning.specs.declared.node.Left.{Left}
use Rattle.lps_meaning.specs.declared.node.LeftCon.{LeftCon}
use Rattle.lps_meaning.specs.declared.node.LeftItem.{LeftItem}
use Rattle.lps_meaning.specs.declared.node.LeftItem.TheVariants as l
use Rattle.lps_meaning.specs.declared.when.When.{When}
use Rattle.lps_meaning.specs.declared.when.When.TheVariants.{Known, Unknown}
use Rattle.lps_meaning.specs.Sequences.{IsSpanPlaced, Relates}
use Rattle.lps_nodes.specs.Conditions.{AreLeftInOrder, CanComeTrue, IsLeftAhead, IsLeftLimit, IsLeftPlaced, IsLeftSmall, are_together, goes_on, is_same_time, left_end, time_in}
use Rattle.lps_nodes.specs.Led.{AreVariants}
use Rattle.lps_nodes.specs.Shapes.{Shape, put_left, put_left_con, put_left_item, put_shape, put_when, untested}
use Rattle.lps_nodes.proofs.ShownGroups.{same_when}
use Rattle.lps_nodes.proofs.Sizes.{small_before}
use Rattle.lps_residual.specs.Limits.{IsOpenOrTrue, is_open}

same_self : (time : When) → is_same_time time time ≡ true
same_self (Known n) = grind (arith, nat_tests)
same_self (Unknown k) = grind (arith, nat_tests)

small_lefts : (v : ℕ → Term) (x : ℕ → When) (lefts : List Left) → AllByRecursion (λ left. IsLeftSmall left.item) (map (put_left v x) lefts) → AllByRecursion (λ left. IsLeftSmall left.item) lefts
small_lefts v x [] h = tt
small_lefts v x (left ∷ lefts) h = (small_before v x left.item h.0, small_lefts v x lefts h.1)

module _ (text : Text) (v u : ℕ → Term) (x y : ℕ → When) where
  -- the time comes back
  abbrev IsBackTime : When → Type 0
  IsBackTime time = put_when y (put_when x time) ≡ time

  abbrev IsBack : LeftItem → Type 0
  IsBack item = put_left_item u y (put_left_item v x item) ≡ item

  same_times : (a b : When) → IsBackTime a → IsBackTime b → is_same_time (put_when x a) (put_when x b) ≡ is_same_time a b
  same_times a b back other = by (is_same_time (put_when x a) (put_when x b)) refl (is_same_time a b) refl where
    by : (r : Bool) → is_same_time (put_when x a) (put_when x b) ≡ r → (q : Bool) → is_same_time a b ≡ q → r ≡ q
    by true e true f = refl
    by false e false f = refl
    by true e false f =
        let same : a ≡ b = sym back ∙ ap (put_when y) (same_when (put_when x a) (put_when x b) e) ∙ other in
        absurd (true_not_false (sym (subst (λ c. is_same_time a c ≡ true) same (same_self a)) ∙ f))
    by false e true f =
        absurd (true_not_false (sym (subst (λ c. is_same_time (put_when x a) (put_when x c) ≡ true) (same_when a b f) (same_self (put_when x a))) ∙ e))

  from_back : (a : Atom) (from to : When) → IsBack (l.Span a from to) → IsBackTime from
  from_back a from to back = cc

  to_back : (a : Atom) (from to : When) → IsBack (l.Span a from to) → IsBackTime to
  to_back a from to back = cc

  together : (p q : LeftItem) → IsBack p → IsBack q → are_together text (put_left_item v x p) (put_left_item v x q) ≡ are_together text p q
  together (l.At lit time) q p_back q_back = refl
  together (l.Bare lit) q p_back q_back = refl
  together (l.Built built) q p_back q_back = refl
  together (l.Span a from to) (l.At lit time) p_back q_back = refl
  together (l.Span a from to) (l.Bare lit) p_back q_back = refl
  together (l.Span a from to) (l.Built built) p_back q_back = refl
  together (l.Span a from to) (l.Span b begin end) p_back q_back =
      let begins = same_times from begin (from_back a from to p_back) (from_back b begin end q_back) in
      let ends = same_times to end (to_back a from to p_back) (to_back b begin end q_back) in
      λ j. happens (kind_of text a.name) && (happens (kind_of text b.name) && (begins j && ends j))

  abbrev put_last : Option LeftItem → Option LeftItem
  put_last None = None
  put_last (Some item) = Some (put_left_item v x item)

  abbrev IsBackLast : Option LeftItem → Type 0
  IsBackLast None = Unit {0}
  IsBackLast (Some item) = IsBack item

  same_group : (last : Option LeftItem) (item : LeftItem) → IsBackLast last → IsBack item → goes_on text (put_last last) (put_left_item v x item) ≡ goes_on text last item
  same_group None item last_back back = refl
  same_group (Some last) item last_back back = together last item last_back back

  module _ (t : ℕ → ℕ) where
    -- the number of each unknown time is that of what is put in its place
    abbrev times : ℕ → ℕ
    times k = time_in t (x k)

    time_put : (time : When) → time_in t (put_when x time) ≡ time_in times time
    time_put (Known n) = refl
    time_put (Unknown k) = refl

    placed : (before : ℕ) (joins : Bool) (item : LeftItem) → IsLeftPlaced text t before joins (put_left_item v x item) → IsLeftPlaced text times before joins item
    placed before joins (l.At lit time) h = subst (λ n. before ≤ n) (time_put time) h
    placed before joins (l.Bare lit) h = tt
    placed before joins (l.Built built) h = tt
    placed before joins (l.Span a from to) h =
        subst (λ n. IsSpanPlaced (is_macro (kind_of text a.name)) joins before n (time_in times to)) (time_put from)
        (subst (λ n. IsSpanPlaced (is_macro (kind_of text a.name)) joins before (time_in t (put_when x from)) n) (time_put to) h)

    end_put : (before : ℕ) (item : LeftItem) → left_end t before (put_left_item v x item) ≡ left_end times before item
    end_put before (l.At lit time) = time_put time
    end_put before (l.Bare lit) = refl
    end_put before (l.Built built) = refl
    end_put before (l.Span a from to) = time_put to

    in_order : (before : ℕ) (last : Option LeftItem) (rest : List Left) → IsBackLast last → AllByRecursion (λ left. IsBack left.item) rest →
        AreLeftInOrder text t before (put_last last) (map (put_left v x) rest) → AreLeftInOrder text times before last rest
    in_order before last [] last_back back h = tt
    in_order before last (left ∷ rest) last_back back h = (
      placed before (goes_on text last left.item) left.item (subst (λ b. IsLeftPlaced text t before b (put_left_item v x left.item)) (same_group last left.item last_back back.0) h.0),
      in_order (left_end times before left.item) (Some left.item) rest back.0 back.1
          (subst (λ n. AreLeftInOrder text t n (Some (put_left_item v x left.item)) (map (put_left v x) rest)) (end_put before left.item) h.1),
    )

    ahead : (now : ℕ) (item : LeftItem) → IsLeftAhead now t (put_left_item v x item) → IsLeftAhead now times item
    ahead now (l.At lit time) h = subst (λ n. now < n) (time_put time) h
    ahead now (l.Bare lit) h = h
    ahead now (l.Built built) h = h
    ahead now (l.Span a from to) h = subst (λ n. now ≤ n) (time_put from) h

    limit : (con : LeftCon) → IsLeftLimit t (put_left_con x con) → IsLeftLimit times con
    limit con h =
        subst (λ n. Relates con.rel (pos n) (pos (time_in times con.right) +ℤ con.plus)) (time_put con.left)
        (subst (λ n. Relates con.rel (pos (time_in t (put_when x con.left))) (pos n +ℤ con.plus)) (time_put con.right) h)

    limits : (cons : List LeftCon) → AllByRecursion (IsLeftLimit t) (map (put_left_con x) cons) → AllByRecursion (IsLeftLimit times) cons
    limits [] h = tt
    limits (con ∷ cons) h = (limit con h.0, limits cons h.1)

  all_back : (rest : List Left) → rest ≡ map (put_left u y) (map (put_left v x) rest) → AllByRecursion (λ left. IsBack left.item) rest
  all_back [] e = tt
  all_back (left ∷ rest) e = (let same : left ≡ put_left u y (put_left v x left) = cc in ap (λ (other : Left). other.item) (sym same), all_back rest cc)

  first_of : (now : ℕ) (rest : List Left) (first : Left) (behind : List Left) → map (put_left v x) rest ≡ first ∷ behind → (one : Left) × (others : List Left) × (rest ≡ one ∷ others) × (first ≡ put_left v x one)
  first_of now [] first behind e = cc
  first_of now (one ∷ others) first behind e = (one, others, refl, cc)

  can_back : (now : ℕ) (g : Shape) → g ≡ put_shape u y (put_shape v x g) → CanComeTrue text now (put_shape v x g) → CanComeTrue text now g
  can_back now g back can =
      let one = first_of now g.rest can.first can.behind can.is_first in
      record {
        times = times can.times;
        first = one.0;
        behind = one.1;
        is_first = one.2;
        ahead = ahead can.times now one.0.item (subst (λ (left : Left). IsLeftAhead now can.times left.item) one.3 can.ahead);
        in_order = in_order can.times now None g.rest tt (all_back g.rest (ap (λ (h : Shape). h.rest) back)) can.in_order;
        limits = limits can.times g.limits can.limits;
        small = small_lefts v x g.rest can.small;
      }

pub can_variant : (text : Text) (now : ℕ) (g h : Shape) → AreVariants g h → CanComeTrue text now h → CanComeTrue text now g
can_variant text now g h variants can =
    can_back text variants.v variants.u variants.x variants.y now g (variants.back ∙ ap (put_shape variants.u variants.y) variants.to) (subst (CanComeTrue text now) variants.to can)

pub turned : (g h : Shape) → AreVariants g h → AreVariants h g
turned g h variants = record { v = variants.u; x = variants.y; to = variants.back; u = variants.v; y = variants.x; back = variants.to }

-- ---- constraints that are true

some_true : (P : LeftCon → Type 0) (limits : List LeftCon) → AllByRecursion P limits → AllByRecursion P (filter is_open limits)
some_true P [] h = tt
some_true P (con ∷ limits) h = by (is_open con) (some_true P limits h.1) where
  by : (b : Bool) → AllByRecursion P (filter is_open limits) → AllByRecursion P (cond b (con ∷ filter is_open limits) (filter is_open limits))
  by true rest = (h.0, rest)
  by false rest = rest

pub can_untested : (text : Text) (now : ℕ) (g : Shape) → CanComeTrue text now g → CanComeTrue text now (untested g)
can_untested text now g can = record {
  times = can.times;
  first = can.first;
  behind = can.behind;
  is_first = can.is_first;
  ahead = can.ahead;
  in_order = can.in_order;
  limits = some_true (IsLeftLimit can.times) g.limits can.limits;
  small = can.small;
}

known_true : (t : ℕ → ℕ) (left right : When) (rel : _) (plus : _) → is_open (record { left = left; rel = rel; right = right; plus = plus }) ≡ false →
    IsLeftLimit (λ k. 0) (record { left = left; rel = rel; right = right; plus = plus }) → IsLeftLimit t (record { left = left; rel = rel; right = right; plus = plus })
known_true t (Known n) (Known m) rel plus e h = h
known_true t (Known n) (Unknown k) rel plus e h = cc
known_true t (Unknown k) right rel plus e h = cc

whole_true : (t : ℕ → ℕ) (limits : List LeftCon) → AllByRecursion IsOpenOrTrue limits → AllByRecursion (IsLeftLimit t) (filter is_open limits) → AllByRecursion (IsLeftLimit t) limits
whole_true t [] all h = tt
whole_true t (con ∷ limits) all h = by (is_open con) refl h all.0 (whole_true t limits all.1) where
  by : (b : Bool) → is_open con ≡ b → AllByRecursion (IsLeftLimit t) (cond b (con ∷ filter is_open limits) (filter is_open limits)) → (is_open con ≡ true) ⊎ IsLeftLimit (λ k. 0) con →
      (AllByRecursion (IsLeftLimit t) (filter is_open limits) → AllByRecursion (IsLeftLimit t) limits) → AllByRecursion (IsLeftLimit t) (con ∷ limits)
  by true e h here later = (h.0, later h.1)
  by false e h (inl opened) later = absurd (true_not_false (sym opened ∙ e))
  by false e h (inr holds) later = (known_true t con.left con.right con.rel con.plus e holds, later h)

pub can_whole : (text : Text) (now : ℕ) (g : Shape) → AllByRecursion IsOpenOrTrue g.limits → CanComeTrue text now (untested g) → CanComeTrue text now g
can_whole text now g all can = record {
  times = can.times;
  first = can.first;
  behind = can.behind;
  is_first = can.is_first;
  ahead = can.ahead;
  in_order = can.in_order;
  limits = whole_true can.times g.limits all can.limits;
  small = can.small;
}
