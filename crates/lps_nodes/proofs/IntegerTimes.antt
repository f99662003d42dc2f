-- The time conditions of what is left have a solution in integers exactly where they have one in natural numbers: the items left
-- stand in order after now, so their times are not negative.
use Rattle.std.proofs.Common.{ℕ, ℤ, pos, negsuc, Bool, true, false, ◌≡◌, ◌≤◌, ◌<◌, List, [], ◌∷◌, ◌++◌, ◌∙◌, refl, sym, ap, subst, arith}
use Rattle.std.specs.Prelude.{◌+ℤ◌, ◌≤ℤ◌, ◌<ℤ◌, Option, Some, None, Contains}
use Rattle.std.specs.List.{AllByRecursion, flat_map}
use Rattle.std.proofs.lemmas.Int.{ints}
use Rattle.std.proofs.lemmas.List.Elements.{All-from_recursion, All-contains}
use Rattle.lps_terms.specs.declared.text.Text.{Text}
use Rattle.lps_terms.specs.declared.atom.Atom.{Atom}
use Rattle.lps_model.specs.Order.{happens}
use Rattle.lps_meaning.specs.declared.node.Left.{Left}
use Rattle.lps_meaning.specs.declared.node.LeftCon.{LeftCon}
use Rattle.lps_meaning.specs.declared.node.LeftItem.{LeftItem}
use Rattle.lps_meaning.specs.declared.node.LeftItem.TheVariants as l
use Rattle.lps_meaning.specs.declared.when.When.{When}
use Rattle.lps_meaning.specs.declared.when.When.TheVariants.{Known, Unknown}
use Rattle.lps_nodes.specs.Conditions.{time_in, is_same_time, goes_on, IsLeftPlaced, left_end, AreLeftInOrder, IsLeftAhead, IsLeftLimit, CanComeTrue}
use Rattle.lps_nodes.specs.NextSteps.{IsBegun, IsBegunIn, MayBegin, MayBeginIn}
use Rattle.lps_nodes.specs.Integers.{integer_in, IsSpanPlacedIn, IsLeftPlacedIn, left_end_in, AreLeftInOrderIn, IsLeftAheadIn, IsLeftLimitIn, CanComeTrueIn, AreTimesLeft}
use Rattle.lps_model.specs.Rules.{kind_of, is_macro}
use Rattle.lps_meaning.specs.Sequences.{IsSpanPlaced, Relates}
use Rattle.lps_nodes.specs.Shapes.{Shape, left_unknowns, unknowns}
use Rattle.lps_nodes.proofs.ConditionLaws.{and_true, false_true}
use Rattle.lps_meaning.proofs.Occurrences.{all_front, all_behind, all_joined, all_to}
use Rattle.lps_nodes.proofs.ShownGroups.{same_when}

-- ---- the same times as integers and as natural numbers

span_to : (macro joins : Bool) (before from to : ℕ) → IsSpanPlaced macro joins before from to → IsSpanPlacedIn macro joins (pos before) (pos from) (pos to)
span_to true joins before from to h = let one = h.0 in let two = h.1 in (omega (arith, ints, one), omega (arith, ints, two))
span_to false true before from to h = let one = h.0 in let two = h.1 in (omega (arith, ints, one), omega (arith, ints, two))
span_to false false before from to h = let one = h.0 in let two = h.1 in (omega (arith, ints, one), omega (arith, ints, two))

span_from : (macro joins : Bool) (before from to : ℕ) → IsSpanPlacedIn macro joins (pos before) (pos from) (pos to) → IsSpanPlaced macro joins before from to
span_from true joins before from to h = let one = h.0 in let two = h.1 in (omega (arith, ints, one), omega (arith, ints, two))
span_from false true before from to h = let one = h.0 in let two = h.1 in (omega (arith, ints, one), omega (arith, ints, two))
span_from false false before from to h = let one = h.0 in let two = h.1 in (omega (arith, ints, one), omega (arith, ints, two))

le_to : (m n : ℕ) → m ≤ n → pos m ≤ℤ pos n
le_to m n h = omega (arith, ints)

le_from : (m n : ℕ) → pos m ≤ℤ pos n → m ≤ n
le_from m n h = omega (arith, ints)

lt_to : (m n : ℕ) → m < n → pos m <ℤ pos n
lt_to m n h = omega (arith, ints)

lt_from : (m n : ℕ) → pos m <ℤ pos n → m < n
lt_from m n h = omega (arith, ints)

module _ (text : Text) (x : ℕ → ℤ) (y : ℕ → ℕ) where
  -- the time is one number under both
  abbrev Same : When → Type 0
  Same time = integer_in x time ≡ pos (time_in y time)

  abbrev SameItem : LeftItem → Type 0
  SameItem (l.At lit time) = Same time
  SameItem (l.Span a from to) = Same from × Same to
  SameItem _ = Unit {0}

  abbrev SameLeft : Left → Type 0
  SameLeft left = SameItem left.item

  abbrev SameCon : LeftCon → Type 0
  SameCon con = Same con.left × Same con.right

  end_same : (before : ℕ) (item : LeftItem) → SameItem item → left_end_in x (pos before) item ≡ pos (left_end y before item)
  end_same before (l.At lit time) same = same
  end_same before (l.Span a from to) same = same.1
  end_same before (l.Bare lit) same = refl
  end_same before (l.Built built) same = refl

  placed_to : (before : ℕ) (joins : Bool) (item : LeftItem) → SameItem item → IsLeftPlaced text y before joins item → IsLeftPlacedIn text x (pos before) joins item
  placed_to before joins (l.At lit time) same h = subst (λ n. pos before ≤ℤ n) (sym same) (le_to before (time_in y time) h)
  placed_to before joins (l.Span a from to) same h =
      subst (λ n. IsSpanPlacedIn (is_macro (kind_of text a.name)) joins (pos before) n (integer_in x to)) (sym same.0)
      (subst (λ n. IsSpanPlacedIn (is_macro (kind_of text a.name)) joins (pos before) (pos (time_in y from)) n) (sym same.1)
      (span_to (is_macro (kind_of text a.name)) joins before (time_in y from) (time_in y to) h))
  placed_to before joins (l.Bare lit) same h = tt
  placed_to before joins (l.Built built) same h = tt

  placed_from : (before : ℕ) (joins : Bool) (item : LeftItem) → SameItem item → IsLeftPlacedIn text x (pos before) joins item → IsLeftPlaced text y before joins item
  placed_from before joins (l.At lit time) same h = le_from before (time_in y time) (subst (λ n. pos before ≤ℤ n) same h)
  placed_from before joins (l.Span a from to) same h =
      span_from (is_macro (kind_of text a.name)) joins before (time_in y from) (time_in y to)
      (subst (λ n. IsSpanPlacedIn (is_macro (kind_of text a.name)) joins (pos before) (pos (time_in y from)) n) same.1
      (subst (λ n. IsSpanPlacedIn (is_macro (kind_of text a.name)) joins (pos before) n (integer_in x to)) same.0 h))
  placed_from before joins (l.Bare lit) same h = tt
  placed_from before joins (l.Built built) same h = tt

  order_to : (before : ℕ) (last : Option LeftItem) (rest : List Left) → AllByRecursion SameLeft rest → AreLeftInOrder text y before last rest → AreLeftInOrderIn text x (pos before) last rest
  order_to before last [] same h = tt
  order_to before last (left ∷ rest) same h = (
    placed_to before (goes_on text last left.item) left.item same.0 h.0,
    subst (λ b. AreLeftInOrderIn text x b (Some left.item) rest) (sym (end_same before left.item same.0)) (order_to (left_end y before left.item) (Some left.item) rest same.1 h.1),
  )

  order_from : (before : ℕ) (last : Option LeftItem) (rest : List Left) → AllByRecursion SameLeft rest → AreLeftInOrderIn text x (pos before) last rest → AreLeftInOrder text y before last rest
  order_from before last [] same h = tt
  order_from before last (left ∷ rest) same h = (
    placed_from before (goes_on text last left.item) left.item same.0 h.0,
    order_from (left_end y before left.item) (Some left.item) rest same.1 (subst (λ b. AreLeftInOrderIn text x b (Some left.item) rest) (end_same before left.item same.0) h.1),
  )

  ahead_to : (now : ℕ) (item : LeftItem) → SameItem item → IsLeftAhead now y item → IsLeftAheadIn now x item
  ahead_to now (l.At lit time) same h = subst (λ n. pos now <ℤ n) (sym same) (lt_to now (time_in y time) h)
  ahead_to now (l.Span a from to) same h = subst (λ n. pos now ≤ℤ n) (sym same.0) (le_to now (time_in y from) h)
  ahead_to now (l.Bare lit) same h = h
  ahead_to now (l.Built built) same h = h

  ahead_from : (now : ℕ) (item : LeftItem) → SameItem item → IsLeftAheadIn now x item → IsLeftAhead now y item
  ahead_from now (l.At lit time) same h = lt_from now (time_in y time) (subst (λ n. pos now <ℤ n) same h)
  ahead_from now (l.Span a from to) same h = le_from now (time_in y from) (subst (λ n. pos now ≤ℤ n) same.0 h)
  ahead_from now (l.Bare lit) same h = h
  ahead_from now (l.Built built) same h = h

  limits_to : (cons : List LeftCon) → AllByRecursion SameCon cons → AllByRecursion (IsLeftLimit y) cons → AllByRecursion (IsLeftLimitIn x) cons
  limits_to [] same h = tt
  limits_to (con ∷ cons) same h = (
    subst (λ n. Relates con.rel n (integer_in x con.right +ℤ con.plus)) (sym same.0.0) (subst (λ n. Relates con.rel (pos (time_in y con.left)) (n +ℤ con.plus)) (sym same.0.1) h.0),
    limits_to cons same.1 h.1,
  )

  limits_from : (cons : List LeftCon) → AllByRecursion SameCon cons → AllByRecursion (IsLeftLimitIn x) cons → AllByRecursion (IsLeftLimit y) cons
  limits_from [] same h = tt
  limits_from (con ∷ cons) same h = (
    subst (λ n. Relates con.rel (pos (time_in y con.left)) (n +ℤ con.plus)) same.0.1 (subst (λ n. Relates con.rel n (integer_in x con.right +ℤ con.plus)) same.0.0 h.0),
    limits_from cons same.1 h.1,
  )

  first_same : (rest : List Left) (first : Left) (behind : List Left) → rest ≡ first ∷ behind → AllByRecursion SameLeft rest → SameLeft first
  first_same rest first behind e same = (subst (AllByRecursion SameLeft) e same).0

  pub to_integers : (now : ℕ) (g : Shape) (can : CanComeTrue text now g) → can.times ≡ y → AllByRecursion SameLeft g.rest → AllByRecursion SameCon g.limits →
      (c : CanComeTrueIn text now g) × (c.times ≡ x) × (c.first ≡ can.first)
  to_integers now g can e same cons = (
    record {
      times = x;
      first = can.first;
      behind = can.behind;
      is_first = can.is_first;
      ahead = ahead_to now can.first.item (first_same g.rest can.first can.behind can.is_first same) (subst (λ z. IsLeftAhead now z can.first.item) e can.ahead);
      in_order = order_to now None g.rest same (subst (λ z. AreLeftInOrder text z now None g.rest) e can.in_order);
      limits = limits_to g.limits cons (subst (λ z. AllByRecursion (IsLeftLimit z) g.limits) e can.limits);
      small = can.small;
    },
    refl,
    refl,
  )

  pub to_naturals : (now : ℕ) (g : Shape) (can : CanComeTrueIn text now g) → can.times ≡ x → AllByRecursion SameLeft g.rest → AllByRecursion SameCon g.limits →
      (c : CanComeTrue text now g) × (c.times ≡ y) × (c.first ≡ can.first)
  to_naturals now g can e same cons = (
    record {
      times = y;
      first = can.first;
      behind = can.behind;
      is_first = can.is_first;
      ahead = ahead_from now can.first.item (first_same g.rest can.first can.behind can.is_first same) (subst (λ z. IsLeftAheadIn now z can.first.item) e can.ahead);
      in_order = order_from now None g.rest same (subst (λ z. AreLeftInOrderIn text z (pos now) None g.rest) e can.in_order);
      limits = limits_from g.limits cons (subst (λ z. AllByRecursion (IsLeftLimitIn z) g.limits) e can.limits);
      small = can.small;
    },
    refl,
    refl,
  )

-- ---- natural numbers as integers

module _ (text : Text) (y : ℕ → ℕ) where
  same_time : (time : When) → Same text (λ k. pos (y k)) y time
  same_time (Known n) = refl
  same_time (Unknown k) = refl

  same_item : (item : LeftItem) → SameItem text (λ k. pos (y k)) y item
  same_item (l.At lit time) = same_time time
  same_item (l.Span a from to) = (same_time from, same_time to)
  same_item (l.Bare lit) = tt
  same_item (l.Built built) = tt

  same_rest : (rest : List Left) → AllByRecursion (SameLeft text (λ k. pos (y k)) y) rest
  same_rest [] = tt
  same_rest (left ∷ rest) = (same_item left.item, same_rest rest)

  same_cons : (cons : List LeftCon) → AllByRecursion (SameCon text (λ k. pos (y k)) y) cons
  same_cons [] = tt
  same_cons (con ∷ cons) = ((same_time con.left, same_time con.right), same_cons cons)

in_integers : (text : Text) (now : ℕ) (g : Shape) (can : CanComeTrue text now g) → (c : CanComeTrueIn text now g) × (c.times ≡ (λ k. pos (can.times k))) × (c.first ≡ can.first)
in_integers text now g can = to_integers text (λ k. pos (can.times k)) can.times now g can refl (same_rest text can.times g.rest) (same_cons text can.times g.limits)

pub can_in_integers : (text : Text) (now : ℕ) (g : Shape) → CanComeTrue text now g → CanComeTrueIn text now g
can_in_integers text now g can = (in_integers text now g can).0

-- ---- integers that are not negative

abbrev natural : ℤ → ℕ
natural (pos n) = n
natural (negsuc n) = 0

natural_is : (z : ℤ) → pos 0 ≤ℤ z → z ≡ pos (natural z)
natural_is (pos n) h = refl
natural_is (negsuc n) h = absurd (omega (arith, ints, h))

at_least_none : (n : ℕ) → pos 0 ≤ℤ pos n
at_least_none n = omega (arith, ints)

le_both : (a b c : ℤ) → a ≤ℤ b → b ≤ℤ c → a ≤ℤ c
le_both a b c h k = omega (arith, ints, h, k)

one_more : (a b : ℤ) → pos 0 ≤ℤ a → b ≡ (a +ℤ pos 1) → pos 0 ≤ℤ b
one_more a b h e = omega (arith, ints, h, e)

span_low : (macro joins : Bool) (before from to : ℤ) → pos 0 ≤ℤ before → (joins ≡ true → pos 0 ≤ℤ from) → IsSpanPlacedIn macro joins before from to → (pos 0 ≤ℤ from) × (pos 0 ≤ℤ to)
span_low true joins before from to low same h = let begins = le_both (pos 0) before from low h.0 in (begins, le_both (pos 0) from to begins h.1)
span_low false true before from to low same h = (same refl, one_more from to (same refl) h.0)
span_low false false before from to low same h = let begins = le_both (pos 0) before from low h.1 in (begins, one_more from to begins h.0)

module _ (text : Text) (x : ℕ → ℤ) where
  abbrev IsLow : ℕ → Type 0
  IsLow k = pos 0 ≤ℤ x k

  abbrev LastLow : Option LeftItem → Type 0
  LastLow (Some (l.Span a from to)) = pos 0 ≤ℤ integer_in x from
  LastLow _ = Unit {0}

  -- what goes on with a group begins with it
  begins_low : (last : Option LeftItem) (a : Atom) (from to : When) → LastLow last → goes_on text last (l.Span a from to) ≡ true → pos 0 ≤ℤ integer_in x from
  begins_low None a from to low e = absurd (false_true e)
  begins_low (Some (l.Span b begin end)) a from to low e =
      let one = and_true (happens (kind_of text b.name)) _ e in
      let two = and_true (happens (kind_of text a.name)) _ one.1 in
      subst (λ time. pos 0 ≤ℤ integer_in x time) (same_when begin from (and_true (is_same_time begin from) (is_same_time end to) two.1).0) low
  begins_low (Some (l.At lit time)) a from to low e = absurd (false_true e)
  begins_low (Some (l.Bare lit)) a from to low e = absurd (false_true e)
  begins_low (Some (l.Built built)) a from to low e = absurd (false_true e)

  unknowns_low : (time : When) → pos 0 ≤ℤ integer_in x time → AllByRecursion IsLow (unknowns time)
  unknowns_low (Known n) low = tt
  unknowns_low (Unknown k) low = (low, tt)

  -- an item left, with what holds of those behind it
  first_low : (before : ℤ) (last : Option LeftItem) (item : LeftItem) (more : List ℕ) → pos 0 ≤ℤ before → LastLow last → IsLeftPlacedIn text x before (goes_on text last item) item →
      (pos 0 ≤ℤ left_end_in x before item → LastLow (Some item) → AllByRecursion IsLow more) → AllByRecursion IsLow (left_unknowns item ++ more)
  first_low before last (l.At lit time) more low was placed later =
      let here = le_both (pos 0) before (integer_in x time) low placed in
      all_joined IsLow (unknowns time) more (unknowns_low time here) (later here tt)
  first_low before last (l.Span a from to) more low was placed later =
      let here = span_low (is_macro (kind_of text a.name)) (goes_on text last (l.Span a from to)) before (integer_in x from) (integer_in x to) low (begins_low last a from to was) placed in
      all_joined IsLow (unknowns from ++ unknowns to) more (all_joined IsLow (unknowns from) (unknowns to) (unknowns_low from here.0) (unknowns_low to here.1)) (later here.1 here.0)
  first_low before last (l.Bare lit) more low was placed later = later low tt
  first_low before last (l.Built built) more low was placed later = later low tt

  rest_low : (before : ℤ) (last : Option LeftItem) (rest : List Left) → pos 0 ≤ℤ before → LastLow last → AreLeftInOrderIn text x before last rest →
      AllByRecursion IsLow (flat_map (λ left. left_unknowns left.item) rest)
  rest_low before last [] low was h = tt
  rest_low before last (left ∷ rest) low was h =
      first_low before last left.item (flat_map (λ left. left_unknowns left.item) rest) low was h.0
      (λ here now. rest_low (left_end_in x before left.item) (Some left.item) rest here now h.1)

  when_same : (time : When) → AllByRecursion IsLow (unknowns time) → Same text x (λ k. natural (x k)) time
  when_same (Known n) low = refl
  when_same (Unknown k) low = natural_is (x k) low.0

  item_same : (item : LeftItem) → AllByRecursion IsLow (left_unknowns item) → SameItem text x (λ k. natural (x k)) item
  item_same (l.At lit time) low = when_same time low
  item_same (l.Span a from to) low = (when_same from (all_front IsLow (unknowns from) (unknowns to) low), when_same to (all_behind IsLow (unknowns from) (unknowns to) low))
  item_same (l.Bare lit) low = tt
  item_same (l.Built built) low = tt

  rest_same : (rest : List Left) → AllByRecursion IsLow (flat_map (λ left. left_unknowns left.item) rest) → AllByRecursion (SameLeft text x (λ k. natural (x k))) rest
  rest_same [] low = tt
  rest_same (left ∷ rest) low =
      (item_same left.item (all_front IsLow (left_unknowns left.item) _ low), rest_same rest (all_behind IsLow (left_unknowns left.item) (flat_map (λ left. left_unknowns left.item) rest) low))

  cons_same : (cons : List LeftCon) → AllByRecursion IsLow (flat_map (λ con. unknowns con.left ++ unknowns con.right) cons) → AllByRecursion (SameCon text x (λ k. natural (x k))) cons
  cons_same [] low = tt
  cons_same (con ∷ cons) low =
      let both = all_front IsLow (unknowns con.left ++ unknowns con.right) (flat_map (λ con. unknowns con.left ++ unknowns con.right) cons) low in (
        (when_same con.left (all_front IsLow (unknowns con.left) (unknowns con.right) both), when_same con.right (all_behind IsLow (unknowns con.left) (unknowns con.right) both)),
        cons_same cons (all_behind IsLow (unknowns con.left ++ unknowns con.right) (flat_map (λ con. unknowns con.left ++ unknowns con.right) cons) low),
      )

in_naturals : (text : Text) (now : ℕ) (g : Shape) → AreTimesLeft g → (can : CanComeTrueIn text now g) →
    (c : CanComeTrue text now g) × (c.times ≡ (λ k. natural (can.times k))) × (c.first ≡ can.first)
in_naturals text now g left can =
    let x = can.times in
    let unknown_in_rest = flat_map (λ (left : Left). left_unknowns left.item) g.rest in
    let low : AllByRecursion (IsLow text x) unknown_in_rest = rest_low text x (pos now) None g.rest (at_least_none now) tt can.in_order in
    to_naturals text x (λ k. natural (x k)) now g can refl (rest_same text x g.rest low)
    (cons_same text x g.limits
    (all_to (Contains unknown_in_rest) (IsLow text x) (λ k among. All-contains (IsLow text x) unknown_in_rest k (All-from_recursion (IsLow text x) unknown_in_rest low) among)
    (flat_map (λ con. unknowns con.left ++ unknowns con.right) g.limits) left))

pub can_in_naturals : (text : Text) (now : ℕ) (g : Shape) → AreTimesLeft g → CanComeTrueIn text now g → CanComeTrue text now g
can_in_naturals text now g left can = (in_naturals text now g left can).0

-- ---- the next step begins now

time_there : (y : ℕ → ℕ) (time : When) → integer_in (λ k. pos (y k)) time ≡ pos (time_in y time)
time_there y (Known n) = refl
time_there y (Unknown k) = refl

time_back : (x : ℕ → ℤ) (time : When) → time_in (λ k. natural (x k)) time ≡ natural (integer_in x time)
time_back x (Known n) = refl
time_back x (Unknown k) = refl

begun_there : (now : ℕ) (y : ℕ → ℕ) (item : LeftItem) → IsBegun now y item → IsBegunIn now (λ k. pos (y k)) item
begun_there now y (l.Span a from to) h = time_there y from ∙ ap (λ n. pos n) h
begun_there now y (l.At lit time) h = h
begun_there now y (l.Bare lit) h = h
begun_there now y (l.Built built) h = h

begun_back : (now : ℕ) (x : ℕ → ℤ) (item : LeftItem) → IsBegunIn now x item → IsBegun now (λ k. natural (x k)) item
begun_back now x (l.Span a from to) h = time_back x from ∙ ap natural h
begun_back now x (l.At lit time) h = h
begun_back now x (l.Bare lit) h = h
begun_back now x (l.Built built) h = h

pub may_in_integers : (text : Text) (now : ℕ) (g : Shape) → MayBegin text now g → MayBeginIn text now g
may_in_integers text now g may =
    let c = in_integers text now g may.can in
    record { can = c.0; begun = subst (λ (f : Left). IsBegunIn now c.0.times f.item) (sym c.2) (subst (λ x. IsBegunIn now x may.can.first.item) (sym c.1) (begun_there now may.can.times may.can.first.item may.begun)) }

pub may_in_naturals : (text : Text) (now : ℕ) (g : Shape) → AreTimesLeft g → MayBeginIn text now g → MayBegin text now g
may_in_naturals text now g left may =
    let c = in_naturals text now g left may.can in
    record { can = c.0; begun = subst (λ (f : Left). IsBegun now c.0.times f.item) (sym c.2) (subst (λ x. IsBegun now x may.can.first.item) (sym c.1) (begun_back now may.can.times may.can.first.item may.begun)) }
