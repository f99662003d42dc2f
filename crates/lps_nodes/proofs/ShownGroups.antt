-- In accepted texts the groups of what is left at a place can be told from the items left: steps that are not of one group
-- may end at different times, so in the most general shape they have different ones.
use Rattle.std.proofs.Common.{ℕ, suc, Bool, true, false, cond, ◌≡◌, ◌≤◌, List, [], ◌∷◌, ◌++◌, ◌∙◌, map, refl, sym, ap, subst, arith, inl, inr}
use Rattle.std.specs.Prelude.{◌==◌, ◌⊎◌, nat_eq, Option, Some, None, Contains}
use Rattle.std.specs.List.{AllByRecursion, flat_map}
use Rattle.std.proofs.lemmas.Bool.Decides.{nat_tests}
use Rattle.std.proofs.lemmas.List.Elements.{All-contains, All-from_recursion}
use Rattle.lps_terms.specs.declared.atom.Atom.{Atom}
use Rattle.lps_terms.specs.declared.item.Item.{Item}
use Rattle.lps_terms.specs.declared.item.Item.TheVariants as i
use Rattle.lps_terms.specs.declared.term.Term.{Term}
use Rattle.lps_terms.specs.declared.text.Text.{Text}
use Rattle.lps_terms.specs.declared.time_var.TimeVar.{TimeVar}
use Rattle.lps_terms.specs.Put.{after, put_atom}
use Rattle.lps_model.specs.Acceptance.{IsAccepted}
use Rattle.lps_model.specs.declared.trace.Trace.{Trace}
use Rattle.lps_model.specs.Order.{happens, are_grouped, times_in}
use Rattle.lps_derivation.specs.Instances.{put_lit}
use Rattle.lps_meaning.specs.declared.node.LeftItem.{LeftItem}
use Rattle.lps_meaning.specs.declared.node.LeftItem.TheVariants as l
use Rattle.lps_meaning.specs.declared.when.When.{When}
use Rattle.lps_meaning.specs.declared.when.When.TheVariants.{Known, Unknown}
use Rattle.lps_nodes.specs.Conditions.{CanComeTrue, goes_on, is_same_time, last_or, ShowGroups, ShowsGroup}
use Rattle.lps_meaning.specs.Goals.{AreAllGround, CanGoOn, shared_times}
use Rattle.lps_nodes.specs.Laws.{IsOfText}
use Rattle.lps_model.specs.Rules.{kind_of, rules}
use Rattle.lps_meaning.specs.Sequences.{Entry, Link, Place, Values, Times, Walk, start, IsAhead, is_call, is_step}
use Rattle.lps_nodes.specs.Shapes.{Sequence, Shape, Whens, alternative_of, antecedent_of, put_when, put_shape, left_of, left_at, HasSameWhens, all_known, shape_of, IsPossible, IsGeneral}
use Rattle.lps_nodes.proofs.Colours.{Colour, Colours, AreApart, EndsApart, HasSameColours, IsColoured, coloured, hues, is_same, same_not, same_self}
use Rattle.lps_nodes.proofs.ConditionLaws.{AreMarked, IsMarked, IsOver, ShowsLast, and_true, equal_flags, false_true, marked_none, marked_over, marked_shows, none_some, shows_nothing, shows_plain, shows_span}
use Rattle.lps_nodes.proofs.Freshness.{AreFresh, IsNone, fresh_weaker, step_times}
use Rattle.lps_nodes.proofs.NodeLaws.{ahead, all_two, each_same, has_plan, marked_behind, other, plain, second_time, walk_moved}
use Rattle.lps_meaning.proofs.Occurrences.{all_front, all_behind}
use Rattle.lps_nodes.proofs.Orderly.{IsOrderlyRule, orderly, orderly_rules, shared_none, start_coloured}
use Rattle.lps_nodes.proofs.ShapeLaws.{after_when, fresh_start, shape_after}

equal : (n m : ℕ) → nat_eq n m ≡ true → n ≡ m
equal n m e = grind (arith, nat_tests)

pub same_when : (one two : When) → is_same_time one two ≡ true → one ≡ two
same_when (Known n) (Known m) e = ap (λ k. Known k) (equal n m e)
same_when (Unknown n) (Unknown m) e = ap (λ k. Unknown k) (equal n m e)
same_when (Known n) (Unknown m) e = absurd (false_true e)
same_when (Unknown n) (Known m) e = absurd (false_true e)

-- another time
abbrev another : When → When
another (Known n) = Known (suc n)
another (Unknown k) = Known 0

number_of : When → ℕ
number_of (Known n) = suc n
number_of (Unknown k) = 0

pub differs : (one : When) → one ≡ another one → ⊥
unfolding number_of
differs (Known n) e = let same : suc n ≡ suc (suc n) = ap number_of e in omega (arith, same)
differs (Unknown k) e = let same : 0 ≡ 1 = ap number_of e in omega (arith, same)

abbrev is_span_left : LeftItem → Bool
is_span_left (l.Span a from to) = true
is_span_left _ = false

abbrev is_span_shown : Option LeftItem → Bool
is_span_shown None = false
is_span_shown (Some item) = is_span_left item

abbrev end_shown : When → Option LeftItem → When
end_shown d (Some (l.Span a from to)) = to
end_shown d _ = d

-- what goes on with an item left is of the same two times as that
pub goes_with : (text : Text) (last : Option LeftItem) (a : Atom) (from to : When) → goes_on text last (l.Span a from to) ≡ true →
    (b : Atom) × (begin : When) × (end : When) × (last ≡ Some (l.Span b begin end)) × (end ≡ to)
goes_with text None a from to e = absurd (false_true e)
goes_with text (Some (l.Span b begin end)) a from to e =
    let one = and_true (happens (kind_of text b.name)) _ e in
    let two = and_true (happens (kind_of text a.name)) _ one.1 in
    (b, begin, end, refl, same_when end to (and_true (is_same_time begin from) (is_same_time end to) two.1).1)
goes_with text (Some (l.At lit time)) a from to e = absurd (false_true e)
goes_with text (Some (l.Bare lit)) a from to e = absurd (false_true e)
goes_with text (Some (l.Built built)) a from to e = absurd (false_true e)

module _ (text : Text) (q : Sequence) (s : Values) (t : Times) (ground : AreAllGround s) (end : Place) (g : Shape) (is : IsGeneral q s t end g) (paint : IsColoured text q.given_times end) where
  abbrev u : Values
  u = is.values

  abbrev w : Whens
  w = is.whens

  abbrev colour : Colours
  colour = paint.colour

  -- the colours of times that are known, passed or given
  abbrev base : List Colour
  base = flat_map (hues colour) end.past ++ map (colour 0) q.given_times

  -- ---- all times of one colour can become another

  -- d for each time of the colour c
  abbrev turned : Colour → When → Whens
  turned c d env v = cond (is_same (colour env v) c) d (w env v)

  unturned : (c : Colour) (d : When) (env v : ℕ) → (c ≡ colour env v → ⊥) → turned c d env v ≡ w env v
  unturned c d env v out = ap (λ b. cond b d (w env v)) (same_not (colour env v) c (λ e. out (sym e)))

  given_same : (c : Colour) (d : When) (vs : List ℕ) → IsNone c (map (colour 0) vs) → map (turned c d 0) vs ≡ map (w 0) vs
  given_same c d [] out = refl
  given_same c d (v ∷ vs) out = λ j. unturned c d 0 v out.0 j ∷ given_same c d vs out.1 j

  entry_same : (c : Colour) (d : When) (env nest : ℕ) (item : Item) → IsNone c (map (colour env) (step_times item)) → left_of (u env) (turned c d env) nest item ≡ left_of (u env) (w env) nest item
  entry_same c d env nest (i.At lit time) out = ap (λ k. record { item = l.At (put_lit (u env) lit) k; nest = nest } ∷ []) (unturned c d env time.0 out.0)
  entry_same c d env nest (i.Span a from to) out =
      λ j. record { item = l.Span (put_atom (u env) a) (unturned c d env from.0 out.0 j) (unturned c d env to.0 out.1.0 j); nest = nest } ∷ []
  entry_same c d env nest (i.Bare lit) out = refl
  entry_same c d env nest (i.Built built) out = refl
  entry_same c d env nest (i.Con con) out = refl

  past_same : (c : Colour) (d : When) (es : List Entry) → IsNone c (flat_map (hues colour) es) → AllByRecursion (λ e. left_at u w e ≡ left_at s (all_known t) e) es →
      AllByRecursion (λ e. left_at u (turned c d) e ≡ left_at s (all_known t) e) es
  past_same c d [] out h = tt
  past_same c d (e ∷ es) out h = (
    entry_same c d e.env e.nest e.item (all_front (λ k. c ≡ k → ⊥) (hues colour e) (flat_map (hues colour) es) out) ∙ h.0,
    past_same c d es (all_behind (λ k. c ≡ k → ⊥) (hues colour e) (flat_map (hues colour) es) out) h.1,
  )

  link_same : (c : Colour) (d : When) (link : Link) → HasSameColours colour link → HasSameWhens w link → HasSameWhens (turned c d) link
  link_same c d link h k = ((λ j. cond (is_same (h.0 j) c) d (k.0 j)), (λ j. cond (is_same (h.1 j) c) d (k.1 j)))

  pub possible : (c : Colour) (d : When) → IsNone c base → IsPossible q s t end u (turned c d)
  possible c d out = record {
    values = is.possible.values;
    times = given_same c d q.given_times (all_behind (λ k. c ≡ k → ⊥) (flat_map (hues colour) end.past) (map (colour 0) q.given_times) out) ∙ is.possible.times;
    past = past_same c d end.past (all_front (λ k. c ≡ k → ⊥) (flat_map (hues colour) end.past) (map (colour 0) q.given_times) out) is.possible.past;
    links = is.possible.links;
    when_links = all_two (HasSameColours colour) (HasSameWhens w) (HasSameWhens (turned c d)) (link_same c d) end.links paint.links is.possible.when_links;
  }

  abbrev instance_of : (c : Colour) (d : When) → IsNone c base → (v : ℕ → Term) × (x : ℕ → When) × (shape_of q end u (turned c d) ≡ put_shape v x g)
  instance_of c d out = is.general u (turned c d) (possible c d out)

  -- the entries are instances of the most general ones
  abbrev pub AreInstances : List Entry → Type 0
  AreInstances es = (c : Colour) (d : When) (out : IsNone c base) →
      AllByRecursion (λ e. left_at (λ env. after (instance_of c d out).0 (u env)) (λ env. after_when (instance_of c d out).1 (w env)) e ≡ left_at u (turned c d) e) es

  pub instances : AreInstances end.left
  instances c d out =
      let r = instance_of c d out in
      each_same (λ env. after r.0 (u env)) u (λ env. after_when r.1 (w env)) (turned c d) end.left
      (ap (λ h. h.rest) (sym (shape_after text q s t ground end u w r.0 r.1) ∙ ap (put_shape r.0 r.1) (sym is.own) ∙ sym r.2))

  -- the time becomes what it is turned to
  abbrev Becomes : ℕ → ℕ → Type 0
  Becomes env v = (c : Colour) (d : When) (out : IsNone c base) → put_when (instance_of c d out).1 (w env v) ≡ turned c d env v

  -- two times of different colours, of which one is not known, are not the same
  apart : (env v env' v' : ℕ) → Becomes env v → Becomes env' v' → IsNone (colour env' v') base → (colour env' v' ≡ colour env v → ⊥) → w env v ≡ w env' v' → ⊥
  apart env v env' v' here there out differ same =
      let c : Colour = colour env' v' in
      let d : When = another (w env v) in
      differs (w env v)
      (sym (unturned c d env v differ) ∙ sym (here c d out) ∙ ap (put_when (instance_of c d out).1) same ∙ there c d out ∙ ap (λ b. cond b d (w env' v')) (same_self c))

  -- a time that is not known has no number
  pub never_known : (env v : ℕ) → Becomes env v → IsNone (colour env v) base → (n : ℕ) → w env v ≡ Known n → ⊥
  never_known env v here out n same =
      let c : Colour = colour env v in
      let d : When = another (Known n) in
      differs (Known n)
      (sym (ap (put_when (instance_of c d out).1) same) ∙ here c d out ∙ ap (λ b. cond b d (w env v)) (same_self c))

  -- ---- groups

  -- a span left last ended at a time whose colour was seen
  abbrev WasSeen : Option LeftItem → List Colour → Type 0
  WasSeen last seen = (b : Atom) (from to : When) → last ≡ Some (l.Span b from to) →
      (env : ℕ) × (v : ℕ) × (w env v ≡ to) × ((c : Colour) → IsNone c seen → c ≡ colour env v → ⊥) × Becomes env v

  not_seen : (item : LeftItem) (seen : List Colour) → is_span_left item ≡ false → WasSeen (Some item) seen
  not_seen item seen no_span b from to e = absurd (false_true (sym no_span ∙ ap is_span_shown e))

  seen_more : (last : Option LeftItem) (more seen : List Colour) → WasSeen last seen → WasSeen last (more ++ seen)
  seen_more last more seen h b from to e = let k = h b from to e in (k.0, k.1, k.2, (λ c out. k.3 c (all_behind (λ z. c ≡ z → ⊥) more seen out)), k.4)

  pub becomes_span : (e : Entry) (a : Atom) (from to : TimeVar) → e.item ≡ i.Span a from to → AreInstances (e ∷ []) → Becomes e.env to.0
  becomes_span e a from to item each c d out =
      let r = instance_of c d out in
      ap (second_time (Known 0))
      (subst (λ (it : Item). left_of (after r.0 (u e.env)) (after_when r.1 (w e.env)) e.nest it ≡ left_of (u e.env) (turned c d e.env) e.nest it) item (each c d out).0)

  span_seen : (e : Entry) (a : Atom) (from to : TimeVar) (seen : List Colour) → e.item ≡ i.Span a from to → AreInstances (e ∷ []) →
      WasSeen (Some (l.Span (put_atom (u e.env) a) (w e.env from.0) (w e.env to.0))) (hues colour e ++ seen)
  span_seen e a from to seen item each b begin finish same = (
    e.env,
    to.0,
    ap (end_shown (w e.env to.0)) same,
    (λ c out. (subst (λ (it : Item). IsNone c (map (colour e.env) (step_times it) ++ seen)) item out).1.0),
    becomes_span e a from to item each,
  )

  -- a span that begins a step does not go on with what was left before it
  begins_new : (last : Option LeftItem) (e : Entry) (a : Atom) (from to : TimeVar) (seen : List Colour) → e.item ≡ i.Span a from to → e.joins ≡ false →
      ((e.joins ≡ true → is_call text e.item ≡ true) → EndsApart colour seen e.env e.item) → ((c : Colour) → IsNone c seen → IsNone c base) → WasSeen last seen → AreInstances (e ∷ []) →
      goes_on text last (l.Span (put_atom (u e.env) a) (w e.env from.0) (w e.env to.0)) ≡ true → ⊥
  begins_new last e a from to seen item no_join ends known was each on =
      let before = goes_with text last (put_atom (u e.env) a) (w e.env from.0) (w e.env to.0) on in
      let k = was before.0 before.1 before.2 before.3 in
      let none : IsNone (colour e.env to.0) (colour e.env from.0 ∷ seen) = subst (EndsApart colour seen e.env) item (ends (λ joined. absurd (false_true (sym no_join ∙ joined)))) in
      apart k.0 k.1 e.env to.0 k.4 (becomes_span e a from to item each) (known (colour e.env to.0) none.1) (k.3 (colour e.env to.0) none.1) (k.2 ∙ before.4)

  tells_span : (last : Option LeftItem) (before : Option Entry) (e : Entry) (a : Atom) (from to : TimeVar) (seen : List Colour) → e.item ≡ i.Span a from to →
      ((e.joins ≡ true → is_call text e.item ≡ true) → EndsApart colour seen e.env e.item) → ((c : Colour) → IsNone c seen → IsNone c base) → WasSeen last seen → AreInstances (e ∷ []) →
      ShowsLast text u w t (λ k. k) before last → IsMarked text before e → e.joins ≡ goes_on text last (l.Span (put_atom (u e.env) a) (w e.env from.0) (w e.env to.0))
  tells_span last before e a from to seen item ends known was each shows marks =
      equal_flags text u w t (λ k. k) e.joins _ (marked_shows text u w t (λ k. k) before last e a from to item shows marks)
      (λ on. is_true e.joins refl on)
    where
      is_true : (b : Bool) → e.joins ≡ b → goes_on text last (l.Span (put_atom (u e.env) a) (w e.env from.0) (w e.env to.0)) ≡ true → e.joins ≡ true
      is_true true same on = same
      is_true false same on = absurd (begins_new last e a from to seen item same ends known was each on)

  -- what holds at an entry, and at those behind it where it is shown
  tells_first : (last : Option LeftItem) (before : Option Entry) (e : Entry) (item : Item) (es : List Entry) (seen : List Colour) → e.item ≡ item →
      ((e.joins ≡ true → is_call text e.item ≡ true) → EndsApart colour seen e.env e.item) → ((c : Colour) → IsNone c seen → IsNone c base) → WasSeen last seen → AreInstances (e ∷ []) →
      ShowsLast text u w t (λ k. k) before last → IsMarked text before e →
      ((next : Option LeftItem) → WasSeen next (hues colour e ++ seen) → ShowsLast text u w t (λ k. k) (Some e) next → ShowGroups text u w next es) →
      ShowsGroup text e.joins last (left_of (u e.env) (w e.env) e.nest item) × ShowGroups text u w (last_or last (left_of (u e.env) (w e.env) e.nest item)) es
  tells_first last before e (i.At lit time) es seen same ends known was each shows marks more =
      (shows_plain text u w t (λ k. k) before last e (i.At lit time) _ same refl refl marks, more _ (not_seen _ _ refl) (shows_nothing text u w t (λ k. k) e (i.At lit time) _ same refl))
  tells_first last before e (i.Bare lit) es seen same ends known was each shows marks more =
      (shows_plain text u w t (λ k. k) before last e (i.Bare lit) _ same refl refl marks, more _ (not_seen _ _ refl) (shows_nothing text u w t (λ k. k) e (i.Bare lit) _ same refl))
  tells_first last before e (i.Built built) es seen same ends known was each shows marks more =
      (shows_plain text u w t (λ k. k) before last e (i.Built built) _ same refl refl marks, more _ (not_seen _ _ refl) (shows_nothing text u w t (λ k. k) e (i.Built built) _ same refl))
  tells_first last before e (i.Con con) es seen same ends known was each shows marks more =
      (tt, more _ (seen_more last (hues colour e) seen was) (shows_nothing text u w t (λ k. k) e (i.Con con) _ same refl))
  tells_first last before e (i.Span a from to) es seen same ends known was each shows marks more =
      (tells_span last before e a from to seen same ends known was each shows marks, more _ (span_seen e a from to seen same each) (shows_span text u w t (λ k. k) e a from to same))

  pub tells : (last : Option LeftItem) (before : Option Entry) (es : List Entry) (seen : List Colour) → AreApart text colour seen es → ((c : Colour) → IsNone c seen → IsNone c base) →
      WasSeen last seen → AreInstances es → ShowsLast text u w t (λ k. k) before last → AreMarked text before es → ShowGroups text u w last es
  tells last before [] seen ends known was each shows marks = tt
  tells last before (e ∷ es) seen ends known was each shows marks =
      tells_first last before e e.item es seen refl ends.0 known was (λ c d out. ((each c d out).0, tt)) shows marks.0
      (λ next was' shows'. tells next (Some e) es (hues colour e ++ seen) ends.1 (λ c out. known c (all_behind (λ z. c ≡ z → ⊥) (hues colour e) seen out)) was' (λ c d out. (each c d out).1) shows' marks.1)

-- ---- the first step left

pub grouped_spans : (text : Text) (x y : Item) → are_grouped (kind_of text) x y ≡ true →
    (a : Atom) × (from : TimeVar) × (to : TimeVar) × (b : Atom) × (begin : TimeVar) × (finish : TimeVar) × (x ≡ i.Span a from to) × (y ≡ i.Span b begin finish) × (from.0 ≡ begin.0) × (to.0 ≡ finish.0)
grouped_spans text (i.Span a from to) (i.Span b begin finish) e =
    let one = and_true (happens (kind_of text a.name)) _ e in
    let two = and_true (happens (kind_of text b.name)) _ one.1 in
    let times = and_true (from.0 == begin.0) (to.0 == finish.0) two.1 in
    (a, from, to, b, begin, finish, refl, refl, same_number from.0 begin.0 times.0, same_number to.0 finish.0 times.1)
  where
    same_number : (n m : ℕ) → (n == m) ≡ true → n ≡ m
    same_number n m e = grind (arith, nat_tests)
grouped_spans text (i.Span a from to) (i.At lit time) e = absurd (false_true e)
grouped_spans text (i.Span a from to) (i.Bare lit) e = absurd (false_true e)
grouped_spans text (i.Span a from to) (i.Built c) e = absurd (false_true e)
grouped_spans text (i.Span a from to) (i.Con con) e = absurd (false_true e)
grouped_spans text (i.At lit time) y e = absurd (false_true e)
grouped_spans text (i.Bare lit) y e = absurd (false_true e)
grouped_spans text (i.Built c) y e = absurd (false_true e)
grouped_spans text (i.Con con) y e = absurd (false_true e)

module _ (text : Text) (accepted : IsAccepted text) (level : List ℕ → ℕ) (trace : Trace) (q : Sequence) (of_text : IsOfText text q) (s : Values) (t : Times) (ground : AreAllGround s) (since now : ℕ)
    (low : since ≤ now) (end : Place) (walk : Walk text level trace q.given_values s t now end (start text since q.items)) where
  given_fresh : AreFresh text q.given_times None q.items
  given_fresh = by of_text.2
    where
      of_rule : IsOrderlyRule text of_text.0
      of_rule = All-contains (IsOrderlyRule text) (rules text) of_text.0 (All-from_recursion (IsOrderlyRule text) (rules text) (orderly_rules text accepted)) of_text.1

      by : (q ≡ antecedent_of of_text.0) ⊎ ((items : List Item) × Contains of_text.0.alternatives items × (q ≡ alternative_of of_text.0 items)) → AreFresh text q.given_times None q.items
      by (inl is) = subst (λ (z : Sequence). AreFresh text z.given_times None z.items) (sym is) of_rule.0
      by (inr is) =
          subst (λ (z : Sequence). AreFresh text z.given_times None z.items) (sym is.2)
          (fresh_weaker text is.0 None (times_in of_text.0.antecedent) (shared_times of_text.0) (shared_none of_text.0)
          (All-contains (λ items. AreFresh text (times_in of_text.0.antecedent) None items) of_text.0.alternatives is.0
          (All-from_recursion (λ items. AreFresh text (times_in of_text.0.antecedent) None items) of_text.0.alternatives of_rule.1) is.1))

  pub paint : IsColoured text q.given_times end
  paint = coloured text level trace q s t ground (orderly text accepted) walk (fresh_start text q s t ground level trace since q.items) (start_coloured text since q.given_times q.items given_fresh)

  module _ (g : Shape) (is : IsGeneral q s t end g) (next : Entry) (rest : List Entry) (is_next : end.left ≡ next ∷ rest) (step : is_step next.item ≡ true) (can : CanComeTrue text now g) where
    abbrev moved : Times
    moved = other text level trace q s t ground since now low end walk g is next rest is_next step can

    -- what was passed last, and the marks of what is left
    marks : (p : Option Entry) × AreMarked text p end.left × IsOver text level trace q.given_values s moved now p
    marks = marked_over text level trace q.given_values s moved (walk_moved text level trace q s t ground since now low end walk g is next rest is_next step can) None
        (marked_none text 0 0 q.items None) (λ p a from to same. absurd (none_some same))

    marks_next : AreMarked text marks.0 (next ∷ rest)
    marks_next = subst (AreMarked text marks.0) is_next marks.1

    -- the first step is not marked: its group would be over
    not_marked : next.joins ≡ true → ⊥
    not_marked joins =
        let m = marks_next.0 joins in
        let spans = grouped_spans text m.0.item next.item m.3 in
        let over = marks.2 m.0 spans.0 spans.1 spans.2 m.1 spans.6 in
        let later : now ≤ moved next.env spans.4.0 = subst (λ (it : Item). IsAhead now (moved next.env) it) spans.7 (ahead text level trace q s t ground since now low end walk g is next rest is_next step can) in
        let begins : moved m.0.env spans.1.0 ≡ moved next.env spans.4.0 = λ j. moved (m.2 j) (spans.8 j) in
        let ends = over.0 in
        let after = over.1 in
        omega (arith, later, begins, ends, after)

    unmarked : next.joins ≡ false
    unmarked = by next.joins refl
      where
        by : (b : Bool) → next.joins ≡ b → next.joins ≡ false
        by true e = absurd (not_marked e)
        by false e = e

    -- the first step as one without a mark
    is_plain : end.left ≡ plain next ∷ rest
    is_plain = is_next ∙ (λ j. record { env = next.env; nest = next.nest; joins = unmarked j; item = next.item } ∷ rest)

    pub shown : ShowGroups text is.values is.whens None end.left
    shown =
        subst (ShowGroups text is.values is.whens None) (sym is_plain)
        (tells text q s t ground end g is paint None None (plain next ∷ rest) (flat_map (hues paint.colour) end.past ++ map (paint.colour 0) q.given_times)
        (subst (AreApart text paint.colour (flat_map (hues paint.colour) end.past ++ map (paint.colour 0) q.given_times)) is_plain paint.apart) (λ c out. out)
        (λ b from to e. absurd (none_some e)) (subst (AreInstances text q s t ground end g is paint) is_plain (instances text q s t ground end g is paint))
        (λ p a from to same item. absurd (none_some same)) ((λ is. absurd (false_true is)), marked_behind text next rest marks_next.1))

  pub accepted_plan : (g : Shape) (is : IsGeneral q s t end g) (next : Entry) (rest : List Entry) → end.left ≡ next ∷ rest → is_step next.item ≡ true → CanComeTrue text now g →
      (z : Times) × (map (z 0) q.given_times ≡ map (t 0) q.given_times) × Walk text level trace q.given_values s z now end (start text since q.items)
      × CanGoOn text q.given_values s z now q.items end
  accepted_plan g is next rest is_next step can =
      has_plan text level trace q s t ground since now low end walk g is next rest is_next step can (shown g is next rest is_next step can)
