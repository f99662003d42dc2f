-- What is left at a place can come true after now by itself exactly where a plan can go on there.
use Rattle.std.proofs.Common.{ℕ, suc, Bool, true, false, ◌≡◌, ◌≤◌, ◌<◌, List, [], ◌∷◌, ◌++◌, ◌∙◌, refl, sym, ap, subst, arith}
use Rattle.std.specs.Prelude.{◌&&◌, ◌==◌, nat_eq, Option, Some, None}
use Rattle.std.specs.List.{AllByRecursion, flat_map}
use Rattle.std.proofs.lemmas.Bool.Decides.{nat_tests}
use Rattle.lps_terms.specs.declared.atom.Atom.{Atom}
use Rattle.lps_terms.specs.declared.item.Item.{Item}
use Rattle.lps_terms.specs.declared.item.Item.TheVariants as i
use Rattle.lps_terms.specs.declared.kind.Kind.{Kind}
use Rattle.lps_terms.specs.declared.kind.Kind.TheVariants as k
use Rattle.lps_terms.specs.declared.text.Text.{Text}
use Rattle.lps_terms.specs.declared.time_var.TimeVar.{TimeVar}
use Rattle.lps_terms.specs.Put.{put_atom}
use Rattle.lps_model.specs.declared.trace.Trace.{Trace}
use Rattle.lps_model.specs.Order.{happens, are_grouped}
use Rattle.lps_meaning.specs.declared.node.Left.{Left}
use Rattle.lps_meaning.specs.declared.node.LeftItem.{LeftItem}
use Rattle.lps_meaning.specs.declared.node.LeftItem.TheVariants as l
use Rattle.lps_meaning.specs.declared.when.When.{When}
use Rattle.lps_meaning.specs.declared.when.When.TheVariants.{Known, Unknown}
use Rattle.lps_nodes.specs.Conditions.{time_in, is_same_time, goes_on, AreLeftInOrder, IsLeftAhead, ShowsGroup, ShowGroups, last_or}
use Rattle.lps_meaning.specs.Items.{put_item}
use Rattle.lps_model.specs.Rules.{is_macro, kind_of}
use Rattle.lps_meaning.specs.Sequences.{Entry, Place, Values, Times, Walk, stop, pass, replace, entries, joins_to, IsSpanPlaced, IsPlaced, AreInOrder, end_of, IsTrueItem, is_call, is_step, IsAhead, HasSameValues, HasSameTimes}
use Rattle.lps_nodes.specs.Shapes.{Whens, left_of, left_at}

-- ---- marks of groups along a walk

-- an entry that is marked goes on with the group of the entry before it, in its environment
abbrev pub IsMarked : Text → Option Entry → Entry → Type 0
IsMarked text last e = e.joins ≡ true → (p : Entry) × (last ≡ Some p) × (p.env ≡ e.env) × (are_grouped (kind_of text) p.item e.item ≡ true)

abbrev pub AreMarked : Text → Option Entry → List Entry → Type 0
AreMarked text last [] = Unit {0}
AreMarked text last (e ∷ es) = IsMarked text last e × AreMarked text (Some e) es

pub none_some : {X : Type 0} {x : X} → None ≡ Some x → ⊥
none_some e = cc

pub false_true : false ≡ true → ⊥
false_true e = cc

marked_from : (text : Text) (env nest : ℕ) (items : List Item) (p : Entry) → p.env ≡ env → AreMarked text (Some p) (entries text env nest (Some p.item) items)
marked_from text env nest [] p same = tt
marked_from text env nest (item ∷ items) p same = (
  (λ is. (p, refl, same, is)),
  marked_from text env nest items (record { env = env; nest = nest; joins = joins_to text (Some p.item) item; item = item }) refl,
)

pub marked_none : (text : Text) (env nest : ℕ) (items : List Item) (last : Option Entry) → AreMarked text last (entries text env nest None items)
marked_none text env nest [] last = tt
marked_none text env nest (item ∷ items) last = (
  (λ is. absurd (false_true is)),
  marked_from text env nest items (record { env = env; nest = nest; joins = false; item = item }) refl,
)

pub marked_joined : (text : Text) (last : Option Entry) (xs ys : List Entry) → AreMarked text last xs → ((q : Option Entry) → AreMarked text q ys) → AreMarked text last (xs ++ ys)
marked_joined text last [] ys h more = more last
marked_joined text last (x ∷ xs) ys h more = (h.0, marked_joined text (Some x) xs ys h.1 more)

-- what follows a call is not marked
pub macro_is_no_happening : (kind : Option Kind) → is_macro kind ≡ true → happens kind ≡ false
macro_is_no_happening None e = refl
macro_is_no_happening (Some k.Fluent) e = refl
macro_is_no_happening (Some k.Event) e = absurd (false_true e)
macro_is_no_happening (Some k.Action) e = absurd (false_true e)
macro_is_no_happening (Some k.Timeless) e = refl
macro_is_no_happening (Some k.Derived) e = refl
macro_is_no_happening (Some k.Macro) e = refl

and_false : (a b : Bool) → a ≡ false → (a && b) ≡ true → ⊥
and_false true b e h = cc
and_false false b e h = cc

no_group_of_call : (text : Text) (a : Atom) (from to : TimeVar) (item : Item) → is_macro (kind_of text a.name) ≡ true → are_grouped (kind_of text) (i.Span a from to) item ≡ true → ⊥
no_group_of_call text a from to (i.Span b from' to') macro h = and_false (happens (kind_of text a.name)) _ (macro_is_no_happening (kind_of text a.name) macro) h
no_group_of_call text a from to (i.At lit time) macro h = false_true h
no_group_of_call text a from to (i.Bare lit) macro h = false_true h
no_group_of_call text a from to (i.Built built) macro h = false_true h
no_group_of_call text a from to (i.Con con) macro h = false_true h

pub some_entry : {x y : Entry} → Some x ≡ Some y → x ≡ y
some_entry {x = x} e = ap (or_else x) e
  where
    or_else : Entry → Option Entry → Entry
    or_else d (Some q) = q
    or_else d None = d

pub marked_behind_call : (text : Text) (e : Entry) (rest : List Entry) (a : Atom) (from to : TimeVar) → e.item ≡ i.Span a from to → is_macro (kind_of text a.name) ≡ true →
    AreMarked text (Some e) rest → (q : Option Entry) → AreMarked text q rest
marked_behind_call text e [] a from to is macro h q = tt
marked_behind_call text e (next ∷ rest) a from to is macro h q = (
  (λ joins. let m = h.0 joins in
      absurd (no_group_of_call text a from to next.item macro (subst (λ it. are_grouped (kind_of text) it next.item ≡ true) (sym (ap (λ x. x.item) (some_entry m.1)) ∙ is) m.3))),
  h.1,
)

module _ (text : Text) (level : List ℕ → ℕ) (trace : Trace) (given : List ℕ) (s : Values) (t : Times) where
  -- marks stay along a walk
  pub marked : {now : ℕ} {end place : Place} → Walk text level trace given s t now end place → (last : Option Entry) → AreMarked text last place.left →
      (q : Option Entry) × AreMarked text q end.left
  marked stop last h = (last, h)
  marked (pass env nest joins item rest left no_call is_true small placed walk) last h =
      let e : Entry = record { env = env; nest = nest; joins = joins; item = item } in
      marked walk (Some e) (subst (AreMarked text last) left h).1
  marked {place = place} (replace e rest a from to number clause left item macro named values times small walk) last h =
      let behind = marked_behind_call text e rest a from to item macro (subst (AreMarked text last) left h).1 in
      marked walk last (marked_joined text last (entries text place.next (suc e.nest) None clause.items) rest (marked_none text place.next (suc e.nest) clause.items last) behind)

  -- an event or action that was passed last ended by now, one after it began
  abbrev pub IsOver : ℕ → Option Entry → Type 0
  IsOver now last = (p : Entry) (a : Atom) (from to : TimeVar) → last ≡ Some p → p.item ≡ i.Span a from to → (t p.env to.0 ≤ now) × (t p.env to.0 ≡ suc (t p.env from.0))

  ends_after : (macro joins : Bool) (before from to : ℕ) → macro ≡ false → IsSpanPlaced macro joins before from to → to ≡ suc from
  ends_after true joins before from to plain h = absurd (false_true (sym plain))
  ends_after false true before from to plain h = h.0
  ends_after false false before from to plain h = h.0

  pub over_passed : (now before : ℕ) (e : Entry) → is_call text e.item ≡ false → IsTrueItem text level trace now (t e.env) (put_item (s e.env) e.item) →
      IsPlaced text (t e.env) before e.joins e.item → IsOver now (Some e)
  over_passed now before e no_call is_true placed p a from to same is =
      let here : e ≡ p = some_entry same in
      let item : e.item ≡ i.Span a from to = ap (λ x. x.item) here ∙ is in
      let by_now = subst (λ (it : Item). IsTrueItem text level trace now (t e.env) (put_item (s e.env) it)) item is_true in
      let after = subst (λ (it : Item). IsPlaced text (t e.env) before e.joins it) item placed in
      let plain : is_macro (kind_of text a.name) ≡ false = sym (ap (is_call text) item) ∙ no_call in
      subst (λ n. (t n to.0 ≤ now) × (t n to.0 ≡ suc (t n from.0))) (ap (λ x. x.env) here)
      (by_now.0, ends_after (is_macro (kind_of text a.name)) e.joins before (t e.env from.0) (t e.env to.0) plain after)

  -- marks stay along a walk, and what was passed last is over
  pub marked_over : {now : ℕ} {end place : Place} → Walk text level trace given s t now end place → (last : Option Entry) → AreMarked text last place.left → IsOver now last →
      (q : Option Entry) × AreMarked text q end.left × IsOver now q
  marked_over stop last h over = (last, h, over)
  marked_over {now} {place = place} (pass env nest joins item rest left no_call is_true small placed walk) last h over =
      let e : Entry = record { env = env; nest = nest; joins = joins; item = item } in
      marked_over walk (Some e) (subst (AreMarked text last) left h).1 (over_passed now place.before e no_call is_true placed)
  marked_over {place = place} (replace e rest a from to number clause left item macro named values times small walk) last h over =
      let behind = marked_behind_call text e rest a from to item macro (subst (AreMarked text last) left h).1 in
      marked_over walk last (marked_joined text last (entries text place.next (suc e.nest) None clause.items) rest (marked_none text place.next (suc e.nest) clause.items last) behind) over

  end_by : (now env before : ℕ) (item : Item) → before ≤ now → IsTrueItem text level trace now (t env) (put_item (s env) item) → end_of (t env) before item ≤ now
  end_by now env before (i.At lit time) le h = h.0
  end_by now env before (i.Bare lit) le h = le
  end_by now env before (i.Built built) le h = le
  end_by now env before (i.Span a from to) le h = h.0
  end_by now env before (i.Con con) le h = le

  -- the last step passed ended by now
  pub ended : {now : ℕ} {end place : Place} → Walk text level trace given s t now end place → place.before ≤ now → end.before ≤ now
  ended stop le = le
  ended {now} {place = place} (pass env nest joins item rest left no_call is_true small placed walk) le = ended walk (end_by now env place.before item le is_true)
  ended (replace e rest a from to number clause left item macro named values times small walk) le = ended walk le

  -- the calls replaced have the values and times of the bodies in their places
  pub linked : {now : ℕ} {end place : Place} → Walk text level trace given s t now end place → AllByRecursion (HasSameValues s) place.links → AllByRecursion (HasSameTimes t) place.links →
      AllByRecursion (HasSameValues s) end.links × AllByRecursion (HasSameTimes t) end.links
  linked stop vals whens = (vals, whens)
  linked (pass env nest joins item rest left no_call is_true small placed walk) vals whens = linked walk vals whens
  linked (replace e rest a from to number clause left item macro named values times small walk) vals whens = linked walk (values, vals) (times, whens)

-- ---- times

-- the times of an item, with x for what is unknown, are those by t
abbrev pub TimesAre : (ℕ → ℕ) → (ℕ → When) → (ℕ → ℕ) → Item → Type 0
TimesAre x w t (i.At lit time) = time_in x (w time.0) ≡ t time.0
TimesAre x w t (i.Span a from to) = (time_in x (w from.0) ≡ t from.0) × (time_in x (w to.0) ≡ t to.0)
TimesAre x w t _ = Unit {0}

same_time_self : (time : When) → is_same_time time time ≡ true
same_time_self (Known n) = grind (arith, nat_tests)
same_time_self (Unknown k) = grind (arith, nat_tests)

same_time_is : (x : ℕ → ℕ) (one other : When) → is_same_time one other ≡ true → time_in x one ≡ time_in x other
same_time_is x (Known n) (Known m) e = equal n m e
  where
    equal : (n m : ℕ) → nat_eq n m ≡ true → n ≡ m
    equal n m e = grind (arith, nat_tests)
same_time_is x (Unknown j) (Unknown k) e = ap x (equal j k e)
  where
    equal : (n m : ℕ) → nat_eq n m ≡ true → n ≡ m
    equal n m e = grind (arith, nat_tests)
same_time_is x (Known n) (Unknown k) e = absurd (false_true e)
same_time_is x (Unknown j) (Known m) e = absurd (false_true e)

pub and_true : (a b : Bool) → (a && b) ≡ true → (a ≡ true) × (b ≡ true)
and_true true b e = (refl, e)
and_true false b e = absurd (false_true e)

both_true : (a b : Bool) → a ≡ true → b ≡ true → (a && b) ≡ true
both_true true b e f = f
both_true false b e f = absurd (false_true e)

test_is : (m n : ℕ) → (m == n) ≡ true → m ≡ n
test_is m n e = grind (arith, nat_tests)

-- ---- order

abbrev is_span : Item → Bool
is_span (i.Span a from to) = true
is_span _ = false

abbrev atom_in : Atom → Item → Atom
atom_in d (i.Span a from to) = a
atom_in d _ = d

abbrev from_in : TimeVar → Item → TimeVar
from_in d (i.Span a from to) = from
from_in d _ = d

abbrev to_in : TimeVar → Item → TimeVar
to_in d (i.Span a from to) = to
to_in d _ = d

abbrev pub item_or : LeftItem → List Left → LeftItem
item_or d [] = d
item_or d (left ∷ rest) = left.item

module _ (text : Text) (u : Values) (w : Whens) (t : Times) (x : ℕ → ℕ) where
  -- the item left of an entry that is no data item, if there is one before
  abbrev pub ShowsLast : Option Entry → Option LeftItem → Type 0
  ShowsLast last shown = (p : Entry) (a : Atom) (from to : TimeVar) → last ≡ Some p → p.item ≡ i.Span a from to → shown ≡ Some (l.Span (put_atom (u p.env) a) (w p.env from.0) (w p.env to.0))

  -- a span that was before ended there
  abbrev pub EndedAt : ℕ → Option LeftItem → Type 0
  EndedAt before (Some (l.Span a from to)) = before ≡ time_in x to
  EndedAt before _ = Unit {0}

  -- marked and in order, an item left goes on with the group of the one before it
  pub marked_shows : (last : Option Entry) (shown : Option LeftItem) (e : Entry) (a : Atom) (from to : TimeVar) → e.item ≡ i.Span a from to → ShowsLast last shown → IsMarked text last e →
      e.joins ≡ true → goes_on text shown (l.Span (put_atom (u e.env) a) (w e.env from.0) (w e.env to.0)) ≡ true
  marked_shows last shown e a from to is shows marks joins =
      let m = marks joins in
      let p = m.0 in
      let grouped : are_grouped (kind_of text) p.item (i.Span a from to) ≡ true = subst (λ it. are_grouped (kind_of text) p.item it ≡ true) is m.3 in
      by_item p.item refl grouped
    where
      by_item : (item : Item) → (marks joins).0.item ≡ item → are_grouped (kind_of text) item (i.Span a from to) ≡ true →
          goes_on text shown (l.Span (put_atom (u e.env) a) (w e.env from.0) (w e.env to.0)) ≡ true
      by_item (i.Span b from' to') same grouped =
          let m = marks joins in
          let here = shows m.0 b from' to' m.1 same in
          let one = and_true (happens (kind_of text b.name)) _ grouped in
          let two = and_true (happens (kind_of text a.name)) _ one.1 in
          let times = and_true (from'.0 == from.0) (to'.0 == to.0) two.1 in
          let begins : w m.0.env from'.0 ≡ w e.env from.0 = λ j. w (m.2 j) (test_is from'.0 from.0 times.0 j) in
          let ends : w m.0.env to'.0 ≡ w e.env to.0 = λ j. w (m.2 j) (test_is to'.0 to.0 times.1 j) in
          subst (λ q. goes_on text q (l.Span (put_atom (u e.env) a) (w e.env from.0) (w e.env to.0)) ≡ true) (sym here)
          (both_true (happens (kind_of text b.name)) _ one.0 (both_true (happens (kind_of text a.name)) _ two.0
          (both_true _ _ (subst (λ q. is_same_time q (w e.env from.0) ≡ true) (sym begins) (same_time_self (w e.env from.0)))
          (subst (λ q. is_same_time q (w e.env to.0) ≡ true) (sym ends) (same_time_self (w e.env to.0))))))
      by_item (i.At lit time) same grouped = absurd (false_true grouped)
      by_item (i.Bare lit) same grouped = absurd (false_true grouped)
      by_item (i.Built built) same grouped = absurd (false_true grouped)
      by_item (i.Con con) same grouped = absurd (false_true grouped)

  -- where an item left goes on with the one before it, it ends when that did
  pub together_ends : (before : ℕ) (shown : Option LeftItem) (a : Atom) (from to : When) → EndedAt before shown → goes_on text shown (l.Span a from to) ≡ true → before ≡ time_in x to
  together_ends before None a from to ends h = absurd (false_true h)
  together_ends before (Some (l.Span b from' to')) a from to ends h =
      let one = and_true (happens (kind_of text b.name)) _ h in
      let two = and_true (happens (kind_of text a.name)) _ one.1 in
      let times = and_true (is_same_time from' from) (is_same_time to' to) two.1 in
      ends ∙ same_time_is x to' to times.1
  together_ends before (Some (l.At lit time)) a from to ends h = absurd (false_true h)
  together_ends before (Some (l.Bare lit)) a from to ends h = absurd (false_true h)
  together_ends before (Some (l.Built built)) a from to ends h = absurd (false_true h)

  span_there : (macro joins shown : Bool) (before from to : ℕ) → (joins ≡ true → shown ≡ true) → (shown ≡ true → before ≡ to) →
      IsSpanPlaced macro joins before from to → IsSpanPlaced macro shown before from to
  span_there true joins shown before from to there ends h = h
  span_there false true true before from to there ends h = h
  span_there false true false before from to there ends h = absurd (false_true (there refl))
  span_there false false true before from to there ends h = let end = ends refl in let one = h.0 in let two = h.1 in absurd (omega (arith, end, one, two))
  span_there false false false before from to there ends h = h

  no_span : {item : Item} {a : Atom} {from to : TimeVar} → is_span item ≡ false → item ≡ i.Span a from to → ⊥
  no_span plain is = false_true (sym plain ∙ ap is_span is)

  -- an entry that is no span shows nothing
  pub shows_nothing : (e : Entry) (item : Item) (shown : Option LeftItem) → e.item ≡ item → is_span item ≡ false → ShowsLast (Some e) shown
  shows_nothing e item shown is plain p a from to same span =
      absurd (no_span plain (sym (sym (ap (λ q. q.item) (some_entry same)) ∙ is) ∙ span))

  pub shows_span : (e : Entry) (a : Atom) (from to : TimeVar) → e.item ≡ i.Span a from to → ShowsLast (Some e) (Some (l.Span (put_atom (u e.env) a) (w e.env from.0) (w e.env to.0)))
  shows_span e a from to is p a' from' to' same span =
      let q = some_entry same in
      let items : i.Span a from to ≡ i.Span a' from' to' = sym is ∙ ap (λ y. y.item) q ∙ span in
      λ j. Some (l.Span (put_atom (u (q j).env) (atom_in a (items j))) (w (q j).env (from_in from (items j)).0) (w (q j).env (to_in to (items j)).0))

  order_first : (before : ℕ) (last : Option Entry) (shown : Option LeftItem) (e : Entry) (item : Item) (es : List Entry) → e.item ≡ item → ShowsLast last shown → EndedAt before shown →
      IsMarked text last e → TimesAre x (w e.env) (t e.env) item → IsPlaced text (t e.env) before e.joins item →
      ((after : ℕ) (next : Option LeftItem) → after ≡ end_of (t e.env) before item → ShowsLast (Some e) next → EndedAt after next →
      AreLeftInOrder text x after next (flat_map (left_at u w) es)) →
      AreLeftInOrder text x before shown (left_of (u e.env) (w e.env) e.nest item ++ flat_map (left_at u w) es)
  order_first before last shown e (i.At lit time) es is shows ends marks times placed more =
      (subst (λ n. before ≤ n) (sym times) placed, more _ _ times (shows_nothing e (i.At lit time) _ is refl) tt)
  order_first before last shown e (i.Bare lit) es is shows ends marks times placed more = (tt, more _ _ refl (shows_nothing e (i.Bare lit) _ is refl) tt)
  order_first before last shown e (i.Built built) es is shows ends marks times placed more = (tt, more _ _ refl (shows_nothing e (i.Built built) _ is refl) tt)
  order_first before last shown e (i.Con con) es is shows ends marks times placed more = more _ _ refl (shows_nothing e (i.Con con) _ is refl) ends
  order_first before last shown e (i.Span a from to) es is shows ends marks times placed more =
      let item : LeftItem = l.Span (put_atom (u e.env) a) (w e.env from.0) (w e.env to.0) in
      let macro : Bool = is_macro (kind_of text a.name) in
      let here : IsSpanPlaced macro e.joins before (time_in x (w e.env from.0)) (time_in x (w e.env to.0)) =
      subst (λ n. IsSpanPlaced macro e.joins before n (time_in x (w e.env to.0))) (sym times.0) (subst (λ n. IsSpanPlaced macro e.joins before (t e.env from.0) n) (sym times.1) placed) in (
        span_there macro e.joins (goes_on text shown item) before (time_in x (w e.env from.0)) (time_in x (w e.env to.0))
            (λ joins. marked_shows last shown e a from to is shows marks joins)
            (λ on. together_ends before shown (put_atom (u e.env) a) (w e.env from.0) (w e.env to.0) ends on) here,
        more _ _ times.1 (shows_span e a from to is) refl,
      )

  pub order_there : (before : ℕ) (last : Option Entry) (shown : Option LeftItem) (es : List Entry) → ShowsLast last shown → EndedAt before shown → AreMarked text last es →
      AllByRecursion (λ e. TimesAre x (w e.env) (t e.env) e.item) es → AreInOrder text t before es → AreLeftInOrder text x before shown (flat_map (left_at u w) es)
  order_there before last shown [] shows ends marks times h = tt
  order_there before last shown (e ∷ es) shows ends marks times h =
      order_first before last shown e e.item es refl shows ends marks.0 times.0 h.0
      (λ after next same shows' ends'. order_there after (Some e) next es shows' ends' marks.1 times.1 (subst (λ b. AreInOrder text t b es) (sym same) h.1))

  -- and back, where the marks can be told from the items left
  back_first : (before : ℕ) (shown : Option LeftItem) (e : Entry) (item : Item) (es : List Entry) → TimesAre x (w e.env) (t e.env) item →
      ShowsGroup text e.joins shown (left_of (u e.env) (w e.env) e.nest item) →
      AreLeftInOrder text x before shown (left_of (u e.env) (w e.env) e.nest item ++ flat_map (left_at u w) es) →
      ((after : ℕ) → after ≡ end_of (t e.env) before item → AreLeftInOrder text x after (last_or shown (left_of (u e.env) (w e.env) e.nest item)) (flat_map (left_at u w) es) →
      AreInOrder text t (end_of (t e.env) before item) es) →
      IsPlaced text (t e.env) before e.joins item × AreInOrder text t (end_of (t e.env) before item) es
  back_first before shown e (i.At lit time) es times shows h more = (subst (λ n. before ≤ n) times h.0, more _ times h.1)
  back_first before shown e (i.Bare lit) es times shows h more = (tt, more _ refl h.1)
  back_first before shown e (i.Built built) es times shows h more = (tt, more _ refl h.1)
  back_first before shown e (i.Con con) es times shows h more = (tt, more _ refl h)
  back_first before shown e (i.Span a from to) es times shows h more =
      let macro : Bool = is_macro (kind_of text a.name) in (
        subst (λ n. IsSpanPlaced macro e.joins before n (t e.env to.0)) times.0
            (subst (λ n. IsSpanPlaced macro e.joins before (time_in x (w e.env from.0)) n) times.1
            (subst (λ joins. IsSpanPlaced macro joins before (time_in x (w e.env from.0)) (time_in x (w e.env to.0))) (sym shows) h.0)),
        more _ times.1 h.1,
      )

  pub order_back : (before : ℕ) (shown : Option LeftItem) (es : List Entry) → AllByRecursion (λ e. TimesAre x (w e.env) (t e.env) e.item) es → ShowGroups text u w shown es →
      AreLeftInOrder text x before shown (flat_map (left_at u w) es) → AreInOrder text t before es
  order_back before shown [] times shows h = tt
  order_back before shown (e ∷ es) times shows h =
      back_first before shown e e.item es times.0 shows.0 h
      (λ after same rest. subst (λ b. AreInOrder text t b es) same (order_back after (last_or shown (left_at u w e)) es times.1 shows.1 rest))

  -- ---- the first step

  -- a step is one item left, that begins when it does
  pub first_there : (now env nest : ℕ) (item : Item) → is_step item ≡ true → IsAhead now (t env) item → TimesAre x (w env) (t env) item →
      (left : Left) × (left_of (u env) (w env) nest item ≡ left ∷ []) × IsLeftAhead now x left.item
  first_there now env nest (i.At lit time) step ahead times = (_, refl, subst (λ n. now < n) (sym times) ahead)
  first_there now env nest (i.Span a from to) step ahead times = (_, refl, subst (λ n. now ≤ n) (sym times.0) ahead)
  first_there now env nest (i.Bare lit) step ahead times = absurd (false_true step)
  first_there now env nest (i.Built built) step ahead times = absurd (false_true step)
  first_there now env nest (i.Con con) step ahead times = absurd (false_true step)

  pub first_back : (now env nest : ℕ) (item : Item) (left : Left) (rest behind : List Left) → left_of (u env) (w env) nest item ++ rest ≡ left ∷ behind → is_step item ≡ true → IsLeftAhead now x left.item →
      TimesAre x (w env) (t env) item → IsAhead now (t env) item
  first_back now env nest (i.At lit time) left rest behind e step ahead times =
      subst (λ n. now < n) times (subst (λ it. IsLeftAhead now x it) (sym (ap (λ ls. item_or left.item ls) e)) ahead)
  first_back now env nest (i.Span a from to) left rest behind e step ahead times =
      subst (λ n. now ≤ n) times.0 (subst (λ it. IsLeftAhead now x it) (sym (ap (λ ls. item_or left.item ls) e)) ahead)
  first_back now env nest (i.Bare lit) left rest behind e step ahead times = absurd (false_true step)
  first_back now env nest (i.Built built) left rest behind e step ahead times = absurd (false_true step)
  first_back now env nest (i.Con con) left rest behind e step ahead times = absurd (false_true step)

  -- a span that is ahead is in order after now, by itself
  span_ahead : (macro joins : Bool) (before now from to : ℕ) → now ≤ from → IsSpanPlaced macro joins before from to → IsSpanPlaced macro false now from to
  span_ahead true joins before now from to ahead h = (ahead, h.1)
  span_ahead false true before now from to ahead h = (h.0, ahead)
  span_ahead false false before now from to ahead h = (h.0, ahead)

  span_after : (macro joins : Bool) (before now from to : ℕ) → before ≤ now → joins ≡ false → now ≤ from → IsSpanPlaced macro false now from to → IsSpanPlaced macro joins before from to
  span_after true joins before now from to le plain ahead h = (omega arith, h.1)
  span_after false true before now from to le plain ahead h = absurd (false_true (sym plain))
  span_after false false before now from to le plain ahead h = (h.0, omega arith)

  pub first_placed : (before now : ℕ) (e : Entry) (item : Item) → is_step item ≡ true → IsAhead now (t e.env) item → IsPlaced text (t e.env) before e.joins item → IsPlaced text (t e.env) now false item
  first_placed before now e (i.At lit time) step ahead h = omega arith
  first_placed before now e (i.Span a from to) step ahead h = span_ahead (is_macro (kind_of text a.name)) e.joins before now (t e.env from.0) (t e.env to.0) ahead h
  first_placed before now e (i.Bare lit) step ahead h = h
  first_placed before now e (i.Built built) step ahead h = h
  first_placed before now e (i.Con con) step ahead h = h

  pub placed_first : (before now : ℕ) (e : Entry) (item : Item) → before ≤ now → e.joins ≡ false → is_step item ≡ true → IsAhead now (t e.env) item → IsPlaced text (t e.env) now false item → IsPlaced text (t e.env) before e.joins item
  placed_first before now e (i.At lit time) le plain step ahead h = omega arith
  placed_first before now e (i.Span a from to) le plain step ahead h = span_after (is_macro (kind_of text a.name)) e.joins before now (t e.env from.0) (t e.env to.0) le plain ahead h
  placed_first before now e (i.Bare lit) le plain step ahead h = h
  placed_first before now e (i.Built built) le plain step ahead h = h
  placed_first before now e (i.Con con) le plain step ahead h = h

  -- the end of a step does not depend on what was before
  pub end_of_step : (one other env : ℕ) (item : Item) → is_step item ≡ true → end_of (t env) one item ≡ end_of (t env) other item
  end_of_step one other env (i.At lit time) step = refl
  end_of_step one other env (i.Span a from to) step = refl
  end_of_step one other env (i.Bare lit) step = absurd (false_true step)
  end_of_step one other env (i.Built built) step = absurd (false_true step)
  end_of_step one other env (i.Con con) step = absurd (false_true step)

  -- ---- groups that can be told

  pub equal_flags : (a b : Bool) → (a ≡ true → b ≡ true) → (b ≡ true → a ≡ true) → a ≡ b
  equal_flags true true there back = refl
  equal_flags true false there back = sym (there refl)
  equal_flags false true there back = back refl
  equal_flags false false there back = refl

  no_call_joins : (shown : Option LeftItem) (a : Atom) (from to : When) → is_macro (kind_of text a.name) ≡ true → goes_on text shown (l.Span a from to) ≡ true → ⊥
  no_call_joins None a from to macro h = false_true h
  no_call_joins (Some (l.Span b from' to')) a from to macro h =
      let one = and_true (happens (kind_of text b.name)) _ h in
      let two = and_true (happens (kind_of text a.name)) _ one.1 in
      false_true (sym (macro_is_no_happening (kind_of text a.name) macro) ∙ two.0)
  no_call_joins (Some (l.At lit time)) a from to macro h = false_true h
  no_call_joins (Some (l.Bare lit)) a from to macro h = false_true h
  no_call_joins (Some (l.Built built)) a from to macro h = false_true h

  -- in order, a span that ends when the one before it did is marked, where it is no call
  pub span_marked : (macro joins : Bool) (before from to : ℕ) → macro ≡ false → before ≡ to → IsSpanPlaced macro joins before from to → joins ≡ true
  span_marked true joins before from to plain ends h = absurd (false_true (sym plain))
  span_marked false true before from to plain ends h = refl
  span_marked false false before from to plain ends h = let one = h.0 in let two = h.1 in absurd (omega (arith, ends, one, two))

  span_shows : (before : ℕ) (last : Option Entry) (shown : Option LeftItem) (e : Entry) (a : Atom) (from to : TimeVar) → e.item ≡ i.Span a from to → ShowsLast last shown → EndedAt before shown →
      IsMarked text last e → TimesAre x (w e.env) (t e.env) (i.Span a from to) → IsPlaced text (t e.env) before e.joins (i.Span a from to) →
      e.joins ≡ goes_on text shown (l.Span (put_atom (u e.env) a) (w e.env from.0) (w e.env to.0))
  span_shows before last shown e a from to is shows ends marks times placed =
      equal_flags e.joins (goes_on text shown (l.Span (put_atom (u e.env) a) (w e.env from.0) (w e.env to.0))) (λ joins. marked_shows last shown e a from to is shows marks joins)
      (λ on. by (is_macro (kind_of text a.name)) refl on)
    where
      by : (macro : Bool) → is_macro (kind_of text a.name) ≡ macro → goes_on text shown (l.Span (put_atom (u e.env) a) (w e.env from.0) (w e.env to.0)) ≡ true → e.joins ≡ true
      by true macro on = absurd (no_call_joins shown (put_atom (u e.env) a) (w e.env from.0) (w e.env to.0) macro on)
      by false plain on =
          span_marked (is_macro (kind_of text a.name)) e.joins before (t e.env from.0) (t e.env to.0) plain
          (together_ends before shown (put_atom (u e.env) a) (w e.env from.0) (w e.env to.0) ends on ∙ times.1) placed

  -- an item that is no span is of no group
  alone : (before item : Item) → is_span item ≡ false → are_grouped (kind_of text) before item ≡ true → ⊥
  alone (i.Span a from to) (i.Span b from' to') plain h = false_true (sym plain)
  alone (i.Span a from to) (i.At lit time) plain h = false_true h
  alone (i.Span a from to) (i.Bare lit) plain h = false_true h
  alone (i.Span a from to) (i.Built built) plain h = false_true h
  alone (i.Span a from to) (i.Con con) plain h = false_true h
  alone (i.At lit time) item plain h = false_true h
  alone (i.Bare lit) item plain h = false_true h
  alone (i.Built built) item plain h = false_true h
  alone (i.Con con) item plain h = false_true h

  unmarked : (last : Option Entry) (e : Entry) (item : Item) → e.item ≡ item → is_span item ≡ false → IsMarked text last e → e.joins ≡ true → ⊥
  unmarked last e item is plain marks joins =
      let m = marks joins in alone m.0.item item plain (subst (λ it. are_grouped (kind_of text) m.0.item it ≡ true) is m.3)

  abbrev is_span_left : LeftItem → Bool
  is_span_left (l.Span a from to) = true
  is_span_left _ = false

  alone_left : (shown : Option LeftItem) (item : LeftItem) → is_span_left item ≡ false → goes_on text shown item ≡ true → ⊥
  alone_left None item plain h = false_true h
  alone_left (Some (l.Span a from to)) (l.Span b from' to') plain h = false_true (sym plain)
  alone_left (Some (l.Span a from to)) (l.At lit time) plain h = false_true h
  alone_left (Some (l.Span a from to)) (l.Bare lit) plain h = false_true h
  alone_left (Some (l.Span a from to)) (l.Built built) plain h = false_true h
  alone_left (Some (l.At lit time)) item plain h = false_true h
  alone_left (Some (l.Bare lit)) item plain h = false_true h
  alone_left (Some (l.Built built)) item plain h = false_true h

  pub shows_plain : (last : Option Entry) (shown : Option LeftItem) (e : Entry) (item : Item) (left : LeftItem) → e.item ≡ item → is_span item ≡ false → is_span_left left ≡ false → IsMarked text last e →
      e.joins ≡ goes_on text shown left
  shows_plain last shown e item left is plain plain_left marks =
      equal_flags e.joins (goes_on text shown left) (λ joins. absurd (unmarked last e item is plain marks joins)) (λ on. absurd (alone_left shown left plain_left on))

  shows_first : (before : ℕ) (last : Option Entry) (shown : Option LeftItem) (e : Entry) (item : Item) (es : List Entry) → e.item ≡ item → ShowsLast last shown → EndedAt before shown →
      IsMarked text last e → TimesAre x (w e.env) (t e.env) item → IsPlaced text (t e.env) before e.joins item →
      ((after : ℕ) (next : Option LeftItem) → after ≡ end_of (t e.env) before item → ShowsLast (Some e) next → EndedAt after next → ShowGroups text u w next es) →
      ShowsGroup text e.joins shown (left_of (u e.env) (w e.env) e.nest item) × ShowGroups text u w (last_or shown (left_of (u e.env) (w e.env) e.nest item)) es
  shows_first before last shown e (i.At lit time) es is shows ends marks times placed more =
      (shows_plain last shown e (i.At lit time) _ is refl refl marks, more _ _ times (shows_nothing e (i.At lit time) _ is refl) tt)
  shows_first before last shown e (i.Bare lit) es is shows ends marks times placed more =
      (shows_plain last shown e (i.Bare lit) _ is refl refl marks, more _ _ refl (shows_nothing e (i.Bare lit) _ is refl) tt)
  shows_first before last shown e (i.Built built) es is shows ends marks times placed more =
      (shows_plain last shown e (i.Built built) _ is refl refl marks, more _ _ refl (shows_nothing e (i.Built built) _ is refl) tt)
  shows_first before last shown e (i.Con con) es is shows ends marks times placed more = (tt, more _ _ refl (shows_nothing e (i.Con con) _ is refl) ends)
  shows_first before last shown e (i.Span a from to) es is shows ends marks times placed more =
      (span_shows before last shown e a from to is shows ends marks times placed, more _ _ times.1 (shows_span e a from to is) refl)

  pub shows_there : (before : ℕ) (last : Option Entry) (shown : Option LeftItem) (es : List Entry) → ShowsLast last shown → EndedAt before shown → AreMarked text last es →
      AllByRecursion (λ e. TimesAre x (w e.env) (t e.env) e.item) es → AreInOrder text t before es → ShowGroups text u w shown es
  shows_there before last shown [] shows ends marks times h = tt
  shows_there before last shown (e ∷ es) shows ends marks times h =
      shows_first before last shown e e.item es refl shows ends marks.0 times.0 h.0
      (λ after next same shows' ends'. shows_there after (Some e) next es shows' ends' marks.1 times.1 (subst (λ b. AreInOrder text t b es) (sym same) h.1))

  -- the first step left of a plan is not marked: its group would be over
  pub first_unmarked : (before now : ℕ) (last : Option Entry) (e : Entry) (item : Item) → e.item ≡ item → before ≤ now → IsAhead now (t e.env) item → IsMarked text last e →
      IsPlaced text (t e.env) before e.joins item → e.joins ≡ true → ⊥
  first_unmarked before now last e (i.At lit time) is le ahead marks placed joins = unmarked last e (i.At lit time) is refl marks joins
  first_unmarked before now last e (i.Bare lit) is le ahead marks placed joins = ahead
  first_unmarked before now last e (i.Built built) is le ahead marks placed joins = ahead
  first_unmarked before now last e (i.Con con) is le ahead marks placed joins = ahead
  first_unmarked before now last e (i.Span a from to) is le ahead marks placed joins = by (is_macro (kind_of text a.name)) refl
    where
      over : (macro joins : Bool) (from to : ℕ) → macro ≡ false → joins ≡ true → now ≤ from → IsSpanPlaced macro joins before from to → ⊥
      over true joins from to plain is_joined later h = false_true (sym plain)
      over false true from to plain is_joined later h = let one = h.0 in let two = h.1 in omega (arith, one, two, later, le)
      over false false from to plain is_joined later h = false_true is_joined

      no_group : (before : Item) → is_macro (kind_of text a.name) ≡ true → are_grouped (kind_of text) before (i.Span a from to) ≡ true → ⊥
      no_group (i.Span b from' to') macro h =
          let two = and_true (happens (kind_of text a.name)) _ (and_true (happens (kind_of text b.name)) _ h).1 in
          false_true (sym (macro_is_no_happening (kind_of text a.name) macro) ∙ two.0)
      no_group (i.At lit time) macro h = false_true h
      no_group (i.Bare lit) macro h = false_true h
      no_group (i.Built built) macro h = false_true h
      no_group (i.Con con) macro h = false_true h

      by : (macro : Bool) → is_macro (kind_of text a.name) ≡ macro → ⊥
      by true macro = let m = marks joins in no_group m.0.item macro (subst (λ it. are_grouped (kind_of text) m.0.item it ≡ true) is m.3)
      by false plain = over (is_macro (kind_of text a.name)) e.joins (t e.env from.0) (t e.env to.0) plain joins ahead placed
