-- The time conditions of the most general shape of a place have a solution where a plan can go on there; and where they have
-- one, a plan can.
use Rattle.std.proofs.Common.{ℕ, Bool, true, false, ◌≡◌, ◌≤◌, List, [], ◌∷◌, ◌++◌, ◌∙◌, map, refl, sym, ap, subst}
use Rattle.std.specs.Prelude.{pos, ◌+ℤ◌, Option, Some, None}
use Rattle.std.specs.List.{AllByRecursion, flat_map}
use Rattle.lps_terms.specs.declared.atom.Atom.{Atom}
use Rattle.lps_terms.specs.declared.time_var.TimeVar.{TimeVar}
use Rattle.lps_terms.specs.declared.item.Item.{Item}
use Rattle.lps_terms.specs.declared.item.Item.TheVariants as i
use Rattle.lps_terms.specs.declared.term.Term.{Term}
use Rattle.lps_terms.specs.declared.text.Text.{Text}
use Rattle.lps_terms.specs.Put.{after, put_atom}
use Rattle.lps_model.specs.Order.{are_grouped}
use Rattle.lps_derivation.specs.Instances.{put_lit, put_built}
use Rattle.lps_model.specs.declared.trace.Trace.{Trace}
use Rattle.lps_meaning.specs.declared.node.Left.{Left}
use Rattle.lps_meaning.specs.declared.node.LeftCon.{LeftCon}
use Rattle.lps_meaning.specs.declared.node.LeftItem.{LeftItem}
use Rattle.lps_meaning.specs.declared.node.LeftItem.TheVariants as l
use Rattle.lps_meaning.specs.declared.when.When.{When}
use Rattle.lps_meaning.specs.declared.when.When.TheVariants.{Known, Unknown}
use Rattle.lps_nodes.specs.Conditions.{time_in, AreLeftInOrder, IsLeftAhead, IsLeftLimit, IsLeftSmall, CanComeTrue, ShowsGroup, ShowGroups}
use Rattle.lps_meaning.specs.Goals.{AreAllGround, CanGoOn}
use Rattle.lps_meaning.specs.Items.{put_item, IsSmallItem}
use Rattle.lps_model.specs.Rules.{kind_of}
use Rattle.lps_meaning.specs.Sequences.{Entry, Link, Place, Values, Times, Walk, start, AreInOrder, AreLimits, IsLimit, Relates, IsAhead, IsPlaced, AreAlike, IsSmallSoFar, HasSameValues, HasSameTimes, is_step}
use Rattle.lps_nodes.specs.NextSteps.{IsBegun, MayBegin}
use Rattle.lps_nodes.specs.Shapes.{Sequence, Shape, Whens, put_when, put_left, put_left_con, put_shape, left_of, left_at, con_of, limits_of, HasSameWhens, all_known, shape_of, IsPossible, IsGeneral}
use Rattle.lps_nodes.proofs.ConditionLaws.{AreMarked, marked_none, marked, ended, linked, TimesAre, order_there, order_back, first_there, first_back, first_placed, placed_first, end_of_step, shows_there, first_unmarked, some_entry, none_some, false_true}
use Rattle.lps_nodes.proofs.Moves.{SameEntry, moved, item_in, lit_in, atom_in, built_in}
use Rattle.lps_meaning.proofs.Occurrences.{all_to, all_front, all_behind, all_joined}
use Rattle.lps_nodes.proofs.ShapeLaws.{shape_after, left_after, front_same, after_when}
use Rattle.lps_nodes.proofs.Sizes.{small_before}

-- ---- lists

pub all_self : {X A : Type 0} (f : X → A) (xs : List X) → AllByRecursion (λ x. f x ≡ f x) xs
all_self f [] = tt
all_self f (x ∷ xs) = (refl, all_self f xs)

pub map_two : {X Y Z : Type 0} (f : Y → Z) (g : X → Y) (xs : List X) → map f (map g xs) ≡ map (λ x. f (g x)) xs
map_two f g [] = refl
map_two f g (x ∷ xs) = ap (λ ys. f (g x) ∷ ys) (map_two f g xs)

-- ---- times

abbrev number_in : When → ℕ
number_in (Known n) = n
number_in (Unknown k) = k

-- where x says what is put in for an unknown time, a time that becomes known is that number
becomes : (x : ℕ → When) (time : When) (n : ℕ) → put_when x time ≡ Known n → time_in (λ k. number_in (x k)) time ≡ n
becomes x (Known m) n e = ap number_in e
becomes x (Unknown k) n e = ap number_in e

abbrev pub first_time : When → List Left → When
first_time d [] = d
first_time d (left ∷ rest) = of_item left.item
  where
    of_item : LeftItem → When
    of_item (l.At lit time) = time
    of_item (l.Span a from to) = from
    of_item _ = Known 0

abbrev pub second_time : When → List Left → When
second_time d [] = d
second_time d (left ∷ rest) = of_item left.item
  where
    of_item : LeftItem → When
    of_item (l.Span a from to) = to
    of_item _ = Known 0

-- an entry under values and times that make it what it is under known ones has those times
times_of : (u s : ℕ → Term) (w x : ℕ → When) (t : ℕ → ℕ) (nest : ℕ) (item : Item) →
    left_of u (after_when x w) nest item ≡ left_of s (λ v. Known (t v)) nest item → TimesAre (λ k. number_in (x k)) w t item
times_of u s w x t nest (i.At lit time) e = becomes x (w time.0) (t time.0) (ap (first_time (Known 0)) e)
times_of u s w x t nest (i.Span a from to) e = (becomes x (w from.0) (t from.0) (ap (first_time (Known 0)) e), becomes x (w to.0) (t to.0) (ap (second_time (Known 0)) e))
times_of u s w x t nest (i.Bare lit) e = tt
times_of u s w x t nest (i.Built built) e = tt
times_of u s w x t nest (i.Con con) e = tt

-- ---- constraints

-- a constraint between known times that is true
abbrev IsTold : LeftCon → Type 0
IsTold con = (n : ℕ) × (m : ℕ) × (con.left ≡ Known n) × (con.right ≡ Known m) × Relates con.rel (pos n) (pos m +ℤ con.plus)

told_items : (t : ℕ → ℕ) (items : List Item) → AllByRecursion (IsLimit t) items → AllByRecursion IsTold (flat_map (con_of (λ v. Known (t v))) items)
told_items t [] h = tt
told_items t (i.Con con ∷ items) h = ((t con.left.0, t con.right.0, refl, refl, h.0), told_items t items h.1)
told_items t (i.At lit time ∷ items) h = told_items t items h.1
told_items t (i.Bare lit ∷ items) h = told_items t items h.1
told_items t (i.Built built ∷ items) h = told_items t items h.1
told_items t (i.Span a from to ∷ items) h = told_items t items h.1

-- those of the sequence come last in the definition of what is true, and first in a shape
own_limits : (t : Times) (items : List Item) (links : List Link) → AreLimits t items links → AllByRecursion (IsLimit (t 0)) items
own_limits t items [] h = h
own_limits t items (link ∷ links) h = own_limits t items links h.1

told_links : (t : Times) (items : List Item) (links : List Link) → AreLimits t items links → AllByRecursion IsTold (limits_of (all_known t) links)
told_links t items [] h = tt
told_links t items (link ∷ links) h =
    all_joined IsTold (limits_of (all_known t) links) _ (told_links t items links h.1) (told_items (t link.inner) link.clause.items h.0)

abbrev con_or : LeftCon → List LeftCon → LeftCon
con_or d [] = d
con_or d (con ∷ rest) = con

abbrev cons_behind : List LeftCon → List LeftCon
cons_behind [] = []
cons_behind (con ∷ rest) = rest

-- what becomes true constraints between known times was true with what was put in
limits_there : (x : ℕ → When) (cons told : List LeftCon) → map (put_left_con x) cons ≡ told → AllByRecursion IsTold told → AllByRecursion (IsLeftLimit (λ k. number_in (x k))) cons
limits_there x [] told e h = tt
limits_there x (con ∷ cons) told e h =
    let all : AllByRecursion IsTold (put_left_con x con ∷ map (put_left_con x) cons) = subst (AllByRecursion IsTold) (sym e) h in
    let here : IsTold (put_left_con x con) = all.0 in
    let left : time_in (λ k. number_in (x k)) con.left ≡ here.0 = becomes x con.left here.0 here.2 in
    let right : time_in (λ k. number_in (x k)) con.right ≡ here.1 = becomes x con.right here.1 here.3 in (
      subst (λ n. Relates con.rel (pos n) (pos (time_in (λ k. number_in (x k)) con.right) +ℤ con.plus)) (sym left)
          (subst (λ m. Relates con.rel (pos here.0) (pos m +ℤ con.plus)) (sym right) here.4),
      limits_there x cons (map (put_left_con x) cons) refl all.1,
    )

items_back : (y : ℕ → ℕ) (w : ℕ → When) (items : List Item) → AllByRecursion (IsLeftLimit y) (flat_map (con_of w) items) → AllByRecursion (IsLimit (λ v. time_in y (w v))) items
items_back y w [] h = tt
items_back y w (i.Con con ∷ items) h = (h.0, items_back y w items h.1)
items_back y w (i.At lit time ∷ items) h = (tt, items_back y w items h)
items_back y w (i.Bare lit ∷ items) h = (tt, items_back y w items h)
items_back y w (i.Built built ∷ items) h = (tt, items_back y w items h)
items_back y w (i.Span a from to ∷ items) h = (tt, items_back y w items h)

limits_back : (y : ℕ → ℕ) (w : Whens) (items : List Item) (links : List Link) → AllByRecursion (IsLimit (λ v. time_in y (w 0 v))) items →
    AllByRecursion (IsLeftLimit y) (limits_of w links) → AreLimits (λ env v. time_in y (w env v)) items links
limits_back y w items [] own h = own
limits_back y w items (link ∷ links) own h = (
  items_back y (w link.inner) link.clause.items (all_behind (IsLeftLimit y) (limits_of w links) _ h),
  limits_back y w items links own (all_front (IsLeftLimit y) (limits_of w links) _ h),
)

-- constraints that are true with known times are those of an instance
pub limits_of_known : (t : Times) (items : List Item) (links : List Link) → AllByRecursion (IsLeftLimit (λ k. 0)) (flat_map (con_of (all_known t 0)) items ++ limits_of (all_known t) links) → AreLimits t items links
limits_of_known t items links all =
    limits_back (λ k. 0) (all_known t) items links
    (items_back (λ k. 0) (all_known t 0) items (all_front (IsLeftLimit (λ k. 0)) (flat_map (con_of (all_known t 0)) items) (limits_of (all_known t) links) all))
    (all_behind (IsLeftLimit (λ k. 0)) (flat_map (con_of (all_known t 0)) items) (limits_of (all_known t) links) all)

-- ---- sizes

small_there : (u : ℕ → Term) (w : ℕ → When) (nest : ℕ) (item : Item) → IsSmallItem (put_item u item) → AllByRecursion (λ left. IsLeftSmall left.item) (left_of u w nest item)
small_there u w nest (i.At lit time) h = (h, tt)
small_there u w nest (i.Bare lit) h = (h, tt)
small_there u w nest (i.Built built) h = (h, tt)
small_there u w nest (i.Span a from to) h = (h, tt)
small_there u w nest (i.Con con) h = tt

small_back : (u : ℕ → Term) (w : ℕ → When) (nest : ℕ) (item : Item) → AllByRecursion (λ left. IsLeftSmall left.item) (left_of u w nest item) → IsSmallItem (put_item u item)
small_back u w nest (i.At lit time) h = h.0
small_back u w nest (i.Bare lit) h = h.0
small_back u w nest (i.Built built) h = h.0
small_back u w nest (i.Span a from to) h = h.0
small_back u w nest (i.Con con) h = tt

small_lefts : (v : ℕ → Term) (x : ℕ → When) (lefts : List Left) → AllByRecursion (λ left. IsLeftSmall left.item) (map (put_left v x) lefts) → AllByRecursion (λ left. IsLeftSmall left.item) lefts
small_lefts v x [] h = tt
small_lefts v x (left ∷ lefts) h = (small_before v x left.item h.0, small_lefts v x lefts h.1)

-- ---- entries

pub each_same : (u s : Values) (w z : Whens) (es : List Entry) → flat_map (left_at u w) es ≡ flat_map (left_at s z) es → AllByRecursion (λ e. left_at u w e ≡ left_at s z e) es
each_same u s w z [] e = tt
each_same u s w z (o ∷ es) e =
    let q = front_same (u o.env) (s o.env) (w o.env) (z o.env) o.nest o.item (flat_map (left_at u w) es) (flat_map (left_at s z) es) e in
    (q.0, each_same u s w z es q.1)

items_small : (u : Values) (w : Whens) (es : List Entry) →
    AllByRecursion (λ left. IsLeftSmall left.item) (flat_map (left_at u w) es) → AllByRecursion (λ e. IsSmallItem (put_item (u e.env) e.item)) es
items_small u w [] h = tt
items_small u w (e ∷ es) h = (
  small_back (u e.env) (w e.env) e.nest e.item (all_front (λ left. IsLeftSmall left.item) (left_at u w e) _ h),
  items_small u w es (all_behind (λ left. IsLeftSmall left.item) (left_at u w e) _ h),
)

lefts_small : (u : Values) (w : Whens) (es : List Entry) → AllByRecursion (λ e. AllByRecursion (λ left. IsLeftSmall left.item) (left_at u w e)) es →
    AllByRecursion (λ left. IsLeftSmall left.item) (flat_map (left_at u w) es)
lefts_small u w [] h = tt
lefts_small u w (e ∷ es) h = all_joined (λ left. IsLeftSmall left.item) (left_at u w e) (flat_map (left_at u w) es) h.0 (lefts_small u w es h.1)

-- an item of an instance, as an item left
abbrev pub left_from : (ℕ → When) → ℕ → Item → List Left
left_from z nest (i.At lit time) = record { item = l.At lit (z time.0); nest = nest } ∷ []
left_from z nest (i.Bare lit) = record { item = l.Bare lit; nest = nest } ∷ []
left_from z nest (i.Built built) = record { item = l.Built built; nest = nest } ∷ []
left_from z nest (i.Span a from to) = record { item = l.Span a (z from.0) (z to.0); nest = nest } ∷ []
left_from z nest (i.Con con) = []

pub left_is : (s : ℕ → Term) (z : ℕ → When) (nest : ℕ) (item : Item) → left_of s z nest item ≡ left_from z nest (put_item s item)
left_is s z nest (i.At lit time) = refl
left_is s z nest (i.Bare lit) = refl
left_is s z nest (i.Built built) = refl
left_is s z nest (i.Span a from to) = refl
left_is s z nest (i.Con con) = refl

pub item_same : (u s : ℕ → Term) (w z : ℕ → When) (nest : ℕ) (item : Item) → left_of u w nest item ≡ left_of s z nest item → put_item u item ≡ put_item s item
item_same u s w z nest (i.At lit time) e = ap (λ ls. i.At (lit_in (put_lit u lit) (item_in (l.At (put_lit u lit) (w time.0)) ls)) time) e
item_same u s w z nest (i.Bare lit) e = ap (λ ls. i.Bare (lit_in (put_lit u lit) (item_in (l.Bare (put_lit u lit)) ls))) e
item_same u s w z nest (i.Built c) e = ap (λ ls. i.Built (built_in (put_built u c) (item_in (l.Built (put_built u c)) ls))) e
item_same u s w z nest (i.Span a from to) e = ap (λ ls. i.Span (atom_in (put_atom u a) (item_in (l.Span (put_atom u a) (w from.0) (w to.0)) ls)) from to) e
item_same u s w z nest (i.Con con) e = refl

-- what was passed is the same with the times that x gives to what is known
pub past_same : (y : ℕ → ℕ) (u s : ℕ → Term) (w : ℕ → When) (t : ℕ → ℕ) (nest : ℕ) (item : Item) → left_of u w nest item ≡ left_of s (λ v. Known (t v)) nest item →
    left_of s (λ v. Known (t v)) nest item ≡ left_of s (λ v. Known (time_in y (w v))) nest item
past_same y u s w t nest (i.At lit time) e = ap (λ k. record { item = l.At (put_lit s lit) (Known (time_in y k)); nest = nest } ∷ []) (sym (ap (first_time (Known 0)) e))
past_same y u s w t nest (i.Span a from to) e =
    let from_is = ap (first_time (Known 0)) e in let to_is = ap (second_time (Known 0)) e in
    λ j. record { item = l.Span (put_atom s a) (Known (time_in y (sym from_is j))) (Known (time_in y (sym to_is j))); nest = nest } ∷ []
past_same y u s w t nest (i.Bare lit) e = refl
past_same y u s w t nest (i.Built built) e = refl
past_same y u s w t nest (i.Con con) e = refl

times_own : (y : ℕ → ℕ) (w : Whens) (es : List Entry) → AllByRecursion (λ e. TimesAre y (w e.env) (λ v. time_in y (w e.env v)) e.item) es
times_own y w [] = tt
times_own y w (e ∷ es) = (one (w e.env) e.item, times_own y w es)
  where
    one : (z : ℕ → When) (item : Item) → TimesAre y z (λ v. time_in y (z v)) item
    one z (i.At lit time) = refl
    one z (i.Span a from to) = (refl, refl)
    one z (i.Bare lit) = tt
    one z (i.Built built) = tt
    one z (i.Con con) = tt

-- a first step whose group shows is not marked
first_plain : (text : Text) (joins : Bool) (u : ℕ → Term) (w : ℕ → When) (nest : ℕ) (item : Item) → is_step item ≡ true → ShowsGroup text joins None (left_of u w nest item) → joins ≡ false
first_plain text joins u w nest (i.At lit time) step h = h
first_plain text joins u w nest (i.Span a from to) step h = h
first_plain text joins u w nest (i.Bare lit) step h = absurd (false_true step)
first_plain text joins u w nest (i.Built built) step h = absurd (false_true step)
first_plain text joins u w nest (i.Con con) step h = absurd (false_true step)

-- what holds for each way holds of each element in each way
all_swap : {A X : Type 0} (P : A → X → Type 0) (xs : List X) → ((a : A) → AllByRecursion (P a) xs) → AllByRecursion (λ x. (a : A) → P a x) xs
all_swap P [] h = tt
all_swap P (x ∷ xs) h = ((λ a. (h a).0), all_swap P xs (λ a. (h a).1))

pub all_two : {X : Type 0} (P Q R : X → Type 0) → ((z : X) → P z → Q z → R z) → (zs : List X) → AllByRecursion P zs → AllByRecursion Q zs → AllByRecursion R zs
all_two P Q R c [] p q = tt
all_two P Q R c (z ∷ zs) p q = (c z p.0 q.0, all_two P Q R c zs p.1 q.1)

-- an entry without its mark
abbrev pub plain : Entry → Entry
plain e = record { env = e.env; nest = e.nest; joins = false; item = e.item }

pub marked_behind : (text : Text) (e : Entry) (es : List Entry) → AreMarked text (Some e) es → AreMarked text (Some (plain e)) es
marked_behind text e [] h = tt
marked_behind text e (o ∷ es) h = (
  (λ is. let m = h.0 is in
      let same : e ≡ m.0 = some_entry m.1 in
      (plain e, refl, ap (λ p. p.env) same ∙ m.2, subst (λ it. are_grouped (kind_of text) it o.item ≡ true) (sym (ap (λ p. p.item) same)) m.3)),
  h.1,
)

-- ---- from plans to conditions, and back

module _ (text : Text) (level : List ℕ → ℕ) (trace : Trace) (q : Sequence) (s : Values) (t : Times) (ground : AreAllGround s) (since now : ℕ) (low : since ≤ now)
    (end : Place) (walk : Walk text level trace q.given_values s t now end (start text since q.items)) where
  abbrev links : AllByRecursion (HasSameValues s) end.links × AllByRecursion (HasSameTimes t) end.links
  links = linked text level trace q.given_values s t walk tt tt

  pub known_whens : AllByRecursion (HasSameWhens (all_known t)) end.links
  known_whens = all_to (HasSameTimes t) (HasSameWhens (all_known t)) (λ link h. (ap (λ n. Known n) h.0, ap (λ n. Known n) h.1)) end.links links.1

  -- the walk's own values and times are possible
  abbrev pub possible_own : IsPossible q s t end s (all_known t)
  possible_own = record { values = refl; times = refl; past = all_self (left_at s (all_known t)) end.past; links = links.0; when_links = known_whens }

  module _ (g : Shape) (is : IsGeneral q s t end g) where
    abbrev u : Values
    u = is.values

    abbrev w : Whens
    w = is.whens

    abbrev pub instance_own : (v : ℕ → Term) × (x : ℕ → When) × (shape_of q end s (all_known t) ≡ put_shape v x g)
    instance_own = is.general s (all_known t) possible_own

    abbrev pub x : ℕ → When
    x = instance_own.1

    abbrev pub y : ℕ → ℕ
    y k = number_in (x k)

    same_shape : shape_of q end (λ e. after instance_own.0 (u e)) (λ e. after_when x (w e)) ≡ shape_of q end s (all_known t)
    same_shape = sym (shape_after text q s t ground end u w instance_own.0 x) ∙ ap (put_shape instance_own.0 x) (sym is.own) ∙ sym instance_own.2

    -- with what is put in for the instance each entry left is that of the instance
    pub each_own : AllByRecursion (λ e. left_at (λ env. after instance_own.0 (u env)) (λ env. after_when x (w env)) e ≡ left_at s (all_known t) e) end.left
    each_own = each_same (λ env. after instance_own.0 (u env)) s (λ env. after_when x (w env)) (all_known t) end.left (ap (λ h. h.rest) same_shape)

    pub times_are : AllByRecursion (λ e. TimesAre y (w e.env) (t e.env) e.item) end.left
    times_are =
        all_to (λ e. left_at (λ env. after instance_own.0 (u env)) (λ env. after_when x (w env)) e ≡ left_at s (all_known t) e) (λ e. TimesAre y (w e.env) (t e.env) e.item)
        (λ e h. times_of (after instance_own.0 (u e.env)) (s e.env) (w e.env) x (t e.env) e.nest e.item h) end.left each_own

    -- other values that are alike are possible too
    abbrev Alike : Type 0
    Alike = (other : Values) × AreAlike q.given_values s other end

    possible_alike : (o : Alike) → IsPossible q s t end o.0 (all_known t)
    possible_alike o = record {
      values = sym o.1.start;
      times = refl;
      links = o.1.links;
      when_links = known_whens;
      past = all_to (λ e. put_item (s e.env) e.item ≡ put_item (o.0 e.env) e.item) (λ e. left_at o.0 (all_known t) e ≡ left_at s (all_known t) e)
          (λ e h. left_is (o.0 e.env) (all_known t e.env) e.nest e.item ∙ ap (left_from (all_known t e.env) e.nest) (sym h) ∙ sym (left_is (s e.env) (all_known t e.env) e.nest e.item))
          end.past o.1.past;
    }

    abbrev instance_alike : (o : Alike) → (v : ℕ → Term) × (x : ℕ → When) × (shape_of q end o.0 (all_known t) ≡ put_shape v x g)
    instance_alike o = is.general o.0 (all_known t) (possible_alike o)

    abbrev SameAs : Alike → Entry → Type 0
    SameAs o e = left_at (λ env. after (instance_alike o).0 (u env)) (λ env. after_when (instance_alike o).1 (w env)) e ≡ left_at o.0 (all_known t) e

    each_alike : (o : Alike) → AllByRecursion (SameAs o) end.left
    each_alike o =
        let r = instance_alike o in
        each_same (λ env. after r.0 (u env)) o.0 (λ env. after_when r.1 (w env)) (all_known t) end.left
        (ap (λ h. h.rest) (sym (shape_after text q s t ground end u w r.0 r.1) ∙ ap (put_shape r.0 r.1) (sym is.own) ∙ sym r.2))

    small_one : (e : Entry) → ((o : Alike) → SameAs o e) → IsSmallSoFar q.given_values s end e → AllByRecursion (λ left. IsLeftSmall left.item) (left_at u w e)
    small_one e same h =
        let o : Alike = (h.other, h.alike) in
        let r = instance_alike o in
        let there : map (put_left r.0 r.1) (left_at u w e) ≡ left_at h.other (all_known t) e =
        left_after r.0 (u e.env) r.1 (w e.env) e.nest e.item ∙ same o in
        small_lefts r.0 r.1 (left_at u w e)
        (subst (AllByRecursion (λ left. IsLeftSmall left.item)) (sym there) (small_there (h.other e.env) (all_known t e.env) e.nest e.item h.small))

    -- the first entry left is small where it is so far
    pub small_first : (e : Entry) (rest : List Entry) → end.left ≡ e ∷ rest → IsSmallSoFar q.given_values s end e → AllByRecursion (λ left. IsLeftSmall left.item) (left_at u w e)
    small_first e rest left = small_one e (subst (AllByRecursion (λ e. (o : Alike) → SameAs o e)) left (all_swap SameAs end.left each_alike)).0

    -- the constraints of the most general shape are true with what the instance gives
    pub limits_met : AreLimits t q.items end.links → AllByRecursion (IsLeftLimit y) (shape_of q end u w).limits
    limits_met limits =
        limits_there x (shape_of q end u w).limits (shape_of q end s (all_known t)).limits
        (ap (λ h. h.limits) (ap (put_shape instance_own.0 x) (sym is.own) ∙ sym instance_own.2))
        (all_joined IsTold (flat_map (con_of (all_known t 0)) q.items) (limits_of (all_known t) end.links)
        (told_items (t 0) q.items (own_limits t q.items end.links limits)) (told_links t q.items end.links limits))

    module _ (on : CanGoOn text q.given_values s t now q.items end) where
      all_small : AllByRecursion (λ left. IsLeftSmall left.item) (flat_map (left_at u w) end.left)
      all_small = lefts_small u w end.left (all_two (λ e. (o : Alike) → SameAs o e) (IsSmallSoFar q.given_values s end) (λ e. AllByRecursion (λ left. IsLeftSmall left.item) (left_at u w e))
          small_one end.left (all_swap SameAs end.left each_alike) on.small)

      limits_are : AllByRecursion (IsLeftLimit y) (shape_of q end u w).limits
      limits_are = limits_met on.limits

      abbrev next : Entry
      next = on.next

      times_next : AllByRecursion (λ e. TimesAre y (w e.env) (t e.env) e.item) (next ∷ on.rest)
      times_next = subst (AllByRecursion (λ e. TimesAre y (w e.env) (t e.env) e.item)) on.is_next times_are

      order_next : AreInOrder text t end.before (next ∷ on.rest)
      order_next = subst (AreInOrder text t end.before) on.is_next on.in_order

      marks_next : AreMarked text (Some next) on.rest
      marks_next =
          let m = marked text level trace q.given_values s t walk None (marked_none text 0 0 q.items None) in
          (subst (AreMarked text m.0) on.is_next m.1).1

      in_order_next : AreLeftInOrder text y now None (flat_map (left_at u w) (next ∷ on.rest))
      in_order_next =
          order_there text u w t y now None None (plain next ∷ on.rest) (λ p a from to is span. absurd (none_some is)) tt
          ((λ is. absurd (false_true is)), marked_behind text next on.rest marks_next) (times_next.0, times_next.1) (
            first_placed text u w t y end.before now next next.item on.step on.ahead order_next.0,
            subst (λ b. AreInOrder text t b on.rest) (end_of_step text u w t y end.before now next.env next.item on.step) order_next.1,
          )

      -- the groups can be told from what is left
      marks_whole : (z : Option Entry) × AreMarked text z (next ∷ on.rest)
      marks_whole =
          let m = marked text level trace q.given_values s t walk None (marked_none text 0 0 q.items None) in
          (m.0, subst (AreMarked text m.0) on.is_next m.1)

      unmarked_next : next.joins ≡ false
      unmarked_next = is_false next.joins
          (first_unmarked text u w t y end.before now marks_whole.0 next next.item refl (ended text level trace q.given_values s t walk low) on.ahead marks_whole.1.0 order_next.0)
        where
          is_false : (b : Bool) → (b ≡ true → ⊥) → b ≡ false
          is_false true h = absurd (h refl)
          is_false false h = refl

      pub show_groups : ShowGroups text u w None end.left
      show_groups =
          subst (ShowGroups text u w None) (sym on.is_next)
          (with_first (shows_there text u w t y now None None (plain next ∷ on.rest) (λ p a from to is span. absurd (none_some is)) tt
          ((λ is. absurd (false_true is)), marked_behind text next on.rest marks_next) (times_next.0, times_next.1) (
            first_placed text u w t y end.before now next next.item on.step on.ahead order_next.0,
            subst (λ b. AreInOrder text t b on.rest) (end_of_step text u w t y end.before now next.env next.item on.step) order_next.1,
          )))
        where
          with_first : ShowGroups text u w None (plain next ∷ on.rest) → ShowGroups text u w None (next ∷ on.rest)
          with_first h = (subst (λ joins. ShowsGroup text joins None (left_at u w next)) (sym unmarked_next) h.0, h.1)

      abbrev first_left : (left : Left) × (left_of (u next.env) (w next.env) next.nest next.item ≡ left ∷ []) × IsLeftAhead now y left.item
      first_left = first_there text u w t y now next.env next.nest next.item on.step on.ahead times_next.0

      abbrev can_there : CanComeTrue text now (shape_of q end u w)
      can_there = record {
        times = y;
        first = first_left.0;
        behind = flat_map (left_at u w) on.rest;
        is_first = ap (flat_map (left_at u w)) on.is_next ∙ ap (λ ls. ls ++ flat_map (left_at u w) on.rest) first_left.1;
        ahead = first_left.2;
        in_order = subst (λ es. AreLeftInOrder text y now None (flat_map (left_at u w) es)) (sym on.is_next) in_order_next;
        limits = limits_are;
        small = all_small;
      }

      pub can_come_true : CanComeTrue text now g
      can_come_true = subst (CanComeTrue text now) (sym is.own) can_there

      -- where the plan's next step begins now, it may begin now by what is left
      pub may_begin_there : (a : Atom) (from to : TimeVar) → next.item ≡ i.Span a from to → t next.env from.0 ≡ now → MayBegin text now g
      may_begin_there a from to item begins =
          let times : TimesAre y (w next.env) (t next.env) (i.Span a from to) = subst (TimesAre y (w next.env) (t next.env)) item times_next.0 in
          let shown : left_of (u next.env) (w next.env) next.nest (i.Span a from to) ≡ first_left.0 ∷ [] =
          subst (λ (it : Item). left_of (u next.env) (w next.env) next.nest it ≡ first_left.0 ∷ []) item first_left.1 in
          let begun : IsBegun now y first_left.0.item = subst (λ (ls : List Left). IsBegun now y (item_in first_left.0.item ls)) shown (times.0 ∙ begins) in
          subst (MayBegin text now) (sym is.own) (record { can = can_there; begun = begun })

    module _ (next : Entry) (rest : List Entry) (is_next : end.left ≡ next ∷ rest) (step : is_step next.item ≡ true) (can : CanComeTrue text now g) where
      abbrev pub other : Times
      other env v = time_in can.times (w env v)

      pub given_same : map (other 0) q.given_times ≡ map (t 0) q.given_times
      given_same =
          sym (map_two (time_in can.times) (w 0) q.given_times) ∙ ap (map (time_in can.times)) is.possible.times ∙ map_two (time_in can.times) (all_known t 0) q.given_times

      pub past_moved : AllByRecursion (SameEntry s s t other) end.past
      past_moved = all_to (λ e. left_at u w e ≡ left_at s (all_known t) e) (SameEntry s s t other)
          (λ e h. past_same can.times (u e.env) (s e.env) (w e.env) (t e.env) e.nest e.item h) end.past is.possible.past

      whens_moved : AllByRecursion (HasSameTimes other) end.links
      whens_moved = all_to (HasSameWhens w) (HasSameTimes other) (λ link h. (ap (time_in can.times) h.0, ap (time_in can.times) h.1)) end.links is.possible.when_links

      pub walk_moved : Walk text level trace q.given_values s other now end (start text since q.items)
      walk_moved = moved s s t other text level trace q.given_values refl walk past_moved links.0 whens_moved

      own_rest : g.rest ≡ flat_map (left_at u w) end.left
      own_rest = ap (λ h. h.rest) is.own

      own_cons : g.limits ≡ flat_map (con_of (w 0)) q.items ++ limits_of w end.links
      own_cons = ap (λ h. h.limits) is.own

      next_rest : g.rest ≡ flat_map (left_at u w) (next ∷ rest)
      next_rest = own_rest ∙ ap (flat_map (left_at u w)) is_next

      pub ahead : IsAhead now (other next.env) next.item
      ahead = first_back text u w other can.times now next.env next.nest next.item can.first (flat_map (left_at u w) rest) can.behind (sym next_rest ∙ can.is_first) step can.ahead
          (times_own can.times w (next ∷ [])).0

      limits_hold : AreLimits other q.items end.links
      limits_hold =
          let all = subst (AllByRecursion (IsLeftLimit can.times)) own_cons can.limits in
          limits_back can.times w q.items end.links
          (items_back can.times (w 0) q.items (all_front (IsLeftLimit can.times) (flat_map (con_of (w 0)) q.items) (limits_of w end.links) all))
          (all_behind (IsLeftLimit can.times) (flat_map (con_of (w 0)) q.items) (limits_of w end.links) all)

      alike : AreAlike q.given_values s u end
      alike = record {
        start = sym is.possible.values;
        links = is.possible.links;
        past = all_to (λ e. left_at u w e ≡ left_at s (all_known t) e) (λ e. put_item (s e.env) e.item ≡ put_item (u e.env) e.item)
            (λ e h. sym (item_same (u e.env) (s e.env) (w e.env) (all_known t e.env) e.nest e.item h)) end.past is.possible.past;
      }

      small : AllByRecursion (IsSmallSoFar q.given_values s end) end.left
      small = all_to (λ e. IsSmallItem (put_item (u e.env) e.item)) (IsSmallSoFar q.given_values s end) (λ e h. record { other = u; alike = alike; small = h }) end.left
          (items_small u w end.left (subst (AllByRecursion (λ left. IsLeftSmall left.item)) own_rest can.small))

      module _ (shows : ShowGroups text u w None end.left) where
        in_order : AreInOrder text other end.before (next ∷ rest)
        in_order =
            let shown : ShowGroups text u w None (next ∷ rest) = subst (ShowGroups text u w None) is_next shows in
            let h = order_back text u w other can.times now None (next ∷ rest) (times_own can.times w (next ∷ rest)) shown (subst (AreLeftInOrder text can.times now None) next_rest can.in_order) in
            let bare : next.joins ≡ false = first_plain text next.joins (u next.env) (w next.env) next.nest next.item step shown.0 in (
              placed_first text u w other can.times end.before now next next.item (ended text level trace q.given_values s t walk low) bare step ahead
                  (subst (λ joins. IsPlaced text (other next.env) now joins next.item) bare h.0),
              subst (λ b. AreInOrder text other b rest) (end_of_step text u w other can.times now end.before next.env next.item step) h.1,
            )

        pub plan_moved : CanGoOn text q.given_values s other now q.items end
        plan_moved = record {
          next = next;
          rest = rest;
          is_next = is_next;
          step = step;
          ahead = ahead;
          in_order = subst (AreInOrder text other end.before) (sym is_next) in_order;
          limits = limits_hold;
          small = small;
        }

        pub has_plan : (z : Times) × (map (z 0) q.given_times ≡ map (t 0) q.given_times) × Walk text level trace q.given_values s z now end (start text since q.items)
            × CanGoOn text q.given_values s z now q.items end
        has_plan = (
          other,
          given_same,
          walk_moved,
          plan_moved,
        )
