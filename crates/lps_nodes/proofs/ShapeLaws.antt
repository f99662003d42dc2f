-- A single step from the most general shape of a place leads to that of the next place, and the most general shape of the next
-- place is a single step away; so steps along a walk end in the most general shape of its end.
use Rattle.std.proofs.Common.{ℕ, suc, true, false, cond, ◌≡◌, ◌<◌, List, [], ◌∷◌, ◌++◌, ◌∙◌, map, refl, sym, ap, subst, append_assoc, arith}
use Rattle.std.specs.Prelude.{Option, Some, None, nat_eq}
use Rattle.std.specs.List.{AllByRecursion, flat_map}
use Rattle.std.proofs.lemmas.Bool.Decides.{nat_tests}
use Rattle.lps_terms.specs.declared.atom.Atom.{Atom}
use Rattle.lps_terms.specs.declared.item.Item.{Item}
use Rattle.lps_terms.specs.declared.item.Item.TheVariants as i
use Rattle.lps_terms.specs.declared.lit.Lit.{Lit}
use Rattle.lps_terms.specs.declared.term.Term.{Term}
use Rattle.lps_terms.specs.declared.text.Text.{Text}
use Rattle.lps_terms.specs.declared.time_var.TimeVar.{TimeVar}
use Rattle.lps_terms.specs.Put.{put, put_atom, after, put-put, put_atom-put_atom}
use Rattle.lps_model.specs.declared.trace.Trace.{Trace}
use Rattle.lps_derivation.specs.Instances.{put_lit, put_built}
use Rattle.lps_derivation.proofs.Puts.{put_built-put_built, ground_stays}
use Rattle.lps_meaning.specs.declared.node.Left.{Left}
use Rattle.lps_meaning.specs.declared.node.LeftCon.{LeftCon}
use Rattle.lps_meaning.specs.declared.node.LeftItem.{LeftItem}
use Rattle.lps_meaning.specs.declared.node.LeftItem.TheVariants as l
use Rattle.lps_meaning.specs.declared.when.When.{When}
use Rattle.lps_meaning.specs.declared.when.When.TheVariants.{Known, Unknown}
use Rattle.lps_meaning.specs.Goals.{AreAllGround}
use Rattle.lps_model.specs.Rules.{MacroClause}
use Rattle.lps_meaning.specs.Sequences.{Entry, Link, Place, Values, Times, HasSameValues, Walk, stop, pass, replace, passed, replaced, link_at, entries, start}
use Rattle.lps_nodes.specs.Shapes.{Sequence, Shape, Whens, put_when, put_left_item, put_left, put_left_con, put_shape, left_of, con_of, limits_of, HasSameWhens, all_known, shape_of, IsPossible, IsGeneral}
use Rattle.lps_nodes.specs.Steps.{in_front, PassesTo, Unfolds, UnfoldsTo, Chain}

abbrev pub after_when : (ℕ → When) → (ℕ → When) → ℕ → When
after_when x w n = put_when x (w n)

lit_after : (v u : ℕ → Term) (lit : Lit) → put_lit v (put_lit u lit) ≡ put_lit (after v u) lit
lit_after v u lit = ap (λ a. record { negated = lit.negated; atom = a }) (put_atom-put_atom v u lit.atom)

map_two : {X Y Z : Type 0} (f : Y → Z) (g : X → Y) (xs : List X) → map f (map g xs) ≡ map (λ x. f (g x)) xs
map_two f g [] = refl
map_two f g (x ∷ xs) = ap (λ ys. f (g x) ∷ ys) (map_two f g xs)

pub map_append : {X Y : Type 0} (f : X → Y) (xs ys : List X) → map f (xs ++ ys) ≡ map f xs ++ map f ys
map_append f [] ys = refl
map_append f (x ∷ xs) ys = ap (λ zs. f x ∷ zs) (map_append f xs ys)

pub flat_after : {X Y : Type 0} (h : Y → Y) (f g : X → List Y) → ((a : X) → map h (f a) ≡ g a) → (xs : List X) → map h (flat_map f xs) ≡ flat_map g xs
flat_after h f g each [] = refl
flat_after h f g each (x ∷ xs) = map_append h (f x) (flat_map f xs) ∙ (λ i. each x i ++ flat_after h f g each xs i)

pub con_after : (x w : ℕ → When) (item : Item) → map (put_left_con x) (con_of w item) ≡ con_of (after_when x w) item
con_after x w (i.Con con) = refl
con_after x w (i.At lit time) = refl
con_after x w (i.Bare lit) = refl
con_after x w (i.Built b) = refl
con_after x w (i.Span a from to) = refl

limits_put : (x : ℕ → When) (w : Whens) (links : List Link) → map (put_left_con x) (limits_of w links) ≡ limits_of (λ e. after_when x (w e)) links
limits_put x w [] = refl
limits_put x w (link ∷ links) =
    map_append (put_left_con x) (limits_of w links) (flat_map (con_of (w link.inner)) link.clause.items)
    ∙ (λ j. limits_put x w links j ++ flat_after (put_left_con x) (con_of (w link.inner)) (con_of (after_when x (w link.inner))) (con_after x (w link.inner)) link.clause.items j)

abbrev head_or : {X : Type 0} → X → List X → X
head_or x [] = x
head_or x (y ∷ ys) = y

abbrev tail : {X : Type 0} → List X → List X
tail [] = []
tail (y ∷ ys) = ys

cons_same : {X : Type 0} (x y : X) (xs ys : List X) → ◌≡◌ {A = List X} (x ∷ xs) (y ∷ ys) → (◌≡◌ {A = List X} (x ∷ []) (y ∷ [])) × (xs ≡ ys)
cons_same x y xs ys e = (ap (λ zs. head_or x zs ∷ []) e, ap tail e)

-- an item is one item left, or none, whatever its variables are
pub front_same : (u s : ℕ → Term) (w t : ℕ → When) (nest : ℕ) (item : Item) (xs ys : List Left) →
    left_of u w nest item ++ xs ≡ left_of s t nest item ++ ys → (left_of u w nest item ≡ left_of s t nest item) × (xs ≡ ys)
front_same u s w t nest (i.Con con) xs ys e = (refl, e)
front_same u s w t nest (i.At lit time) xs ys e =
    cons_same (record { item = l.At (put_lit u lit) (w time.0); nest = nest }) (record { item = l.At (put_lit s lit) (t time.0); nest = nest }) xs ys e
front_same u s w t nest (i.Bare lit) xs ys e =
    cons_same (record { item = l.Bare (put_lit u lit); nest = nest }) (record { item = l.Bare (put_lit s lit); nest = nest }) xs ys e
front_same u s w t nest (i.Built b) xs ys e =
    cons_same (record { item = l.Built (put_built u b); nest = nest }) (record { item = l.Built (put_built s b); nest = nest }) xs ys e
front_same u s w t nest (i.Span a from to) xs ys e =
    cons_same (record { item = l.Span (put_atom u a) (w from.0) (w to.0); nest = nest })
    (record { item = l.Span (put_atom s a) (t from.0) (t to.0); nest = nest }) xs ys e

-- u with f at k
abbrev upd : {A : Type 0} → ℕ → A → (ℕ → A) → ℕ → A
upd k f u e = cond (nat_eq e k) f (u e)

differ_below : (k e : ℕ) → e < k → nat_eq e k ≡ false
differ_below k e lt = grind (arith, nat_tests)

same_self : (k : ℕ) → nat_eq k k ≡ true
same_self k = grind (arith, nat_tests)

upd_other : {A : Type 0} (k : ℕ) (f : A) (u : ℕ → A) (e : ℕ) → e < k → upd k f u e ≡ u e
upd_other k f u e lt = ap (λ b. cond b f (u e)) (differ_below k e lt)

upd_same : {A : Type 0} (k : ℕ) (f : A) (u : ℕ → A) → upd k f u k ≡ f
upd_same k f u = ap (λ b. cond b f (u k)) (same_self k)

abbrev atom_in : Atom → LeftItem → Atom
atom_in d (l.Span a from to) = a
atom_in d _ = d

abbrev from_in : LeftItem → When
from_in (l.Span a from to) = from
from_in _ = Known 0

abbrev to_in : LeftItem → When
to_in (l.Span a from to) = to
to_in _ = Known 0

abbrev first_or : Left → List Left → Left
first_or l [] = l
first_or l (k ∷ ks) = k

pub left_after : (v u : ℕ → Term) (x w : ℕ → When) (nest : ℕ) (item : Item) →
    map (put_left v x) (left_of u w nest item) ≡ left_of (after v u) (after_when x w) nest item
left_after v u x w nest (i.Con con) = refl
left_after v u x w nest (i.At lit time) = ap (λ m. record { item = l.At m (put_when x (w time.0)); nest = nest } ∷ []) (lit_after v u lit)
left_after v u x w nest (i.Bare lit) = ap (λ m. record { item = l.Bare m; nest = nest } ∷ []) (lit_after v u lit)
left_after v u x w nest (i.Built b) = ap (λ m. record { item = l.Built m; nest = nest } ∷ []) (put_built-put_built v u b)
left_after v u x w nest (i.Span a from to) =
    ap (λ m. record { item = l.Span m (put_when x (w from.0)) (put_when x (w to.0)); nest = nest } ∷ []) (put_atom-put_atom v u a)

pub when_after : (x w : ℕ → When) (time : When) → put_when x (put_when w time) ≡ put_when (after_when x w) time
when_after x w (Known n) = refl
when_after x w (Unknown k) = refl

whens_after : (x w : ℕ → When) (times : List When) → map (put_when x) (map (put_when w) times) ≡ map (put_when (after_when x w)) times
whens_after x w [] = refl
whens_after x w (time ∷ times) = λ i. when_after x w time i ∷ whens_after x w times i

terms_after : (v u : ℕ → Term) (ts : List Term) → map (put v) (map (put u) ts) ≡ map (put (after v u)) ts
terms_after v u [] = refl
terms_after v u (x ∷ xs) = λ i. put-put v u x i ∷ terms_after v u xs i

pub item_put : (v u : ℕ → Term) (x w : ℕ → When) (item : LeftItem) → put_left_item v x (put_left_item u w item) ≡ put_left_item (after v u) (after_when x w) item
item_put v u x w (l.At lit (Known n)) = ap (λ m. l.At m (Known n)) (lit_after v u lit)
item_put v u x w (l.At lit (Unknown k)) = ap (λ m. l.At m (put_when x (w k))) (lit_after v u lit)
item_put v u x w (l.Bare lit) = ap (λ m. l.Bare m) (lit_after v u lit)
item_put v u x w (l.Built built) = ap (λ m. l.Built m) (put_built-put_built v u built)
item_put v u x w (l.Span a from to) = λ i. l.Span (put_atom-put_atom v u a i) (when_after x w from i) (when_after x w to i)

pub rest_put : (v u : ℕ → Term) (x w : ℕ → When) (rest : List Left) → map (put_left v x) (map (put_left u w) rest) ≡ map (put_left (after v u) (after_when x w)) rest
rest_put v u x w [] = refl
rest_put v u x w (left ∷ rest) = λ i. record { item = item_put v u x w left.item i; nest = left.nest } ∷ rest_put v u x w rest i

pub cons_put : (x w : ℕ → When) (limits : List LeftCon) → map (put_left_con x) (map (put_left_con w) limits) ≡ map (put_left_con (after_when x w)) limits
cons_put x w [] = refl
cons_put x w (con ∷ limits) = λ i. record { left = when_after x w con.left i; rel = con.rel; right = when_after x w con.right i; plus = con.plus } ∷ cons_put x w limits i

-- two substitutions of a shape one after the other are one
pub shape_put : (v u : ℕ → Term) (x w : ℕ → When) (g : Shape) → put_shape v x (put_shape u w g) ≡ put_shape (after v u) (after_when x w) g
shape_put v u x w g = λ i. record {
  carry = record { values = terms_after v u g.carry.values i; times = whens_after x w g.carry.times i };
  rest = rest_put v u x w g.rest i;
  limits = cons_put x w g.limits i;
}

module _ (text : Text) (seq : Sequence) (s : Values) (t : Times) (ground : AreAllGround s) where
  abbrev shape_at : Place → Values → Whens → Shape
  shape_at place u w = shape_of seq place u w

  pub shape_after : (place : Place) (u : Values) (w : Whens) (v : ℕ → Term) (x : ℕ → When) →
      put_shape v x (shape_at place u w) ≡ shape_at place (λ e. after v (u e)) (λ e. after_when x (w e))
  shape_after place u w v x = λ i. record {
    carry = record { values = map_two (put v) (u 0) seq.carried_values i; times = map_two (put_when x) (w 0) seq.carried_times i };
    rest = flat_after (put_left v x) (λ o. left_of (u o.env) (w o.env) o.nest o.item)
        (λ o. left_of (after v (u o.env)) (after_when x (w o.env)) o.nest o.item)
        (λ o. left_after v (u o.env) x (w o.env) o.nest o.item) place.left i;
    limits = (map_append (put_left_con x) (flat_map (con_of (w 0)) seq.items) (limits_of w place.links)
        ∙ (λ j. flat_after (put_left_con x) (con_of (w 0)) (con_of (after_when x (w 0))) (con_after x (w 0)) seq.items j ++ limits_put x w place.links j)) i;
  }

  pub same_ground : (v : ℕ → Term) (env : ℕ) → ◌≡◌ {A = ℕ → Term} (after v (s env)) (s env)
  same_ground v env = λ i n. ground_stays v (s env n) (ground env n) i

  all_each : {X : Type 0} (P Q : X → Type 0) → ((x : X) → P x → Q x) → (xs : List X) → AllByRecursion P xs → AllByRecursion Q xs
  all_each P Q f [] h = tt
  all_each P Q f (x ∷ xs) h = (f x h.0, all_each P Q f xs h.1)

  abbrev told : Entry → List Left
  told o = left_of (s o.env) (λ v. Known (t o.env v)) o.nest o.item

  abbrev become : Values → Whens → Entry → List Left
  become u w o = left_of (u o.env) (w o.env) o.nest o.item

  abbrev Possible : Place → Values → Whens → Type 0
  Possible place u w = IsPossible seq s t place u w

  abbrev General : Place → Shape → Type 0
  General place g = IsGeneral seq s t place g

  become_after : (u : Values) (w : Whens) (v : ℕ → Term) (x : ℕ → When) (o : Entry) → become u w o ≡ told o →
      become (λ e. after v (u e)) (λ e. after_when x (w e)) o ≡ told o
  become_after u w v x o e =
      sym (left_after v (u o.env) x (w o.env) o.nest o.item) ∙ ap (map (put_left v x)) e
      ∙ left_after v (s o.env) x (λ n. Known (t o.env n)) o.nest o.item
      ∙ ap (λ f. left_of f (λ n. Known (t o.env n)) o.nest o.item) (same_ground v o.env)

  -- what is possible stays so under a substitution
  pub closed : (place : Place) (u : Values) (w : Whens) (v : ℕ → Term) (x : ℕ → When) → Possible place u w →
      Possible place (λ e. after v (u e)) (λ e. after_when x (w e))
  closed place u w v x h = record {
    values = sym (map_two (put v) (u 0) seq.given_values) ∙ ap (map (put v)) h.values ∙ map_two (put v) (s 0) seq.given_values ∙ ap (λ f. map f seq.given_values) (same_ground v 0);
    times = sym (map_two (put_when x) (w 0) seq.given_times) ∙ ap (map (put_when x)) h.times ∙ map_two (put_when x) (all_known t 0) seq.given_times;
    past = all_each (λ o. become u w o ≡ told o) (λ o. become (λ e. after v (u e)) (λ e. after_when x (w e)) o ≡ told o) (become_after u w v x) place.past h.past;
    links = all_each (HasSameValues u) (HasSameValues (λ e. after v (u e)))
        (λ link e. sym (put_atom-put_atom v (u link.outer) link.call) ∙ ap (put_atom v) e ∙ put_atom-put_atom v (u link.inner) link.clause.head) place.links h.links;
    when_links = all_each (HasSameWhens w) (HasSameWhens (λ e. after_when x (w e)))
        (λ link e. (ap (put_when x) e.0, ap (put_when x) e.1)) place.links h.when_links;
  }

  module _ (trace : Trace) (place : Place) (o : Entry) (rest : List Entry) (left : place.left ≡ o ∷ rest) where
    abbrev onward : Place
    onward = passed t place o rest

    pub shape_split : (u : Values) (w : Whens) → shape_at place u w ≡ in_front (become u w o) (shape_at onward u w)
    shape_split u w = ap (λ l. record {
      carry = record { values = map (u 0) seq.carried_values; times = map (w 0) seq.carried_times };
      rest = flat_map (become u w) l;
      limits = flat_map (con_of (w 0)) seq.items ++ limits_of w place.links;
    }) left

    unfront : (u : Values) (w : Whens) (h k : Shape) → in_front (become u w o) h ≡ in_front (told o) k → (become u w o ≡ told o) × (h ≡ k)
    unfront u w h k e =
        let q = front_same (u o.env) (s o.env) (w o.env) (λ v. Known (t o.env v)) o.nest o.item h.rest k.rest (ap (λ z. z.rest) e) in
        (q.0, λ i. record { carry = (e i).carry; rest = q.1 i; limits = (e i).limits })

    back : (u : Values) (w : Whens) → Possible onward u w → Possible place u w
    back u w h = record { values = h.values; times = h.times; past = h.past.1; links = h.links; when_links = h.when_links }

    further : (u : Values) (w : Whens) → Possible place u w → become u w o ≡ told o → Possible onward u w
    further u w h e = record { values = h.values; times = h.times; past = (e, h.past); links = h.links; when_links = h.when_links }

    -- a step from the most general shape leads to the most general shape of the next place
    pub pass_general : (g h : Shape) → General place g → PassesTo (told o) g h → General onward h
    pass_general g h is step =
        let u1 : Values = λ e. after step.v (is.values e) in
        let w1 : Whens = λ e. after_when step.x (is.whens e) in
        let e : in_front (become u1 w1 o) (shape_at onward u1 w1) ≡ in_front (told o) h =
        sym (shape_split u1 w1) ∙ sym (shape_after place is.values is.whens step.v step.x) ∙ ap (put_shape step.v step.x) (sym is.own) ∙ step.own in
        let q = unfront u1 w1 (shape_at onward u1 w1) h e in
        record {
          values = u1;
          whens = w1;
          possible = further u1 w1 (closed place is.values is.whens step.v step.x is.possible) q.0;
          own = sym q.1;
          general = λ u w possible.
              let r = is.general u w (back u w possible) in
              step.general r.0 r.1 (shape_at onward u w)
              (sym r.2 ∙ shape_split u w ∙ ap (λ ls. in_front ls (shape_at onward u w)) possible.past.0);
        }

    -- and the most general shape of the next place is a step away
    pub general_pass : (g h : Shape) → General place g → General onward h → PassesTo (told o) g h
    general_pass g h is next =
        let r = is.general next.values next.whens (back next.values next.whens next.possible) in
        record {
          v = r.0;
          x = r.1;
          own = sym r.2 ∙ shape_split next.values next.whens ∙ ap (λ ls. in_front ls (shape_at onward next.values next.whens)) next.possible.past.0
              ∙ ap (in_front (told o)) (sym next.own);
          general = λ y z k e.
              let u1 : Values = λ e. after y (is.values e) in
              let w1 : Whens = λ e. after_when z (is.whens e) in
              let q = unfront u1 w1 (shape_at onward u1 w1) k
              (sym (shape_split u1 w1) ∙ sym (shape_after place is.values is.whens y z) ∙ ap (put_shape y z) (sym is.own) ∙ e) in
              let c = next.general u1 w1 (further u1 w1 (closed place is.values is.whens y z is.possible) q.0) in
              (c.0, c.1, sym q.1 ∙ c.2);
        }

  -- environments below the next one
  pub record IsFresh (place : Place) : Type 0 where
    pub first : 0 < place.next
    pub left : AllByRecursion (λ o. o.env < place.next) place.left
    pub past : AllByRecursion (λ o. o.env < place.next) place.past
    pub links : AllByRecursion (λ l. (l.outer < place.next) × (l.inner < place.next)) place.links

  all_two : {X : Type 0} (P Q R : X → Type 0) → ((x : X) → P x → Q x → R x) → (xs : List X) → AllByRecursion P xs → AllByRecursion Q xs → AllByRecursion R xs
  all_two P Q R f [] h k = tt
  all_two P Q R f (x ∷ xs) h k = (f x h.0 k.0, all_two P Q R f xs h.1 k.1)

  flat_append : {X Y : Type 0} (f : X → List Y) (xs ys : List X) → flat_map f (xs ++ ys) ≡ flat_map f xs ++ flat_map f ys
  flat_append f [] ys = refl
  flat_append f (x ∷ xs) ys = ap (λ zs. f x ++ zs) (flat_append f xs ys) ∙ sym (append_assoc (f x) (flat_map f xs) (flat_map f ys))

  flat_same : {X Y : Type 0} (f g : X → List Y) (P : X → Type 0) → ((x : X) → P x → f x ≡ g x) → (xs : List X) → AllByRecursion P xs → flat_map f xs ≡ flat_map g xs
  flat_same f g P each [] h = refl
  flat_same f g P each (x ∷ xs) h = λ i. each x h.0 i ++ flat_same f g P each xs h.1 i

  pub body_open : (u : Values) (w : Whens) (inner nest : ℕ) (last : Option Item) (its : List Item) →
      flat_map (become u w) (entries text inner nest last its) ≡ flat_map (λ o. left_of (u inner) (w inner) o.nest o.item) (entries text 0 nest last its)
  body_open u w inner nest last [] = refl
  body_open u w inner nest last (item ∷ its) =
      ap (λ zs. left_of (u inner) (w inner) nest item ++ zs) (body_open u w inner nest (Some item) its)

  module _ (trace : Trace) (place : Place) (o : Entry) (rest : List Entry) (left : place.left ≡ o ∷ rest) (a : Atom) (from to : TimeVar)
      (item : o.item ≡ i.Span a from to) (number : ℕ) (clause : MacroClause) where
    abbrev link : Link
    link = link_at place o a from.0 to.0 number clause

    abbrev beyond : Place
    beyond = replaced text place link rest

    rest_of : (u : Values) (w : Whens) → flat_map (become u w) place.left
        ≡ record { item = l.Span (put_atom (u o.env) a) (w o.env from.0) (w o.env to.0); nest = o.nest } ∷ flat_map (become u w) rest
    rest_of u w = ap (flat_map (become u w)) left ∙ ap (λ it. left_of (u o.env) (w o.env) o.nest it ++ flat_map (become u w) rest) item

    pub unfolds : (u : Values) (w : Whens) → HasSameValues u link → HasSameWhens w link →
        Unfolds text clause (u place.next) (w place.next) (shape_at place u w) (shape_at beyond u w)
    unfolds u w e f = record {
      nest = o.nest;
      rest = flat_map (become u w) rest;
      call = rest_of u w ∙ (λ j. record { item = l.Span (e j) (f.0 j) (f.1 j); nest = o.nest } ∷ flat_map (become u w) rest);
      body = λ j. record {
        carry = record { values = map (u 0) seq.carried_values; times = map (w 0) seq.carried_times };
        rest = (flat_append (become u w) (entries text place.next (suc o.nest) None clause.items) rest
            ∙ ap (λ zs. zs ++ flat_map (become u w) rest) (body_open u w place.next (suc o.nest) None clause.items)) j;
        limits = sym (append_assoc (flat_map (con_of (w 0)) seq.items) (limits_of w place.links) (flat_map (con_of (w place.next)) clause.items)) j;
      };
    }

    shorter : (u : Values) (w : Whens) → Possible beyond u w → Possible place u w
    shorter u w h = record { values = h.values; times = h.times; past = h.past; links = h.links.1; when_links = h.when_links.1 }

    -- the most general shape after a call is a step away
    pub general_unfold_own : (g h : Shape) → General place g → General beyond h →
        (y : ℕ → Term) × (z : ℕ → When) × (u : ℕ → Term) × (w : ℕ → When) × Unfolds text clause u w (put_shape y z g) h
    general_unfold_own g h is next =
        let r = is.general next.values next.whens (shorter next.values next.whens next.possible) in (
          r.0,
          r.1,
          next.values place.next,
          next.whens place.next,
          subst (λ k. Unfolds text clause (next.values place.next) (next.whens place.next) (put_shape r.0 r.1 g) k) (sym next.own)
              (subst (λ k. Unfolds text clause (next.values place.next) (next.whens place.next) k (shape_at beyond next.values next.whens)) r.2
              (unfolds next.values next.whens next.possible.links.0 next.possible.when_links.0)),
        )

    module _ (fresh : IsFresh place) (u : Values) (w : Whens) (f : ℕ → Term) (g : ℕ → When) where
      abbrev n : ℕ
      n = place.next

      abbrev pub u2 : Values
      u2 = upd n f u

      abbrev pub w2 : Whens
      w2 = upd n g w

      become_upd : (q : Entry) → q.env < n → become u2 w2 q ≡ become u w q
      become_upd q lt = λ j. left_of (upd_other n f u q.env lt j) (upd_other n g w q.env lt j) q.nest q.item

      limits_upd : (links : List Link) → AllByRecursion (λ l. (l.outer < n) × (l.inner < n)) links → limits_of w2 links ≡ limits_of w links
      limits_upd [] h = refl
      limits_upd (l ∷ ls) h = λ j. limits_upd ls h.1 j ++ flat_map (con_of (upd_other n g w l.inner h.0.1 j)) l.clause.items

      possible_upd : Possible place u w → Possible place u2 w2
      possible_upd h = record {
        values = ap (λ q. map q seq.given_values) (upd_other n f u 0 fresh.first) ∙ h.values;
        times = ap (λ q. map q seq.given_times) (upd_other n g w 0 fresh.first) ∙ h.times;
        past = all_two (λ q. q.env < n) (λ q. become u w q ≡ told q) (λ q. become u2 w2 q ≡ told q) (λ q lt e. become_upd q lt ∙ e) place.past fresh.past h.past;
        links = all_two (λ l. (l.outer < n) × (l.inner < n)) (HasSameValues u) (HasSameValues u2)
            (λ l lt e. ap (λ q. put_atom q l.call) (upd_other n f u l.outer lt.0) ∙ e ∙ sym (ap (λ q. put_atom q l.clause.head) (upd_other n f u l.inner lt.1)))
            place.links fresh.links h.links;
        when_links = all_two (λ l. (l.outer < n) × (l.inner < n)) (HasSameWhens w) (HasSameWhens w2)
            (λ l lt e. (
              ap (λ q. q l.from) (upd_other n g w l.outer lt.0) ∙ e.0 ∙ sym (ap (λ q. q l.clause.begin) (upd_other n g w l.inner lt.1)),
              ap (λ q. q l.to) (upd_other n g w l.outer lt.0) ∙ e.1 ∙ sym (ap (λ q. q l.clause.end) (upd_other n g w l.inner lt.1)),
            ))
            place.links fresh.links h.when_links;
      }

      -- what a call unfolds to is possible beyond it
      pub reached : (k : Shape) → Possible place u w → Unfolds text clause f g (shape_at place u w) k → Possible beyond u2 w2 × (shape_at beyond u2 w2 ≡ k)
      unfolding unfolds
      reached k h is =
          let low : AllByRecursion (λ q. q.env < n) (o ∷ rest) = subst (λ l. AllByRecursion (λ q. q.env < n) l) left fresh.left in
          let e : ◌≡◌ {A = List Left} (record { item = l.Span (put_atom (u o.env) a) (w o.env from.0) (w o.env to.0); nest = o.nest } ∷ flat_map (become u w) rest)
          (record { item = l.Span (put_atom f clause.head) (g clause.begin) (g clause.end); nest = is.nest } ∷ is.rest) =
          sym (rest_of u w) ∙ is.call in
          let d : Left = record { item = l.Span (put_atom f clause.head) (g clause.begin) (g clause.end); nest = is.nest } in
          let atoms : put_atom (u o.env) a ≡ put_atom f clause.head = ap (λ ls. atom_in (put_atom f clause.head) (first_or d ls).item) e in
          let begins : w o.env from.0 ≡ g clause.begin = ap (λ ls. from_in (first_or d ls).item) e in
          let ends : w o.env to.0 ≡ g clause.end = ap (λ ls. to_in (first_or d ls).item) e in
          let nests : o.nest ≡ is.nest = ap (λ ls. (first_or d ls).nest) e in
          let others : flat_map (become u w) rest ≡ is.rest = ap tail e in
          let values2 : HasSameValues u2 link =
          ap (λ q. put_atom q a) (upd_other n f u o.env low.0) ∙ atoms ∙ sym (ap (λ q. put_atom q clause.head) (upd_same n f u)) in
          let whens2 : HasSameWhens w2 link = (
            ap (λ q. q from.0) (upd_other n g w o.env low.0) ∙ begins ∙ sym (ap (λ q. q clause.begin) (upd_same n g w)),
            ap (λ q. q to.0) (upd_other n g w o.env low.0) ∙ ends ∙ sym (ap (λ q. q clause.end) (upd_same n g w)),
          ) in
          let old = possible_upd h in
          let others2 : flat_map (become u2 w2) rest ≡ is.rest = flat_same (become u2 w2) (become u w) (λ q. q.env < n) become_upd rest low.1 ∙ others in (
            record { values = old.values; times = old.times; past = old.past; links = (values2, old.links); when_links = (whens2, old.when_links) },
            (unfolds u2 w2 values2 whens2).body
                ∙ (λ j. record {
                  carry = record { values = map (upd_other n f u 0 fresh.first j) seq.carried_values; times = map (upd_other n g w 0 fresh.first j) seq.carried_times };
                  rest = flat_map (λ q. left_of (upd_same n f u j) (upd_same n g w j) q.nest q.item) (entries text 0 (suc (nests j)) None clause.items) ++ others2 j;
                  limits = (flat_map (con_of (upd_other n g w 0 fresh.first j)) seq.items ++ limits_upd place.links fresh.links j) ++ flat_map (con_of (upd_same n g w j)) clause.items;
                })
                ∙ sym is.body,
          )

    -- a call unfolded from the most general shape gives the most general shape beyond it
    pub unfold_general : IsFresh place → (g h : Shape) → General place g → UnfoldsTo text clause g h → General beyond h
    unfold_general fresh g h is step =
        let u1 : Values = λ e. after step.v (is.values e) in
        let w1 : Whens = λ e. after_when step.x (is.whens e) in
        let own : Unfolds text clause step.u step.w (shape_at place u1 w1) h =
        subst (λ k. Unfolds text clause step.u step.w k h) (ap (put_shape step.v step.x) is.own ∙ shape_after place is.values is.whens step.v step.x) step.own in
        let r = reached fresh u1 w1 step.u step.w h (closed place is.values is.whens step.v step.x is.possible) own in
        record {
          values = u2 fresh u1 w1 step.u step.w;
          whens = w2 fresh u1 w1 step.u step.w;
          possible = r.0;
          own = sym r.1;
          general = λ u w possible.
              let q = is.general u w (shorter u w possible) in
              step.general q.0 q.1 (u place.next) (w place.next) (shape_at beyond u w)
              (subst (λ k. Unfolds text clause (u place.next) (w place.next) k (shape_at beyond u w)) q.2 (unfolds u w possible.links.0 possible.when_links.0));
        }

    -- and the most general shape beyond a call is a step away
    pub general_unfold : IsFresh place → (g h : Shape) → General place g → General beyond h → UnfoldsTo text clause g h
    general_unfold fresh g h is next =
        let o = general_unfold_own g h is next in
        record {
          v = o.0;
          x = o.1;
          u = o.2;
          w = o.3;
          own = o.4;
          general = λ y z u w k unfolds_k.
              let u1 : Values = λ e. after y (is.values e) in
              let w1 : Whens = λ e. after_when z (is.whens e) in
              let r = reached fresh u1 w1 u w k (closed place is.values is.whens y z is.possible)
              (subst (λ m. Unfolds text clause u w m k) (ap (put_shape y z) is.own ∙ shape_after place is.values is.whens y z) unfolds_k) in
              let c = next.general (u2 fresh u1 w1 u w) (w2 fresh u1 w1 u w) r.0 in
              (c.0, c.1, sym r.1 ∙ c.2);
        }

  fresh_opened : (env nest : ℕ) (last : Option Item) (its : List Item) → AllByRecursion (λ q. q.env < suc env) (entries text env nest last its)
  fresh_opened env nest last [] = tt
  fresh_opened env nest last (item ∷ its) = (omega arith, fresh_opened env nest (Some item) its)

  all_join : {X : Type 0} (P : X → Type 0) (xs ys : List X) → AllByRecursion P xs → AllByRecursion P ys → AllByRecursion P (xs ++ ys)
  all_join P [] ys h k = k
  all_join P (x ∷ xs) ys h k = (h.0, all_join P xs ys h.1 k)

  module _ (level : List ℕ → ℕ) (trace : Trace) where
    pub fresh_passed : (place : Place) (o : Entry) (rest : List Entry) → place.left ≡ o ∷ rest → IsFresh place → IsFresh (passed t place o rest)
    fresh_passed place o rest left h =
        let low : AllByRecursion (λ q. q.env < place.next) (o ∷ rest) = subst (λ l. AllByRecursion (λ q. q.env < place.next) l) left h.left in
        record { first = h.first; left = low.1; past = (low.0, h.past); links = h.links }

    pub fresh_unfolded : (place : Place) (o : Entry) (rest : List Entry) (a : Atom) (from to number : ℕ) (clause : MacroClause) → place.left ≡ o ∷ rest → IsFresh place →
        IsFresh (replaced text place (link_at place o a from to number clause) rest)
    fresh_unfolded place o rest a from to number clause left h =
        let low : AllByRecursion (λ q. q.env < place.next) (o ∷ rest) = subst (λ l. AllByRecursion (λ q. q.env < place.next) l) left h.left in
        let one = low.0 in
        record {
          first = omega arith;
          left = all_join (λ q. q.env < suc place.next) (entries text place.next (suc o.nest) None clause.items) rest
              (fresh_opened place.next (suc o.nest) None clause.items)
              (all_each (λ q. q.env < place.next) (λ q. q.env < suc place.next) (λ q lt. omega arith) rest low.1);
          past = all_each (λ q. q.env < place.next) (λ q. q.env < suc place.next) (λ q lt. omega arith) place.past h.past;
          links = (
            (omega arith, omega arith),
            all_each (λ l. (l.outer < place.next) × (l.inner < place.next)) (λ l. (l.outer < suc place.next) × (l.inner < suc place.next))
                (λ l lt. (let x = lt.0 in omega arith, let y = lt.1 in omega arith)) place.links h.links,
          );
        }

    pub fresh_start : (since : ℕ) (its : List Item) → IsFresh (start text since its)
    fresh_start since its = record { first = omega arith; left = fresh_opened 0 0 None its; past = tt; links = tt }

    -- what the steps reach is the most general shape at the walk's end
    pub chain_general : {now : ℕ} {end place : Place} (walk : Walk text level trace seq.given_values s t now end place) → IsFresh place → (g k : Shape) → General place g →
        Chain walk g k → General end k
    chain_general {end = end} stop fresh g k is chain = subst (λ z. General end z) chain is
    chain_general {place = place} (pass env nest joins item rest left no_call is_true small placed walk) fresh g k is chain =
        let o : Entry = record { env = env; nest = nest; joins = joins; item = item } in
        chain_general walk (fresh_passed place o rest left fresh) chain.0 k (pass_general trace place o rest left g chain.0 is chain.1) chain.2
    chain_general {place = place} (replace o rest a from to number clause left item macro named values times small walk) fresh g k is chain =
        chain_general walk (fresh_unfolded place o rest a from.0 to.0 number clause left fresh) chain.0 k
        (unfold_general trace place o rest left a from to item number clause fresh g chain.0 is chain.1) chain.2

-- two most general shapes of a place are instances of each other
pub variants : (seq : Sequence) (s : Values) (t : Times) → AreAllGround s → (place : Place) (g h : Shape) → IsGeneral seq s t place g → IsGeneral seq s t place h →
    (v : ℕ → Term) × (x : ℕ → When) × (h ≡ put_shape v x g)
variants seq s t ground place g h is other =
    let r = is.general other.values other.whens other.possible in (r.0, r.1, other.own ∙ r.2)
