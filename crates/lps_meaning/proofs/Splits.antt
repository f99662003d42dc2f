-- A walk up to a later time, cut at a time: up to now it is a walk to a place where it ends, or where the next step is ahead,
-- or where the next step is a call that nests too deep.
use Rattle.std.proofs.Common.{ℕ, zero, suc, Bool, true, false, ◌≡◌, ◌≤◌, ◌<◌, ◌⊎◌, List, [], ◌∷◌, ◌++◌, refl, sym, subst, arith, inl, inr}
use Rattle.std.specs.Prelude.{Option, Some, None}
use Rattle.std.specs.List.{AllByRecursion}
use Rattle.lps_terms.specs.declared.item.Item.{Item}
use Rattle.lps_terms.specs.declared.item.Item.TheVariants as i
use Rattle.lps_terms.specs.declared.text.Text.{Text}
use Rattle.lps_model.specs.declared.trace.Trace.{Trace}
use Rattle.lps_meaning.specs.Items.{put_item, IsSmallItem}
use Rattle.lps_model.specs.Rules.{is_macro, kind_of}
use Rattle.lps_meaning.specs.Frames.{AreFramed}
use Rattle.lps_meaning.specs.Sequences.{Entry, Place, Values, Times, Walk, stop, pass, replace, passed, replaced, link_at, IsTrueItem, IsSpanPlaced, IsPlaced, AreInOrder, is_call, is_step, IsAhead, entries, HasSameValues, IsSmallSoFar, AreLimits, IsWithin}
use Rattle.lps_meaning.proofs.Walks.{in_order}

all_map : {X : Type 0} (P Q : X → Type 0) → ((x : X) → P x → Q x) → (xs : List X) → AllByRecursion P xs → AllByRecursion Q xs
all_map P Q f [] h = tt
all_map P Q f (x ∷ xs) h = (f x h.0, all_map P Q f xs h.1)

all_both : {X : Type 0} (P : X → Type 0) (xs ys : List X) → AllByRecursion P xs → AllByRecursion P ys → AllByRecursion P (xs ++ ys)
all_both P [] ys h k = k
all_both P (x ∷ xs) ys h k = (h.0, all_both P xs ys h.1 k)

all_right : {X : Type 0} (P : X → Type 0) (xs ys : List X) → AllByRecursion P (xs ++ ys) → AllByRecursion P ys
all_right P [] ys h = h
all_right P (x ∷ xs) ys h = all_right P xs ys h.1

all_same : {X : Type 0} {A : Type 0} (f : X → A) (xs : List X) → AllByRecursion (λ x. f x ≡ f x) xs
all_same f [] = tt
all_same f (x ∷ xs) = (refl, all_same f xs)

pub le_or_lt : (m n : ℕ) → (m ≤ n) ⊎ (n < m)
le_or_lt zero n = inl (omega arith)
le_or_lt (suc m) zero = inr (omega arith)
le_or_lt (suc m) (suc n) = elim (le_or_lt m n) [ inl h ↦ inl (omega arith) | inr h ↦ inr (omega arith) ]

module _ (text : Text) (level : List ℕ → ℕ) (trace : Trace) (given : List ℕ) (s : Values) (t : Times) where
  -- what is small at the end of a walk was at its start
  pub small_back : {now : ℕ} {end place : Place} → AllByRecursion (HasSameValues s) place.links → Walk text level trace given s t now end place →
      AllByRecursion (IsSmallSoFar given s end) end.left → AllByRecursion (IsSmallSoFar given s place) place.left
  small_back links stop h = h
  small_back {place = place} links (pass env nest joins item rest left no_call is_true small placed walk) h =
      subst (λ l. AllByRecursion (IsSmallSoFar given s place) l) (sym left) (
        record { other = s; alike = record { start = refl; past = all_same (λ o. put_item (s o.env) o.item) place.past; links = links }; small = small },
        all_map (IsSmallSoFar given s (passed t place (record { env = env; nest = nest; joins = joins; item = item }) rest)) (IsSmallSoFar given s place) (λ o k. record { other = k.other; alike = record { start = k.alike.start; past = k.alike.past.1; links = k.alike.links }; small = k.small })
            rest (small_back links walk h),
      )
  small_back {place = place} links (replace o rest a from to number clause left item macro named values times small walk) h =
      subst (λ l. AllByRecursion (IsSmallSoFar given s place) l) (sym left) (
        small,
        all_map (IsSmallSoFar given s (replaced text place (link_at place o a from.0 to.0 number clause) rest)) (IsSmallSoFar given s place) (λ o k. record { other = k.other; alike = record { start = k.alike.start; past = k.alike.past; links = k.alike.links.1 }; small = k.small })
            rest (all_right (IsSmallSoFar given s (replaced text place (link_at place o a from.0 to.0 number clause) rest)) (entries text place.next (suc o.nest) None clause.items) rest (small_back (values, links) walk h)),
      )

  pub limits_back : (items : List Item) {now : ℕ} {end place : Place} → Walk text level trace given s t now end place → AreLimits t items end.links → AreLimits t items place.links
  limits_back items stop h = h
  limits_back items (pass env nest joins item rest left no_call is_true small placed walk) h = limits_back items walk h
  limits_back items (replace o rest a from to number clause left item macro named values times small walk) h = (limits_back items walk h).1

  pub within_back : (depth : ℕ) {now : ℕ} {end place : Place} → Walk text level trace given s t now end place → IsWithin depth end → IsWithin depth place
  within_back depth stop h = h
  within_back depth (pass env nest joins item rest left no_call is_true small placed walk) h = within_back depth walk h
  within_back depth (replace o rest a from to number clause left item macro named values times small walk) h = (within_back depth walk h).1

  pub data Stopped (depth now : ℕ) (end middle : Place) : Type 0 where
    at_end : middle ≡ end → Stopped depth now end middle
    ahead : (o : Entry) (rest : List Entry) → middle.left ≡ o ∷ rest → is_step o.item ≡ true → is_call text o.item ≡ false → IsAhead now (t o.env) o.item →
        Stopped depth now end middle
    deep : (o : Entry) (rest : List Entry) → middle.left ≡ o ∷ rest → is_step o.item ≡ true → is_call text o.item ≡ true → o.nest ≡ depth →
        IsAhead middle.before (t o.env) o.item → (IsWithin depth end → ⊥) → Stopped depth now end middle

  pub record Split (depth now later : ℕ) (end place : Place) : Type 0 where
    pub middle : Place
    pub first : Walk text level trace given s t now middle place
    pub second : Walk text level trace given s t later end middle
    pub so_far : middle.before ≤ now
    pub within : IsWithin depth middle
    pub links : AllByRecursion (HasSameValues s) middle.links
    pub stopped : Stopped depth now end middle

  pub entries_nest : (depth env nest : ℕ) (last : Option Item) (items : List Item) → nest ≤ depth → AllByRecursion (λ o. o.nest ≤ depth) (entries text env nest last items)
  entries_nest depth env nest last [] le = tt
  entries_nest depth env nest last (item ∷ items) le = (le, entries_nest depth env nest (Some item) items le)

  span_joined : (b : Bool) (before from to : ℕ) → b ≡ false → IsSpanPlaced b true before from to → to ≡ before
  span_joined true before from to plain h = absurd (cc)
  span_joined false before from to plain h = h.1

  span_new : (b joins : Bool) (before from to : ℕ) → b ≡ false → IsSpanPlaced b joins before from to → to ≡ suc from
  span_new true joins before from to plain h = absurd (cc)
  span_new false true before from to plain h = h.0
  span_new false false before from to plain h = h.0

  call_begins : (b joins : Bool) (before from to : ℕ) → b ≡ true → IsSpanPlaced b joins before from to → before ≤ from
  call_begins true joins before from to is h = h.0
  call_begins false joins before from to is h = absurd (cc)

  module _ (depth now later : ℕ) (end : Place) where
    -- one item more at the front
    onward : {place : Place} (env nest : ℕ) (joins : Bool) (item : Item) (rest : List Entry) →
        place.left ≡ record { env = env; nest = nest; joins = joins; item = item } ∷ rest → is_call text item ≡ false →
        IsTrueItem text level trace now (t env) (put_item (s env) item) → IsSmallItem (put_item (s env) item) → IsPlaced text (t env) place.before joins item →
        Split depth now later end (passed t place (record { env = env; nest = nest; joins = joins; item = item }) rest) →
        Split depth now later end place
    onward env nest joins item rest left no_call is_true small placed r = record {
      middle = r.middle;
      first = pass env nest joins item rest left no_call is_true small placed r.first;
      second = r.second;
      so_far = r.so_far;
      within = r.within;
      links = r.links;
      stopped = r.stopped;
    }

    here : {place : Place} → Walk text level trace given s t later end place → place.before ≤ now → IsWithin depth place → AllByRecursion (HasSameValues s) place.links →
        Stopped depth now end place → Split depth now later end place
    here {place} walk so_far within links stopped = record {
      middle = place;
      first = stop;
      second = walk;
      so_far = so_far;
      within = within;
      links = links;
      stopped = stopped;
    }

    pub split : {place : Place} → AreFramed text → AreInOrder text t end.before end.left → Walk text level trace given s t later end place → place.before ≤ now →
        IsWithin depth place → AllByRecursion (HasSameValues s) place.links → AllByRecursion (λ o. o.nest ≤ depth) place.left → Split depth now later end place
    split framed order stop so_far within links nests = here stop so_far within links (at_end refl)
    split framed order (pass env nest joins (i.At l time) rest left no_call is_true small placed walk) so_far within links nests =
        elim (le_or_lt (t env time.0) now) [
          | inl le ↦ onward env nest joins (i.At l time) rest left no_call (le, is_true.1) small placed
              (split framed order walk le within links (subst (λ x. AllByRecursion (λ o. o.nest ≤ depth) x) left nests).1)
          | inr lt ↦ here (pass env nest joins (i.At l time) rest left no_call is_true small placed walk) so_far within links
              (ahead (record { env = env; nest = nest; joins = joins; item = i.At l time }) rest left refl no_call lt)
        ]
    split framed order (pass env nest joins (i.Bare l) rest left no_call is_true small placed walk) so_far within links nests =
        onward env nest joins (i.Bare l) rest left no_call is_true small placed
        (split framed order walk so_far within links (subst (λ x. AllByRecursion (λ o. o.nest ≤ depth) x) left nests).1)
    split framed order (pass env nest joins (i.Built b) rest left no_call is_true small placed walk) so_far within links nests =
        onward env nest joins (i.Built b) rest left no_call is_true small placed
        (split framed order walk so_far within links (subst (λ x. AllByRecursion (λ o. o.nest ≤ depth) x) left nests).1)
    split framed order (pass env nest joins (i.Con con) rest left no_call is_true small placed walk) so_far within links nests =
        onward env nest joins (i.Con con) rest left no_call is_true small placed
        (split framed order walk so_far within links (subst (λ x. AllByRecursion (λ o. o.nest ≤ depth) x) left nests).1)
    split {place} framed order (pass env nest true (i.Span a from to) rest left no_call is_true small placed walk) so_far within links nests =
        let same : t env to.0 ≡ place.before = span_joined (is_macro (kind_of text a.name)) place.before (t env from.0) (t env to.0) no_call placed in
        let le : t env to.0 ≤ now = omega (arith, same) in
        onward env nest true (i.Span a from to) rest left no_call (le, is_true.1) small placed
        (split framed order walk le within links (subst (λ x. AllByRecursion (λ o. o.nest ≤ depth) x) left nests).1)
    split {place} framed order (pass env nest false (i.Span a from to) rest left no_call is_true small placed walk) so_far within links nests =
        elim (le_or_lt (t env to.0) now) [
          | inl le ↦ onward env nest false (i.Span a from to) rest left no_call (le, is_true.1) small placed
              (split framed order walk le within links (subst (λ x. AllByRecursion (λ o. o.nest ≤ depth) x) left nests).1)
          | inr lt ↦
              let one : t env to.0 ≡ suc (t env from.0) = span_new (is_macro (kind_of text a.name)) false place.before (t env from.0) (t env to.0) no_call placed in
              here (pass env nest false (i.Span a from to) rest left no_call is_true small placed walk) so_far within links
              (ahead (record { env = env; nest = nest; joins = false; item = i.Span a from to }) rest left refl no_call (omega (arith, one)))
        ]
    split {place} framed order (replace o rest a from to number clause left item macro named values times small walk) so_far within links nests =
        let nest_of : AllByRecursion (λ o. o.nest ≤ depth) (o ∷ rest) = subst (λ x. AllByRecursion (λ o. o.nest ≤ depth) x) left nests in
        elim (le_or_lt (suc o.nest) depth) [
          | inl le ↦
              let r : Split depth now later end (replaced text place (link_at place o a from.0 to.0 number clause) rest) =
              split framed order walk so_far (le, within) (values, links)
              (all_both (λ o. o.nest ≤ depth) (entries text place.next (suc o.nest) None clause.items) rest
              (entries_nest depth place.next (suc o.nest) None clause.items le) nest_of.1) in
              record {
                middle = r.middle;
                first = replace o rest a from to number clause left item macro named values times small r.first;
                second = r.second;
                so_far = r.so_far;
                within = r.within;
                links = r.links;
                stopped = r.stopped;
              }
          | inr lt ↦
              let whole : Walk text level trace given s t later end place = replace o rest a from to number clause left item macro named values times small walk in
              let placed : IsPlaced text (t o.env) place.before o.joins o.item =
              (subst (λ x. AreInOrder text t place.before x) left (in_order text level trace given s t framed whole order)).0 in
              let span : IsSpanPlaced (is_macro (kind_of text a.name)) o.joins place.before (t o.env from.0) (t o.env to.0) =
              subst (λ it. IsPlaced text (t o.env) place.before o.joins it) item placed in
              let low = nest_of.0 in
              here whole so_far within links
              (deep o rest left (subst (λ it. is_step it ≡ true) (sym item) refl) (subst (λ it. is_call text it ≡ true) (sym item) macro) (omega arith)
              (subst (λ it. IsAhead place.before (t o.env) it) (sym item) (call_begins (is_macro (kind_of text a.name)) o.joins place.before (t o.env from.0) (t o.env to.0) macro span))
              (λ w. let deeper = (within_back depth walk w).0 in omega arith))
        ]
