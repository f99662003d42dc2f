-- In accepted texts each time of a constraint is one of a step, so along a walk it is known, or stands in an item left.
use Rattle.std.proofs.Common.{ℕ, suc, Bool, true, false, ◌≡◌, List, [], ◌∷◌, ◌++◌, ◌∙◌, map, refl, sym, ap, subst, inl, inr, arith, cond}
use Rattle.std.specs.Prelude.{◌⊎◌, ◌||◌, ◌==◌, if◌then◌else◌, Option, Some, None, Contains}
use Rattle.std.specs.List.{AllByRecursion, filter, flat_map}
use Rattle.std.proofs.lemmas.Bool.Decides.{nat_tests}
use Rattle.std.proofs.lemmas.Grind.{flat_map-append}
use Rattle.std.proofs.lemmas.List.Elements.{Contains-append_left, Contains-append_right}
use Rattle.lps_terms.specs.declared.atom.Atom.{Atom}
use Rattle.lps_terms.specs.declared.item.Item.{Item}
use Rattle.lps_terms.specs.declared.item.Item.TheVariants as i
use Rattle.lps_terms.specs.declared.text.Text.{Text}
use Rattle.lps_terms.specs.declared.time_var.TimeVar.{TimeVar}
use Rattle.lps_model.specs.declared.trace.Trace.{Trace}
use Rattle.lps_model.specs.Acceptance.{IsAccepted}
use Rattle.lps_model.specs.Order.{occurs, times_of}
use Rattle.lps_model.proofs.Elements.{first_is_contained}
use Rattle.lps_meaning.specs.declared.node.Left.{Left}
use Rattle.lps_meaning.specs.declared.node.LeftCon.{LeftCon}
use Rattle.lps_meaning.specs.declared.when.When.{When}
use Rattle.lps_meaning.specs.declared.when.When.TheVariants.{Known, Unknown}
use Rattle.lps_meaning.specs.Goals.{AreAllGround, distinct, shared_times}
use Rattle.lps_nodes.specs.Integers.{AreTimesLeft}
use Rattle.lps_nodes.specs.Laws.{IsOfText}
use Rattle.lps_model.specs.Rules.{MacroClause, Rule, rules}
use Rattle.lps_meaning.specs.Frames.{IsFramed, first_begin, last_end_or}
use Rattle.lps_meaning.specs.Sequences.{Entry, Link, Place, Values, Times, Walk, stop, pass, replace, start, entries}
use Rattle.lps_nodes.specs.Shapes.{Sequence, Shape, Whens, alternative_of, antecedent_of, left_of, left_at, left_unknowns, unknowns, con_of, limits_of, HasSameWhens, all_known, shape_of, IsGeneral}
use Rattle.lps_meaning.proofs.Lists.{of_element}
use Rattle.lps_meaning.proofs.Framing.{accepted_texts_are_framed}
use Rattle.lps_meaning.proofs.Stepped.{HaveStepsAfter, IsConOf, IsStepped, IsSteppedRule, IsTimeOf, clause_of, con_to, either, false_true, rules_stepped, some_none}
use Rattle.lps_nodes.proofs.Moves.{links_of, past_of}
use Rattle.lps_nodes.proofs.NodeLaws.{first_time, second_time}
use Rattle.lps_meaning.proofs.Occurrences.{all_joined, all_to}

-- ---- the frame of a body

abbrev number_or : ℕ → Option ℕ → ℕ
number_or d None = d
number_or d (Some n) = n

begin_stepped : (items : List Item) (begin : ℕ) → first_begin items ≡ Some begin → IsStepped begin items
begin_stepped [] begin e = absurd (some_none (sym e))
begin_stepped (i.At lit time ∷ items) begin e = inl (ap (number_or begin) e)
begin_stepped (i.Span a from to ∷ items) begin e = inl (inl (ap (number_or begin) e))
begin_stepped (i.Bare lit ∷ items) begin e = inr (begin_stepped items begin e)
begin_stepped (i.Built built ∷ items) begin e = inr (begin_stepped items begin e)
begin_stepped (i.Con con ∷ items) begin e = inr (begin_stepped items begin e)

end_stepped : (items : List Item) (given : Option ℕ) (end : ℕ) → last_end_or given items ≡ Some end → (given ≡ Some end) ⊎ IsStepped end items
end_stepped [] given end e = inl e
end_stepped (i.At lit time ∷ items) given end e = elim (end_stepped items (Some time.0) end e) [ inl here ↦ inr (inl (ap (number_or end) here)) | inr later ↦ inr (inr later) ]
end_stepped (i.Span a from to ∷ items) given end e = elim (end_stepped items (Some to.0) end e) [ inl here ↦ inr (inl (inr (ap (number_or end) here))) | inr later ↦ inr (inr later) ]
end_stepped (i.Bare lit ∷ items) given end e = elim (end_stepped items given end e) [ inl here ↦ inl here | inr later ↦ inr (inr later) ]
end_stepped (i.Built built ∷ items) given end e = elim (end_stepped items given end e) [ inl here ↦ inl here | inr later ↦ inr (inr later) ]
end_stepped (i.Con con ∷ items) given end e = elim (end_stepped items given end e) [ inl here ↦ inl here | inr later ↦ inr (inr later) ]

-- ---- times along a walk

module _ (text : Text) (accepted : IsAccepted text) (level : List ℕ → ℕ) (trace : Trace) (q : Sequence) (s : Values) (t : Times) (u : Values) (w : Whens) where
  -- the time is one of the step that an entry is
  abbrev IsTimeIn : (ℕ → When) → When → Item → Type 0
  IsTimeIn z time (i.At lit at) = z at.0 ≡ time
  IsTimeIn z time (i.Span a from to) = (z from.0 ≡ time) ⊎ (z to.0 ≡ time)
  IsTimeIn z time _ = ⊥

  abbrev StandsIn : When → List Entry → Type 0
  StandsIn time [] = ⊥
  StandsIn time (e ∷ es) = IsTimeIn (w e.env) time e.item ⊎ StandsIn time es

  -- the time is known, or one of a step left
  abbrev IsCovered : List Entry → When → Type 0
  IsCovered es time = ((n : ℕ) × (time ≡ Known n)) ⊎ StandsIn time es

  time_in_entry : (env v : ℕ) (item : Item) → IsTimeOf v item → IsTimeIn (w env) (w env v) item
  time_in_entry env v (i.At lit at) h = ap (w env) h
  time_in_entry env v (i.Span a from to) (inl h) = inl (ap (w env) h)
  time_in_entry env v (i.Span a from to) (inr h) = inr (ap (w env) h)
  time_in_entry env v (i.Bare lit) h = h
  time_in_entry env v (i.Built built) h = h
  time_in_entry env v (i.Con con) h = h

  stands : (env nest : ℕ) (before : Option Item) (items : List Item) (v : ℕ) → IsStepped v items → StandsIn (w env v) (entries text env nest before items)
  stands env nest before [] v h = absurd h
  stands env nest before (item ∷ items) v (inl h) = inl (time_in_entry env v item h)
  stands env nest before (item ∷ items) v (inr h) = inr (stands env nest (Some item) items v h)

  stands_front : (time : When) (xs ys : List Entry) → StandsIn time xs → StandsIn time (xs ++ ys)
  stands_front time [] ys h = absurd h
  stands_front time (x ∷ xs) ys (inl h) = inl h
  stands_front time (x ∷ xs) ys (inr h) = inr (stands_front time xs ys h)

  stands_behind : (time : When) (xs ys : List Entry) → StandsIn time ys → StandsIn time (xs ++ ys)
  stands_behind time [] ys h = h
  stands_behind time (x ∷ xs) ys h = inr (stands_behind time xs ys h)

  -- a time of an entry passed is known
  told_time : (time : When) (env nest : ℕ) (item : Item) → left_of (u env) (w env) nest item ≡ left_of (s env) (all_known t env) nest item → IsTimeIn (w env) time item → (n : ℕ) × (time ≡ Known n)
  told_time time env nest (i.At lit at) e h = (t env at.0, sym h ∙ ap (first_time (Known 0)) e)
  told_time time env nest (i.Span a from to) e (inl h) = (t env from.0, sym h ∙ ap (first_time (Known 0)) e)
  told_time time env nest (i.Span a from to) e (inr h) = (t env to.0, sym h ∙ ap (second_time (Known 0)) e)
  told_time time env nest (i.Bare lit) e h = absurd h
  told_time time env nest (i.Built built) e h = absurd h
  told_time time env nest (i.Con con) e h = absurd h

  covered_behind : (o : Entry) (rest : List Entry) → left_at u w o ≡ left_at s (all_known t) o → (time : When) → IsCovered (o ∷ rest) time → IsCovered rest time
  covered_behind o rest told time (inl k) = inl k
  covered_behind o rest told time (inr (inl h)) = inl (told_time time o.env o.nest o.item told h)
  covered_behind o rest told time (inr (inr h)) = inr h

  covered_body : (o : Entry) (rest : List Entry) (a : Atom) (from to : TimeVar) (inner nest : ℕ) (clause : MacroClause) → o.item ≡ i.Span a from to → IsFramed clause →
      (w o.env from.0 ≡ w inner clause.begin) × (w o.env to.0 ≡ w inner clause.end) → (time : When) → IsCovered (o ∷ rest) time → IsCovered (entries text inner nest None clause.items ++ rest) time
  covered_body o rest a from to inner nest clause is framed same time (inl k) = inl k
  covered_body o rest a from to inner nest clause is framed same time (inr (inr h)) = inr (stands_behind time (entries text inner nest None clause.items) rest h)
  covered_body o rest a from to inner nest clause is framed same time (inr (inl h)) =
      elim (subst (IsTimeIn (w o.env) time) is h) [
        | inl begins ↦ at clause.begin (sym same.0 ∙ begins) (begin_stepped clause.items clause.begin framed.begin)
        | inr ends ↦ at clause.end (sym same.1 ∙ ends) (ended (end_stepped clause.items None clause.end framed.end))
      ]
    where
      at : (v : ℕ) → w inner v ≡ time → IsStepped v clause.items → IsCovered (entries text inner nest None clause.items ++ rest) time
      at v e h = inr (stands_front time (entries text inner nest None clause.items) rest (subst (λ z. StandsIn z (entries text inner nest None clause.items)) e (stands inner nest None clause.items v h)))

      ended : (None ≡ Some clause.end) ⊎ IsStepped clause.end clause.items → IsStepped clause.end clause.items
      ended (inl e) = absurd (some_none (sym e))
      ended (inr h) = h

  -- the times of all constraints are covered
  abbrev AreCovered : List Entry → ℕ → List Item → Type 0
  AreCovered es env items = AllByRecursion (IsConOf (λ v. IsCovered es (w env v))) items

  covered_to : (xs ys : List Entry) → ((time : When) → IsCovered xs time → IsCovered ys time) → (env : ℕ) (items : List Item) → AreCovered xs env items → AreCovered ys env items
  covered_to xs ys f env items h =
      all_to (IsConOf (λ v. IsCovered xs (w env v))) (IsConOf (λ v. IsCovered ys (w env v))) (con_to (λ v. IsCovered xs (w env v)) (λ v. IsCovered ys (w env v)) (λ v. f (w env v))) items h

  abbrev LinksAreCovered : List Entry → List Link → Type 0
  LinksAreCovered es links = AllByRecursion (λ (link : Link). AreCovered es link.inner link.clause.items) links

  links_to : (xs ys : List Entry) → ((time : When) → IsCovered xs time → IsCovered ys time) → (links : List Link) → LinksAreCovered xs links → LinksAreCovered ys links
  links_to xs ys f links h = all_to (λ (link : Link). AreCovered xs link.inner link.clause.items) (λ (link : Link). AreCovered ys link.inner link.clause.items) (λ link. covered_to xs ys f link.inner link.clause.items) links h

  covered_along : {now : ℕ} {end place : Place} → Walk text level trace q.given_values s t now end place → AllByRecursion (λ (e : Entry). left_at u w e ≡ left_at s (all_known t) e) end.past →
      AllByRecursion (HasSameWhens w) end.links → AreCovered place.left 0 q.items → LinksAreCovered place.left place.links → AreCovered end.left 0 q.items × LinksAreCovered end.left end.links
  covered_along stop past whens h k = (h, k)
  covered_along {place = place} (pass env nest joins item rest left no_call is_true small placed walk) past whens h k =
      let o : Entry = record { env = env; nest = nest; joins = joins; item = item } in
      let told = (past_of s s t t text level trace q.given_values (λ (e : Entry). left_at u w e ≡ left_at s (all_known t) e) walk past).0 in
      let f : (time : When) → IsCovered place.left time → IsCovered rest time = λ time c. covered_behind o rest told time (subst (λ es. IsCovered es time) left c) in
      covered_along walk past whens (covered_to place.left rest f 0 q.items h) (links_to place.left rest f place.links k)
  covered_along {place = place} (replace o rest a from to number clause left item macro named values times small walk) past whens h k =
      let same = (links_of s s t t text level trace q.given_values (HasSameWhens w) walk whens).0 in
      let body = entries text place.next (suc o.nest) None clause.items in
      let framed = (accepted_texts_are_framed text accepted).each a.name number clause named in
      let f : (time : When) → IsCovered place.left time → IsCovered (body ++ rest) time = λ time c. covered_body o rest a from to place.next (suc o.nest) clause item framed same time (subst (λ es. IsCovered es time) left c) in
      let new : AreCovered (body ++ rest) place.next clause.items =
      all_to (IsConOf (λ v. IsStepped v clause.items)) (IsConOf (λ v. IsCovered (body ++ rest) (w place.next v)))
      (con_to (λ v. IsStepped v clause.items) (λ v. IsCovered (body ++ rest) (w place.next v))
      (λ v st. inr (stands_front (w place.next v) body rest (stands place.next (suc o.nest) None clause.items v st)))) clause.items (clause_of text accepted a.name number clause named) in
      covered_along walk past whens (covered_to place.left (body ++ rest) f 0 q.items h) (new, links_to place.left (body ++ rest) f place.links k)

  -- ---- what is left

  abbrev unknown_left : List Entry → List ℕ
  unknown_left es = flat_map (λ (left : Left). left_unknowns left.item) (flat_map (left_at u w) es)

  one_unknown : (z : When) (k : ℕ) → z ≡ Unknown k → Contains (unknowns z) k
  one_unknown z k e = subst (λ y. Contains (unknowns y) k) (sym e) (first_is_contained k [])

  item_contains : (k env nest : ℕ) (item : Item) → IsTimeIn (w env) (Unknown k) item → Contains (flat_map (λ (left : Left). left_unknowns left.item) (left_of (u env) (w env) nest item)) k
  item_contains k env nest (i.At lit at) h = Contains-append_left (unknowns (w env at.0)) [] k (one_unknown (w env at.0) k h)
  item_contains k env nest (i.Span a from to) (inl h) =
      Contains-append_left (unknowns (w env from.0) ++ unknowns (w env to.0)) [] k (Contains-append_left (unknowns (w env from.0)) (unknowns (w env to.0)) k (one_unknown (w env from.0) k h))
  item_contains k env nest (i.Span a from to) (inr h) =
      Contains-append_left (unknowns (w env from.0) ++ unknowns (w env to.0)) [] k (Contains-append_right (unknowns (w env from.0)) (unknowns (w env to.0)) k (one_unknown (w env to.0) k h))
  item_contains k env nest (i.Bare lit) h = absurd h
  item_contains k env nest (i.Built built) h = absurd h
  item_contains k env nest (i.Con con) h = absurd h

  stands_contains : (k : ℕ) (es : List Entry) → StandsIn (Unknown k) es → Contains (unknown_left es) k
  stands_contains k [] h = absurd h
  stands_contains k (e ∷ es) h =
      subst (λ xs. Contains xs k) (sym (flat_map-append (λ (left : Left). left_unknowns left.item) (left_at u w e) (flat_map (left_at u w) es))) (by h (stands_contains k es))
    where
      by : IsTimeIn (w e.env) (Unknown k) e.item ⊎ StandsIn (Unknown k) es → (StandsIn (Unknown k) es → Contains (unknown_left es) k) →
          Contains (flat_map (λ (left : Left). left_unknowns left.item) (left_at u w e) ++ unknown_left es) k
      by (inl here) later = Contains-append_left (flat_map (λ (left : Left). left_unknowns left.item) (left_at u w e)) (unknown_left es) k (item_contains k e.env e.nest e.item here)
      by (inr behind) later = Contains-append_right (flat_map (λ (left : Left). left_unknowns left.item) (left_at u w e)) (unknown_left es) k (later behind)

  covered_contains : (es : List Entry) (time : When) → IsCovered es time → AllByRecursion (Contains (unknown_left es)) (unknowns time)
  covered_contains es (Known n) h = tt
  covered_contains es (Unknown k) (inl h) = absurd (unknown_known h.1)
    where
      unknown_known : {k n : ℕ} → Unknown k ≡ Known n → ⊥
      unknown_known e = cc
  covered_contains es (Unknown k) (inr h) = (stands_contains k es h, tt)

  abbrev con_unknowns : LeftCon → List ℕ
  con_unknowns con = unknowns con.left ++ unknowns con.right

  cons_contain : (es : List Entry) (env : ℕ) (items : List Item) → AreCovered es env items → AllByRecursion (Contains (unknown_left es)) (flat_map con_unknowns (flat_map (con_of (w env)) items))
  cons_contain es env [] h = tt
  cons_contain es env (i.Con con ∷ items) h =
      all_joined (Contains (unknown_left es)) (unknowns (w env con.left.0) ++ unknowns (w env con.right.0)) (flat_map con_unknowns (flat_map (con_of (w env)) items))
      (all_joined (Contains (unknown_left es)) (unknowns (w env con.left.0)) (unknowns (w env con.right.0)) (covered_contains es (w env con.left.0) h.0.0) (covered_contains es (w env con.right.0) h.0.1))
      (cons_contain es env items h.1)
  cons_contain es env (i.At lit at ∷ items) h = cons_contain es env items h.1
  cons_contain es env (i.Bare lit ∷ items) h = cons_contain es env items h.1
  cons_contain es env (i.Built built ∷ items) h = cons_contain es env items h.1
  cons_contain es env (i.Span a from to ∷ items) h = cons_contain es env items h.1

  links_contain : (es : List Entry) (links : List Link) → LinksAreCovered es links → AllByRecursion (Contains (unknown_left es)) (flat_map con_unknowns (limits_of w links))
  links_contain es [] h = tt
  links_contain es (link ∷ links) h =
      subst (AllByRecursion (Contains (unknown_left es))) (sym (flat_map-append con_unknowns (limits_of w links) (flat_map (con_of (w link.inner)) link.clause.items)))
      (all_joined (Contains (unknown_left es)) (flat_map con_unknowns (limits_of w links)) (flat_map con_unknowns (flat_map (con_of (w link.inner)) link.clause.items)) (links_contain es links h.1)
      (cons_contain es link.inner link.clause.items h.0))

  shape_contains : (place : Place) → AreCovered place.left 0 q.items → LinksAreCovered place.left place.links → AreTimesLeft (shape_of q place u w)
  shape_contains place h k =
      subst (AllByRecursion (Contains (unknown_left place.left))) (sym (flat_map-append con_unknowns (flat_map (con_of (w 0)) q.items) (limits_of w place.links)))
      (all_joined (Contains (unknown_left place.left)) (flat_map con_unknowns (flat_map (con_of (w 0)) q.items)) (flat_map con_unknowns (limits_of w place.links)) (cons_contain place.left 0 q.items h)
      (links_contain place.left place.links k))

-- ---- what an alternative shares is given

or_left : (x y : Bool) → x ≡ true → (x || y) ≡ true
or_left x y e = ap (λ b. b || y) e

pub or_right : (x y : Bool) → y ≡ true → (x || y) ≡ true
or_right true y e = refl
or_right false y e = e

pub same_number : (n m : ℕ) → (n == m) ≡ true → n ≡ m
same_number n m e = grind (arith, nat_tests)

same_self : (n : ℕ) → (n == n) ≡ true
same_self n = grind (arith, nat_tests)

occurs_front : (v : ℕ) (xs ys : List ℕ) → occurs v xs ≡ true → occurs v (xs ++ ys) ≡ true
occurs_front v [] ys e = absurd (false_true e)
occurs_front v (x ∷ xs) ys e = elim (either (x == v) (occurs v xs) e) [ inl here ↦ or_left (x == v) (occurs v (xs ++ ys)) here | inr later ↦ or_right (x == v) (occurs v (xs ++ ys)) (occurs_front v xs ys later) ]

occurs_behind : (v : ℕ) (xs ys : List ℕ) → occurs v ys ≡ true → occurs v (xs ++ ys) ≡ true
occurs_behind v [] ys e = e
occurs_behind v (x ∷ xs) ys e = or_right (x == v) (occurs v (xs ++ ys)) (occurs_behind v xs ys e)

occurs_here : (v : ℕ) (x : ℕ) (xs : List ℕ) → x ≡ v → occurs v (x ∷ xs) ≡ true
occurs_here v x xs e = or_left (x == v) (occurs v xs) (ap (λ n. x == n) (sym e) ∙ same_self x)

time_occurs : (v : ℕ) (item : Item) → IsTimeOf v item → occurs v (times_of item) ≡ true
time_occurs v (i.At lit at) h = occurs_here v at.0 [] h
time_occurs v (i.Span a from to) (inl h) = occurs_here v from.0 (to.0 ∷ []) h
time_occurs v (i.Span a from to) (inr h) = or_right (from.0 == v) (occurs v (to.0 ∷ [])) (occurs_here v to.0 [] h)
time_occurs v (i.Bare lit) h = absurd h
time_occurs v (i.Built built) h = absurd h
time_occurs v (i.Con con) h = absurd h

stepped_occurs : (v : ℕ) (items : List Item) → IsStepped v items → occurs v (flat_map times_of items) ≡ true
stepped_occurs v [] h = absurd h
stepped_occurs v (item ∷ items) (inl h) = occurs_front v (times_of item) (flat_map times_of items) (time_occurs v item h)
stepped_occurs v (item ∷ items) (inr h) = occurs_behind v (times_of item) (flat_map times_of items) (stepped_occurs v items h)

-- the times of constraints occur among the times of items
cons_occur : (whole : List ℕ) (items : List Item) → ((v : ℕ) → occurs v (flat_map times_of items) ≡ true → occurs v whole ≡ true) → AllByRecursion (IsConOf (λ v. occurs v whole ≡ true)) items
cons_occur whole [] sub = tt
cons_occur whole (item ∷ items) sub =
    (one item (λ v e. sub v (occurs_front v (times_of item) (flat_map times_of items) e)), cons_occur whole items (λ v e. sub v (occurs_behind v (times_of item) (flat_map times_of items) e)))
  where
    one : (it : Item) → ((v : ℕ) → occurs v (times_of it) ≡ true → occurs v whole ≡ true) → IsConOf (λ v. occurs v whole ≡ true) it
    one (i.Con con) h =
        (h con.left.0 (occurs_here con.left.0 con.left.0 (con.right.0 ∷ []) refl), h con.right.0 (or_right (con.left.0 == con.right.0) (occurs con.right.0 (con.right.0 ∷ [])) (occurs_here con.right.0 con.right.0 [] refl)))
    one (i.At lit at) h = tt
    one (i.Bare lit) h = tt
    one (i.Built built) h = tt
    one (i.Span a from to) h = tt

alternatives_occur : (whole : List ℕ) (alternatives : List (List Item)) → ((v : ℕ) → occurs v (flat_map (flat_map times_of) alternatives) ≡ true → occurs v whole ≡ true) →
    AllByRecursion (λ items. AllByRecursion (IsConOf (λ v. occurs v whole ≡ true)) items) alternatives
alternatives_occur whole [] sub = tt
alternatives_occur whole (items ∷ alternatives) sub = (
  cons_occur whole items (λ v e. sub v (occurs_front v (flat_map times_of items) (flat_map (flat_map times_of) alternatives) e)),
  alternatives_occur whole alternatives (λ v e. sub v (occurs_behind v (flat_map times_of items) (flat_map (flat_map times_of) alternatives) e)),
)

pub occurs_filter : (v : ℕ) (test : ℕ → Bool) (xs : List ℕ) → test v ≡ true → occurs v xs ≡ true → occurs v (filter test xs) ≡ true
occurs_filter v test [] passes e = absurd (false_true e)
occurs_filter v test (x ∷ xs) passes e = by (occurs_filter v test xs passes) (test x) refl (either (x == v) (occurs v xs) e)
  where
    by : (occurs v xs ≡ true → occurs v (filter test xs) ≡ true) → (kept : Bool) → test x ≡ kept → ((x == v) ≡ true) ⊎ (occurs v xs ≡ true) → occurs v (cond kept (x ∷ filter test xs) (filter test xs)) ≡ true
    by more true is (inl here) = or_left (x == v) (occurs v (filter test xs)) here
    by more true is (inr later) = or_right (x == v) (occurs v (filter test xs)) (more later)
    by more false is (inl here) = absurd (false_true (sym is ∙ ap test (same_number x v here) ∙ passes))
    by more false is (inr later) = more later

pub occurs_distinct : (v : ℕ) (xs seen : List ℕ) → occurs v xs ≡ true → occurs v seen ≡ false → occurs v (distinct seen xs) ≡ true
occurs_distinct v [] seen e new = absurd (false_true e)
occurs_distinct v (x ∷ xs) seen e new = by (λ h. occurs_distinct v xs seen h new) (occurs_distinct v xs (x ∷ seen)) (occurs x seen) refl (x == v) refl
  where
    by : (occurs v xs ≡ true → occurs v (distinct seen xs) ≡ true) → (occurs v xs ≡ true → occurs v (x ∷ seen) ≡ false → occurs v (distinct (x ∷ seen) xs) ≡ true) →
        (had : Bool) → occurs x seen ≡ had → (here : Bool) → (x == v) ≡ here → occurs v (if had then distinct seen xs else x ∷ distinct (x ∷ seen) xs) ≡ true
    by same more true was true at = absurd (false_true (sym new ∙ ap (λ n. occurs n seen) (sym (same_number x v at)) ∙ was))
    by same more true was false at = same (sym (ap (λ b. b || occurs v xs) at) ∙ e)
    by same more false was true at = or_left (x == v) (occurs v (distinct (x ∷ seen) xs)) at
    by same more false was false at = or_right (x == v) (occurs v (distinct (x ∷ seen) xs)) (more (sym (ap (λ b. b || occurs v xs) at) ∙ e) (ap (λ b. b || occurs v seen) at ∙ new))

shared_occurs : (rule : Rule) (v : ℕ) → IsStepped v rule.antecedent → occurs v (flat_map (flat_map times_of) rule.alternatives) ≡ true → occurs v (shared_times rule) ≡ true
shared_occurs rule v h e =
    occurs_filter v (λ v. occurs v (flat_map (flat_map times_of) rule.alternatives)) (distinct [] (flat_map times_of rule.antecedent)) e
    (occurs_distinct v (flat_map times_of rule.antecedent) [] (stepped_occurs v rule.antecedent h) refl)

abbrev when_or : When → List When → When
when_or d [] = d
when_or d (z ∷ zs) = z

abbrev whens_behind : List When → List When
whens_behind [] = []
whens_behind (z ∷ zs) = zs

given_known : (z : ℕ → When) (c : ℕ → ℕ) (vs : List ℕ) → map z vs ≡ map (λ v. Known (c v)) vs → (v : ℕ) → occurs v vs ≡ true → z v ≡ Known (c v)
given_known z c [] e v h = absurd (false_true h)
given_known z c (x ∷ vs) e v h =
    elim (either (x == v) (occurs v vs) h) [
      | inl here ↦ subst (λ n. z n ≡ Known (c n)) (same_number x v here) (ap (when_or (z x)) e)
      | inr later ↦ given_known z c vs (ap whens_behind e) v later
    ]

con_two : (P Q R : ℕ → Type 0) → ((v : ℕ) → P v → Q v → R v) → (items : List Item) → AllByRecursion (IsConOf P) items → AllByRecursion (IsConOf Q) items → AllByRecursion (IsConOf R) items
con_two P Q R f [] h k = tt
con_two P Q R f (item ∷ items) h k = (one item h.0 k.0, con_two P Q R f items h.1 k.1)
  where
    one : (it : Item) → IsConOf P it → IsConOf Q it → IsConOf R it
    one (i.Con con) h k = (f con.left.0 h.0 k.0, f con.right.0 h.1 k.1)
    one (i.At lit at) h k = tt
    one (i.Bare lit) h k = tt
    one (i.Built built) h k = tt
    one (i.Span a from to) h k = tt

module _ (text : Text) (accepted : IsAccepted text) (z : ℕ → When) (c : ℕ → ℕ) where
  -- each time of a constraint is given, or one of a step
  abbrev IsGivenOrStepped : List Item → ℕ → Type 0
  IsGivenOrStepped items v = (z v ≡ Known (c v)) ⊎ IsStepped v items

  abbrev StartsCovered : Sequence → Type 0
  StartsCovered q = map z q.given_times ≡ map (λ v. Known (c v)) q.given_times → AllByRecursion (IsConOf (IsGivenOrStepped q.items)) q.items

  of_alternative : (rule : Rule) → IsSteppedRule rule → (items : List Item) → Contains rule.alternatives items → StartsCovered (alternative_of rule items)
  of_alternative rule h items among given =
      let whole = flat_map (flat_map times_of) rule.alternatives in
      con_two (λ v. IsStepped v rule.antecedent ⊎ IsStepped v items) (λ v. occurs v whole ≡ true) (IsGivenOrStepped items)
      (λ v st e. elim st [ inl before ↦ inl (given_known z c (shared_times rule) given v (shared_occurs rule v before e)) | inr here ↦ inr here ]) items
      (of_element (HaveStepsAfter rule.antecedent) rule.alternatives items h.1 among)
      (of_element (λ (its : List Item). AllByRecursion (IsConOf (λ v. occurs v whole ≡ true)) its) rule.alternatives items (alternatives_occur whole rule.alternatives (λ v e. e)) among)

  starts_covered : (q : Sequence) → IsOfText text q → StartsCovered q
  starts_covered q of_text = by of_text.2
    where
      of_rule : IsSteppedRule of_text.0
      of_rule = of_element IsSteppedRule (rules text) of_text.0 (rules_stepped text accepted) of_text.1

      by : (q ≡ antecedent_of of_text.0) ⊎ ((items : List Item) × Contains of_text.0.alternatives items × (q ≡ alternative_of of_text.0 items)) → StartsCovered q
      by (inl is) =
          subst StartsCovered (sym is)
          (λ given. all_to (IsConOf (λ v. IsStepped v of_text.0.antecedent)) (IsConOf (IsGivenOrStepped of_text.0.antecedent))
          (con_to (λ v. IsStepped v of_text.0.antecedent) (IsGivenOrStepped of_text.0.antecedent) (λ v h. inr h)) of_text.0.antecedent of_rule.0)
      by (inr is) = subst StartsCovered (sym is.2) (of_alternative of_text.0 of_rule is.0 is.1)

pub times_left : (text : Text) → IsAccepted text → (level : List ℕ → ℕ) (trace : Trace) (q : Sequence) → IsOfText text q → (s : Values) (t : Times) → AreAllGround s → (since now : ℕ) (end : Place) →
    Walk text level trace q.given_values s t now end (start text since q.items) → (g : Shape) → IsGeneral q s t end g → AreTimesLeft g
times_left text accepted level trace q of_text s t ground since now end walk g is =
    let u = is.values in
    let w = is.whens in
    let first : AreCovered text accepted level trace q s t u w (entries text 0 0 None q.items) 0 q.items =
    all_to (IsConOf (IsGivenOrStepped text accepted (w 0) (t 0) q.items)) (IsConOf (λ v. IsCovered text accepted level trace q s t u w (entries text 0 0 None q.items) (w 0 v)))
    (con_to (IsGivenOrStepped text accepted (w 0) (t 0) q.items) (λ v. IsCovered text accepted level trace q s t u w (entries text 0 0 None q.items) (w 0 v))
    (λ v h. elim h [ inl given ↦ inl (t 0 v, given) | inr st ↦ inr (stands text accepted level trace q s t u w 0 0 None q.items v st) ])) q.items
    (starts_covered text accepted (w 0) (t 0) q of_text is.possible.times) in
    let there = covered_along text accepted level trace q s t u w walk is.possible.past is.possible.when_links first tt in
    subst AreTimesLeft (sym is.own) (shape_contains text accepted level trace q s t u w end there.0 there.1)
