-- Steps made on the most general shape of a place are steps of a walk: what the step fixes are values and times of the walk, and what it
-- leaves open may be any ground term and any number.
use Rattle.std.proofs.Common.{ℕ, suc, true, false, ◌≡◌, ◌≤◌, List, ◌∷◌, ◌++◌, ◌∙◌, length, map, sym, ap, subst, inl, inr}
use Rattle.std.specs.Prelude.{◌&&◌, ◌⊎◌, nat_lt, IsTrue, Some, None, Contains}
use Rattle.std.specs.List.{AllByRecursion, flat_map, list_all}
use Rattle.lps_terms.specs.declared.atom.Atom.{Atom}
use Rattle.lps_terms.specs.declared.body.Body.{Body}
use Rattle.lps_terms.specs.declared.body.Body.TheVariants as b
use Rattle.lps_terms.specs.declared.item.Item.{Item}
use Rattle.lps_terms.specs.declared.item.Item.TheVariants as i
use Rattle.lps_terms.specs.declared.term.Term.{Term}
use Rattle.lps_terms.specs.declared.text.Text.{Text}
use Rattle.lps_terms.specs.declared.time_var.TimeVar.{TimeVar}
use Rattle.lps_terms.specs.Names.{name_eq}
use Rattle.lps_terms.specs.Put.{after, put_atom}
use Rattle.lps_model.specs.declared.trace.Trace.{Trace}
use Rattle.lps_model.specs.Formed.{is_formed, is_formed_atom, is_formed_body, is_formed_item, is_formed_statement}
use Rattle.lps_derivation.specs.Ground.{is_ground}
use Rattle.lps_meaning.specs.declared.node.Left.{Left}
use Rattle.lps_meaning.specs.declared.node.LeftItem.{LeftItem}
use Rattle.lps_meaning.specs.declared.node.LeftItem.TheVariants as l
use Rattle.lps_meaning.specs.declared.when.When.TheVariants.{Known}
use Rattle.lps_nodes.specs.Conditions.{IsLeftSmall, time_in}
use Rattle.lps_meaning.specs.Goals.{AreAllGround}
use Rattle.lps_meaning.specs.Items.{put_item, IsSmallItem}
use Rattle.lps_nodes.specs.Laws.{IsOfText, IsWalked}
use Rattle.lps_model.specs.Rules.{MacroClause, Rule, clauses_of, is_macro, kind_of, macro_clause_in, macro_clauses, numbered, rule_in, rules}
use Rattle.lps_meaning.specs.Sequences.{Entry, Link, Place, Values, Times, Walk, stop, pass, replace, start, entries, passed, replaced, link_at, is_call, HasSameTimes, HasSameValues, IsPlaced, IsTrueItem}
use Rattle.lps_nodes.specs.Shapes.{Sequence, Shape, Whens, alternative_of, antecedent_of, put_shape, left_of, left_at, HasSameWhens, all_known, shape_of, IsPossible, IsGeneral}
use Rattle.lps_nodes.specs.Steps.{in_front, PassesTo, Unfolds, UnfoldsTo}
use Rattle.lps_meaning.proofs.Lists.{number_contained, of_element, of_filter, of_flat, both}
use Rattle.lps_nodes.proofs.Cleaning.{clean, clean_atom, clean_ground, clean_item, clean_put_atom, clean_put_item, clean_stays}
use Rattle.lps_nodes.proofs.ConditionLaws.{item_or}
use Rattle.lps_meaning.proofs.Formed.{AreFormedItems, IsFormedItem, alternatives_formed, body_formed, entries_formed, items_formed, statements_formed}
use Rattle.lps_nodes.proofs.Moves.{SameEntry, item_moved, moved, placed_moved, times_moved}
use Rattle.lps_nodes.proofs.NodeLaws.{all_two, item_same, left_from, left_is, map_two, past_same}
use Rattle.lps_meaning.proofs.Occurrences.{all_joined, all_to}
use Rattle.lps_nodes.proofs.ShapeLaws.{IsFresh, after_when, closed, fresh_passed, fresh_start, fresh_unfolded, front_same, pass_general, reached, shape_after, shape_split, u2, unfold_general, w2}
use Rattle.lps_meaning.proofs.Walks.{wider}

-- ---- well-formed places

-- the atom is well-formed under some variables
abbrev pub IsFormedAtom : Atom → Type 0
IsFormedAtom a = (variables : ℕ) × (is_formed_atom variables a ≡ true)

abbrev IsFormedRule : Rule → Type 0
IsFormedRule rule = AreFormedItems rule.antecedent × AllByRecursion AreFormedItems rule.alternatives

abbrev IsFormedClause : MacroClause → Type 0
IsFormedClause clause = IsFormedAtom clause.head × AreFormedItems clause.items

rule_formed : (variables times : ℕ) (body : Body) → is_formed_body variables times body ≡ true → AllByRecursion IsFormedRule (rule_in body)
rule_formed variables times (b.Rule antecedent alternatives) h =
    let parts = both (list_all (is_formed_item variables times) antecedent) (list_all (list_all (is_formed_item variables times)) alternatives) h in
    ((items_formed variables times antecedent parts.0, alternatives_formed variables times alternatives parts.1), tt)
rule_formed variables times (b.Declare decls) h = tt
rule_formed variables times (b.Initially atoms) h = tt
rule_formed variables times (b.Denial items) h = tt
rule_formed variables times (b.Law initiates event fluent conds) h = tt
rule_formed variables times (b.Clause head conds) h = tt
rule_formed variables times (b.MacroClause head begin end items) h = tt

clause_formed : (variables times : ℕ) (body : Body) → is_formed_body variables times body ≡ true → AllByRecursion IsFormedClause (macro_clause_in body)
clause_formed variables times (b.MacroClause head begin end items) h =
    let parts = both (is_formed_atom variables head && nat_lt begin.0 times && nat_lt end.0 times) (list_all (is_formed_item variables times) items) h in
    let front = both (is_formed_atom variables head && nat_lt begin.0 times) (nat_lt end.0 times) parts.0 in
    (((variables, (both (is_formed_atom variables head) (nat_lt begin.0 times) front.0).0), items_formed variables times items parts.1), tt)
clause_formed variables times (b.Rule antecedent alternatives) h = tt
clause_formed variables times (b.Declare decls) h = tt
clause_formed variables times (b.Initially atoms) h = tt
clause_formed variables times (b.Denial items) h = tt
clause_formed variables times (b.Law initiates event fluent conds) h = tt
clause_formed variables times (b.Clause head conds) h = tt

span_formed : (a : Atom) (from to : TimeVar) → IsFormedItem (i.Span a from to) → IsFormedAtom a
span_formed a from to h = (
  h.variables,
  (both (is_formed_atom h.variables a) (nat_lt from.0 h.times) (both (is_formed_atom h.variables a && nat_lt from.0 h.times) (nat_lt to.0 h.times) h.formed).0).0,
)

-- the items left and passed are well-formed, and so are the calls and the heads of the bodies in their places
pub record IsFormedPlace (place : Place) : Type 0 where
  pub left : AllByRecursion (λ (e : Entry). IsFormedItem e.item) place.left
  pub past : AllByRecursion (λ (e : Entry). IsFormedItem e.item) place.past
  pub links : AllByRecursion (λ (link : Link). IsFormedAtom link.call × IsFormedAtom link.clause.head) place.links

module _ (text : Text) (formed : IsTrue (is_formed text)) where
  rules_formed : AllByRecursion IsFormedRule (rules text)
  rules_formed = of_flat (λ s. is_formed_statement s ≡ true) IsFormedRule (λ s. rule_in s.body) (λ s h. rule_formed (length s.names) (length s.times) s.body (body_formed s h)) text.statements
      (statements_formed text formed)

  clauses_formed : AllByRecursion IsFormedClause (macro_clauses text)
  clauses_formed = of_flat (λ s. is_formed_statement s ≡ true) IsFormedClause (λ s. macro_clause_in s.body) (λ s h. clause_formed (length s.names) (length s.times) s.body (body_formed s h)) text.statements
      (statements_formed text formed)

  clause_of : (name : List ℕ) (number : ℕ) (clause : MacroClause) → numbered (clauses_of text name) number ≡ Some clause → IsFormedClause clause
  clause_of name number clause e =
      of_element IsFormedClause (clauses_of text name) clause (of_filter IsFormedClause (λ clause. name_eq clause.head.name name) (macro_clauses text) clauses_formed)
      (number_contained (clauses_of text name) number clause e)

  pub sequence_formed : (q : Sequence) → IsOfText text q → AreFormedItems q.items
  sequence_formed q of_text = by of_text.2
    where
      of_rule : IsFormedRule of_text.0
      of_rule = of_element IsFormedRule (rules text) of_text.0 rules_formed of_text.1

      by : (q ≡ antecedent_of of_text.0) ⊎ ((items : List Item) × Contains of_text.0.alternatives items × (q ≡ alternative_of of_text.0 items)) → AreFormedItems q.items
      by (inl is) = subst (λ (z : Sequence). AreFormedItems z.items) (sym is) of_rule.0
      by (inr is) = subst (λ (z : Sequence). AreFormedItems z.items) (sym is.2) (of_element AreFormedItems of_text.0.alternatives is.0 of_rule.1 is.1)

  pub formed_along : {level : List ℕ → ℕ} {trace : Trace} {given : List ℕ} {s : Values} {t : Times} {now : ℕ} {end place : Place} → Walk text level trace given s t now end place → IsFormedPlace place → IsFormedPlace end
  formed_along stop h = h
  formed_along (pass env nest joins item rest left no_call is_true small placed walk) h =
      let open_left = subst (AllByRecursion (λ (e : Entry). IsFormedItem e.item)) left h.left in
      formed_along walk (record { left = open_left.1; past = (open_left.0, h.past); links = h.links })
  formed_along {place = place} (replace e rest a from to number clause left item macro named values times small walk) h =
      let open_left = subst (AllByRecursion (λ (e : Entry). IsFormedItem e.item)) left h.left in
      let whole = clause_of a.name number clause named in
      formed_along walk (record {
        left = all_joined (λ (e : Entry). IsFormedItem e.item) (entries text place.next (suc e.nest) None clause.items) rest (entries_formed text formed place.next (suc e.nest) None clause.items whole.1) open_left.1;
        past = h.past;
        links = ((span_formed a from to (subst IsFormedItem item open_left.0), whole.0), h.links);
      })

  pub start_formed : (since : ℕ) (items : List Item) → AreFormedItems items → IsFormedPlace (start text since items)
  start_formed since items h = record { left = entries_formed text formed 0 0 None items h; past = tt; links = tt }

-- ---- walks one after the other

pub walk_then : {text : Text} {level : List ℕ → ℕ} {trace : Trace} {given : List ℕ} {s : Values} {t : Times} {now : ℕ} {middle place : Place} (end : Place) → Walk text level trace given s t now middle place →
    Walk text level trace given s t now end middle → Walk text level trace given s t now end place
walk_then end stop more = more
walk_then end (pass env nest joins item rest left no_call is_true small placed walk) more = pass env nest joins item rest left no_call is_true small placed (walk_then end walk more)
walk_then end (replace e rest a from to number clause left item macro named values times small walk) more =
    replace e rest a from to number clause left item macro named values times small (walk_then end walk more)

pub fresh_along : (text : Text) (q : Sequence) (s : Values) (t : Times) (ground : AreAllGround s) (level : List ℕ → ℕ) (trace : Trace) {now : ℕ} {end place : Place} →
    Walk text level trace q.given_values s t now end place → IsFresh text q s t ground place → IsFresh text q s t ground end
fresh_along text q s t ground level trace stop h = h
fresh_along text q s t ground level trace {place = place} (pass env nest joins item rest left no_call is_true small placed walk) h =
    fresh_along text q s t ground level trace walk (fresh_passed text q s t ground level trace place (record { env = env; nest = nest; joins = joins; item = item }) rest left h)
fresh_along text q s t ground level trace {place = place} (replace e rest a from to number clause left item macro named values times small walk) h =
    fresh_along text q s t ground level trace walk (fresh_unfolded text q s t ground level trace place e rest a from.0 to.0 number clause left h)

-- ---- what is possible at a place is a walk there

module _ (q : Sequence) (s : Values) (t : Times) (ground : AreAllGround s) (end : Place) (u : Values) (w : Whens) (possible : IsPossible q s t end u w) (formed : IsFormedPlace end) where
  abbrev pub values : Values
  values env v = clean (u env v)

  abbrev pub times : Times
  times env v = time_in (λ k. 0) (w env v)

  values_ground : AreAllGround values
  values_ground env v = clean_ground (u env v)

  same_values : map (values 0) q.given_values ≡ map (s 0) q.given_values
  same_values =
      sym (map_two clean (u 0) q.given_values) ∙ ap (map clean) possible.values ∙ map_two clean (s 0) q.given_values
      ∙ (λ j. map (λ v. clean_stays (s 0 v) (ground 0 v) j) q.given_values)

  same_times : map (times 0) q.given_times ≡ map (t 0) q.given_times
  same_times = sym (map_two (time_in (λ k. 0)) (w 0) q.given_times) ∙ ap (map (time_in (λ k. 0))) possible.times ∙ map_two (time_in (λ k. 0)) (all_known t 0) q.given_times

  -- an item that is what ground values make it is so once cleaned
  item_clean : (f : ℕ → Term) → ((v : ℕ) → IsTrue (is_ground (f v))) → (env : ℕ) (item : Item) → IsFormedItem item → put_item (u env) item ≡ put_item f item → put_item (values env) item ≡ put_item f item
  item_clean f f_ground env item h same =
      sym (clean_put_item h.variables (u env) h.times item h.formed) ∙ ap clean_item same ∙ clean_put_item h.variables f h.times item h.formed
      ∙ (λ j. put_item (λ v. clean_stays (f v) (f_ground v) j) item)

  told_clean : (f : ℕ → Term) (c : ℕ → ℕ) → ((v : ℕ) → IsTrue (is_ground (f v))) → (env nest : ℕ) (item : Item) → IsFormedItem item →
      left_of (u env) (w env) nest item ≡ left_of f (λ v. Known (c v)) nest item → left_of (values env) (all_known times env) nest item ≡ left_of f (λ v. Known (c v)) nest item
  told_clean f c f_ground env nest item h same =
      left_is (values env) (all_known times env) nest item
      ∙ ap (left_from (all_known times env) nest) (item_clean f f_ground env item h (item_same (u env) f (w env) (λ v. Known (c v)) nest item same))
      ∙ sym (left_is f (all_known times env) nest item) ∙ sym (past_same (λ k. 0) (u env) f (w env) c nest item same)

  past_same_entries : AllByRecursion (SameEntry s values t times) end.past
  past_same_entries = all_two (λ (e : Entry). IsFormedItem e.item) (λ (e : Entry). left_at u w e ≡ left_at s (all_known t) e) (SameEntry s values t times)
      (λ e h same. sym (told_clean (s e.env) (t e.env) (ground e.env) e.env e.nest e.item h same)) end.past formed.past possible.past

  link_clean : (link : Link) → IsFormedAtom link.call × IsFormedAtom link.clause.head → HasSameValues u link → HasSameValues values link
  link_clean link h same =
      sym (clean_put_atom h.0.0 (u link.outer) link.call h.0.1) ∙ ap clean_atom same ∙ clean_put_atom h.1.0 (u link.inner) link.clause.head h.1.1

  when_clean : (link : Link) → HasSameWhens w link → HasSameTimes times link
  when_clean link h = (ap (time_in (λ k. 0)) h.0, ap (time_in (λ k. 0)) h.1)

  links_same : AllByRecursion (HasSameValues values) end.links
  links_same = all_two (λ (link : Link). IsFormedAtom link.call × IsFormedAtom link.clause.head) (HasSameValues u) (HasSameValues values) link_clean end.links formed.links possible.links

  whens_same : AllByRecursion (HasSameTimes times) end.links
  whens_same = all_to (HasSameWhens w) (HasSameTimes times) when_clean end.links possible.when_links

  pub walk_clean : (text : Text) (level : List ℕ → ℕ) (trace : Trace) (now : ℕ) (place : Place) → Walk text level trace q.given_values s t now end place → Walk text level trace q.given_values values times now end place
  walk_clean text level trace now place walk = moved s values t times text level trace q.given_values (sym same_values) walk past_same_entries links_same whens_same

  -- what is possible, and so what is general, is the same for this walk
  known_same : map (all_known times 0) q.given_times ≡ map (all_known t 0) q.given_times
  known_same = sym (map_two (λ n. Known n) (times 0) q.given_times) ∙ ap (map (λ n. Known n)) same_times ∙ map_two (λ n. Known n) (t 0) q.given_times

  possible_to : (u' : Values) (w' : Whens) → IsPossible q s t end u' w' → IsPossible q values times end u' w'
  possible_to u' w' h = record {
    values = h.values ∙ sym same_values;
    times = h.times ∙ sym known_same;
    past = all_two (λ (e : Entry). left_at u' w' e ≡ left_at s (all_known t) e) (SameEntry s values t times) (λ (e : Entry). left_at u' w' e ≡ left_at values (all_known times) e)
        (λ e here there. here ∙ there) end.past h.past past_same_entries;
    links = h.links;
    when_links = h.when_links;
  }

  possible_from : (u' : Values) (w' : Whens) → IsPossible q values times end u' w' → IsPossible q s t end u' w'
  possible_from u' w' h = record {
    values = h.values ∙ same_values;
    times = h.times ∙ known_same;
    past = all_two (λ (e : Entry). left_at u' w' e ≡ left_at values (all_known times) e) (SameEntry s values t times) (λ (e : Entry). left_at u' w' e ≡ left_at s (all_known t) e)
        (λ e here there. here ∙ sym there) end.past h.past past_same_entries;
    links = h.links;
    when_links = h.when_links;
  }

  general_clean : (g : Shape) → IsGeneral q s t end g → IsGeneral q values times end g
  general_clean g is = record {
    values = is.values;
    whens = is.whens;
    possible = possible_to is.values is.whens is.possible;
    own = is.own;
    general = λ u' w' h. is.general u' w' (possible_from u' w' h);
  }

-- ---- steps

module _ (text : Text) (formed : IsTrue (is_formed text)) (level : List ℕ → ℕ) (trace : Trace) (q : Sequence) (of_text : IsOfText text q) (s : Values) (t : Times) (ground : AreAllGround s)
    (since now later : ℕ) (le : now ≤ later) (end : Place) (walk : Walk text level trace q.given_values s t now end (start text since q.items)) (g : Shape) (is : IsGeneral q s t end g)
    (next : Entry) (rest : List Entry) (left : end.left ≡ next ∷ rest) where
  here_formed : IsFormedPlace end
  here_formed = formed_along text formed walk (start_formed text formed since q.items (sequence_formed text formed q of_text))

  next_formed : IsFormedItem next.item
  next_formed = (subst (AllByRecursion (λ (e : Entry). IsFormedItem e.item)) left here_formed.left).0

  here_fresh : IsFresh text q s t ground end
  here_fresh = fresh_along text q s t ground level trace walk (fresh_start text q s t ground level trace since q.items)

  -- the entry is then what it was under the values and times that made it true, so are those passed before, and the walk goes on past it
  pub lift_pass_as : is_call text next.item ≡ false → (f : ℕ → Term) (c : ℕ → ℕ) → ((v : ℕ) → IsTrue (is_ground (f v))) → IsTrueItem text level trace later c (put_item f next.item) →
      IsSmallItem (put_item f next.item) → IsPlaced text c end.before next.joins next.item → (h : Shape) → PassesTo (left_of f (λ v. Known (c v)) next.nest next.item) g h →
      (walked : IsWalked text level trace q s t since later (λ times. passed times end next rest) h) × (left_at walked.values (all_known walked.times) next ≡ left_of f (λ v. Known (c v)) next.nest next.item)
      × AllByRecursion (SameEntry s walked.values t walked.times) end.past
      × Walk text level trace q.given_values walked.values walked.times later (passed walked.times end next rest) end
  lift_pass_as no_call f c f_ground is_true small placed h step =
      let u1 : Values = λ e. after step.v (is.values e) in
      let w1 : Whens = λ e. after_when step.x (is.whens e) in
      let possible = closed text q s t ground end is.values is.whens step.v step.x is.possible in
      let fronts : in_front (left_at u1 w1 next) (shape_of q (passed t end next rest) u1 w1) ≡ in_front (left_of f (λ v. Known (c v)) next.nest next.item) h =
      sym (shape_split text q s t ground trace end next rest left u1 w1) ∙ sym (shape_after text q s t ground end is.values is.whens step.v step.x) ∙ ap (put_shape step.v step.x) (sym is.own) ∙ step.own in
      let told = (front_same (u1 next.env) f (w1 next.env) (λ v. Known (c v)) next.nest next.item (shape_of q (passed t end next rest) u1 w1).rest h.rest (ap (λ z. z.rest) fronts)).0 in
      let vals : Values = values q s t ground end u1 w1 possible here_formed in
      let whens : Times = times q s t ground end u1 w1 possible here_formed in
      let own = told_clean q s t ground end u1 w1 possible here_formed f c f_ground next.env next.nest next.item next_formed told in
      let item = item_moved (λ e. f) vals (λ e. c) whens next.env next.nest next.item (sym own) in
      let grounds : AreAllGround vals = values_ground q s t ground end u1 w1 possible here_formed in
      let past_it : Walk text level trace q.given_values vals whens later (passed whens end next rest) end =
      pass next.env next.nest next.joins next.item rest left no_call
      (times_moved (λ e. f) vals (λ e. c) whens text level trace later next.env next.nest next.item (sym own) (subst (IsTrueItem text level trace later c) item is_true))
      (subst IsSmallItem item small) (placed_moved (λ e. f) vals (λ e. c) whens text next.env next.nest end.before next.joins next.item (sym own) placed) stop in (
        record {
          values = vals;
          times = whens;
          ground = grounds;
          same_values = same_values q s t ground end u1 w1 possible here_formed;
          same_times = same_times q s t ground end u1 w1 possible here_formed;
          walk = walk_then (passed whens end next rest)
              (wider text level trace q.given_values vals whens le (walk_clean q s t ground end u1 w1 possible here_formed text level trace now (start text since q.items) walk)) past_it;
          general = pass_general text q vals whens grounds trace end next rest left g h (general_clean q s t ground end u1 w1 possible here_formed g is)
              (subst (λ ls. PassesTo ls g h) (sym own) step);
        },
        own,
        past_same_entries q s t ground end u1 w1 possible here_formed,
        past_it,
      )

  pub lift_pass : is_call text next.item ≡ false → (f : ℕ → Term) (c : ℕ → ℕ) → ((v : ℕ) → IsTrue (is_ground (f v))) → IsTrueItem text level trace later c (put_item f next.item) →
      IsSmallItem (put_item f next.item) → IsPlaced text c end.before next.joins next.item → (h : Shape) → PassesTo (left_of f (λ v. Known (c v)) next.nest next.item) g h →
      IsWalked text level trace q s t since later (λ times. passed times end next rest) h
  lift_pass no_call f c f_ground is_true small placed h step = (lift_pass_as no_call f c f_ground is_true small placed h step).0

  first_small : (a : Atom) (from to : TimeVar) → next.item ≡ i.Span a from to → (first : Left) (behind : List Left) → g.rest ≡ first ∷ behind → IsLeftSmall first.item → IsSmallItem (put_item (is.values next.env) next.item)
  first_small a from to item first behind is_first small =
      let shown : LeftItem = l.Span (put_atom (is.values next.env) a) (is.whens next.env from.0) (is.whens next.env to.0) in
      let spelled : g.rest ≡ record { item = shown; nest = next.nest } ∷ flat_map (left_at is.values is.whens) rest =
      ap (λ h. h.rest) is.own ∙ ap (flat_map (left_at is.values is.whens)) left
      ∙ ap (λ it. left_of (is.values next.env) (is.whens next.env) next.nest it ++ flat_map (left_at is.values is.whens) rest) item in
      let same : first.item ≡ shown = ap (item_or first.item) (sym is_first ∙ spelled) in
      subst (λ (it : Item). IsSmallItem (put_item (is.values next.env) it)) (sym item) (subst IsLeftSmall same small)

  pub lift_unfold_as : (a : Atom) (from to : TimeVar) → next.item ≡ i.Span a from to → is_macro (kind_of text a.name) ≡ true → (number : ℕ) (clause : MacroClause) →
      numbered (clauses_of text a.name) number ≡ Some clause → (first : Left) (behind : List Left) → g.rest ≡ first ∷ behind → IsLeftSmall first.item → (h : Shape) → UnfoldsTo text clause g h →
      (walked : IsWalked text level trace q s t since later (λ times. replaced text end (link_at end next a from.0 to.0 number clause) rest) h)
      × AllByRecursion (SameEntry s walked.values t walked.times) end.past
      × Walk text level trace q.given_values walked.values walked.times later (replaced text end (link_at end next a from.0 to.0 number clause) rest) end
  lift_unfold_as a from to item macro number clause named first behind is_first small h step =
      let u1 : Values = λ e. after step.v (is.values e) in
      let w1 : Whens = λ e. after_when step.x (is.whens e) in
      let own : Unfolds text clause step.u step.w (shape_of q end u1 w1) h =
      subst (λ k. Unfolds text clause step.u step.w k h) (ap (put_shape step.v step.x) is.own ∙ shape_after text q s t ground end is.values is.whens step.v step.x) step.own in
      let r = reached text q s t ground trace end next rest left a from to item number clause here_fresh u1 w1 step.u step.w h (closed text q s t ground end is.values is.whens step.v step.x is.possible) own in
      let nu : Values = u2 text q s t ground trace end next rest left a from to item number clause here_fresh u1 w1 step.u step.w in
      let nw : Whens = w2 text q s t ground trace end next rest left a from to item number clause here_fresh u1 w1 step.u step.w in
      let possible : IsPossible q s t end nu nw = record { values = r.0.values; times = r.0.times; past = r.0.past; links = r.0.links.1; when_links = r.0.when_links.1 } in
      let vals : Values = values q s t ground end nu nw possible here_formed in
      let whens : Times = times q s t ground end nu nw possible here_formed in
      let grounds : AreAllGround vals = values_ground q s t ground end nu nw possible here_formed in
      let link : Link = link_at end next a from.0 to.0 number clause in
      let link_formed : IsFormedAtom a × IsFormedAtom clause.head = (span_formed a from to (subst IsFormedItem item next_formed), (clause_of text formed a.name number clause named).0) in
      let fresh : IsFresh text q vals whens grounds end = record { first = here_fresh.first; left = here_fresh.left; past = here_fresh.past; links = here_fresh.links } in
      let into_it : Walk text level trace q.given_values vals whens later (replaced text end link rest) end =
      replace next rest a from to number clause left item macro named (link_clean q s t ground end nu nw possible here_formed link link_formed r.0.links.0)
      (when_clean q s t ground end nu nw possible here_formed link r.0.when_links.0)
      (record {
        other = is.values;
        alike = record {
          start = same_values q s t ground end nu nw possible here_formed ∙ sym is.possible.values;
          past = all_two (SameEntry s vals t whens) (λ (e : Entry). left_at is.values is.whens e ≡ left_at s (all_known t) e)
              (λ (e : Entry). put_item (vals e.env) e.item ≡ put_item (is.values e.env) e.item)
              (λ e here there. sym (item_moved s vals t whens e.env e.nest e.item here) ∙ sym (item_same (is.values e.env) (s e.env) (is.whens e.env) (all_known t e.env) e.nest e.item there))
              end.past (past_same_entries q s t ground end nu nw possible here_formed) is.possible.past;
          links = is.possible.links;
        };
        small = first_small a from to item first behind is_first small;
      }) stop in (
        record {
          values = vals;
          times = whens;
          ground = grounds;
          same_values = same_values q s t ground end nu nw possible here_formed;
          same_times = same_times q s t ground end nu nw possible here_formed;
          walk = walk_then (replaced text end link rest)
              (wider text level trace q.given_values vals whens le (walk_clean q s t ground end nu nw possible here_formed text level trace now (start text since q.items) walk)) into_it;
          general = unfold_general text q vals whens grounds trace end next rest left a from to item number clause fresh g h (general_clean q s t ground end nu nw possible here_formed g is) step;
        },
        past_same_entries q s t ground end nu nw possible here_formed,
        into_it,
      )

  pub lift_unfold : (a : Atom) (from to : TimeVar) → next.item ≡ i.Span a from to → is_macro (kind_of text a.name) ≡ true → (number : ℕ) (clause : MacroClause) →
      numbered (clauses_of text a.name) number ≡ Some clause → (first : Left) (behind : List Left) → g.rest ≡ first ∷ behind → IsLeftSmall first.item → (h : Shape) → UnfoldsTo text clause g h →
      IsWalked text level trace q s t since later (λ times. replaced text end (link_at end next a from.0 to.0 number clause) rest) h
  lift_unfold a from to item macro number clause named first behind is_first small h step = (lift_unfold_as a from to item macro number clause named first behind is_first small h step).0
