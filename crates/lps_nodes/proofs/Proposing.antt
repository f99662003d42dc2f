-- A node proposes the groups that are the next steps of live plans that leave it.
use Rattle.std.proofs.Common.{ℕ, Bool, true, false, ◌≡◌, ◌≤◌, List, [], ◌∷◌, ◌++◌, ◌∙◌, map, refl, sym, ap, subst, arith}
use Rattle.std.specs.Prelude.{◌↔◌, Contains, IsTrue, None, Option, Some, if◌then◌else◌}
use Rattle.std.specs.List.{AllByRecursion, flat_map, list_all}
use Rattle.lps_terms.specs.declared.atom.Atom.{Atom}
use Rattle.lps_terms.specs.declared.item.Item.{Item}
use Rattle.lps_terms.specs.declared.item.Item.TheVariants as i
use Rattle.lps_terms.specs.declared.term.Term.{Term}
use Rattle.lps_terms.specs.declared.text.Text.{Text}
use Rattle.lps_terms.specs.declared.time_var.TimeVar.{TimeVar}
use Rattle.lps_terms.specs.Put.{after, put, put_atom}
use Rattle.lps_model.specs.declared.trace.Trace.{Trace}
use Rattle.lps_model.specs.Order.{is_action}
use Rattle.lps_model.specs.Rules.{kind_of}
use Rattle.lps_derivation.specs.Ground.{is_ground}
use Rattle.lps_meaning.specs.declared.node.Left.{Left}
use Rattle.lps_meaning.specs.declared.node.LeftItem.{LeftItem}
use Rattle.lps_meaning.specs.declared.node.LeftItem.TheVariants as l
use Rattle.lps_meaning.specs.declared.node.Node.{Node}
use Rattle.lps_meaning.specs.declared.when.When.{When}
use Rattle.lps_meaning.specs.declared.when.When.TheVariants.{Known}
use Rattle.lps_meaning.specs.Cycles.{IsNextGroup, joined, joined_item}
use Rattle.lps_meaning.specs.Sequences.{Entry, Place, Times, Values}
use Rattle.lps_meaning.proofs.Lists.{both, of_filter}
use Rattle.lps_nodes.specs.Conditions.{IsLeftLimit, ShowGroups, ShowsGroup, are_together, last_or}
use Rattle.lps_nodes.specs.LedLaws.{IsNextGround}
use Rattle.lps_nodes.specs.NextSteps.{IsBegun, IsProposed, MayBegin, atoms_behind}
use Rattle.lps_nodes.specs.Plans.{Entrance, IsLeft, IsLivePlan, IsNode, Proposes}
use Rattle.lps_nodes.specs.Shapes.{IsGeneral, Shape, Whens, all_known, left_at, left_of, untested}
use Rattle.lps_nodes.proofs.ComingThrough.{entry_or}
use Rattle.lps_nodes.proofs.ConditionLaws.{AreMarked, false_true, marked, marked_none, some_entry}
use Rattle.lps_derivation.proofs.Puts.{ground_stays}
use Rattle.lps_nodes.proofs.LiftingAlone.{head_left, is_con, single, span_of}
use Rattle.lps_nodes.proofs.LedBack.{step_no_con}
use Rattle.lps_nodes.proofs.Moves.{atom_in, item_in}
use Rattle.lps_nodes.proofs.NodeLaws.{each_own, instance_own, may_begin_there, show_groups, x}
use Rattle.lps_nodes.proofs.ShapeLaws.{after_when, left_after}
use Rattle.lps_nodes.proofs.ShownGroups.{grouped_spans}
use Rattle.lps_nodes.proofs.TestedLimits.{is_open}
use Rattle.lps_nodes.proofs.WaitingNodes.{later_times, left_later, live_later}

-- ---- ground atoms

args_stay : (v : ℕ → Term) (ts : List Term) → list_all is_ground ts ≡ true → map (put v) ts ≡ ts
args_stay v [] h = refl
args_stay v (term ∷ ts) h = let parts = both (is_ground term) (list_all is_ground ts) h in λ j. ground_stays v term parts.0 j ∷ args_stay v ts parts.1 j

atoms_stay : (v : ℕ → Term) (atoms : List Atom) → AllByRecursion (λ (a : Atom). IsTrue (list_all is_ground a.args)) atoms → map (put_atom v) atoms ≡ atoms
atoms_stay v [] h = refl
atoms_stay v (a ∷ atoms) h = λ j. record { name = a.name; args = args_stay v a.args h.0 j } ∷ atoms_stay v atoms h.1 j

-- ---- entries that go on with a group

pub con_nothing : (u : ℕ → Term) (w : ℕ → When) (nest : ℕ) (item : Item) → is_con item ≡ true → left_of u w nest item ≡ []
con_nothing u w nest (i.Con con) h = refl
con_nothing u w nest (i.At lit time) h = absurd (false_true h)
con_nothing u w nest (i.Bare lit) h = absurd (false_true h)
con_nothing u w nest (i.Built built) h = absurd (false_true h)
con_nothing u w nest (i.Span a from to) h = absurd (false_true h)

abbrev is_span : Item → Bool
is_span (i.Span a from to) = true
is_span _ = false

if_none : (b : Bool) (atoms : List Atom) → b ≡ false → (if b then atoms else []) ≡ []
if_none b atoms e = ap (λ c. if c then atoms else []) e

is_false : (b : Bool) → (b ≡ true → ⊥) → b ≡ false
is_false true h = absurd (h refl)
is_false false h = refl

-- what a constraint stands before goes on with no group
after_con : (text : Text) (p e : Entry) → is_con p.item ≡ true → AreMarked text (Some p) (e ∷ []) → e.joins ≡ false
after_con text p e con marks = is_false e.joins not_joined
  where
    not_joined : e.joins ≡ true → ⊥
    not_joined joins =
        let m = marks.0 joins in
        let spans = grouped_spans text m.0.item e.item m.3 in
        false_true (sym (ap is_con spans.6) ∙ sym (ap (λ (q : Entry). is_con q.item) (some_entry m.1)) ∙ con)

module _ (text : Text) (u s : Values) (w : Whens) (t : Times) (v : ℕ → Term) (x : ℕ → When) where
  none_step : (env nest : ℕ) (joins : Bool) (item : Item) (last : LeftItem) (rest : List Left) → joins ≡ false → ShowsGroup text joins (Some last) (left_of (u env) (w env) nest item) →
      (is_con item ≡ true → atoms_behind text last rest ≡ []) → atoms_behind text last (left_of (u env) (w env) nest item ++ rest) ≡ []
  none_step env nest joins (i.Con con) last rest plain shows none = none refl
  none_step env nest joins (i.At lit time) last rest plain shows none = if_none _ _ (sym shows ∙ plain)
  none_step env nest joins (i.Bare lit) last rest plain shows none = if_none _ _ (sym shows ∙ plain)
  none_step env nest joins (i.Built built) last rest plain shows none = if_none _ _ (sym shows ∙ plain)
  none_step env nest joins (i.Span a from to) last rest plain shows none = if_none _ _ (sym shows ∙ plain)

  -- nothing behind a constraint goes on with a group
  pub none_behind : (p : Entry) → is_con p.item ≡ true → (last : LeftItem) (es : List Entry) → AreMarked text (Some p) es → ShowGroups text u w (Some last) es →
      atoms_behind text last (flat_map (left_at u w) es) ≡ []
  none_behind p con last [] marks shows = refl
  none_behind p con last (e ∷ es) marks shows =
      none_step e.env e.nest e.joins e.item last (flat_map (left_at u w) es) (after_con text p e con (marks.0, tt)) shows.0
      (λ here. none_behind e here last es marks.1 (subst (λ ls. ShowGroups text u w (last_or (Some last) ls) es) (con_nothing (u e.env) (w e.env) e.nest e.item here) shows.1))

  abbrev IsOwn : Entry → Type 0
  IsOwn e = left_at (λ env. after v (u env)) (λ env. after_when x (w env)) e ≡ left_at s (all_known t) e

  plain_joined : (env : ℕ) (joins : Bool) (item : Item) (more : List Atom) → (joins ≡ true → (a : Atom) (from to : TimeVar) → item ≡ i.Span a from to → ⊥) → [] ≡ joined_item s env joins item more
  plain_joined env true (i.Span a from to) more h = absurd (h refl a from to refl)
  plain_joined env true (i.At lit time) more h = refl
  plain_joined env true (i.Bare lit) more h = refl
  plain_joined env true (i.Built built) more h = refl
  plain_joined env true (i.Con con) more h = refl
  plain_joined env false item more h = refl

  atom_own : (env nest : ℕ) (a : Atom) (from to : TimeVar) → left_of (after v (u env)) (after_when x (w env)) nest (i.Span a from to) ≡ left_of (s env) (all_known t env) nest (i.Span a from to) →
      put_atom v (put_atom (u env) a) ≡ put_atom (s env) a
  atom_own env nest a from to own =
      ap (λ ls. atom_in a (item_in (l.Span a (Known 0) (Known 0)) ls)) (left_after v (u env) x (w env) nest (i.Span a from to) ∙ own)

  joined_step : (env nest : ℕ) (joins : Bool) (item : Item) (a0 : Atom) (f0 t0 : When) (rest : List Left) (more : List Atom) → ShowsGroup text joins (Some (l.Span a0 f0 t0)) (left_of (u env) (w env) nest item) →
      left_of (after v (u env)) (after_when x (w env)) nest item ≡ left_of (s env) (all_known t env) nest item → (is_con item ≡ true → atoms_behind text (l.Span a0 f0 t0) rest ≡ []) →
      ((a : Atom) (from to : TimeVar) → item ≡ i.Span a from to → map (put_atom v) (atoms_behind text (l.Span (put_atom (u env) a) (w env from.0) (w env to.0)) rest) ≡ more) →
      map (put_atom v) (atoms_behind text (l.Span a0 f0 t0) (left_of (u env) (w env) nest item ++ rest)) ≡ joined_item s env joins item more
  joined_step env nest joins (i.Con con) a0 f0 t0 rest more shows own none span =
      ap (map (put_atom v)) (none refl) ∙ plain_joined env joins (i.Con con) more (λ j a from to is. false_true (ap is_span is))
  joined_step env nest joins (i.At lit time) a0 f0 t0 rest more shows own none span = plain_joined env joins (i.At lit time) more (λ j a from to is. false_true (ap is_span is))
  joined_step env nest joins (i.Bare lit) a0 f0 t0 rest more shows own none span = plain_joined env joins (i.Bare lit) more (λ j a from to is. false_true (ap is_span is))
  joined_step env nest joins (i.Built built) a0 f0 t0 rest more shows own none span = plain_joined env joins (i.Built built) more (λ j a from to is. false_true (ap is_span is))
  joined_step env nest joins (i.Span a from to) a0 f0 t0 rest more shows own none span = by joins shows
    where
      by : (b : Bool) → b ≡ are_together text (l.Span a0 f0 t0) (l.Span (put_atom (u env) a) (w env from.0) (w env to.0)) →
          map (put_atom v) (atoms_behind text (l.Span a0 f0 t0) (left_of (u env) (w env) nest (i.Span a from to) ++ rest)) ≡ joined_item s env b (i.Span a from to) more
      by true e =
          ap (λ b. map (put_atom v) (if b then put_atom (u env) a ∷ atoms_behind text (l.Span (put_atom (u env) a) (w env from.0) (w env to.0)) rest else [])) (sym e)
          ∙ (λ j. atom_own env nest a from to own j ∷ span a from to refl j)
      by false e = ap (λ b. map (put_atom v) (if b then put_atom (u env) a ∷ atoms_behind text (l.Span (put_atom (u env) a) (w env from.0) (w env to.0)) rest else [])) (sym e)

  behind_joined : (p : Entry) (a0 : Atom) (f0 t0 : When) (es : List Entry) → AreMarked text (Some p) es → ShowGroups text u w (Some (l.Span a0 f0 t0)) es → AllByRecursion IsOwn es →
      map (put_atom v) (atoms_behind text (l.Span a0 f0 t0) (flat_map (left_at u w) es)) ≡ joined s es
  behind_joined p a0 f0 t0 [] marks shows own = refl
  behind_joined p a0 f0 t0 (e ∷ es) marks shows own =
      joined_step e.env e.nest e.joins e.item a0 f0 t0 (flat_map (left_at u w) es) (joined s es) shows.0 own.0
      (λ here. none_behind e here (l.Span a0 f0 t0) es marks.1
      (subst (λ ls. ShowGroups text u w (last_or (Some (l.Span a0 f0 t0)) ls) es) (con_nothing (u e.env) (w e.env) e.nest e.item here) shows.1))
      (λ a from to is. behind_joined e (put_atom (u e.env) a) (w e.env from.0) (w e.env to.0) es marks.1
      (subst (λ (it : Item). ShowGroups text u w (last_or (Some (l.Span a0 f0 t0)) (left_of (u e.env) (w e.env) e.nest it)) es) is shows.1) own.1)

-- ---- live plans that leave the node

abbrev pub tail_left : List Left → List Left
tail_left [] = []
tail_left (left ∷ rest) = rest

abbrev tail_entries : List Entry → List Entry
tail_entries [] = []
tail_entries (e ∷ es) = es

module _ (text : Text) (level : List ℕ → ℕ) (trace : Trace) (depth : ℕ) (e : Entrance) (now : ℕ) (low : e.since ≤ now) (node : Node) where
  module _ (s : Values) (t : Times) (place : Place) (live : IsLivePlan text level trace depth e now s t place) (left : IsLeft text level trace depth e s t place node) where
    abbrev pub is : IsGeneral e.sequence s t place left.residual.whole
    is = left.residual.general

    abbrev pub u : Values
    u = is.values

    abbrev pub w : Whens
    w = is.whens

    abbrev pub next : Entry
    next = live.on.next

    abbrev pub behind : List Left
    behind = flat_map (left_at u w) live.on.rest

    rest_is : node.rest ≡ left_at u w next ++ behind
    rest_is = ap (λ (z : Shape). z.rest) left.residual.tested ∙ ap (λ (z : Shape). z.rest) is.own ∙ ap (flat_map (left_at u w)) live.on.is_next

    -- where the first item left is an event or action, so is the next entry
    pub next_span : (first : Left) (others : List Left) → node.rest ≡ first ∷ others → (a : Atom) (from to : When) → first.item ≡ l.Span a from to →
        (b : Atom) × (begin : TimeVar) × (finish : TimeVar) × (next.item ≡ i.Span b begin finish) × (a.name ≡ b.name)
    next_span first others is_first a from to item =
        let one = single (u next.env) (w next.env) next.nest next.item (step_no_con next.item live.on.step) in
        let same : one.0 ≡ first = ap (head_left one.0) (sym (ap (λ ls. ls ++ behind) one.1) ∙ sym rest_is ∙ is_first) in
        span_of (u next.env) (w next.env) next.nest next.item first (one.1 ∙ (λ j. same j ∷ [])) a from to item

    module _ (b : Atom) (begin finish : TimeVar) (item : next.item ≡ i.Span b begin finish) where
      abbrev pub here : Left
      here = record { item = l.Span (put_atom (u next.env) b) (w next.env begin.0) (w next.env finish.0); nest = next.nest }

      pub shown : node.rest ≡ here ∷ behind
      shown = rest_is ∙ ap (λ (it : Item). left_of (u next.env) (w next.env) next.nest it ++ behind) item

      abbrev v : ℕ → Term
      v = (instance_own text level trace e.sequence s t live.reached.ground e.since now low place live.reached.walk left.residual.whole is).0

      abbrev z : ℕ → When
      z = x text level trace e.sequence s t live.reached.ground e.since now low place live.reached.walk left.residual.whole is

      own : IsOwn text u s w t v z next × AllByRecursion (IsOwn text u s w t v z) live.on.rest
      own = subst (AllByRecursion (IsOwn text u s w t v z)) live.on.is_next
          (each_own text level trace e.sequence s t live.reached.ground e.since now low place live.reached.walk left.residual.whole is)

      marks : (p : Option Entry) × AreMarked text p (next ∷ live.on.rest)
      marks =
          let m = marked text level trace e.sequence.given_values s t live.reached.walk None (marked_none text 0 0 e.sequence.items None) in
          (m.0, subst (AreMarked text m.0) live.on.is_next m.1)

      pub groups : ShowGroups text u w (Some here.item) live.on.rest
      groups =
          subst (λ (it : Item). ShowGroups text u w (last_or None (left_of (u next.env) (w next.env) next.nest it)) live.on.rest) item
          (subst (ShowGroups text u w None) live.on.is_next (show_groups text level trace e.sequence s t live.reached.ground e.since now low place live.reached.walk left.residual.whole is live.on)).1

      own_first : put_atom v (put_atom (u next.env) b) ≡ put_atom (s next.env) b
      own_first = atom_own text u s w t v z next.env next.nest b begin finish
          (subst (λ (it : Item). left_of (after v (u next.env)) (after_when z (w next.env)) next.nest it ≡ left_of (s next.env) (all_known t next.env) next.nest it) item own.0)

      -- the atoms of the node's next step are those of the plan's
      same_atoms : IsNextGround text node → is_action (kind_of text b.name) ≡ true → put_atom (s next.env) b ∷ joined s live.on.rest ≡ put_atom (u next.env) b ∷ atoms_behind text here.item behind
      same_atoms ground_next action =
          sym ((λ j. own_first j
          ∷ behind_joined text u s w t v z next (put_atom (u next.env) b) (w next.env begin.0) (w next.env finish.0) live.on.rest marks.1.1 groups own.1 j))
          ∙ atoms_stay v (put_atom (u next.env) b ∷ atoms_behind text here.item behind) (ground_next here behind shown (put_atom (u next.env) b) (w next.env begin.0) (w next.env finish.0) refl action)

  -- what may begin at the whole may begin at the node
  may_untested : (g : Shape) → MayBegin text now g → MayBegin text now (untested g)
  may_untested g m = record {
    can = record {
      times = m.can.times;
      first = m.can.first;
      behind = m.can.behind;
      is_first = m.can.is_first;
      ahead = m.can.ahead;
      in_order = m.can.in_order;
      limits = of_filter (IsLeftLimit m.can.times) is_open g.limits m.can.limits;
      small = m.can.small;
    };
    begun = m.begun;
  }

  pub plans_propose : IsNextGround text node → (group : List Atom) → Proposes text level trace depth e now node group → IsProposed text now node group
  plans_propose ground_next group p =
      let g = p.next in
      let s : Values = p.values in
      let is = p.left.residual.general in
      let next : Entry = p.live.on.next in
      let at = here s p.times p.place p.live p.left g.atom g.from g.to g.item in
      record {
        first = at;
        behind = behind s p.times p.place p.live p.left;
        is_first = shown s p.times p.place p.live p.left g.atom g.from g.to g.item;
        atom = put_atom (is.values next.env) g.atom;
        from = is.whens next.env g.from.0;
        to = is.whens next.env g.to.0;
        item = refl;
        action = g.action;
        may_begin = subst (MayBegin text now) (sym p.left.residual.tested) (may_untested p.left.residual.whole
            (may_begin_there text level trace e.sequence s p.times p.live.reached.ground e.since now low p.place p.live.reached.walk p.left.residual.whole is p.live.on g.atom g.from g.to g.item g.begins));
        sorted = g.sorted;
        exact = subst (λ (atoms : List Atom). (a : Atom) → Contains group a ↔ Contains atoms a) (same_atoms s p.times p.place p.live p.left g.atom g.from g.to g.item ground_next g.action) g.exact;
      }

  pub node_proposes : IsNextGround text node → (n : IsNode text level trace depth e now node) (group : List Atom) → IsProposed text now node group → Proposes text level trace depth e now node group
  node_proposes ground_next n group p =
      let can = p.may_begin.can in
      let le : now ≤ now = omega arith in
      let live = live_later text level trace depth e now now low le node n can in
      let times : Times = later_times text level trace depth e now now low le node n can in
      let next : Entry = n.live.on.next in
      let span = next_span n.values n.times n.place n.live n.left p.first p.behind p.is_first p.atom p.from p.to p.item in
      let action : is_action (kind_of text span.0.name) ≡ true = subst (λ name. is_action (kind_of text name) ≡ true) span.4 p.action in
      let spelled = shown n.values n.times n.place n.live n.left span.0 span.1 span.2 span.3 in
      let at = here n.values n.times n.place n.live n.left span.0 span.1 span.2 span.3 in
      let first : can.first ≡ at = ap (head_left can.first) (sym can.is_first ∙ spelled) in
      let first_p : p.first ≡ at = ap (head_left p.first) (sym p.is_first ∙ spelled) in
      let rest_p : p.behind ≡ behind n.values n.times n.place n.live n.left = ap tail_left (sym p.is_first ∙ spelled) in
      let atom : p.atom ≡ put_atom (n.left.residual.general.values next.env) span.0 = ap (λ it. atom_in p.atom it) (sym p.item ∙ ap (λ (z : Left). z.item) first_p) in
      let same_list : p.atom ∷ atoms_behind text p.first.item p.behind ≡ put_atom (n.values next.env) span.0 ∷ joined n.values n.live.on.rest =
      (λ j. atom j ∷ atoms_behind text (first_p j).item (rest_p j)) ∙ sym (same_atoms n.values n.times n.place n.live n.left span.0 span.1 span.2 span.3 ground_next action) in
      let begins : times next.env span.1.0 ≡ now = subst (λ (z : Left). IsBegun now can.times z.item) first p.may_begin.begun in
      let group_of : IsNextGroup text n.values times now next n.live.on.rest group = record {
        atom = span.0;
        from = span.1;
        to = span.2;
        item = span.3;
        action = action;
        begins = begins;
        sorted = p.sorted;
        exact = subst (λ (atoms : List Atom). (a : Atom) → Contains group a ↔ Contains atoms a) same_list p.exact;
      } in
      let same_left = sym n.live.on.is_next ∙ live.on.is_next in
      record {
        values = n.values;
        times = times;
        place = n.place;
        live = live;
        left = left_later text level trace depth e now now low le node n can;
        next = subst (λ (es : List Entry). IsNextGroup text n.values times now (entry_or next es) (tail_entries es) group) same_left group_of;
      }
