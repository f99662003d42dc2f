-- In an accepted text the actions that are next in an alternative are ground.
use Rattle.std.proofs.Common.{ℕ, Bool, true, false, ◌≡◌, ◌≤◌, List, [], ◌∷◌, ◌++◌, ◌∙◌, map, refl, sym, ap, subst, inr}
use Rattle.std.specs.Prelude.{Contains, IsTrue, None, Option, Some, if◌then◌else◌}
use Rattle.std.specs.List.{AllByRecursion, flat_map, list_all}
use Rattle.lps_terms.specs.declared.atom.Atom.{Atom}
use Rattle.lps_terms.specs.declared.item.Item.{Item}
use Rattle.lps_terms.specs.declared.item.Item.TheVariants as i
use Rattle.lps_terms.specs.declared.text.Text.{Text}
use Rattle.lps_terms.specs.declared.time_var.TimeVar.{TimeVar}
use Rattle.lps_terms.specs.Put.{put_atom}
use Rattle.lps_model.specs.declared.trace.Trace.{Trace}
use Rattle.lps_model.specs.Acceptance.{IsAccepted}
use Rattle.lps_model.specs.Declarations.{decl_among}
use Rattle.lps_model.specs.Formed.{is_formed}
use Rattle.lps_model.specs.Order.{is_action}
use Rattle.lps_model.specs.Program.{declarations}
use Rattle.lps_model.specs.Rules.{Rule, kind_of, rules}
use Rattle.lps_derivation.specs.Ground.{is_ground}
use Rattle.lps_meaning.specs.declared.node.Left.{Left}
use Rattle.lps_meaning.specs.declared.node.LeftItem.TheVariants as l
use Rattle.lps_meaning.specs.declared.node.Node.{Node}
use Rattle.lps_meaning.specs.declared.when.When.{When}
use Rattle.lps_meaning.specs.declared.when.When.TheVariants.{Known}
use Rattle.lps_meaning.specs.Goals.{shared_values}
use Rattle.lps_meaning.specs.Items.{put_item}
use Rattle.lps_meaning.specs.Sequences.{Entry, Place, Times, Values, Walk, entries, start}
use Rattle.lps_meaning.proofs.Formed.{IsFormedItem}
use Rattle.lps_meaning.proofs.Occurrences.{all_to, same_atom}
use Rattle.lps_nodes.specs.Conditions.{ShowGroups, ShowsGroup, are_together, last_or}
use Rattle.lps_nodes.specs.Laws.{IsOfText}
use Rattle.lps_nodes.specs.LedLaws.{IsNextGround}
use Rattle.lps_nodes.specs.NextSteps.{atoms_behind}
use Rattle.lps_nodes.specs.Plans.{Entrance, IsNode}
use Rattle.lps_nodes.specs.Shapes.{IsGeneral, Sequence, Whens, all_known, alternative_of, left_at, left_of}
use Rattle.lps_nodes.proofs.ConditionLaws.{AreMarked, marked_none}
use Rattle.lps_nodes.proofs.LeadingOn.{AreTold, told_item}
use Rattle.lps_nodes.proofs.Lifting.{formed_along, sequence_formed, start_formed}
use Rattle.lps_nodes.proofs.LiftingAlone.{head_left, is_con}
use Rattle.lps_nodes.proofs.Moves.{atom_in}
use Rattle.lps_nodes.proofs.NodeLaws.{item_same}
use Rattle.lps_nodes.proofs.Planned.{NeedsMet, Told, ToldEntry, action_needs, needs, needs_along, start_met}
use Rattle.lps_nodes.proofs.Proposing.{con_nothing, groups, here, next_span, none_behind, shown, tail_left}
use Rattle.lps_nodes.proofs.Unmixed.{ActionsFollow, AreUnmixed, acts, alternative_unmixed, follow_along, follow_none}

abbrev IsGroundAtom : Atom → Type 0
IsGroundAtom a = IsTrue (list_all is_ground a.args)

module _ (text : Text) (accepted : IsAccepted text) (formed : IsTrue (is_formed text)) (level : List ℕ → ℕ) (trace : Trace) (depth : ℕ) (e : Entrance) (rule : Rule) (of_rules : Contains (rules text) rule)
    (items : List Item) (of_rule : Contains rule.alternatives items) (alternative : e.sequence ≡ alternative_of rule items) (now : ℕ) (low : e.since ≤ now) (node : Node)
    (n : IsNode text level trace depth e now node) where
  abbrev q : Sequence
  q = e.sequence

  abbrev s : Values
  s = n.values

  abbrev t : Times
  t = n.times

  abbrev place : Place
  place = n.place

  abbrev walk : Walk text level trace q.given_values s t now place (start text e.since q.items)
  walk = n.live.reached.walk

  abbrev is : IsGeneral q s t place n.left.residual.whole
  is = n.left.residual.general

  abbrev u : Values
  u = is.values

  abbrev w : Whens
  w = is.whens

  of_text : IsOfText text q
  of_text = (rule, of_rules, inr (items, of_rule, alternative))

  same_items : items ≡ q.items
  same_items = sym (ap (λ (z : Sequence). z.items) alternative)

  given : map (s 0) (shared_values rule) ≡ map (u 0) (shared_values rule)
  given = sym (subst (λ (z : Sequence). map (u 0) z.given_values ≡ map (s 0) z.given_values) alternative is.possible.values)

  past : AllByRecursion (ToldEntry text s u) place.past
  past = all_to (λ (o : Entry). left_at u w o ≡ left_at s (all_known t) o) (ToldEntry text s u) (λ o h. sym (item_same (u o.env) (s o.env) (w o.env) (all_known t o.env) o.nest o.item h)) place.past is.possible.past

  met : NeedsMet text s u place.left
  met =
      needs_along text accepted level trace q.given_values s u t walk past is.possible.links
      (subst (λ its. NeedsMet text s u (entries text 0 0 None its)) same_items (start_met text accepted rule of_rules items of_rule s u given))

  followed : (p : Option Entry) × AreMarked text p place.left × ActionsFollow text accepted p place.left
  followed =
      follow_along text accepted walk None (marked_none text 0 0 q.items None)
      (follow_none text accepted 0 0 q.items None (subst (AreUnmixed text) same_items (alternative_unmixed text accepted rule of_rules items of_rule)))

  abbrev AreFormed : List Entry → Type 0
  AreFormed = AllByRecursion (λ (o : Entry). IsFormedItem o.item)

  formed_left : AreFormed place.left
  formed_left = (formed_along text formed walk (start_formed text formed e.since q.items (sequence_formed text formed q of_text))).left

  -- an action all of whose variables are known is ground, and told
  entry_ground : (o : Entry) → IsFormedItem o.item → (a : Atom) (from to : TimeVar) → o.item ≡ i.Span a from to → acts text o.item ≡ true → AllByRecursion (Told text s u o.env) (needs text s u o.item) →
      IsGroundAtom (put_atom (u o.env) a) × ToldEntry text s u o
  entry_ground o formed_item a from to item act told =
      let action : is_action (kind_of text a.name) ≡ true = subst (λ (it : Item). acts text it ≡ true) item act in
      let all = action_needs (Told text s u o.env) (decl_among (declarations text) a.name) a.args action (subst (λ (it : Item). AllByRecursion (Told text s u o.env) (needs text s u it)) item told) in
      let same : put_atom (s o.env) a ≡ put_atom (u o.env) a = same_atom (s o.env) (u o.env) a all in
      let ground = told_item text formed level trace depth q of_text s t n.live.reached.ground e.since now low o.env o.nest o.item formed_item in (
        subst IsGroundAtom same (subst (λ (it : Item). AreTold (left_of (s o.env) (all_known t o.env) o.nest it)) item ground).0,
        subst (λ (it : Item). put_item (s o.env) it ≡ put_item (u o.env) it) (sym item) (λ j. i.Span (same j) from to),
      )

  ground_step : (env nest : ℕ) (joins : Bool) (item : Item) (a0 : Atom) (f0 t0 : When) (rest : List Left) → ShowsGroup text joins (Some (l.Span a0 f0 t0)) (left_of (u env) (w env) nest item) →
      (is_con item ≡ true → atoms_behind text (l.Span a0 f0 t0) rest ≡ []) →
      ((a : Atom) (from to : TimeVar) → item ≡ i.Span a from to → joins ≡ true →
      IsGroundAtom (put_atom (u env) a) × AllByRecursion IsGroundAtom (atoms_behind text (l.Span (put_atom (u env) a) (w env from.0) (w env to.0)) rest)) →
      AllByRecursion IsGroundAtom (atoms_behind text (l.Span a0 f0 t0) (left_of (u env) (w env) nest item ++ rest))
  ground_step env nest joins (i.Con con) a0 f0 t0 rest shows none span = subst (AllByRecursion IsGroundAtom) (sym (none refl)) tt
  ground_step env nest joins (i.At lit time) a0 f0 t0 rest shows none span = tt
  ground_step env nest joins (i.Bare lit) a0 f0 t0 rest shows none span = tt
  ground_step env nest joins (i.Built built) a0 f0 t0 rest shows none span = tt
  ground_step env nest joins (i.Span a from to) a0 f0 t0 rest shows none span = by joins shows (span a from to refl)
    where
      by : (b : Bool) → b ≡ are_together text (l.Span a0 f0 t0) (l.Span (put_atom (u env) a) (w env from.0) (w env to.0)) →
          (b ≡ true → IsGroundAtom (put_atom (u env) a) × AllByRecursion IsGroundAtom (atoms_behind text (l.Span (put_atom (u env) a) (w env from.0) (w env to.0)) rest)) →
          AllByRecursion IsGroundAtom (atoms_behind text (l.Span a0 f0 t0) (left_of (u env) (w env) nest (i.Span a from to) ++ rest))
      by true same h =
          subst (λ c. AllByRecursion IsGroundAtom (if c then put_atom (u env) a ∷ atoms_behind text (l.Span (put_atom (u env) a) (w env from.0) (w env to.0)) rest else [])) same (h refl)
      by false same h =
          subst (λ c. AllByRecursion IsGroundAtom (if c then put_atom (u env) a ∷ atoms_behind text (l.Span (put_atom (u env) a) (w env from.0) (w env to.0)) rest else [])) same tt

  -- so are those that go on with its group
  group_ground : (p : Entry) → acts text p.item ≡ true → (a0 : Atom) (f0 t0 : When) (es : List Entry) → AreMarked text (Some p) es → ActionsFollow text accepted (Some p) es →
      ShowGroups text u w (Some (l.Span a0 f0 t0)) es → NeedsMet text s u es → AreFormed es → AllByRecursion IsGroundAtom (atoms_behind text (l.Span a0 f0 t0) (flat_map (left_at u w) es))
  group_ground p act a0 f0 t0 [] marks follow shows needed formed_es = tt
  group_ground p act a0 f0 t0 (o ∷ es) marks follow shows needed formed_es =
      ground_step o.env o.nest o.joins o.item a0 f0 t0 (flat_map (left_at u w) es) shows.0
      (λ con. none_behind text u s w t (s 0) (λ k. Known 0) o con (l.Span a0 f0 t0) es marks.1
      (subst (λ ls. ShowGroups text u w (last_or (Some (l.Span a0 f0 t0)) ls) es) (con_nothing (u o.env) (w o.env) o.nest o.item con) shows.1))
      (λ a from to item joined.
      let acts_too = follow.0 joined p refl act in
      let one = entry_ground o formed_es.0 a from to item acts_too needed.0 in (
        one.0,
        group_ground o acts_too (put_atom (u o.env) a) (w o.env from.0) (w o.env to.0) es marks.1 follow.1
            (subst (λ (it : Item). ShowGroups text u w (last_or (Some (l.Span a0 f0 t0)) (left_of (u o.env) (w o.env) o.nest it)) es) item shows.1) (needed.1 one.1) formed_es.1,
      ))

  pub actions_ground : IsNextGround text node
  actions_ground first behind_first is_first atom from to item action =
      let next : Entry = n.live.on.next in
      let span = next_span text level trace depth e now low node s t place n.live n.left first behind_first is_first atom from to item in
      let at = here text level trace depth e now low node s t place n.live n.left span.0 span.1 span.2 span.3 in
      let spelled = shown text level trace depth e now low node s t place n.live n.left span.0 span.1 span.2 span.3 in
      let same_first : first ≡ at = ap (head_left first) (sym is_first ∙ spelled) in
      let same_rest : behind_first ≡ flat_map (left_at u w) n.live.on.rest = ap tail_left (sym is_first ∙ spelled) in
      let same_atom : atom ≡ put_atom (u next.env) span.0 = ap (λ it. atom_in atom it) (sym item ∙ ap (λ (z : Left). z.item) same_first) in
      let acts_now : acts text next.item ≡ true = subst (λ (it : Item). acts text it ≡ true) (sym span.3) (subst (λ name. is_action (kind_of text name) ≡ true) span.4 action) in
      let needed = subst (NeedsMet text s u) n.live.on.is_next met in
      let formed_next = subst AreFormed n.live.on.is_next formed_left in
      let marks = subst (AreMarked text followed.0) n.live.on.is_next followed.1 in
      let follow = subst (ActionsFollow text accepted followed.0) n.live.on.is_next followed.2 in
      let one = entry_ground next formed_next.0 span.0 span.1 span.2 span.3 acts_now needed.0 in
      let others = group_ground next acts_now (put_atom (u next.env) span.0) (w next.env span.1.0) (w next.env span.2.0) n.live.on.rest marks.1 follow.1
      (groups text level trace depth e now low node s t place n.live n.left span.0 span.1 span.2 span.3) (needed.1 one.1) formed_next.1 in
      subst (AllByRecursion IsGroundAtom) (sym (λ j. same_atom j ∷ atoms_behind text (same_first j).item (same_rest j))) (one.0, others)
