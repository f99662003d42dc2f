-- The cycles of a run of a well-formed text are ground.
use Rattle.std.proofs.Common.{ℕ, ◌≡◌, ◌<◌, Bool, true, false, cond, List, [], ◌∷◌, length, refl, subst}
use Rattle.std.specs.Prelude.{IsTrue, nat_lt, nat_le, ◌&&◌, ◌^◌, Some, None}
use Rattle.std.specs.List.{AllByRecursion, list_all}
use Rattle.std.specs.Str.{bytes_eq}
use Rattle.std.proofs.lemmas.Slice.Eq.{bytes_eq-Decides}
use Rattle.lps_terms.specs.declared.atom.Atom.{Atom}
use Rattle.lps_terms.specs.declared.body.Body.{Body}
use Rattle.lps_terms.specs.declared.body.Body.TheVariants as b
use Rattle.lps_terms.specs.declared.decl.Decl.{Decl}
use Rattle.lps_terms.specs.declared.item.Item.{Item}
use Rattle.lps_terms.specs.declared.item.Item.TheVariants as i
use Rattle.lps_terms.specs.declared.kind.Kind.{Kind}
use Rattle.lps_terms.specs.declared.term.Term.{Term}
use Rattle.lps_terms.specs.declared.text.Text.{Text}
use Rattle.lps_terms.specs.declared.time_var.TimeVar.{TimeVar}
use Rattle.lps_terms.specs.Names.{is_proper_name}
use Rattle.lps_terms.specs.Put.{put_atom}
use Rattle.lps_model.specs.declared.cycle.Cycle.{Cycle}
use Rattle.lps_model.specs.declared.cycle.Pick.{Pick}
use Rattle.lps_model.specs.declared.trace.Trace.{Trace}
use Rattle.lps_model.specs.Declarations.{decl_among, kind_among, kind_in}
use Rattle.lps_model.specs.Formed.{fits_modes, has_modes, is_formed, is_formed_atom, is_formed_body, is_formed_decl, is_formed_statement, stars_once}
use Rattle.lps_model.specs.Program.{declarations, declared_in}
use Rattle.lps_model.specs.Trace.{admitted, then_cycle}
use Rattle.lps_derivation.specs.Ground.{is_ground}
use Rattle.lps_meaning.specs.declared.goal.GoalKey.{GoalKey}
use Rattle.lps_meaning.specs.Cycles.{AreLegal, ArePicks, IsOutside, IsProposal, IsRun, joined, joined_item}
use Rattle.lps_meaning.specs.Goals.{AreAllGround}
use Rattle.lps_meaning.specs.Reports.{IsGroundAtom}
use Rattle.lps_telling.specs.Grounded.{IsGroundCycle, IsGroundPick, IsSmallCycle}
use Rattle.lps_model.specs.Rules.{MacroClause, Rule, rules}
use Rattle.lps_meaning.specs.Sequences.{Entry, Place, Times, Values, Walk}
use Rattle.lps_meaning.proofs.Occurrences.{all_joined}
use Rattle.lps_meaning.proofs.Lists.{number_contained, both, of_element, of_each, of_flat}
use Rattle.lps_meaning.proofs.Formed.{IsFormedItem, AreFormedItems, IsFormedRule, rules_formed, clause_of, AreFormedEntries, body_formed, statements_formed, entries_formed}
use Rattle.lps_meaning.proofs.GroundFacts.{ground_atom}

abbrev IsNamed : Decl → Type 0
IsNamed decl = is_proper_name decl.name ≡ true

decls_named : (decls : List Decl) → list_all is_formed_decl decls ≡ true → AllByRecursion IsNamed decls
decls_named [] h = tt
decls_named (d ∷ decls) h =
    let parts = both (is_formed_decl d) (list_all is_formed_decl decls) h in
    let fits = fits_modes (has_modes d.kind) d.arity d.modes in
    let sized = both (is_proper_name d.name && nat_le d.arity 64 && fits) (stars_once d.modes) parts.0 in
    let named = both (is_proper_name d.name && nat_le d.arity 64) fits sized.0 in
    ((both (is_proper_name d.name) (nat_le d.arity 64) named.0).0, decls_named decls parts.1)

declared_named : (variables times : ℕ) (body : Body) → is_formed_body variables times body ≡ true → AllByRecursion IsNamed (declared_in body)
declared_named variables times (b.Declare decls) h = decls_named decls h
declared_named variables times (b.Rule antecedent alternatives) h = tt
declared_named variables times (b.Initially atoms) h = tt
declared_named variables times (b.Denial items) h = tt
declared_named variables times (b.Law initiates event fluent conds) h = tt
declared_named variables times (b.Clause head conds) h = tt
declared_named variables times (b.MacroClause head begin end items) h = tt

module _ (text : Text) (formed : IsTrue (is_formed text)) where
  declarations_named : AllByRecursion IsNamed (declarations text)
  declarations_named = of_flat (λ s. is_formed_statement s ≡ true) IsNamed (λ s. declared_in s.body) (λ s h. declared_named (length s.names) (length s.times) s.body (body_formed s h)) text.statements (statements_formed text formed)

  -- ---- walks

  walk_formed : (level : List ℕ → ℕ) (trace : Trace) (given : List ℕ) (s : Values) (t : Times) (now : ℕ) (end place : Place) →
      Walk text level trace given s t now end place → AreFormedEntries text formed place.left → AreFormedEntries text formed end.left
  walk_formed level trace given s t now end place Walk.stop h = h
  walk_formed level trace given s t now end place (Walk.pass env nest joins item rest left no_call is_true small placed walk) h =
      walk_formed level trace given s t now end _ walk (subst (AreFormedEntries text formed) left h).1
  walk_formed level trace given s t now end place (Walk.replace e rest a from to number clause left is_span macro of_text values times small walk) h =
      walk_formed level trace given s t now end _ walk
      (all_joined (λ (e : Entry). IsFormedItem e.item) _ rest (entries_formed text formed _ _ None clause.items (clause_of text formed a.name number clause of_text)) (subst (AreFormedEntries text formed) left h).1)

  -- ---- picks

  span_ground : (s : ℕ → Term) → ((v : ℕ) → IsTrue (is_ground (s v))) → (a : Atom) (from to : TimeVar) → IsFormedItem (i.Span a from to) → IsGroundAtom (put_atom s a)
  span_ground s ground a from to h =
      ground_atom h.variables s ground a
      (both (is_formed_atom h.variables a) (nat_lt from.0 h.times) (both (is_formed_atom h.variables a && nat_lt from.0 h.times) (nat_lt to.0 h.times) h.formed).0).0

  joined_ground : (s : Values) → AreAllGround s → (es : List Entry) → AreFormedEntries text formed es → AllByRecursion IsGroundAtom (joined s es)
  joined_ground s ground [] h = tt
  joined_ground s ground (e ∷ es) h = one e.joins e.item h.0 (joined_ground s ground es h.1) where
    one : (joins : Bool) (item : Item) → IsFormedItem item → AllByRecursion IsGroundAtom (joined s es) → AllByRecursion IsGroundAtom (joined_item s e.env joins item (joined s es))
    one true (i.Span a from to) formed rest = (span_ground (s e.env) (ground e.env) a from to formed, rest)
    one false (i.Span a from to) formed rest = tt
    one true (i.At l time) formed rest = tt
    one false (i.At l time) formed rest = tt
    one true (i.Bare l) formed rest = tt
    one false (i.Bare l) formed rest = tt
    one true (i.Built built) formed rest = tt
    one false (i.Built built) formed rest = tt
    one true (i.Con con) formed rest = tt
    one false (i.Con con) formed rest = tt

  proposal_ground : (level : List ℕ → ℕ) (depth : ℕ) (trace : Trace) (key : GoalKey) (group : List Atom) → IsProposal text level depth trace key group → AllByRecursion IsGroundAtom group
  proposal_ground level depth trace key group h =
      let reaches = h.live.plan.reaches in
      let on = h.live.plan.on in
      let rule = of_element IsFormedRule (rules text) reaches.rule (rules_formed text formed) (number_contained (rules text) key.rule reaches.rule reaches.of_text) in
      let items = of_element AreFormedItems reaches.rule.alternatives reaches.items rule (number_contained reaches.rule.alternatives reaches.alternative reaches.items reaches.of_rule) in
      let left = subst (AreFormedEntries text formed) on.is_next (walk_formed level trace _ reaches.values reaches.times _ h.end _ reaches.walk (entries_formed text formed 0 0 None reaches.items items)) in
      let first = span_ground (reaches.values on.next.env) (reaches.ground on.next.env) h.group_of.atom h.group_of.from h.group_of.to (subst IsFormedItem h.group_of.item left.0) in
      let rest = joined_ground reaches.values reaches.ground on.rest left.1 in
      of_each IsGroundAtom group (λ a among. of_element IsGroundAtom (put_atom (reaches.values on.next.env) h.group_of.atom ∷ joined reaches.values on.rest) a (first, rest) ((h.group_of.exact a).0 among))

  picks_ground : (level : List ℕ → ℕ) (depth : ℕ) (trace : Trace) (keys : List GoalKey) (taken : List ℕ) (before : List Atom) (picks : List Pick) →
      ArePicks text level depth trace keys taken before picks → AllByRecursion (λ (pick : Pick). pick.goal < 2 ^ 64) picks → AllByRecursion IsGroundPick picks
  picks_ground level depth trace keys taken before [] h small = tt
  picks_ground level depth trace keys taken before (pick ∷ picks) h small =
      ((proposal_ground level depth trace h.0.0 pick.group.atoms h.0.2, small.0), picks_ground level depth trace keys _ _ picks h.3 small.1)

  -- ---- events

  named : (decls : List Decl) → AllByRecursion IsNamed decls → (name : List ℕ) (kind : Kind) → kind_among decls name ≡ Some kind → is_proper_name name ≡ true
  named [] h name kind e = absurd cc
  named (d ∷ decls) h name kind e = by (bytes_eq d.name name) refl (λ later. named decls h.1 name kind later) e where
    by : (same : Bool) → bytes_eq d.name name ≡ same → (kind_in (decl_among decls name) ≡ Some kind → is_proper_name name ≡ true) → kind_in (cond same (Some d) (decl_among decls name)) ≡ Some kind → is_proper_name name ≡ true
    by true same later e = subst (λ n. is_proper_name n ≡ true) ((bytes_eq-Decides d.name name).0 same) h.0
    by false same later e = later e

  events_ground : (level : List ℕ → ℕ) (depth : ℕ) (trace : Trace) (events : List Atom) → AllByRecursion (IsOutside text) events → AllByRecursion IsGroundAtom events
  events_ground level depth trace [] h = tt
  events_ground level depth trace (event ∷ events) h = ((named (declarations text) declarations_named event.name _ h.0.0.kind, h.0.1), events_ground level depth trace events h.1)

  -- ---- runs

  cycles_ground : (level : List ℕ → ℕ) (depth : ℕ) (before : Trace) (cycles : List Cycle) → AreLegal text level depth before cycles → AllByRecursion IsSmallCycle cycles → AllByRecursion IsGroundCycle cycles
  cycles_ground level depth before [] h small = tt
  cycles_ground level depth before (cycle ∷ cycles) h small = (
    record {
      events = events_ground level depth before cycle.events h.0.outside;
      verdicts = small.0.verdicts;
      picks = picks_ground level depth before h.0.keys [] (admitted cycle.events cycle.verdicts) cycle.picks h.0.picks small.0.picks;
    },
    cycles_ground level depth (then_cycle before cycle) cycles h.1 small.1,
  )

pub run_ground : (text : Text) (level : List ℕ → ℕ) (depth : ℕ) (trace : Trace) → IsTrue (is_formed text) → IsRun text level depth trace →
    AllByRecursion IsSmallCycle trace.cycles → AllByRecursion IsGroundCycle trace.cycles
run_ground text level depth trace formed run small = cycles_ground text formed level depth _ trace.cycles run.legal small
