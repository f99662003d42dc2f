-- The steps that are made from a stage: none, or first one by which its first item is met.
use Rattle.std.proofs.Common.{ℕ, ℤ, ◌≡◌, ◌⊎◌, ◌↔◌, true, List, [], ◌∷◌, map, refl, sym, ap, subst, inl, inr}
use Rattle.std.specs.Prelude.{Option, Some, None}
use Rattle.std.specs.List.{AllByRecursion, flat_map}
use Rattle.lps_terms.specs.declared.atom.Atom.{Atom}
use Rattle.lps_terms.specs.declared.kind.Kind.{Kind}
use Rattle.lps_terms.specs.declared.kind.Kind.TheVariants as k
use Rattle.lps_terms.specs.declared.text.Text.{Text}
use Rattle.lps_terms.specs.declared.time_rel.TimeRel.{TimeRel}
use Rattle.lps_model.specs.declared.trace.Trace.{Trace}
use Rattle.lps_model.specs.Order.{happens}
use Rattle.lps_model.specs.Rules.{is_macro, kind_of}
use Rattle.lps_meaning.specs.declared.node.Carry.{Carry}
use Rattle.lps_meaning.specs.declared.node.LeftCon.{LeftCon}
use Rattle.lps_meaning.specs.declared.node.LeftItem.{LeftItem}
use Rattle.lps_meaning.specs.declared.node.LeftItem.TheVariants as l
use Rattle.lps_meaning.specs.declared.node.Node.{Node}
use Rattle.lps_meaning.specs.declared.when.When.{When}
use Rattle.lps_meaning.specs.declared.when.When.TheVariants.{Known, Unknown}
use Rattle.lps_meaning.proofs.Occurrences.{all_front}
use Rattle.lps_nodes.specs.Alone.{Alone, Stage as WalkStage, enter, meet, met_to, stay, unfolded_to}
use Rattle.lps_nodes.specs.Conditions.{IsLeftLimit}
use Rattle.lps_nodes.specs.Led.{AreMetNow, IsCarriedAt, IsLeftAt, IsLedTo, IsLedToEnd}
use Rattle.lps_nodes.specs.Shapes.{Shape, con_of, put_left_con}
use Rattle.lps_residual.specs.Limits.{IsOpenOrTrue}
use Rattle.lps_residual.specs.Moments.{HappensOrHolds}
use Rattle.lps_meeting.specs.Stages.{Meets}

-- no macro call is left
abbrev pub HasNoCalls : Text → WalkStage → Type 0
HasNoCalls text x = AllByRecursion (λ left. HappensOrHolds text left.item) x.shape.rest

pub no_event_called : (kind : Option Kind) → happens kind ≡ true → is_macro kind ≡ true → ⊥
no_event_called None h m = cc
no_event_called (Some k.Fluent) h m = cc
no_event_called (Some k.Event) h m = cc
no_event_called (Some k.Action) h m = cc
no_event_called (Some k.Timeless) h m = cc
no_event_called (Some k.Derived) h m = cc
no_event_called (Some k.Macro) h m = cc

no_macro : (text : Text) (item : LeftItem) → HappensOrHolds text item → (a : Atom) (from to : When) → item ≡ l.Span a from to → is_macro (kind_of text a.name) ≡ true → ⊥
no_macro text item h a from to is macro = no_event_called (kind_of text a.name) (subst (HappensOrHolds text) is h) macro

-- ---- constraints

open_put : (x : ℕ → When) (left right : When) (rel : TimeRel) (plus : ℤ) → IsOpenOrTrue (put_left_con x (record { left = left; rel = rel; right = right; plus = plus })) →
    IsOpenOrTrue (record { left = left; rel = rel; right = right; plus = plus })
open_put x (Known n) (Known m) rel plus h = h
open_put x (Known n) (Unknown k) rel plus h = inl refl
open_put x (Unknown k) right rel plus h = inl refl

-- what is not false once times are put in is not false before
open_back : (x : ℕ → When) (limits : List LeftCon) → AllByRecursion IsOpenOrTrue (map (put_left_con x) limits) → AllByRecursion IsOpenOrTrue limits
open_back x [] h = tt
open_back x (con ∷ limits) h = (open_put x con.left con.right con.rel con.plus h.0, open_back x limits h.1)

true_put : (x : ℕ → ℕ) (left right : When) (rel : TimeRel) (plus : ℤ) → IsLeftLimit x (record { left = left; rel = rel; right = right; plus = plus }) →
    IsOpenOrTrue (record { left = left; rel = rel; right = right; plus = plus })
true_put x (Known n) (Known m) rel plus h = inr h
true_put x (Known n) (Unknown k) rel plus h = inl refl
true_put x (Unknown k) right rel plus h = inl refl

-- what is true at some times is not false
open_true : (x : ℕ → ℕ) (limits : List LeftCon) → AllByRecursion (IsLeftLimit x) limits → AllByRecursion IsOpenOrTrue limits
open_true x [] h = tt
open_true x (con ∷ limits) h = (true_put x con.left con.right con.rel con.plus h.0, open_true x limits h.1)

module _ (text : Text) (level : List ℕ → ℕ) (trace : Trace) (depth now : ℕ) where
  -- steps that end now lead to a stage at which this holds
  record Comes (P : WalkStage → Type 0) (x : WalkStage) : Type 0 where
    pub end : WalkStage
    pub steps : Alone text level trace depth now end x
    pub met : AreMetNow steps
    pub there : P end

  -- with no step, or through a stage at which its first item is met
  abbrev First : (WalkStage → Type 0) → WalkStage → Type 0
  First P x = P x ⊎ ((y : WalkStage) × Meets text level trace now x y × Comes P y)

  first_step : (P : WalkStage → Type 0) (end x : WalkStage) → HasNoCalls text x → (steps : Alone text level trace depth now end x) → AreMetNow steps → P end → First P x
  first_step P end x free stay met there = inl there
  first_step P end x free (meet first behind item h is_first told is_true small placed passes steps) met there = inr (
    met_to text x first item h,
    record {
      first = first;
      behind = behind;
      is_first = is_first;
      met = item;
      left = h;
      told = told;
      is_true = is_true;
      is_now = met.0;
      small = small;
      placed = placed;
      passes = passes;
      to = refl;
    },
    record { end = end; steps = steps; met = met.1; there = there },
  )
  first_step P end x free (enter first behind a from to number clause h is_first call macro within named small unfolds steps) met there =
      absurd (no_macro text first.item (subst (AllByRecursion (λ left. HappensOrHolds text left.item)) is_first free).0 a from to call macro)

  one_more : (P : WalkStage → Type 0) (x y : WalkStage) → Meets text level trace now x y → Comes P y → Comes P x
  one_more P x y m c =
      let c' : Comes P (met_to text x m.first m.met m.left) = subst (Comes P) m.to c in
      record {
        end = c'.end;
        steps = meet m.first m.behind m.met m.left m.is_first m.told m.is_true m.small m.placed m.passes c'.steps;
        met = (m.is_now, c'.met);
        there = c'.there;
      }

  -- ---- nodes and carries

  pub led_first : (alternative : ℕ) (x : WalkStage) → HasNoCalls text x → (o : Node) →
      IsLedTo text level trace depth now x alternative o ↔ (IsLeftAt text now x alternative o ⊎ ((y : WalkStage) × Meets text level trace now x y × IsLedTo text level trace depth now y alternative o))
  led_first alternative x free o = (there, back) where
    P : WalkStage → Type 0
    P y = IsLeftAt text now y alternative o

    there : IsLedTo text level trace depth now x alternative o → P x ⊎ ((y : WalkStage) × Meets text level trace now x y × IsLedTo text level trace depth now y alternative o)
    there led = elim (first_step P led.end x free led.steps led.met led.left) [
      | inl here ↦ inl here
      | inr later ↦ inr (later.0, later.1, record { end = later.2.end; steps = later.2.steps; met = later.2.met; left = later.2.there })
    ]

    back : P x ⊎ ((y : WalkStage) × Meets text level trace now x y × IsLedTo text level trace depth now y alternative o) → IsLedTo text level trace depth now x alternative o
    back (inl here) = record { end = x; steps = stay; met = tt; left = here }
    back (inr later) =
        let led = later.2 in
        let c = one_more P x later.0 later.1 (record { end = led.end; steps = led.steps; met = led.met; there = led.left }) in
        record { end = c.end; steps = c.steps; met = c.met; left = c.there }

  pub ended_first : (x : WalkStage) → HasNoCalls text x → (carry : Carry) →
      IsLedToEnd text level trace depth now x carry ↔ (IsCarriedAt now x carry ⊎ ((y : WalkStage) × Meets text level trace now x y × IsLedToEnd text level trace depth now y carry))
  ended_first x free carry = (there, back) where
    P : WalkStage → Type 0
    P y = IsCarriedAt now y carry

    there : IsLedToEnd text level trace depth now x carry → P x ⊎ ((y : WalkStage) × Meets text level trace now x y × IsLedToEnd text level trace depth now y carry)
    there led = elim (first_step P led.end x free led.steps led.met led.carried) [
      | inl here ↦ inl here
      | inr later ↦ inr (later.0, later.1, record { end = later.2.end; steps = later.2.steps; met = later.2.met; carried = later.2.there })
    ]

    back : P x ⊎ ((y : WalkStage) × Meets text level trace now x y × IsLedToEnd text level trace depth now y carry) → IsLedToEnd text level trace depth now x carry
    back (inl here) = record { end = x; steps = stay; met = tt; carried = here }
    back (inr later) =
        let led = later.2 in
        let c = one_more P x later.0 later.1 (record { end = led.end; steps = led.steps; met = led.met; there = led.carried }) in
        record { end = c.end; steps = c.steps; met = c.met; carried = c.there }

  -- ---- constraints

  -- no constraint is false where a stage is led to at which none is
  open_before : (end x : WalkStage) → Alone text level trace depth now end x → AllByRecursion IsOpenOrTrue end.shape.limits → AllByRecursion IsOpenOrTrue x.shape.limits
  open_before end x stay all = all
  open_before end x (meet first behind item h is_first told is_true small placed passes steps) all =
      open_back passes.x x.shape.limits (subst (AllByRecursion IsOpenOrTrue) (sym (ap (λ (g : Shape). g.limits) passes.own)) (open_before end (met_to text x first item h) steps all))
  open_before end x (enter first behind a from to number clause h is_first call macro within named small unfolds steps) all =
      open_back unfolds.x x.shape.limits
      (all_front IsOpenOrTrue (map (put_left_con unfolds.x) x.shape.limits) (flat_map (con_of unfolds.w) clause.items)
      (subst (AllByRecursion IsOpenOrTrue) (ap (λ (g : Shape). g.limits) unfolds.own.body) (open_before end (unfolded_to x number h) steps all)))

  pub open_led : (alternative : ℕ) (x : WalkStage) (o : Node) → IsLedTo text level trace depth now x alternative o → AllByRecursion IsOpenOrTrue x.shape.limits
  open_led alternative x o led = open_before led.end x led.steps (open_true led.left.can.times led.end.shape.limits led.left.can.limits)

  pub open_ended : (x : WalkStage) (carry : Carry) → IsLedToEnd text level trace depth now x carry → AllByRecursion IsOpenOrTrue x.shape.limits
  open_ended x carry led = open_before led.end x led.steps (open_true (λ k. 0) led.end.shape.limits led.carried.limits)
