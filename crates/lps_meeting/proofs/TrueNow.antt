-- An item is met by terms and times exactly where it is true now with these put in, ground and small.
use Rattle.std.proofs.Common.{ℕ, Bool, true, false, ◌≡◌, ◌≤◌, List, refl, sym, ap, subst, ◌∙◌, arith}
use Rattle.std.specs.Prelude.{◌↔◌, ◌&&◌, zero, suc, Contains, Option, Some, None}
use Rattle.lps_terms.specs.declared.atom.Atom.{Atom}
use Rattle.lps_terms.specs.declared.built.Built.{Built}
use Rattle.lps_terms.specs.declared.built.Built.TheVariants as b
use Rattle.lps_terms.specs.declared.expr.Expr.{Expr}
use Rattle.lps_terms.specs.declared.kind.Kind.{Kind}
use Rattle.lps_terms.specs.declared.kind.Kind.TheVariants as k
use Rattle.lps_terms.specs.declared.lit.Lit.{Lit}
use Rattle.lps_terms.specs.declared.term.Term.{Term}
use Rattle.lps_terms.specs.declared.text.Text.{Text}
use Rattle.lps_terms.specs.Put.{put_atom}
use Rattle.lps_values.specs.Truth.{is_true}
use Rattle.lps_model.specs.declared.trace.Trace.{Trace}
use Rattle.lps_model.specs.Clauses.{clauses}
use Rattle.lps_model.specs.Formed.{is_formed_built, is_formed_expr, is_formed-Apply, is_formed-Leaf}
use Rattle.lps_model.specs.Order.{happens}
use Rattle.lps_model.specs.Rules.{is_macro, kind_of}
use Rattle.lps_derivation.specs.Derivation.{Agrees}
use Rattle.lps_derivation.specs.Expressions.{expr_ind}
use Rattle.lps_derivation.specs.Ground.{is_ground}
use Rattle.lps_derivation.specs.Instances.{put_built, put_lit}
use Rattle.lps_derivation.specs.Laws.{IsDerivedFrom}
use Rattle.lps_meaning.specs.declared.node.LeftItem.{LeftItem}
use Rattle.lps_meaning.specs.declared.node.LeftItem.TheVariants as l
use Rattle.lps_meaning.specs.declared.when.When.{When}
use Rattle.lps_meaning.specs.declared.when.When.TheVariants.{Known, Unknown}
use Rattle.lps_meaning.specs.Holds.{Holds, IsTrueAt, IsTrueLit}
use Rattle.lps_meaning.proofs.Persistence.{agrees_same, true_same}
use Rattle.lps_nodes.specs.Alone.{IsLeftTrue, IsToldItem}
use Rattle.lps_nodes.specs.Conditions.{IsLeftSmall, time_in}
use Rattle.lps_nodes.specs.Led.{IsMetNow}
use Rattle.lps_nodes.specs.Shapes.{put_left_item, put_when}
use Rattle.lps_residual.specs.Moments.{HappensOrHolds}
use Rattle.lps_solve.specs.Met.{AreGround, IsGroundBuilt, is_ground_expr}
use Rattle.lps_solve.proofs.Grounds.{first_of_two, ground_apply, ground_leaf, second_of}
use Rattle.lps_meeting.specs.Stages.{AreEventsOf, AreTimelessAlike, IsStateOf}
use Rattle.lps_meeting.specs.Steps.{AreGroundAtoms, AreOfCycle, IsAtTime, IsMetBy}

-- ---- built-ins that are ground

formed_is_ground : (x : Expr) → is_formed_expr 0 x ≡ is_ground_expr x
formed_is_ground = expr_ind (λ x. is_formed_expr 0 x ≡ is_ground_expr x) (λ x. is_formed-Leaf 0 x ∙ sym (ground_leaf x))
    (λ op x y one two. is_formed-Apply 0 op x y ∙ (λ i. one i && two i) ∙ sym (ground_apply op x y))

both_true : (one two : Bool) → one ≡ true → two ≡ true → (one && two) ≡ true
both_true true two e f = f
both_true false two e f = absurd (cc)

formed_built : (built : Built) → IsGroundBuilt built → is_formed_built 0 built ≡ true
formed_built (b.Same x y) h = both_true (is_ground x) (is_ground y) h.0 h.1
formed_built (b.Differ x y) h = both_true (is_ground x) (is_ground y) h.0 h.1
formed_built (b.Is x y) h = both_true (is_ground x) (is_formed_expr 0 y) h.0 (formed_is_ground y ∙ h.1)
formed_built (b.Compare rel x y) h = both_true (is_formed_expr 0 x) (is_formed_expr 0 y) (formed_is_ground x ∙ h.0) (formed_is_ground y ∙ h.1)

ground_built : (built : Built) → is_formed_built 0 built ≡ true → IsGroundBuilt built
ground_built (b.Same x y) h = (first_of_two (is_ground x) (is_ground y) h, second_of (is_ground x) (is_ground y) h)
ground_built (b.Differ x y) h = (first_of_two (is_ground x) (is_ground y) h, second_of (is_ground x) (is_ground y) h)
ground_built (b.Is x y) h = (first_of_two (is_ground x) (is_formed_expr 0 y) h, sym (formed_is_ground y) ∙ second_of (is_ground x) (is_formed_expr 0 y) h)
ground_built (b.Compare rel x y) h =
    (sym (formed_is_ground x) ∙ first_of_two (is_formed_expr 0 x) (is_formed_expr 0 y) h, sym (formed_is_ground y) ∙ second_of (is_formed_expr 0 x) (is_formed_expr 0 y) h)

-- what happens is no macro
pub no_macro : (kind : Option Kind) → happens kind ≡ true → is_macro kind ≡ false
no_macro None h = refl
no_macro (Some k.Fluent) h = refl
no_macro (Some k.Derived) h = refl
no_macro (Some k.Timeless) h = refl
no_macro (Some k.Event) h = refl
no_macro (Some k.Action) h = refl
no_macro (Some k.Macro) h = absurd (cc)

-- ---- the times of a cycle

-- the cycle before the time, and the two times
pub record IsCycle (time : ℕ) (from to : When) : Type 0 where
  pub before : ℕ
  pub next : time ≡ suc before
  pub from_is : from ≡ Known before
  pub to_is : to ≡ Known time

pub cycle_of : (time : ℕ) (from to : When) → AreOfCycle time from to → IsCycle time from to
cycle_of zero from to h = absurd h
cycle_of (suc before) from to h = record { before = before; next = refl; from_is = h.0; to_is = h.1 }

pub of_cycle : (time : ℕ) (from to : When) → IsCycle time from to → AreOfCycle time from to
of_cycle time from to h = subst (λ n. AreOfCycle n from to) (sym h.next) (h.from_is, h.to_is ∙ ap (λ n. Known n) h.next)

-- ---- true now

-- an item is ground, true by now and small, and ends now if it has times
pub record IsTrueNow (text : Text) (level : List ℕ → ℕ) (trace : Trace) (now : ℕ) (item : LeftItem) : Type 0 where
  pub told : IsToldItem item
  pub is_true : IsLeftTrue text level trace now item
  pub small : IsLeftSmall item
  pub is_now : IsMetNow now item

-- what happens is known, if the item is something that happens
abbrev pub AreEventsAt : Trace → ℕ → List Atom → LeftItem → Type 0
AreEventsAt trace now events (l.Span a from to) = AreEventsOf trace now events
AreEventsAt trace now events _ = Unit {0}

module _ (text : Text) (level : List ℕ → ℕ) (trace : Trace) (now : ℕ) (facts events : List Atom) (state : IsStateOf text level trace now facts) (timeless : AreTimelessAlike text level trace now) where
  true_now : (a : Atom) → IsDerivedFrom is_true (clauses text) facts level a ↔ IsTrueAt text level trace now a
  true_now a = true_same text level (Contains facts) (Holds text level trace now) state a

  lit_now : (lit : Lit) → Agrees lit.negated (IsDerivedFrom is_true (clauses text) facts level lit.atom) → IsTrueLit text level trace now lit
  lit_now lit h = agrees_same lit.negated (IsDerivedFrom is_true (clauses text) facts level lit.atom) (IsTrueAt text level trace now lit.atom) (true_now lit.atom) h

  now_lit : (lit : Lit) → IsTrueLit text level trace now lit → Agrees lit.negated (IsDerivedFrom is_true (clauses text) facts level lit.atom)
  now_lit lit h = agrees_same lit.negated (IsTrueAt text level trace now lit.atom) (IsDerivedFrom is_true (clauses text) facts level lit.atom) ((true_now lit.atom).1, (true_now lit.atom).0) h

  always_now : (lit : Lit) → kind_of text lit.atom.name ≡ Some k.Timeless → IsTrueLit text level trace 0 lit → IsTrueLit text level trace now lit
  always_now lit is h = agrees_same lit.negated (IsTrueAt text level trace 0 lit.atom) (IsTrueAt text level trace now lit.atom) (timeless lit.atom is) h

  now_always : (lit : Lit) → kind_of text lit.atom.name ≡ Some k.Timeless → IsTrueLit text level trace now lit → IsTrueLit text level trace 0 lit
  now_always lit is h =
      agrees_same lit.negated (IsTrueAt text level trace now lit.atom) (IsTrueAt text level trace 0 lit.atom) ((timeless lit.atom is).1, (timeless lit.atom is).0) h

  no_later : (n : ℕ) → n ≤ n
  no_later n = omega arith

  pub met_is_true : (s : ℕ → Term) (w : ℕ → When) (item : LeftItem) → AreGroundAtoms events → AreEventsAt trace now events item → HappensOrHolds text item → IsMetBy (clauses text) facts level events s item → IsAtTime w now item →
      IsTrueNow text level trace now (put_left_item s w item)
  met_is_true s w (l.At lit time) ground known kind met at = record {
    told = subst (λ t. IsToldItem (l.At (put_lit s lit) t)) (sym at) met.ground;
    is_true = subst (λ t. IsLeftTrue text level trace now (l.At (put_lit s lit) t)) (sym at) (no_later now, lit_now (put_lit s lit) met.met);
    small = met.small;
    is_now = at;
  }
  met_is_true s w (l.Bare lit) ground known kind met at =
      record { told = met.ground; is_true = now_always (put_lit s lit) kind (lit_now (put_lit s lit) met.met); small = met.small; is_now = tt }
  met_is_true s w (l.Built built) ground known kind met at = record { told = formed_built (put_built s built) met.ground; is_true = met.met; small = met.small; is_now = tt }
  met_is_true s w (l.Span a from to) ground known kind met at =
      let cycle = cycle_of now (put_when w from) (put_when w to) at in
      record {
        told = subst (λ t. IsToldItem (l.Span (put_atom s a) t (put_when w to))) (sym cycle.from_is)
            (subst (λ t. IsToldItem (l.Span (put_atom s a) (Known cycle.before) t)) (sym cycle.to_is) (ground (put_atom s a) met.0));
        is_true = subst (λ t. IsLeftTrue text level trace now (l.Span (put_atom s a) (put_when w from) t)) (sym cycle.to_is)
            (no_macro (kind_of text a.name) kind, no_later now, (known (put_atom s a)).0 met.0);
        small = met.1;
        is_now = cycle.to_is;
      }

  told_atom : (a : Atom) (from : When) → IsToldItem (l.Span a from (Known now)) → AreGround a.args
  told_atom a (Known n) h = h
  told_atom a (Unknown k) h = absurd h

  pub true_is_met : (s : ℕ → Term) (w : ℕ → When) (item : LeftItem) → AreEventsAt trace now events item → HappensOrHolds text item → IsTrueNow text level trace now (put_left_item s w item) → IsMetBy (clauses text) facts level events s item
  true_is_met s w (l.At lit time) known kind h = record {
    ground = subst (λ t. IsToldItem (l.At (put_lit s lit) t)) h.is_now h.told;
    small = h.small;
    met = now_lit (put_lit s lit) (subst (λ t. IsLeftTrue text level trace now (l.At (put_lit s lit) t)) h.is_now h.is_true).1;
  }
  true_is_met s w (l.Bare lit) known kind h = record { ground = h.told; small = h.small; met = now_lit (put_lit s lit) (always_now (put_lit s lit) kind h.is_true) }
  true_is_met s w (l.Built built) known kind h = record { ground = ground_built (put_built s built) h.told; small = h.small; met = h.is_true }
  true_is_met s w (l.Span a from to) known kind h =
      ((known (put_atom s a)).1 (subst (λ t. IsLeftTrue text level trace now (l.Span (put_atom s a) (put_when w from) t)) h.is_now h.is_true).2, h.small)

  -- the times of an item that is true now and stands in order are those of this time
  pub true_at_time : (s : ℕ → Term) (w : ℕ → When) (item : LeftItem) → IsTrueNow text level trace now (put_left_item s w item) →
      ((a : Atom) (from to : When) → put_left_item s w item ≡ l.Span a from to → time_in (λ k. 0) to ≡ suc (time_in (λ k. 0) from)) → IsAtTime w now item
  true_at_time s w (l.At lit time) h one = h.is_now
  true_at_time s w (l.Bare lit) h one = tt
  true_at_time s w (l.Built built) h one = tt
  true_at_time s w (l.Span a from to) h one = by (put_when w from) refl (subst (λ t. IsToldItem (l.Span (put_atom s a) (put_when w from) t)) h.is_now h.told) (one (put_atom s a) (put_when w from) (put_when w to) refl)
    where
      by : (begin : When) → put_when w from ≡ begin → IsToldItem (l.Span (put_atom s a) begin (Known now)) → time_in (λ k. 0) (put_when w to) ≡ suc (time_in (λ k. 0) (put_when w from)) →
          AreOfCycle now (put_when w from) (put_when w to)
      by (Known n) e told next =
          of_cycle now (put_when w from) (put_when w to)
          (record { before = n; next = sym (ap (time_in (λ k. 0)) h.is_now) ∙ next ∙ ap (λ t. suc (time_in (λ k. 0) t)) e; from_is = e; to_is = h.is_now })
      by (Unknown k) e told next = absurd told
