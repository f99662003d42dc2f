-- What acceptance gives of events and fluents: no clause has an event in its head, timeless predicates are true alike over any
-- fluents, and what a law causes, and so what holds in a state, is a fluent.
use Rattle.std.proofs.Common.{ℕ, zero, suc, Bool, true, false, ◌≡◌, List, refl, sym, ap, ◌∙◌, inl, inr}
use Rattle.std.specs.Prelude.{◌↔◌, Contains, Option, Some, None}
use Rattle.lps_terms.specs.declared.atom.Atom.{Atom}
use Rattle.lps_terms.specs.declared.cond.Cond.TheVariants as c
use Rattle.lps_terms.specs.declared.kind.Kind.{Kind}
use Rattle.lps_terms.specs.declared.kind.Kind.TheVariants as k
use Rattle.lps_terms.specs.declared.text.Text.{Text}
use Rattle.lps_values.specs.Truth.{is_true}
use Rattle.lps_model.specs.declared.place.Place.TheVariants.{Effect, Head, Initial, TimelessCondition}
use Rattle.lps_model.specs.declared.trace.Trace.{Trace}
use Rattle.lps_model.specs.Acceptance.{IsAccepted}
use Rattle.lps_model.specs.KindRefusals.{may_stand}
use Rattle.lps_model.specs.Occurrences.{place_under}
use Rattle.lps_model.specs.Order.{happens}
use Rattle.lps_model.specs.Program.{Law}
use Rattle.lps_model.specs.Run.{AreInitial}
use Rattle.lps_model.specs.Clauses.{clauses}
use Rattle.lps_derivation.specs.Derivation.{of_fact}
use Rattle.lps_derivation.specs.Laws.{Passes}
use Rattle.lps_derivation.specs.Levels.{AreClosed, IsDefined}
use Rattle.lps_derivation.proofs.Reach.{same_reached}
use Rattle.lps_derivation.proofs.Trees.{only_fact}
use Rattle.lps_meaning.specs.Holds.{Causes, Holds, IsTrueOver}
use Rattle.lps_model.specs.Rules.{kind_of}
use Rattle.lps_meaning.proofs.Persistence.{start_law, update_law}
use Rattle.lps_causal.proofs.Placed.{condition_kind, fluent_kind, head_kind, initial_kind}

-- ---- kinds

-- the name of a fluent, a derived or a timeless predicate, which conditions are made of
abbrev pub is_condition : Option Kind → Bool
is_condition (Some k.Fluent) = true
is_condition (Some k.Derived) = true
is_condition (Some k.Timeless) = true
is_condition _ = false

-- the name of a timeless predicate
abbrev pub is_timeless : Option Kind → Bool
is_timeless (Some k.Timeless) = true
is_timeless _ = false

of_timeless : (kind : Kind) → may_stand TimelessCondition kind ≡ true → is_timeless (Some kind) ≡ true
of_timeless k.Timeless h = refl
of_timeless k.Fluent h = absurd (cc)
of_timeless k.Derived h = absurd (cc)
of_timeless k.Event h = absurd (cc)
of_timeless k.Action h = absurd (cc)
of_timeless k.Macro h = absurd (cc)

of_timeless_clause : (head : Option Kind) (kind : Kind) → is_timeless head ≡ true → may_stand (place_under head) kind ≡ true → is_timeless (Some kind) ≡ true
of_timeless_clause None kind t h = absurd (cc)
of_timeless_clause (Some k.Timeless) kind t h = of_timeless kind h
of_timeless_clause (Some k.Fluent) kind t h = absurd (cc)
of_timeless_clause (Some k.Derived) kind t h = absurd (cc)
of_timeless_clause (Some k.Event) kind t h = absurd (cc)
of_timeless_clause (Some k.Action) kind t h = absurd (cc)
of_timeless_clause (Some k.Macro) kind t h = absurd (cc)

no_head : (kind : Kind) → happens (Some kind) ≡ true → may_stand Head kind ≡ true → ⊥
no_head k.Fluent e h = cc
no_head k.Derived e h = cc
no_head k.Timeless e h = cc
no_head k.Event e h = cc
no_head k.Action e h = cc
no_head k.Macro e h = cc

only_fluent : (kind : Kind) → may_stand Effect kind ≡ true → kind ≡ k.Fluent
only_fluent k.Fluent h = refl
only_fluent k.Derived h = absurd (cc)
only_fluent k.Timeless h = absurd (cc)
only_fluent k.Event h = absurd (cc)
only_fluent k.Action h = absurd (cc)
only_fluent k.Macro h = absurd (cc)

only_initial : (kind : Kind) → may_stand Initial kind ≡ true → kind ≡ k.Fluent
only_initial k.Fluent h = refl
only_initial k.Derived h = absurd (cc)
only_initial k.Timeless h = absurd (cc)
only_initial k.Event h = absurd (cc)
only_initial k.Action h = absurd (cc)
only_initial k.Macro h = absurd (cc)

module _ (text : Text) (accepted : IsAccepted text) where
  -- ---- names that clauses do not leave

  pub timeless_are_closed : AreClosed (clauses text) (λ name. is_timeless (kind_of text name))
  timeless_are_closed = record {
    calls = λ clause l at among named.
        let found = condition_kind text accepted clause l at among in
        ap is_timeless found.is ∙ of_timeless_clause (kind_of text clause.head.name) found.kind named found.may;
  }

  -- no clause has an event or an action in its head
  pub not_defined : (name : List ℕ) → happens (kind_of text name) ≡ true → IsDefined (clauses text) name → ⊥
  not_defined name happening defined =
      let found = head_kind text accepted defined.clause defined.among in
      no_head found.kind (sym (ap happens found.is) ∙ ap (λ n. happens (kind_of text n)) defined.named ∙ happening) found.may

  -- an event or an action is true where it is a fact
  pub true_where_fact : (level : List ℕ → ℕ) (IsFact : Atom → Type 0) (a : Atom) → happens (kind_of text a.name) ≡ true → IsTrueOver text level IsFact a ↔ IsFact a
  true_where_fact level IsFact a happening = (
    (λ tree. only_fact (Passes is_true) (clauses text) IsFact tree (not_defined a.name happening)),
    (λ h. of_fact h),
  )

  -- ---- timeless predicates

  -- what is timeless is true alike over any fluents
  pub timeless_everywhere : (level : List ℕ → ℕ) (One Two : Atom → Type 0) → ((b : Atom) → One b → kind_of text b.name ≡ Some k.Fluent) →
      ((b : Atom) → Two b → kind_of text b.name ≡ Some k.Fluent) → (a : Atom) → is_timeless (kind_of text a.name) ≡ true →
      IsTrueOver text level One a ↔ IsTrueOver text level Two a
  timeless_everywhere level One Two ones twos a is =
      same_reached (Passes is_true) (clauses text) (λ name. is_timeless (kind_of text name)) timeless_are_closed One Two
      (λ b named. ((λ h. absurd (no_fluent b (ones b h) named)), (λ h. absurd (no_fluent b (twos b h) named)))) level a is
    where
      no_fluent : (b : Atom) → kind_of text b.name ≡ Some k.Fluent → is_timeless (kind_of text b.name) ≡ true → ⊥
      no_fluent b fluent timeless = let no : false ≡ true = sym (ap is_timeless fluent) ∙ timeless in cc

  -- the initial facts are fluents
  pub starts_with_fluents : (facts : List Atom) → AreInitial text facts → (a : Atom) → Contains facts a → kind_of text a.name ≡ Some k.Fluent
  starts_with_fluents facts initial a among =
      let found = initial_kind text accepted a ((initial.exact a).0 among) in
      found.is ∙ ap Some (only_initial found.kind found.may)

  -- what a law causes is a fluent
  pub caused_is_fluent : (level : List ℕ → ℕ) (initiates : Bool) (HeldBefore : Atom → Type 0) (events : List Atom) (a : Atom) →
      Causes text level initiates HeldBefore events a → kind_of text a.name ≡ Some k.Fluent
  caused_is_fluent level initiates HeldBefore events a h =
      let law : Law = h.of_text.law in
      let found = fluent_kind text accepted law h.of_text.in_text in
      let named : law.fluent.name ≡ a.name = sym (ap (λ (i : Law). i.fluent.name) h.of_text.put_in) ∙ ap (λ (b : Atom). b.name) h.effect in
      ap (kind_of text) (sym named) ∙ found.is ∙ ap Some (only_fluent found.kind found.may)

  -- what holds in a state is a fluent, where it is at the start
  pub holds_is_fluent : (level : List ℕ → ℕ) (trace : Trace) → ((a : Atom) → Contains trace.initial a → kind_of text a.name ≡ Some k.Fluent) →
      (i : ℕ) (a : Atom) → Holds text level trace i a → kind_of text a.name ≡ Some k.Fluent
  holds_is_fluent level trace start zero a h = start a ((start_law text level trace a).0 h)
  holds_is_fluent level trace start (suc i) a h =
      elim ((update_law text level trace a i).0 h) [
        | inl caused ↦ caused_is_fluent level true (Holds text level trace i) _ a caused
        | inr held ↦ holds_is_fluent level trace start i a held.0
      ]
