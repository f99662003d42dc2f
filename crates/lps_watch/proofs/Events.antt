-- What is found by one event, by some, and by a cycle.
use Rattle.std.proofs.Common.{ℕ, ◌≡◌, ◌⊎◌, ◌↔◌, ◌≤◌, ◌<◌, ◌+◌, List, [], ◌∷◌, length, take, Contains, refl, sym, ap, subst, ◌∙◌, inl, inr}
use Rattle.std.specs.Prelude.{Option, Some, None, slice_get, slice_index_or}
use Rattle.lps_terms.specs.declared.atom.Atom.{Atom}
use Rattle.lps_terms.specs.declared.term.Term.{Term}
use Rattle.lps_residual.specs.declared.waking.Awaited.{Awaited}
use Rattle.lps_residual.specs.declared.waking.Wake.{Wake}
use Rattle.lps_residual.specs.Waking.{BeginWith, IsAwaited, IsAwaitedAmong, IsTouched}
use Rattle.lps_watch.specs.declared.due.Due.{Due}
use Rattle.lps_watch.specs.Watches.{Adds, Agree, IsFor, due_of}
use Rattle.lps_watch.proofs.Walks.{nothing, taken_more}

-- ---- the first argument

begin_with_first : (args : List Term) (x : Term) → slice_get args 0 ≡ Some x → BeginWith (Some x) args
begin_with_first [] x e = absurd cc
begin_with_first (y ∷ ys) x e = let same : y ≡ x = cc in (ys, ap (λ z. z ∷ ys) same)

begins_with_first : (args : List Term) (x : Term) → slice_get args 0 ≡ Some x → (f : Term) → BeginWith (Some f) args → f ≡ x
begins_with_first [] x e f begins = absurd cc
begins_with_first (y ∷ ys) x e f begins = let same : y ≡ x = cc in let is : y ∷ ys ≡ f ∷ begins.0 = begins.1 in cc

begin_with_none : (args : List Term) → slice_get args 0 ≡ None → (f : Term) → BeginWith (Some f) args → ⊥
begin_with_none [] e f begins = let is : [] ≡ f ∷ begins.0 = begins.1 in absurd cc
begin_with_none (y ∷ ys) e f begins = absurd cc

-- ---- one event

-- what awaits the name alone, or the first argument too
abbrev pub named : List ℕ → Option Term → Awaited
named n first = record { name = n; first = first }

module _ (event : Atom) (whole before middle after : List Wake) where
  pub by_name : slice_get event.args 0 ≡ None → Adds before middle (λ w. Contains whole w × (w.awaited ≡ Some (named event.name None))) → Adds before middle (λ w. Contains whole w × IsFor event w)
  by_name none added w = (
    λ h. elim ((added w).0 h) [
      | inl old ↦ inl old
      | inr more ↦ inr (more.0, (named event.name None, more.1, (refl, tt)))
    ],
    λ h. elim h [
      | inl old ↦ (added w).1 (inl old)
      | inr more ↦ (added w).1 (inr (more.0, go more.1.0 more.1.1 more.1.2.0 more.1.2.1))
    ],
  ) where
    go : (a : Awaited) → w.awaited ≡ Some a → a.name ≡ event.name → BeginWith a.first event.args → w.awaited ≡ Some (named event.name None)
    go a is same begins = first a.first refl begins where
      first : (f : Option Term) → a.first ≡ f → BeginWith f event.args → w.awaited ≡ Some (named event.name None)
      first None e begins = is ∙ (λ i. Some (record { name = same i; first = e i }))
      first (Some f) e begins = absurd (begin_with_none event.args none f begins)

  pub by_both : (x : Term) → slice_get event.args 0 ≡ Some x →
      Adds before middle (λ w. Contains whole w × (w.awaited ≡ Some (named event.name None))) → Adds middle after (λ w. Contains whole w × (w.awaited ≡ Some (named event.name (Some x)))) →
      Adds before after (λ w. Contains whole w × IsFor event w)
  by_both x begin added more w = (
    λ h. elim ((more w).0 h) [
      | inl there ↦ elim ((added w).0 there) [
        | inl old ↦ inl old
        | inr new ↦ inr (new.0, (named event.name None, new.1, (refl, tt)))
      ]
      | inr new ↦ inr (new.0, (named event.name (Some x), new.1, (refl, begin_with_first event.args x begin)))
    ],
    λ h. elim h [
      | inl old ↦ (more w).1 (inl ((added w).1 (inl old)))
      | inr found ↦ go found.0 found.1.0 found.1.1 found.1.2.0 found.1.2.1
    ],
  ) where
    go : Contains whole w → (a : Awaited) → w.awaited ≡ Some a → a.name ≡ event.name → BeginWith a.first event.args → Contains after w
    go there a is same begins = first a.first refl begins where
      first : (f : Option Term) → a.first ≡ f → BeginWith f event.args → Contains after w
      first None e begins = (more w).1 (inl ((added w).1 (inr (there, is ∙ (λ i. Some (record { name = same i; first = e i }))))))
      first (Some f) e begins =
          let whose : a.first ≡ Some x = e ∙ ap (λ z. Some z) (begins_with_first event.args x begin f begins) in
          (more w).1 (inr (there, is ∙ (λ i. Some (record { name = same i; first = whose i }))))

-- ---- some events

module _ (whole before : List Wake) where
  abbrev pub FoundBy : List Wake → List Atom → Type 0
  FoundBy found events = Adds before found (λ w. Contains whole w × IsAwaitedAmong w.awaited events)

  pub found_by_none : FoundBy before []
  found_by_none w = (
    λ h. inl h,
    λ h. elim h [
      | inl old ↦ old
      | inr found ↦ absurd (nothing found.1.2 found.1.3)
    ],
  )

  pub found_by_more : (found more : List Wake) (events : List Atom) (i : ℕ) (event : Atom) → i < length events → event ≡ slice_index_or events i event →
      FoundBy found (take i events) → Adds found more (λ w. Contains whole w × IsFor event w) → FoundBy more (take (i + 1) events)
  found_by_more found more events i event within is by added w = (
    λ h. elim ((added w).0 h) [
      | inl there ↦ elim ((by w).0 there) [
        | inl old ↦ inl old
        | inr among ↦ inr (among.0, (among.1.0, among.1.1, among.1.2, seen among.1.2 (inl among.1.3), among.1.4))
      ]
      | inr new ↦ inr (new.0, (new.1.0, new.1.1, event, seen event (inr refl), new.1.2))
    ],
    λ h. elim h [
      | inl old ↦ (added w).1 (inl ((by w).1 (inl old)))
      | inr among ↦ which among.0 among.1.0 among.1.1 among.1.2 among.1.4 ((taken_more events i event within is among.1.2).0 among.1.3)
    ],
  ) where
    seen : (e : Atom) → Contains (take i events) e ⊎ (event ≡ e) → Contains (take (i + 1) events) e
    seen e = (taken_more events i event within is e).1

    which : Contains whole w → (a : Awaited) → w.awaited ≡ Some a → (e : Atom) → IsAwaited a e → Contains (take i events) e ⊎ (event ≡ e) → Contains more w
    which there a awaits e awaited (inl old) = (added w).1 (inl ((by w).1 (inr (there, (a, awaits, e, old, awaited)))))
    which there a awaits e awaited (inr same) = (added w).1 (inr (there, (a, awaits, subst (IsAwaited a) (sym same) awaited)))

-- ---- a cycle

pub all_touched : (wakes : List Wake) (dues : List Due) (time : ℕ) (events : List Atom) (first middle last : List Wake) → first ≡ [] → Agree wakes dues → FoundBy wakes first middle events →
    Adds middle last (λ w. Contains dues (due_of w) × (w.due ≤ time)) → (w : Wake) → Contains last w ↔ (Contains wakes w × IsTouched w time events)
all_touched wakes dues time events first middle last none agree by due w = (
  λ h. elim ((due w).0 h) [
    | inl there ↦ elim ((by w).0 there) [
      | inl old ↦ absurd (nothing w (subst (λ ws. Contains ws w) none old))
      | inr found ↦ (found.0, inr found.1)
    ]
    | inr found ↦ ((agree w).1 found.0, inl found.1)
  ],
  λ h. elim h.1 [
    | inl past ↦ (due w).1 (inr ((agree w).0 h.0, past))
    | inr among ↦ (due w).1 (inl ((by w).1 (inr (h.0, among))))
  ],
)
