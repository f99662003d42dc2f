-- Wakes that await the same lie side by side, from the one on that is due first; and those that are due come first by time.
use Rattle.std.proofs.Common.{ℕ, ◌≡◌, ◌↔◌, ◌≤◌, List, refl, sym, ap, ◌∙◌, arith, inl, inr, Bool, true, false}
use Rattle.std.specs.Prelude.{◌&&◌, ⊤, zero, suc, Option}
use Rattle.std.specs.BTreeMap.Range.{range_contains}
use Rattle.std.specs.Cmp.{nat_cmp_is, ranked, tied_itself, nat_cmp_total}
use Rattle.std.specs.List.{filter}
use Rattle.std.specs.List.Sorted.{IsStrictlySortedBy}
use Rattle.std.specs.Option.{option_cmp}
use Rattle.std.specs.Ordering.{is_le, nat_cmp, ordering_reverse, ordering_then}
use Rattle.std.specs.declared.cmp.Ordering.{Ordering}
use Rattle.std.specs.declared.cmp.Ordering.TheVariants.{Less, Equal, Greater}
use Rattle.std.specs.declared.ops.Bound.TheVariants.{Included, Unbounded}
use Rattle.std.proofs.lemmas.List.Elements.{filter_passes, recursion_from_All}
use Rattle.std.proofs.lemmas.List.Kept.{IsStrictlySortedBy-filter}
use Rattle.lps_residual.specs.declared.waking.Awaited.{Awaited}
use Rattle.lps_residual.specs.declared.waking.Wake.{Wake}
use Rattle.lps_watch.specs.declared.due.Due.{Due}
use Rattle.lps_watch.specs.Watches.{due_of}
use Rattle.lps_watch.specs.Orders.{awaited_cmp, due_cmp, wake_cmp}
use Rattle.lps_watch.proofs.Orders.{option_awaited_exact, option_awaited_total}
use Rattle.lps_watch.proofs.Walks.{MayStop, Walked, from_passing, may_stop, of_each, passing}

-- ---- by what is awaited

module _ (a : Option Awaited) where
  abbrev pub Awaits : Wake → Type 0
  Awaits w = w.awaited ≡ a

  abbrev least : Wake
  least = record { awaited = a; due = 0 }

  -- whether a wake is not before the least of those that await this
  abbrev pub is_from : Wake → Bool
  is_from = range_contains wake_cmp (Included least) Unbounded

  -- two of them in order, as far as the times go
  abbrev order : Wake → Wake → Ordering
  order x y = option_cmp awaited_cmp x.awaited y.awaited

  zero_first : (n : ℕ) → (is_le (nat_cmp 0 n) && true) ≡ true
  zero_first zero = ap (λ r. is_le r && true) (tied_itself nat_cmp_total 0)
  zero_first (suc n) = ap (λ r. is_le r && true) (sym (nat_cmp_is 0 (suc n) Less (omega arith)))

  from_least : (w : Wake) → Awaits w → is_from w ≡ true
  from_least w is =
      let tie : order least w ≡ Equal = ap (option_cmp awaited_cmp a) is ∙ tied_itself option_awaited_total a in
      ap (λ r. is_le (ordering_then r (nat_cmp 0 w.due)) && true) tie ∙ zero_first w.due

  between : (x y : Wake) → is_from x ≡ true → wake_cmp x y ≡ Less → Awaits y → Awaits x
  between x y from less is = by (order least x) refl where
    back : order least x ≡ Less → order x y ≡ Greater
    back below = ap (option_cmp awaited_cmp x.awaited) is ∙ option_awaited_total.antisymm x.awaited a ∙ ap ordering_reverse below

    by : (r : Ordering) → order least x ≡ r → Awaits x
    by Less e = absurd (let no : ordering_then (order x y) (nat_cmp x.due y.due) ≡ Greater = ap (λ r. ordering_then r (nat_cmp x.due y.due)) (back e) in cc (no, less))
    by Equal e = sym (option_awaited_exact a x.awaited e)
    by Greater e = absurd (let no : is_from x ≡ false = ap (λ r. is_le (ordering_then r (nat_cmp 0 x.due)) && true) e in cc (no, from))

  pub at_least : (whole before : List Wake) → IsStrictlySortedBy wake_cmp whole → Walked (λ w. w) Awaits whole before (filter is_from whole) before × MayStop Awaits (filter is_from whole)
  at_least whole before sorted = (
    λ w. (
      λ h. elim h [
        | inl old ↦ inl old
        | inr ahead ↦ inr (from_passing is_from whole w ahead.0, ahead.1)
      ],
      λ h. elim h [
        | inl old ↦ inl old
        | inr ahead ↦ inr (passing is_from whole w (from_least w ahead.1) ahead.0, ahead.1)
      ],
    ),
    may_stop wake_cmp Awaits (λ w. is_from w ≡ true) between (filter is_from whole) (IsStrictlySortedBy-filter wake_cmp is_from whole sorted)
        (recursion_from_All (λ w. is_from w ≡ true) (filter is_from whole) (filter_passes is_from whole)),
  )

pub same_wake : (k copy : Wake) → copy ≡ k → (w : Wake) → (k ≡ w) ↔ (w ≡ copy)
same_wake k copy copied w = (λ e. sym e ∙ sym copied, λ e. sym copied ∙ sym e)

-- ---- by time

module _ (time : ℕ) where
  abbrev pub IsDue : Due → Type 0
  IsDue d = d.time ≤ time

  earlier : (x y : Due) → ⊤ → due_cmp x y ≡ Less → IsDue y → IsDue x
  earlier x y any less due = by (nat_cmp x.time y.time) refl where
    by : (r : Ordering) → nat_cmp x.time y.time ≡ r → IsDue x
    by Less e = omega (arith, due, ranked x.time y.time Less (sym e))
    by Equal e = omega (arith, due, ranked x.time y.time Equal (sym e))
    by Greater e = absurd (let no : due_cmp x y ≡ Greater = ap (λ r. ordering_then r (option_cmp awaited_cmp x.awaited y.awaited)) e in cc (no, less))

  pub from_first : (whole : List Due) (before : List Wake) → IsStrictlySortedBy due_cmp whole → Walked due_of IsDue whole before whole before × MayStop IsDue whole
  from_first whole before sorted = (λ w. (λ h. h, λ h. h), may_stop due_cmp IsDue (λ d. ⊤) earlier whole sorted (of_each (λ d. ⊤) (λ d. tt) whole))

pub same_due : (k : Due) (awaited : Option Awaited) → awaited ≡ k.awaited → (w : Wake) → (k ≡ due_of w) ↔ (w ≡ record { awaited = awaited; due = k.time })
same_due k awaited copied w = (
  λ e.
      let what : w.awaited ≡ awaited = sym (ap (λ (d : Due). d.awaited) e) ∙ sym copied in
      let when : w.due ≡ k.time = sym (ap (λ (d : Due). d.time) e) in
      λ i. record { awaited = what i; due = when i },
  λ e.
      let what : k.awaited ≡ w.awaited = sym copied ∙ sym (ap (λ (v : Wake). v.awaited) e) in
      let when : k.time ≡ w.due = sym (ap (λ (v : Wake). v.due) e) in
      λ i. record { time = when i; awaited = what i },
)
