-- States and runs that grow: the symbols of a state after are at most those before and of what is new, and a run goes on within its limits.
use Rattle.std.proofs.Common.{ℕ, ◌≡◌, ◌≤◌, ◌+◌, ◌⊎◌, ◌∙◌, List, [], ◌∷◌, ◌++◌, sym, subst, arith, inl, inr, append_assoc}
use Rattle.std.specs.Prelude.{Contains, sum_by}
use Rattle.std.specs.declared.cmp.Ordering.{Ordering}
use Rattle.std.specs.declared.cmp.Ordering.TheVariants.{Less, Equal}
use Rattle.std.specs.Cmp.{IsTotalOrder}
use Rattle.std.specs.List.Sorted.{IsStrictlySortedBy}
use Rattle.std.proofs.lemmas.Cmp.{tied_itself}
use Rattle.std.proofs.lemmas.List.Elements.{All-contains, All-from_recursion, Contains-append_left, Contains-append_right}
use Rattle.std.proofs.lemmas.List.Sums.{sum_by-append, sum_by-cons}
use Rattle.std.proofs.lemmas.Map.Keys.{sorted_head, sorted_tail}
use Rattle.lps_terms.specs.declared.atom.Atom.{Atom}
use Rattle.lps_terms.specs.declared.text.Text.{Text}
use Rattle.lps_terms.specs.Order.{atom_cmp}
use Rattle.lps_terms.specs.OrderLaws.{atom_cmp_total}
use Rattle.lps_terms.specs.Symbols.{atom_symbols_of}
use Rattle.lps_model.specs.declared.cycle.Cycle.{Cycle}
use Rattle.lps_model.specs.declared.trace.Trace.{Trace}
use Rattle.lps_model.specs.Run.{first_trace}
use Rattle.lps_model.specs.Trace.{then_cycle}
use Rattle.lps_model.proofs.Elements.{first_is_contained, first_or_later, later_is_contained, nothing_contained}
use Rattle.lps_sizes.specs.Sizes.{atoms_size}
use Rattle.lps_limits.specs.Limits.{AreWithin, IsWithin, StaysWithin}
use Rattle.lps_limits.specs.Sizes.{state_size}

-- ---- sums

module _ {X : Type 0} (f : X → ℕ) where
  -- what is left of a list without one element
  record IsLeft (xs : List X) (x : X) (rest : List X) : Type 0 where
    size : sum_by f xs ≡ f x + sum_by f rest
    among : (y : X) → Contains xs y → (y ≡ x) ⊎ Contains rest y

  left : (xs : List X) (x : X) → Contains xs x → (rest : List X) × IsLeft xs x rest
  left [] x h = absurd (nothing_contained x h)
  left (y ∷ xs) x h = elim (first_or_later y xs x h) [
    | inl same ↦ (xs, subst (λ z. IsLeft (y ∷ xs) z xs) same (record { size = sum_by-cons f y xs; among = λ z m. elim (first_or_later y xs z m) [ inl e ↦ inl (sym e) | inr later ↦ inr later ] }))
    | inr later ↦ let m = left xs x later in (
      y ∷ m.0,
      record {
        size = omega (arith, sum_by-cons f y xs, sum_by-cons f y m.0, m.1.size);
        among = λ z n. elim (first_or_later y xs z n) [
          | inl e ↦ inr (subst (Contains (y ∷ m.0)) e (first_is_contained y m.0))
          | inr more ↦ elim (m.1.among z more) [ inl e ↦ inl e | inr rest ↦ inr (later_is_contained y m.0 z rest) ]
        ];
      },
    )
  ]

  module _ {cmp : X → X → Ordering} (total : IsTotalOrder cmp) where
    new_first : (x : X) (xs : List X) → IsStrictlySortedBy cmp (x ∷ xs) → Contains xs x → ⊥
    new_first x xs sorted h =
        let less = All-contains (λ y. cmp x y ≡ Less) xs x (All-from_recursion (λ y. cmp x y ≡ Less) xs (sorted_head cmp x xs sorted)) h in
        let tie = tied_itself total x in
        apart (sym less ∙ tie)
      where
        apart : Less ≡ Equal → ⊥
        apart e = cc

    -- a sorted list of elements of another has no greater sum
    pub sum_within : (xs ys : List X) → IsStrictlySortedBy cmp xs → ((x : X) → Contains xs x → Contains ys x) → sum_by f xs ≤ sum_by f ys
    sum_within [] ys sorted within = none (sum_by f ys)
      where
        none : (n : ℕ) → 0 ≤ n
        none n = omega arith
    sum_within (x ∷ xs) ys sorted within =
        let m = left ys x (within x (first_is_contained x xs)) in
        let rest = sum_within xs m.0 (sorted_tail cmp x xs sorted) (λ y h. elim (m.1.among y (within y (later_is_contained x xs y h))) [
          | inl e ↦ absurd (new_first x xs sorted (subst (Contains xs) e h))
          | inr more ↦ more
        ]) in
        omega (arith, sum_by-cons f x xs, m.1.size, rest)

-- ---- states

-- the state after has at most the symbols of the state before and of what is new
pub state_grows : (before begun after : List Atom) → IsStrictlySortedBy atom_cmp after → ((a : Atom) → Contains after a → Contains before a ⊎ Contains begun a) →
    state_size after ≤ state_size before + atoms_size begun
state_grows before begun after sorted among =
    let both = sum_within atom_symbols_of atom_cmp_total after (before ++ begun) sorted (λ a h. elim (among a h) [
      | inl old ↦ Contains-append_left before begun a old
      | inr new ↦ Contains-append_right before begun a new
    ]) in
    omega (arith, both, sum_by-append atom_symbols_of before begun)

-- ---- runs

module _ (text : Text) (level : List ℕ → ℕ) (depth keep : ℕ) where
  within_more : (before : Trace) (cycles : List Cycle) (cycle : Cycle) → AreWithin text level depth keep before cycles →
      IsWithin text level depth keep (record { initial = before.initial; cycles = before.cycles ++ (cycles ++ cycle ∷ []) }) → AreWithin text level depth keep before (cycles ++ cycle ∷ [])
  within_more before [] cycle all one = (all, one)
  within_more before (first ∷ cycles) cycle all one = (
    all.0,
    within_more (then_cycle before first) cycles cycle all.1
        (subst (λ (cs : List Cycle). IsWithin text level depth keep (record { initial = before.initial; cycles = cs })) (sym (append_assoc before.cycles (first ∷ []) (cycles ++ cycle ∷ []))) one),
  )

  -- a run within its limits goes on by a cycle that is within them
  pub stays_within : (trace : Trace) (cycle : Cycle) → StaysWithin text level depth keep trace → IsWithin text level depth keep (then_cycle trace cycle) → StaysWithin text level depth keep (then_cycle trace cycle)
  stays_within trace cycle all one = within_more (first_trace trace.initial) trace.cycles cycle all one
