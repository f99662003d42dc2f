-- The first proposal of a goal that is admitted is its first offer.
use Rattle.std.proofs.Common.{◌≡◌, ℕ, List, [], ◌∷◌, ◌++◌, map, refl, sym, ap, subst, ◌∙◌, inl, inr}
use Rattle.std.specs.Prelude.{Contains}
use Rattle.std.specs.declared.cmp.Ordering.{Ordering}
use Rattle.std.specs.declared.cmp.Ordering.TheVariants.{Less, Equal, Greater}
use Rattle.std.specs.Cmp.{IsTotalOrder}
use Rattle.std.specs.FinMap.{nat_cmp-IsAntisymmetric, slice_cmp-IsAntisymmetric}
use Rattle.std.specs.List.Sorted.{IsStrictlySortedBy}
use Rattle.std.specs.Ordering.{ordering_reverse}
use Rattle.std.proofs.lemmas.Cmp.{then_total, on_total, lists_total, nat_cmp_total}
use Rattle.std.proofs.lemmas.List.Elements.{All-from_recursion, All-contains}
use Rattle.std.proofs.lemmas.Map.Keys.{sorted_head, sorted_tail}
use Rattle.lps_terms.specs.declared.atom.Atom.{Atom}
use Rattle.lps_terms.specs.declared.text.Text.{Text}
use Rattle.lps_terms.specs.OrderLaws.{atom_cmp_total, atom_cmp-IsAntisymmetric}
use Rattle.lps_model.specs.declared.cycle.Group.{Group}
use Rattle.lps_model.specs.declared.cycle.Pick.{Pick}
use Rattle.lps_model.specs.declared.trace.Trace.{Trace}
use Rattle.lps_model.proofs.Elements.{first_or_later, first_is_contained, later_is_contained}
use Rattle.lps_meaning.specs.declared.goal.GoalKey.{GoalKey}
use Rattle.lps_meaning.specs.Denials.{ViolatesNumber}
use Rattle.lps_meaning.specs.Plain.{Ranked, ranked_cmp, IsOffer, IsFirstOffer}
use Rattle.lps_meaning.proofs.Numbers.{both_equal}
use Rattle.lps_choice.specs.Choices.{Choice, Admits, Refuses, events_with}
use Rattle.lps_choice.specs.Passes.{IsFirst}
use Rattle.lps_choice.specs.Standing.{AreProposals, IsChoiceOf}
use Rattle.lps_choice.proofs.Carried.{group_of, admitted_in_text, refused_in_text}

-- ---- the order of proposals

ranked_cmp_total : IsTotalOrder ranked_cmp
ranked_cmp_total = then_total (on_total (λ r. r.alternative) nat_cmp_total)
    (then_total (on_total (λ r. r.rank) (lists_total nat_cmp_total)) (on_total (λ r. r.group) (lists_total atom_cmp_total)))

ranked_same : (a b : Ranked) → ranked_cmp a b ≡ Equal → a ≡ b
ranked_same a b e =
    let alternative = both_equal _ _ e in
    let rank = both_equal _ _ alternative.1 in
    let n : a.alternative ≡ b.alternative = nat_cmp-IsAntisymmetric _ _ alternative.0 in
    let r : a.rank ≡ b.rank = slice_cmp-IsAntisymmetric nat_cmp-IsAntisymmetric _ _ rank.0 in
    let g : a.group ≡ b.group = slice_cmp-IsAntisymmetric atom_cmp-IsAntisymmetric _ _ rank.1 in
    λ i. record { alternative = n i; rank = r i; group = g i }

not_both_ways : (a b : Ranked) → ranked_cmp a b ≡ Less → ranked_cmp b a ≡ Less → ⊥
not_both_ways a b less more = let back : ranked_cmp a b ≡ Greater = ranked_cmp_total.antisymm a b ∙ ap ordering_reverse more in cc

not_below_itself : (a : Ranked) → ranked_cmp a a ≡ Less → ⊥
not_below_itself a less = not_both_ways a a less less

above_first : (q : Ranked) (qs : List Ranked) (r : Ranked) → IsStrictlySortedBy ranked_cmp (q ∷ qs) → Contains qs r → ranked_cmp q r ≡ Less
above_first q qs r sorted among =
    All-contains (λ s. ranked_cmp q s ≡ Less) qs r (All-from_recursion (λ s. ranked_cmp q s ≡ Less) qs (sorted_head ranked_cmp q qs sorted)) among

-- ---- the first that is admitted

-- the proposal is admitted, and each before it is refused
record IsFirstOf (choice : Choice) (made : List Pick) (ranked : List Ranked) (group : Group) (r : Ranked) : Type 0 where
  among : Contains ranked r
  of_group : group ≡ group_of r
  admitted : Admits choice made (group_of r)
  before : (s : Ranked) → Contains ranked s → ranked_cmp s r ≡ Less → Refuses choice made (group_of s)

module _ (choice : Choice) (made : List Pick) where
  first_of : (ranked : List Ranked) (group : Group) → IsStrictlySortedBy ranked_cmp ranked → IsFirst choice made (map group_of ranked) group →
      (r : Ranked) × IsFirstOf choice made ranked group r
  first_of [] group sorted h = absurd h
  first_of (q ∷ qs) group sorted (inl h) = (
    q,
    record {
      among = first_is_contained q qs;
      of_group = h.0;
      admitted = h.1;
      before = λ s among less. elim (first_or_later q qs s among) [
        | inl same ↦ absurd (not_below_itself q (subst (λ t. ranked_cmp t q ≡ Less) (sym same) less))
        | inr later ↦ absurd (not_both_ways q s (above_first q qs s sorted later) less)
      ];
    },
  )
  first_of (q ∷ qs) group sorted (inr h) =
      let found = first_of qs group (sorted_tail ranked_cmp q qs sorted) h.1 in (
        found.0,
        record {
          among = later_is_contained q qs found.0 found.1.among;
          of_group = found.1.of_group;
          admitted = found.1.admitted;
          before = λ s among less. elim (first_or_later q qs s among) [
            | inl same ↦ subst (λ t. Refuses choice made (group_of t)) same h.0
            | inr later ↦ found.1.before s later less
          ];
        },
      )

module _ (text : Text) (level : List ℕ → ℕ) (depth : ℕ) (trace : Trace) (keys : List GoalKey) (before : List Atom) (choice : Choice)
    (stands : IsChoiceOf text level depth trace keys before choice) where
  -- the first of the proposals of a goal that is admitted is an offer before which there is none
  pub first_is_offer : (made : List Pick) (events : List Atom) (key : GoalKey) (groups : List Group) (group : Group) → events_with choice made ≡ events →
      AreProposals text level depth trace key groups → IsFirst choice made groups group →
      (r : Ranked) × (group ≡ group_of r) × IsFirstOffer text level depth trace keys key events r
  first_is_offer made events key groups group same are first =
      let found = first_of choice made are.ranked group are.sorted (subst (λ gs. IsFirst choice made gs group) are.told first) in
      let is = are.each found.0 found.1.among in (
        found.0,
        found.1.of_group,
        (
          record {
            proposal = is.proposal;
            alternative = is.alternative;
            of_rank = is.of_rank;
            admissible = admitted_in_text text level depth trace keys before choice stands made events (group_of found.0) same found.1.admitted;
          },
          λ other offer less. none_before found.0 found.1 other offer less,
        ),
      )
    where
      none_before : (r : Ranked) → IsFirstOf choice made are.ranked group r → (other : Ranked) → IsOffer text level depth trace keys key events other → ranked_cmp other r ≡ Less → ⊥
      none_before r is other offer less =
          let listed = are.first other (record { proposal = offer.proposal; alternative = offer.alternative; of_rank = offer.of_rank }) in
          by listed.0 listed.1 listed.2 listed.3 (ranked_cmp listed.0 r) refl
        where
          by : (s : Ranked) → Contains are.ranked s → s.group ≡ other.group → (ranked_cmp other s ≡ Less → ⊥) → (o : Ordering) → ranked_cmp s r ≡ o → ⊥
          by s among of_group not_below Less e =
              let refused = refused_in_text text level depth trace keys before choice stands made events (group_of s) same (is.before s among e) in
              offer.admissible refused.0 (subst (λ (atoms : List Atom). ViolatesNumber text level trace (events ++ atoms) refused.0) of_group refused.1)
          by s among of_group not_below Equal e = not_below (subst (λ t. ranked_cmp other t ≡ Less) (sym (ranked_same s r e)) less)
          by s among of_group not_below Greater e =
              let over : ranked_cmp r s ≡ Less = ranked_cmp_total.antisymm r s ∙ ap ordering_reverse e in
              not_below (ranked_cmp_total.trans other r s less over)
