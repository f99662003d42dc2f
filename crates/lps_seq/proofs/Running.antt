-- All that steps lead to, from nothing found and no variables.
use Rattle.std.proofs.Common.{ℕ, ◌≡◌, ◌≤◌, false, List, [], ◌∷◌, ◌++◌, sym, subst, ◌∙◌, inl, inr, arith}
use Rattle.std.specs.Prelude.{Contains, Err, IfOk, Ok, Result}
use Rattle.std.specs.List.Sorted.{IsStrictlySortedBy}
use Rattle.std.specs.declared.alloc.AllocError.{AllocError}
use Rattle.lps_terms.specs.declared.term.Term.{Term}
use Rattle.lps_facts.proofs.Sets.{true_not_false}
use Rattle.lps_model.proofs.Elements.{nothing_contained}
use Rattle.lps_unify.specs.declared.added.Added.{Added}
use Rattle.lps_unify.specs.declared.added.Added.TheVariants.{Bind, More}
use Rattle.lps_unify.specs.Bindings.{AreNext, IsLawful, SolvesAll, Standing, TrailedBindings, count_of, next, over, start}
use Rattle.lps_solve.proofs.Entering.{opened_count}
use Rattle.lps_meeting.specs.declared.moment.Moment.{Moment}
use Rattle.lps_meeting.specs.declared.stage.Stage.{Stage}
use Rattle.lps_meeting.specs.Steps.{IsFresh}
use Rattle.lps_seq.specs.declared.found.Found.{Found}
use Rattle.lps_seq.specs.declared.stepped.Stepped.{Stepped}
use Rattle.lps_seq.specs.Carries.{carry_cmp}
use Rattle.lps_seq.specs.Found.{AreOnce}
use Rattle.lps_seq.specs.Leads.{IsAllLed, Leads}

-- ---- bindings

count_grows : (st : Standing) (added : List Added) → st.count ≤ (over st added).count
count_grows st [] = omega arith
count_grows st (Bind v u ∷ added) = count_grows (next st (Bind v u)) added
count_grows st (More n ∷ added) = let more = count_grows (next st (More n)) added in omega (arith, more)

-- where there are no variables none is bound
none_bound : (s : ℕ → Term) (st : Standing) (added : List Added) → AreNext st added → (over st added).count ≡ 0 → SolvesAll s added
none_bound s st [] lawful none = tt
none_bound s st (Bind v u ∷ added) lawful none =
    absurd (let below = lawful.0.in_range in let more = count_grows (next st (Bind v u)) added in omega (arith, below, more, none))
none_bound s st (More n ∷ added) lawful none = none_bound s (next st (More n)) added lawful.1 none

solves_more : (s : ℕ → Term) (added : List Added) (n : ℕ) → SolvesAll s added → SolvesAll s (added ++ More n ∷ [])
solves_more s [] n h = tt
solves_more s (Bind v u ∷ added) n h = (h.0, solves_more s added n h.1)
solves_more s (More k ∷ added) n h = solves_more s added n h

pub fresh : (variables : ℕ) (b new : TrailedBindings) → IsLawful b → count_of b ≡ 0 → new ≡ record { first = b.first; added = b.added ++ More variables ∷ [] } → IsFresh variables new
fresh variables b new lawful none is = subst (IsFresh variables) (sym is) (record {
  count = let more = opened_count b variables in omega (arith, more, none);
  free = λ s. solves_more s b.added variables (none_bound s (start b.first) b.added lawful none);
})

-- ---- what is given

given : (m : Moment) (stage : Stage) (old found : Found) (s : Stepped) → old.nodes.items ≡ [] → old.ended.keys ≡ [] → Leads m stage old found → s.nodes.items ≡ found.nodes.items →
    s.ended.items ≡ found.ended.keys → IsStrictlySortedBy carry_cmp s.ended.items → s.cut ≡ false → IsAllLed m stage s
given m stage old found s no_nodes no_carries leads nodes ended sorted cut level trace x is depth =
    let adds = leads level trace x is depth in
    record {
      nodes = record {
        once = subst AreOnce (sym nodes) (adds.once (subst AreOnce (sym no_nodes) (λ i j y at_i at_j. cc)));
        exact = λ o. (
          λ h. elim ((adds.nodes o).0 (subst (λ ns. Contains ns o) nodes h)) [
            | inl was ↦ absurd (nothing_contained o (subst (λ ns. Contains ns o) no_nodes was))
            | inr led ↦ led
          ],
          λ led. subst (λ ns. Contains ns o) (sym nodes) ((adds.nodes o).1 (inr led)),
        );
      };
      sorted = sorted;
      exact = λ c. (
        λ h. elim ((adds.ended c).0 (subst (λ cs. Contains cs c) ended h)) [
          | inl was ↦ absurd (nothing_contained c (subst (λ cs. Contains cs c) no_carries was))
          | inr led ↦ led
        ],
        λ led. subst (λ cs. Contains cs c) (sym ended) ((adds.ended c).1 (inr led)),
      );
      cut = λ e. true_not_false (sym e ∙ cut);
      uncut = λ e f. f;
    }

pub all_led : (m : Moment) (stage : Stage) (old found : Found) → old.nodes.items ≡ [] → old.ended.keys ≡ [] → Leads m stage old found → (r : Result Stepped AllocError) →
    IfOk r (λ s. s.nodes.items ≡ found.nodes.items) → IfOk r (λ s. s.ended.items ≡ found.ended.keys) → IfOk r (λ s. IsStrictlySortedBy carry_cmp s.ended.items) → IfOk r (λ s. s.cut ≡ false) →
    IfOk r (IsAllLed m stage)
all_led m stage old found no_nodes no_carries leads (Ok s) nodes ended sorted cut = given m stage old found s no_nodes no_carries leads nodes ended sorted cut
all_led m stage old found no_nodes no_carries leads (Err e) nodes ended sorted cut = tt
