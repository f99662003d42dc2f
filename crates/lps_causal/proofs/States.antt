-- The effects of what happens in a cycle make the state after it of the state before it.
use Rattle.std.proofs.Common.{ℕ, suc, Bool, true, false, ◌≡◌, List, [], ◌∷◌, ◌++◌, length, refl, sym, ap, subst, ◌∙◌, inl, inr, arith}
use Rattle.std.specs.Prelude.{◌⊎◌, ◌↔◌, ◌&&◌, ◌||◌, not, Contains, Some, if◌then◌else◌, slice_get}
use Rattle.std.specs.List.Sorted.{IsStrictlySortedBy}
use Rattle.lps_terms.specs.declared.atom.Atom.{Atom}
use Rattle.lps_terms.specs.declared.effects.Effects.{Effects}
use Rattle.lps_terms.specs.declared.text.Text.{Text}
use Rattle.lps_terms.specs.Order.{atom_cmp}
use Rattle.lps_facts.specs.Facts.{TrailedSet, is_among, members, then_change, will_change, with_effects, with_fact, with_facts}
use Rattle.lps_facts.proofs.Sets.{changed_sorted}
use Rattle.lps_facts.proofs.Sequences.{members_change, members_with_effects}
use Rattle.lps_model.specs.declared.cycle.Cycle.{Cycle}
use Rattle.lps_model.specs.declared.trace.Trace.{Trace}
use Rattle.lps_model.specs.Trace.{cycle_or_none, events_at, happens_in, then_cycle}
use Rattle.lps_model.proofs.Growth.{same_first}
use Rattle.lps_solve.proofs.Facts.{among_contains, contains_among}
use Rattle.lps_meaning.specs.Holds.{Causes, CausedIn, Ends, Holds, Initiated}
use Rattle.lps_meaning.specs.Reports.{IsState}
use Rattle.lps_meaning.proofs.Persistence.{causes_same, turn, update_law}
use Rattle.lps_meaning.proofs.Prefixes.{holds_same}
use Rattle.lps_causal.specs.Effects.{AreEffects}

-- ---- the set stays in order

pub sorted_with : (inserted : Bool) (fact : Atom) (facts : TrailedSet) → IsStrictlySortedBy atom_cmp (members facts) → IsStrictlySortedBy atom_cmp (members (with_fact inserted fact facts))
sorted_with inserted fact facts sorted = by (will_change inserted (is_among (members facts) fact))
  where
    by : (will : Bool) → IsStrictlySortedBy atom_cmp (members (if will then then_change facts inserted fact else facts))
    by true = subst (IsStrictlySortedBy atom_cmp) (sym (members_change facts inserted fact)) (changed_sorted inserted fact (members facts) sorted)
    by false = sorted

pub sorted_with_all : (inserted : Bool) (atoms : List Atom) (facts : TrailedSet) → IsStrictlySortedBy atom_cmp (members facts) →
    IsStrictlySortedBy atom_cmp (members (with_facts inserted atoms facts))
sorted_with_all inserted [] facts sorted = sorted
sorted_with_all inserted (atom ∷ atoms) facts sorted = sorted_with_all inserted atoms (with_fact inserted atom facts) (sorted_with inserted atom facts sorted)

pub sorted_with_effects : (effects : Effects) (facts : TrailedSet) → IsStrictlySortedBy atom_cmp (members facts) → IsStrictlySortedBy atom_cmp (members (with_effects effects facts))
sorted_with_effects effects facts sorted =
    sorted_with_all true effects.initiated (with_facts false effects.terminated facts) (sorted_with_all false effects.terminated facts sorted)

-- ---- what stands in the set

-- the parts of `new || (held && not gone)`
pub put_or_kept : (new held gone : Bool) → (new || (held && not gone)) ≡ true → (new ≡ true) ⊎ ((held ≡ true) × (gone ≡ true → ⊥))
put_or_kept true held gone h = inl refl
put_or_kept false true false h = inr (refl, λ e. cc)
put_or_kept false true true h = absurd (cc)
put_or_kept false false gone h = absurd (cc)

pub kept_or_gone : (new held gone : Bool) → held ≡ true → (gone ≡ true → new ≡ true) → (new || (held && not gone)) ≡ true
kept_or_gone true held gone h back = refl
kept_or_gone false true false h back = refl
kept_or_gone false true true h back = absurd (let no : false ≡ true = back refl in cc)
kept_or_gone false false gone h back = absurd (cc)

pub put_in : (new held gone : Bool) → new ≡ true → (new || (held && not gone)) ≡ true
put_in true held gone h = refl
put_in false held gone h = absurd (cc)

slice_get-last : {X : Type 0} (xs : List X) (x : X) → slice_get (xs ++ x ∷ []) (length xs) ≡ Some x
slice_get-last [] x = refl
slice_get-last (y ∷ xs) x = slice_get-last xs x

module _ (text : Text) (level : List ℕ → ℕ) (trace : Trace) (cycle : Cycle) where
  abbrev now : ℕ
  now = length trace.cycles

  abbrev longer : Trace
  longer = then_cycle trace cycle

  happened : events_at longer (suc now) ≡ happens_in cycle
  happened = ap (λ found. happens_in (cycle_or_none found)) (slice_get-last trace.cycles cycle)

  held_before : (a : Atom) → Holds text level trace now a ↔ Holds text level longer now a
  held_before a = holds_same text level now trace longer (same_first trace cycle) now (omega arith) a

  pub state_stays : (facts : List Atom) → IsState text level trace now facts → IsState text level longer now facts
  state_stays facts state = record {
    sorted = state.sorted;
    exact = λ a. ((λ among. (held_before a).0 ((state.exact a).0 among)), (λ h. (state.exact a).1 ((held_before a).1 h)));
  }

  -- over the listed state the cycle causes what it causes in the trace
  pub caused : (facts : List Atom) → IsState text level trace now facts → (initiates : Bool) (a : Atom) →
      Causes text level initiates (Contains facts) (happens_in cycle) a ↔ CausedIn text level longer (Holds text level longer) initiates (suc now) a
  caused facts state initiates a =
      let there = (state_stays facts state).exact in (
        (λ h. causes_same text level initiates (Contains facts) (Holds text level longer now) there (events_at longer (suc now)) a
            (subst (λ (events : List Atom). Causes text level initiates (Contains facts) events a) (sym happened) h)),
        (λ h. subst (λ (events : List Atom). Causes text level initiates (Contains facts) events a) happened
            (causes_same text level initiates (Holds text level longer now) (Contains facts) (λ b. turn (there b)) (events_at longer (suc now)) a h)),
      )

  module _ (facts : TrailedSet) (effects : Effects) (state : IsState text level trace now (members facts))
      (are : AreEffects text level (members facts) (happens_in cycle) effects) where
    initiated : (a : Atom) → Contains effects.initiated a ↔ Initiated text level longer (suc now) a
    initiated a =
        let same = caused (members facts) state true a in
        ((λ h. same.0 ((are.initiated a).0 h)), (λ h. (are.initiated a).1 (same.1 h)))

    ends : (a : Atom) → Contains effects.terminated a ↔ Ends text level longer (suc now) a
    ends a =
        let gone = caused (members facts) state false a in
        let new = caused (members facts) state true a in (
          (λ h. let both = (are.terminated a).0 h in (gone.0 both.0, λ i. both.1 (new.1 i))),
          (λ h. (are.terminated a).1 (gone.1 h.0, λ i. h.1 (new.0 i))),
        )

    before : (a : Atom) → Contains (members facts) a ↔ Holds text level longer now a
    before a = (state_stays (members facts) state).exact a

    there : (a : Atom) → Contains (members (with_effects effects facts)) a → Holds text level longer (suc now) a
    there a h =
        let among : (is_among effects.initiated a || (is_among (members facts) a && not (is_among effects.terminated a))) ≡ true =
        sym (members_with_effects effects facts a) ∙ among_contains a (members (with_effects effects facts)) h in
        (update_law text level longer a now).1
        (elim (put_or_kept (is_among effects.initiated a) (is_among (members facts) a) (is_among effects.terminated a) among) [
          | inl new ↦ inl ((initiated a).0 (contains_among a effects.initiated new))
          | inr kept ↦ inr ((before a).0 (contains_among a (members facts) kept.0), λ e. kept.1 (among_contains a effects.terminated ((ends a).1 e)))
        ])

    not_gone : (a : Atom) → (Ends text level longer (suc now) a → ⊥) → is_among effects.terminated a ≡ true → is_among effects.initiated a ≡ true
    not_gone a stays gone = absurd (stays ((ends a).0 (contains_among a effects.terminated gone)))

    back : (a : Atom) → Holds text level longer (suc now) a → Contains (members (with_effects effects facts)) a
    back a h =
        contains_among a (members (with_effects effects facts))
        (members_with_effects effects facts a
        ∙ elim ((update_law text level longer a now).0 h) [
          | inl new ↦ put_in (is_among effects.initiated a) (is_among (members facts) a) (is_among effects.terminated a) (among_contains a effects.initiated ((initiated a).1 new))
          | inr kept ↦ kept_or_gone (is_among effects.initiated a) (is_among (members facts) a) (is_among effects.terminated a)
              (among_contains a (members facts) ((before a).1 kept.0)) (not_gone a kept.1)
        ])

    pub next_state : IsState text level longer (suc now) (members (with_effects effects facts))
    next_state = record { sorted = sorted_with_effects effects facts state.sorted; exact = λ a. (there a, back a) }
