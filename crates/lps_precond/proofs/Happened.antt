-- Sets of facts with events put in.
use Rattle.std.proofs.Common.{Bool, true, false, ◌≡◌, List, [], refl, subst, sym, ◌∙◌, inl, inr}
use Rattle.std.specs.Prelude.{◌↔◌, ◌⊎◌, Contains, if◌then◌else◌}
use Rattle.lps_model.proofs.Elements.{nothing_contained}
use Rattle.lps_terms.specs.declared.atom.Atom.{Atom}
use Rattle.lps_facts.specs.Facts.{TrailedSet, is_among, members, with_facts}
use Rattle.lps_facts.proofs.Sequences.{members_with_all}
use Rattle.lps_solve.proofs.Facts.{among_contains, contains_among}

in_either : (new old : Bool) → (if new then true else old) ≡ true → (old ≡ true) ⊎ (new ≡ true)
in_either true old e = inr refl
in_either false old e = inl e

is_in_either : (new old : Bool) → (old ≡ true) ⊎ (new ≡ true) → (if new then true else old) ≡ true
is_in_either true old e = refl
is_in_either false old (inl e) = e
is_in_either false old (inr e) = absurd (cc)

-- exactly the facts and the events are in the set with the events
pub with_events : (facts : TrailedSet) (events : List Atom) (a : Atom) → Contains (members (with_facts true events facts)) a ↔ (Contains (members facts) a ⊎ Contains events a)
with_events facts events a = (
  λ h. elim (in_either (is_among events a) (is_among (members facts) a) (sym (members_with_all true events facts a) ∙ among_contains a (members (with_facts true events facts)) h)) [
    | inl old ↦ inl (contains_among a (members facts) old)
    | inr new ↦ inr (contains_among a events new)
  ],
  λ h. contains_among a (members (with_facts true events facts)) (members_with_all true events facts a ∙ is_in_either (is_among events a) (is_among (members facts) a) (tests h)),
)
  where
    tests : Contains (members facts) a ⊎ Contains events a → (is_among (members facts) a ≡ true) ⊎ (is_among events a ≡ true)
    tests (inl old) = inl (among_contains a (members facts) old)
    tests (inr new) = inr (among_contains a events new)

-- where the set was empty exactly the events are in it then
pub in_set : (events : List Atom) (old new : TrailedSet) → old.base ≡ [] → old.changes ≡ [] → new ≡ with_facts true events old → (a : Atom) → Contains (members new) a ↔ Contains events a
in_set events old new no_base no_changes is a =
    let empty : members old ≡ [] = λ i. members (record { base = no_base i; changes = no_changes i }) in (
      λ h. elim ((with_events old events a).0 (subst (λ (set : TrailedSet). Contains (members set) a) is h)) [
        | inl before ↦ absurd (nothing_contained a (subst (λ (facts : List Atom). Contains facts a) empty before))
        | inr here ↦ here
      ],
      λ h. subst (λ (set : TrailedSet). Contains (members set) a) (sym is) ((with_events old events a).1 (inr h)),
    )
