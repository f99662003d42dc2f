-- One change more on the trail, and one taken back.
use Rattle.std.proofs.Common.{◌≡◌, ◌-◌, Bool, true, List, [], ◌∷◌, ◌++◌, length, take, arith, refl, sym, ap, subst, ◌∙◌}
use Rattle.std.proofs.lemmas.List.{length-append, take-append-le, take_all}
use Rattle.std.specs.Prelude.{not}
use Rattle.std.specs.List.Sorted.{IsStrictlySortedBy}
use Rattle.std.specs.Map.{keys_of}
use Rattle.lps_terms.specs.declared.atom.Atom.{Atom}
use Rattle.lps_terms.specs.Order.{atom_cmp}
use Rattle.lps_facts.specs.declared.change.Change.{Change}
use Rattle.lps_facts.specs.Facts.{is_among, changed, after}
use Rattle.lps_facts.specs.Trail.{knows, present, before, AreChanges, KnowsAll, Stands}
use Rattle.lps_facts.proofs.Sets.{changed_sorted, changed_back}
use Rattle.lps_facts.proofs.Present.{present_sorted}

pub after-append : (facts : List Atom) (xs ys : List Change) → after facts (xs ++ ys) ≡ after (after facts xs) ys
after-append facts [] ys = refl
after-append facts (x ∷ xs) ys = after-append (changed x.inserted x.fact facts) xs ys

before-append : (facts : List Atom) (xs ys : List Change) → before facts (xs ++ ys) ≡ before (before facts ys) xs
before-append facts [] ys = refl
before-append facts (x ∷ xs) ys = ap (changed (not x.inserted) x.fact) (before-append facts xs ys)

pub after_sorted : (facts : List Atom) (changes : List Change) → IsStrictlySortedBy atom_cmp facts → IsStrictlySortedBy atom_cmp (after facts changes)
after_sorted facts [] sorted = sorted
after_sorted facts (change ∷ changes) sorted = after_sorted (changed change.inserted change.fact facts) changes (changed_sorted change.inserted change.fact facts sorted)

before_sorted : (facts : List Atom) (changes : List Change) → IsStrictlySortedBy atom_cmp facts → IsStrictlySortedBy atom_cmp (before facts changes)
before_sorted facts [] sorted = sorted
before_sorted facts (change ∷ changes) sorted = changed_sorted (not change.inserted) change.fact (before facts changes) (before_sorted facts changes sorted)

-- ---- the last change

changes_more : (facts : List Atom) (xs : List Change) (x : Change) → AreChanges facts xs → is_among (after facts xs) x.fact ≡ not x.inserted → AreChanges facts (xs ++ x ∷ [])
changes_more facts [] x are new = (new, tt)
changes_more facts (y ∷ ys) x are new = (are.0, changes_more (changed y.inserted y.fact facts) ys x are.1 new)

changes_last : (facts : List Atom) (xs : List Change) (x : Change) → AreChanges facts (xs ++ x ∷ []) → AreChanges facts xs × (is_among (after facts xs) x.fact ≡ not x.inserted)
changes_last facts [] x are = (tt, are.0)
changes_last facts (y ∷ ys) x are = let rest = changes_last (changed y.inserted y.fact facts) ys x are.1 in ((are.0, rest.0), rest.1)

known_more : (entries : List (Atom × Bool)) (xs : List Change) (x : Change) → KnowsAll entries xs → knows entries x.fact ≡ true → KnowsAll entries (xs ++ x ∷ [])
known_more entries [] x all new = (new, tt)
known_more entries (y ∷ ys) x all new = (all.0, known_more entries ys x all.1 new)

pub known_last : (entries : List (Atom × Bool)) (xs : List Change) (x : Change) → KnowsAll entries (xs ++ x ∷ []) → KnowsAll entries xs × (knows entries x.fact ≡ true)
known_last entries [] x all = (tt, all.0)
known_last entries (y ∷ ys) x all = let rest = known_last entries ys x all.1 in ((all.0, rest.0), rest.1)

known_kept : (old new : List (Atom × Bool)) (xs : List Change) → ((q : Atom) → knows old q ≡ true → knows new q ≡ true) → KnowsAll old xs → KnowsAll new xs
known_kept old new [] kept all = tt
known_kept old new (x ∷ xs) kept all = (kept x.fact all.0, known_kept old new xs kept all.1)

-- ---- from entries to entries

module _ (old new : List (Atom × Bool)) (sorted : IsStrictlySortedBy atom_cmp (keys_of new)) (kept : (q : Atom) → knows old q ≡ true → knows new q ≡ true) where
  -- the same facts are present
  pub stands_same : (trail : List Change) → present new ≡ present old → Stands old trail → Stands new trail
  stands_same trail same stands = record {
    ordered = sorted;
    known = known_kept old new trail kept stands.known;
    changes = subst (λ (facts : List Atom). AreChanges (before facts trail) trail) (sym same) stands.changes;
    made = subst (λ (facts : List Atom). after (before facts trail) trail ≡ facts) (sym same) stands.made;
  }

  -- one change more
  module _ (trail : List Change) (change : Change) (stands : Stands old trail) (will : is_among (present old) change.fact ≡ not change.inserted)
      (done : present new ≡ changed change.inserted change.fact (present old)) where
    pub base_more : before (present new) (trail ++ change ∷ []) ≡ before (present old) trail
    base_more =
        before-append (present new) trail (change ∷ [])
        ∙ ap (λ (facts : List Atom). before facts trail)
        (ap (changed (not change.inserted) change.fact) done ∙ changed_back change.inserted change.fact (present old) (present_sorted old stands.ordered) will)

    pub stands_more : knows old change.fact ≡ true → Stands new (trail ++ change ∷ [])
    stands_more room = record {
      ordered = sorted;
      known = known_more new trail change (known_kept old new trail kept stands.known) (kept change.fact room);
      changes = subst (λ (facts : List Atom). AreChanges facts (trail ++ change ∷ [])) (sym base_more)
          (changes_more (before (present old) trail) trail change stands.changes (ap (λ (facts : List Atom). is_among facts change.fact) stands.made ∙ will));
      made =
          ap (λ (facts : List Atom). after facts (trail ++ change ∷ [])) base_more ∙ after-append (before (present old) trail) trail (change ∷ [])
          ∙ ap (changed change.inserted change.fact) stands.made ∙ sym done;
    }

  -- one change taken back
  module _ (trail : List Change) (change : Change) (stands : Stands old (trail ++ change ∷ []))
      (done : present new ≡ changed (not change.inserted) change.fact (present old)) where
    pub base_less : before (present new) trail ≡ before (present old) (trail ++ change ∷ [])
    base_less = ap (λ (facts : List Atom). before facts trail) done ∙ sym (before-append (present old) trail (change ∷ []))

    middle : List Atom
    middle = after (before (present old) (trail ++ change ∷ [])) trail

    pub stands_less : Stands new trail
    stands_less =
        let base = before (present old) (trail ++ change ∷ []) in
        let last = changes_last base trail change stands.changes in
        let base_order : IsStrictlySortedBy atom_cmp base = before_sorted (present old) (trail ++ change ∷ []) (present_sorted old stands.ordered) in
        record {
          ordered = sorted;
          known = known_kept old new trail kept (known_last old trail change stands.known).0;
          changes = subst (λ (facts : List Atom). AreChanges facts trail) (sym base_less) last.0;
          made =
              ap (λ (facts : List Atom). after facts trail) base_less
              ∙ sym (changed_back change.inserted change.fact (after base trail) (after_sorted base trail base_order) last.1)
              ∙ ap (changed (not change.inserted) change.fact) (sym (after-append base trail (change ∷ [])) ∙ stands.made) ∙ sym done;
        }

-- all elements but the last
pub all_but_last : (xs : List Change) (x : Change) → take (length (xs ++ x ∷ []) - 1) (xs ++ x ∷ []) ≡ xs
all_but_last xs x =
    let count : length (xs ++ x ∷ []) - 1 ≡ length xs = omega (arith, length-append xs (x ∷ [])) in
    ap (λ k. take k (xs ++ x ∷ [])) count ∙ take-append-le (length xs) xs (x ∷ []) (omega arith) ∙ take_all (length xs) xs (omega arith)
