-- Sorted lists of atoms as sets: what stands in them after a change, and that their elements determine them.
use Rattle.std.proofs.Common.{◌≡◌, Bool, true, false, cond, List, [], ◌∷◌, refl, sym, ap, ◌∙◌}
use Rattle.std.specs.Prelude.{◌&&◌, ◌||◌, not}
use Rattle.std.specs.List.{AllByRecursion}
use Rattle.std.specs.List.Sorted.{IsStrictlySortedBy}
use Rattle.std.specs.BTreeSet.{insert_key}
use Rattle.std.specs.Ordering.{is_eq, match_ordering, ordering_reverse}
use Rattle.std.specs.declared.cmp.Ordering.{Ordering}
use Rattle.std.specs.declared.cmp.Ordering.TheVariants.{Less, Equal, Greater}
use Rattle.std.proofs.lemmas.Cmp.{eq_by_cmp_equiv}
use Rattle.std.proofs.lemmas.List.Kept.{IsStrictlySortedBy-filter}
use Rattle.std.proofs.lemmas.Map.Keys.{sorted_head, sorted_tail}
use Rattle.std.proofs.lemmas.Map.Views.{any-filter_same}
use Rattle.lps_terms.specs.declared.atom.Atom.{Atom}
use Rattle.lps_terms.specs.Order.{atom_cmp, atom_eq}
use Rattle.lps_terms.specs.OrderLaws.{atom_cmp_total, atom_cmp-IsAntisymmetric, atom_eq-decides}
use Rattle.lps_facts.specs.Facts.{is_among, changed}

pub true_not_false : true ≡ false → ⊥
true_not_false e = absurd cc

pub atom_eq-refl : (x : Atom) → atom_eq x x ≡ true
atom_eq-refl x = (atom_eq-decides x x).1 refl

pub atom_eq-sym : (x y : Atom) → atom_eq x y ≡ atom_eq y x
atom_eq-sym x y = (eq_by_cmp_equiv atom_cmp_total).symm x y

-- all of these come after the atom
abbrev pub AreAbove : Atom → List Atom → Type 0
AreAbove x ys = AllByRecursion (λ y. atom_cmp x y ≡ Less) ys

pub above_all : (x y : Atom) (zs : List Atom) → atom_cmp x y ≡ Less → AreAbove y zs → AreAbove x zs
above_all x y [] less all = tt
above_all x y (z ∷ zs) less all = (atom_cmp_total.trans x y z less all.0, above_all x y zs less all.1)

pub not_among_above : (x : Atom) (ys : List Atom) → AreAbove x ys → is_among ys x ≡ false
not_among_above x [] all = refl
not_among_above x (y ∷ ys) all = (λ i. is_eq (all.0 i) || is_among ys x) ∙ not_among_above x ys all.1

pub sorted_cons : (x : Atom) (xs : List Atom) → AreAbove x xs → IsStrictlySortedBy atom_cmp xs → IsStrictlySortedBy atom_cmp (x ∷ xs)
unfolding IsStrictlySortedBy
sorted_cons x xs above sorted = (above, sorted)

pub sorted_none : IsStrictlySortedBy atom_cmp []
unfolding IsStrictlySortedBy
sorted_none = tt

-- ---- what stands in a set after a change

put_more : (tied held : Bool) → cond tied true held ≡ (tied || held)
put_more true held = refl
put_more false held = refl

take_more : (tied held : Bool) → (not tied && held) ≡ cond tied false held
take_more true held = refl
take_more false held = refl

skip_one : (first tied held : Bool) → (first || cond tied true held) ≡ cond tied true (first || held)
skip_one true true held = refl
skip_one true false held = refl
skip_one false true held = refl
skip_one false false held = refl

twice : (tied held : Bool) → (tied || held) ≡ cond tied true (tied || held)
twice true held = refl
twice false held = refl

put_among : (fact : Atom) (facts : List Atom) (q : Atom) → is_among (insert_key atom_cmp facts fact) q ≡ cond (atom_eq fact q) true (is_among facts q)
put_among fact [] q = ap (λ b. b || false) (atom_eq-sym q fact) ∙ sym (put_more (atom_eq fact q) false)
put_among fact (x ∷ xs) q = by (put_among fact xs q) (atom_cmp fact x) refl
  where
    by : is_among (insert_key atom_cmp xs fact) q ≡ cond (atom_eq fact q) true (is_among xs q) → (o : Ordering) → atom_cmp fact x ≡ o → is_among (match_ordering o (fact ∷ x ∷ xs) (x ∷ xs) (x ∷ insert_key atom_cmp xs fact)) q ≡ cond (atom_eq fact q) true (is_among (x ∷ xs) q)
    by rest Less e = ap (λ b. b || is_among (x ∷ xs) q) (atom_eq-sym q fact) ∙ sym (put_more (atom_eq fact q) (is_among (x ∷ xs) q))
    by rest Equal e =
        let same : x ≡ fact = sym (atom_cmp-IsAntisymmetric fact x e) in
        let tied : atom_eq q x ≡ atom_eq fact q = ap (atom_eq q) same ∙ atom_eq-sym q fact in
        (λ i. tied i || is_among xs q) ∙ twice (atom_eq fact q) (is_among xs q) ∙ (λ i. cond (atom_eq fact q) true (sym tied i || is_among xs q))
    by rest Greater e = ap (λ b. atom_eq q x || b) rest ∙ skip_one (atom_eq q x) (atom_eq fact q) (is_among xs q)

-- after a change the fact stands in the set or not, as the change says, and all others as before
pub changed_among : (inserted : Bool) (fact : Atom) (facts : List Atom) (q : Atom) → is_among (changed inserted fact facts) q ≡ cond (atom_eq fact q) inserted (is_among facts q)
changed_among true fact facts q = put_among fact facts q
changed_among false fact facts q =
    any-filter_same (atom_eq q) (λ x. not (atom_eq fact x)) (not (atom_eq fact q)) (λ x tied. ap (λ (y : Atom). not (atom_eq fact y)) (sym ((atom_eq-decides q x).0 tied))) facts
    ∙ take_more (atom_eq fact q) (is_among facts q)

put_above : (x fact : Atom) (facts : List Atom) → atom_cmp x fact ≡ Less → AreAbove x facts → AreAbove x (insert_key atom_cmp facts fact)
put_above x fact [] less all = (less, tt)
put_above x fact (y ∷ ys) less all = by (put_above x fact ys less all.1) (atom_cmp fact y)
  where
    by : AreAbove x (insert_key atom_cmp ys fact) → (o : Ordering) → AreAbove x (match_ordering o (fact ∷ y ∷ ys) (y ∷ ys) (y ∷ insert_key atom_cmp ys fact))
    by rest Less = (less, all)
    by rest Equal = all
    by rest Greater = (all.0, rest)

put_sorted : (fact : Atom) (facts : List Atom) → IsStrictlySortedBy atom_cmp facts → IsStrictlySortedBy atom_cmp (insert_key atom_cmp facts fact)
put_sorted fact [] sorted = sorted_cons fact [] tt sorted_none
put_sorted fact (x ∷ xs) sorted = by (put_sorted fact xs (sorted_tail atom_cmp x xs sorted)) (atom_cmp fact x) refl
  where
    head : AreAbove x xs
    head = sorted_head atom_cmp x xs sorted

    by : IsStrictlySortedBy atom_cmp (insert_key atom_cmp xs fact) → (o : Ordering) → atom_cmp fact x ≡ o → IsStrictlySortedBy atom_cmp (match_ordering o (fact ∷ x ∷ xs) (x ∷ xs) (x ∷ insert_key atom_cmp xs fact))
    by rest Less e = sorted_cons fact (x ∷ xs) (e, above_all fact x xs e head) sorted
    by rest Equal e = sorted
    by rest Greater e =
        sorted_cons x (insert_key atom_cmp xs fact) (put_above x fact xs (atom_cmp_total.antisymm x fact ∙ ap ordering_reverse e) head) rest

pub changed_sorted : (inserted : Bool) (fact : Atom) (facts : List Atom) → IsStrictlySortedBy atom_cmp facts → IsStrictlySortedBy atom_cmp (changed inserted fact facts)
changed_sorted true fact facts sorted = put_sorted fact facts sorted
changed_sorted false fact facts sorted = IsStrictlySortedBy-filter atom_cmp (λ x. not (atom_eq fact x)) facts sorted

-- ---- elements determine a sorted list

left_or : (a b : Bool) → a ≡ true → (a || b) ≡ true
left_or a b h = ap (λ c. c || b) h

first_among : (x : Atom) (xs : List Atom) → is_among (x ∷ xs) x ≡ true
first_among x xs = left_or (atom_eq x x) (is_among xs x) (atom_eq-refl x)

below_first : (x y : Atom) (xs ys : List Atom) → IsStrictlySortedBy atom_cmp (y ∷ ys) → is_among (x ∷ xs) x ≡ is_among (y ∷ ys) x → atom_cmp x y ≡ Less → ⊥
below_first x y xs ys sorted same less =
    true_not_false (sym (first_among x xs) ∙ same ∙ not_among_above x (y ∷ ys) (less, above_all x y ys less (sorted_head atom_cmp y ys sorted)))

pub same_members : (xs ys : List Atom) → IsStrictlySortedBy atom_cmp xs → IsStrictlySortedBy atom_cmp ys → ((q : Atom) → is_among xs q ≡ is_among ys q) → xs ≡ ys
same_members [] [] s t same = refl
same_members [] (y ∷ ys) s t same = absurd (true_not_false (sym (first_among y ys) ∙ sym (same y)))
same_members (x ∷ xs) [] s t same = absurd (true_not_false (sym (first_among x xs) ∙ same x))
same_members (x ∷ xs) (y ∷ ys) s t same = by (same_members xs ys (sorted_tail atom_cmp x xs s) (sorted_tail atom_cmp y ys t)) (atom_cmp x y) refl
  where
    later : x ≡ y → (q : Atom) → is_among xs q ≡ is_among ys q
    later tie q = split (atom_eq q x) refl
      where
        there : is_among xs x ≡ is_among ys x
        there = not_among_above x xs (sorted_head atom_cmp x xs s) ∙ sym (not_among_above y ys (sorted_head atom_cmp y ys t)) ∙ ap (is_among ys) (sym tie)

        split : (tied : Bool) → atom_eq q x ≡ tied → is_among xs q ≡ is_among ys q
        split true e = let at : q ≡ x = (atom_eq-decides q x).0 e in ap (is_among xs) at ∙ there ∙ ap (is_among ys) (sym at)
        split false e = (λ i. sym e i || is_among xs q) ∙ same q ∙ (λ i. (ap (atom_eq q) (sym tie) ∙ e) i || is_among ys q)

    by : (((q : Atom) → is_among xs q ≡ is_among ys q) → xs ≡ ys) → (o : Ordering) → atom_cmp x y ≡ o → x ∷ xs ≡ y ∷ ys
    by more Less e = absurd (below_first x y xs ys t (same x) e)
    by more Greater e = absurd (below_first y x ys xs s (sym (same y)) (atom_cmp_total.antisymm y x ∙ ap ordering_reverse e))
    by more Equal e =
        let tie : x ≡ y = atom_cmp-IsAntisymmetric x y e in
        let rest : xs ≡ ys = more (later tie) in
        λ i. tie i ∷ rest i

-- ---- a change taken back

back_cases : (inserted tied held : Bool) → (tied ≡ true → held ≡ not inserted) → cond tied (not inserted) (cond tied inserted held) ≡ held
back_cases inserted true held h = sym (h refl)
back_cases inserted false held h = refl

-- a change that changed something, and the change back
pub changed_back : (inserted : Bool) (fact : Atom) (facts : List Atom) → IsStrictlySortedBy atom_cmp facts → is_among facts fact ≡ not inserted →
    changed (not inserted) fact (changed inserted fact facts) ≡ facts
changed_back inserted fact facts sorted was =
    same_members _ _ (changed_sorted (not inserted) fact _ (changed_sorted inserted fact facts sorted)) sorted
    (λ q.
    changed_among (not inserted) fact (changed inserted fact facts) q ∙ ap (cond (atom_eq fact q) (not inserted)) (changed_among inserted fact facts q)
    ∙ back_cases inserted (atom_eq fact q) (is_among facts q) (λ tied. ap (is_among facts) (sym ((atom_eq-decides fact q).0 tied)) ∙ was))
