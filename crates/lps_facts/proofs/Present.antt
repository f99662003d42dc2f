-- What the entries that are present are, by looking them up.
use Rattle.std.proofs.Common.{◌≡◌, Bool, true, false, cond, List, [], ◌∷◌, Option, Some, None, refl, sym, ap, ◌∙◌}
use Rattle.std.specs.Prelude.{◌||◌, is_some}
use Rattle.std.specs.List.Sorted.{IsStrictlySortedBy}
use Rattle.std.specs.BTreeMap.{is_at}
use Rattle.std.specs.Map.{lookup, keys_of}
use Rattle.std.proofs.lemmas.Map.Keys.{sorted_head, sorted_tail}
use Rattle.lps_terms.specs.declared.atom.Atom.{Atom}
use Rattle.lps_terms.specs.Order.{atom_cmp, atom_eq}
use Rattle.lps_terms.specs.OrderLaws.{atom_eq-decides}
use Rattle.lps_facts.specs.Facts.{is_among, changed}
use Rattle.lps_facts.specs.Trail.{knows, present}
use Rattle.lps_facts.proofs.Sets.{AreAbove, not_among_above, sorted_cons, sorted_none, changed_among, changed_sorted, same_members}

-- what a look-up found of a fact
abbrev pub found : Option Bool → Bool
found None = false
found (Some here) = here

-- the entry of an atom
abbrev pub entry_of : List (Atom × Bool) → Atom → Option Bool
entry_of entries q = lookup (is_at (atom_cmp q)) entries

pub knows-entry : (entries : List (Atom × Bool)) (q : Atom) → knows entries q ≡ is_some (entry_of entries q)
knows-entry [] q = refl
knows-entry (entry ∷ entries) q = by (knows-entry entries q) (atom_eq q entry.0)
  where
    by : knows entries q ≡ is_some (entry_of entries q) → (tied : Bool) → cond tied true (knows entries q) ≡ is_some (cond tied (Some entry.1) (entry_of entries q))
    by rest true = refl
    by rest false = rest

present_above : (x : Atom) (entries : List (Atom × Bool)) → AreAbove x (keys_of entries) → AreAbove x (present entries)
present_above x [] all = tt
present_above x (entry ∷ entries) all = by (present_above x entries all.1) entry.1
  where
    by : AreAbove x (present entries) → (here : Bool) → AreAbove x (cond here (entry.0 ∷ present entries) (present entries))
    by rest true = (all.0, rest)
    by rest false = rest

-- what is present is in order
pub present_sorted : (entries : List (Atom × Bool)) → IsStrictlySortedBy atom_cmp (keys_of entries) → IsStrictlySortedBy atom_cmp (present entries)
present_sorted [] sorted = sorted_none
present_sorted (entry ∷ entries) sorted = by (present_sorted entries (sorted_tail atom_cmp entry.0 (keys_of entries) sorted)) entry.1
  where
    above : AreAbove entry.0 (present entries)
    above = present_above entry.0 entries (sorted_head atom_cmp entry.0 (keys_of entries) sorted)

    by : IsStrictlySortedBy atom_cmp (present entries) → (here : Bool) → IsStrictlySortedBy atom_cmp (cond here (entry.0 ∷ present entries) (present entries))
    by rest true = sorted_cons entry.0 (present entries) above rest
    by rest false = rest

-- a fact is among what is present exactly where its entry says so
pub found_present : (entries : List (Atom × Bool)) → IsStrictlySortedBy atom_cmp (keys_of entries) → (q : Atom) → found (entry_of entries q) ≡ is_among (present entries) q
found_present [] sorted q = refl
found_present (entry ∷ entries) sorted q = by (found_present entries (sorted_tail atom_cmp entry.0 (keys_of entries) sorted) q) (atom_eq q entry.0) refl entry.1
  where
    gone : atom_eq q entry.0 ≡ true → is_among (present entries) q ≡ false
    gone tied =
        ap (is_among (present entries)) ((atom_eq-decides q entry.0).0 tied)
        ∙ not_among_above entry.0 (present entries) (present_above entry.0 entries (sorted_head atom_cmp entry.0 (keys_of entries) sorted))

    by : found (entry_of entries q) ≡ is_among (present entries) q → (tied : Bool) → atom_eq q entry.0 ≡ tied → (here : Bool) →
        found (cond tied (Some here) (entry_of entries q)) ≡ is_among (cond here (entry.0 ∷ present entries) (present entries)) q
    by rest true e true = (λ i. sym e i || is_among (present entries) q)
    by rest true e false = sym (gone e)
    by rest false e true = rest ∙ (λ i. sym e i || is_among (present entries) q)
    by rest false e false = rest

found_cond : (tied here : Bool) (other : Option Bool) → found (cond tied (Some here) other) ≡ cond tied here (found other)
found_cond true here other = refl
found_cond false here other = refl

-- one entry written changes the set as the entry says
pub present_changed : (inserted : Bool) (fact : Atom) (old new : List (Atom × Bool)) → IsStrictlySortedBy atom_cmp (keys_of old) → IsStrictlySortedBy atom_cmp (keys_of new) →
    ((q : Atom) → entry_of new q ≡ cond (atom_eq fact q) (Some inserted) (entry_of old q)) → present new ≡ changed inserted fact (present old)
present_changed inserted fact old new sorted_old sorted_new written =
    same_members _ _ (present_sorted new sorted_new) (changed_sorted inserted fact (present old) (present_sorted old sorted_old))
    (λ q.
    sym (found_present new sorted_new q) ∙ ap found (written q) ∙ found_cond (atom_eq fact q) inserted (entry_of old q)
    ∙ ap (cond (atom_eq fact q) inserted) (found_present old sorted_old q) ∙ sym (changed_among inserted fact (present old) q))

-- taking out what is not there
nothing_out : (tied held : Bool) → (tied ≡ true → held ≡ false) → cond tied false held ≡ held
nothing_out true held h = sym (h refl)
nothing_out false held h = refl

-- room for an atom that has no entry changes nothing
pub present_same : (fact : Atom) (old new : List (Atom × Bool)) → IsStrictlySortedBy atom_cmp (keys_of old) → IsStrictlySortedBy atom_cmp (keys_of new) →
    ((q : Atom) → entry_of new q ≡ cond (atom_eq fact q) (Some false) (entry_of old q)) → is_some (entry_of old fact) ≡ false → present new ≡ present old
present_same fact old new sorted_old sorted_new written absent =
    present_changed false fact old new sorted_old sorted_new written
    ∙ same_members _ _ (changed_sorted false fact (present old) (present_sorted old sorted_old)) (present_sorted old sorted_old)
    (λ q.
    changed_among false fact (present old) q
    ∙ nothing_out (atom_eq fact q) (is_among (present old) q)
    (λ tied. ap (is_among (present old)) (sym ((atom_eq-decides fact q).0 tied)) ∙ sym (found_present old sorted_old fact) ∙ nothing (entry_of old fact) absent))
  where
    nothing : (o : Option Bool) → is_some o ≡ false → found o ≡ false
    nothing None h = refl
    nothing (Some here) h = absurd cc

found_none : (tied : Bool) (other : Option Bool) → found (cond tied None other) ≡ cond tied false (found other)
found_none true other = refl
found_none false other = refl

-- an entry that is not present can go
pub present_without : (fact : Atom) (old new : List (Atom × Bool)) → IsStrictlySortedBy atom_cmp (keys_of old) → IsStrictlySortedBy atom_cmp (keys_of new) →
    ((q : Atom) → entry_of new q ≡ cond (atom_eq fact q) None (entry_of old q)) → is_among (present old) fact ≡ false → present new ≡ present old
present_without fact old new sorted_old sorted_new written absent =
    same_members _ _ (present_sorted new sorted_new) (present_sorted old sorted_old)
    (λ q.
    sym (found_present new sorted_new q) ∙ ap found (written q) ∙ found_none (atom_eq fact q) (entry_of old q)
    ∙ ap (cond (atom_eq fact q) false) (found_present old sorted_old q)
    ∙ nothing_out (atom_eq fact q) (is_among (present old) q) (λ tied. ap (is_among (present old)) (sym ((atom_eq-decides fact q).0 tied)) ∙ absent))

known_cond : (tied here : Bool) (other : Option Bool) → is_some other ≡ true → is_some (cond tied (Some here) other) ≡ true
known_cond true here other h = refl
known_cond false here other h = h

-- what is known stays known
pub known_after : (inserted : Bool) (fact : Atom) (old new : List (Atom × Bool)) →
    ((q : Atom) → entry_of new q ≡ cond (atom_eq fact q) (Some inserted) (entry_of old q)) → (q : Atom) → knows old q ≡ true → knows new q ≡ true
known_after inserted fact old new written q known =
    knows-entry new q ∙ ap is_some (written q) ∙ known_cond (atom_eq fact q) inserted (entry_of old q) (sym (knows-entry old q) ∙ known)
