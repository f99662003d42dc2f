-- Numbers by where they first occur: the place of each, and numbers that are so already.
use Rattle.std.proofs.Common.{ℕ, Bool, true, false, not, nat_lt, nat_eq, ◌≡◌, ◌+◌, ◌<◌, ◌≤◌, List, [], ◌∷◌, ◌++◌, length, map, refl, sym, ap, subst, ◌∙◌, arith}
use Rattle.std.specs.Prelude.{suc, if◌then◌else◌, cond, ◌&&◌, ◌||◌}
use Rattle.std.specs.List.{AllByRecursion}
use Rattle.std.proofs.lemmas.Bool.Decides.{nat_tests}
use Rattle.lps_meaning.proofs.Occurrences.{all_to}
use Rattle.lps_nodes.specs.Shapes.{is_numbered}
use Rattle.lps_unify.specs.Canonical.{first_seen, place_of, with_variable}

-- ---- places

place_cons : (x v : ℕ) (xs : List ℕ) (same : Bool) → nat_eq x v ≡ same → place_of (x ∷ xs) v ≡ cond (not same) (1 + place_of xs v) 0
place_cons x v xs same e = ap (λ b. cond (not b) (1 + place_of xs v) 0) e

itself : (v : ℕ) → nat_eq v v ≡ true
itself v = grind (arith, nat_tests)

is_less : (p n : ℕ) → nat_lt p n ≡ true → p < n
is_less p n e = grind (arith, nat_tests)

is_no_less : (p n : ℕ) → nat_lt p n ≡ false → n ≤ p
is_no_less p n e = grind (arith, nat_tests)

-- a number that was seen keeps its place among more
kept_place : (seen more : List ℕ) (v : ℕ) → place_of seen v < length seen → place_of (seen ++ more) v ≡ place_of seen v
kept_place [] more v lt = absurd (omega (arith, lt))
kept_place (x ∷ seen) more v lt = by (nat_eq x v) refl (kept_place seen more v) where
  by : (same : Bool) → nat_eq x v ≡ same → (place_of seen v < length seen → place_of (seen ++ more) v ≡ place_of seen v) → place_of (x ∷ seen ++ more) v ≡ place_of (x ∷ seen) v
  by true e kept = place_cons x v (seen ++ more) true e ∙ sym (place_cons x v seen true e)
  by false e kept =
      let one = place_cons x v seen false e in
      place_cons x v (seen ++ more) false e ∙ ap (λ p. 1 + p) (kept (omega (arith, lt, one))) ∙ sym one

-- a new one has the place after the last
new_place : (seen more : List ℕ) (v : ℕ) → length seen ≤ place_of seen v → place_of (seen ++ v ∷ more) v ≡ length seen
new_place [] more v le = place_cons v v more true (itself v)
new_place (x ∷ seen) more v le = by (nat_eq x v) refl (new_place seen more v) where
  by : (same : Bool) → nat_eq x v ≡ same → (length seen ≤ place_of seen v → place_of (seen ++ v ∷ more) v ≡ length seen) → place_of (x ∷ seen ++ v ∷ more) v ≡ length (x ∷ seen)
  by true e new = absurd (let one = place_cons x v seen true e in omega (arith, le, one))
  by false e new =
      let one = place_cons x v seen false e in
      let next : 1 + length seen ≡ length (x ∷ seen) = omega arith in
      place_cons x v (seen ++ v ∷ more) false e ∙ ap (λ p. 1 + p) (new (omega (arith, le, one))) ∙ next

-- ---- what is seen

abbrev pub is_seen : List ℕ → ℕ → Bool
is_seen seen v = nat_lt (place_of seen v) (length seen)

is_within : (p n : ℕ) → p < n → nat_lt p n ≡ true
is_within p n lt = grind (arith, nat_tests)

length_more : (seen more : List ℕ) → length seen ≤ length (seen ++ more)
length_more [] more = omega arith
length_more (x ∷ seen) more = let rest = length_more seen more in omega (arith, rest)

pub length_push : (seen : List ℕ) (v : ℕ) → length (seen ++ v ∷ []) ≡ suc (length seen)
length_push [] v = refl
length_push (x ∷ seen) v = ap suc (length_push seen v)

pub kept_seen : (seen more : List ℕ) (v : ℕ) → is_seen seen v ≡ true → is_seen (seen ++ more) v ≡ true
kept_seen seen more v e =
    let lt = is_less (place_of seen v) (length seen) e in
    let place = kept_place seen more v lt in
    let longer = length_more seen more in
    is_within (place_of (seen ++ more) v) (length (seen ++ more)) (omega (arith, lt, place, longer))

pub new_seen : (seen : List ℕ) (v : ℕ) → is_seen seen v ≡ false → is_seen (seen ++ v ∷ []) v ≡ true
new_seen seen v e =
    let place = new_place seen [] v (is_no_less (place_of seen v) (length seen) e) in
    let longer = length_push seen v in
    is_within (place_of (seen ++ v ∷ []) v) (length (seen ++ v ∷ [])) (omega (arith, place, longer))

append_nil : (xs : List ℕ) → xs ++ [] ≡ xs
append_nil [] = refl
append_nil (x ∷ xs) = ap (λ ys. x ∷ ys) (append_nil xs)

append_assoc : (xs ys zs : List ℕ) → (xs ++ ys) ++ zs ≡ xs ++ (ys ++ zs)
append_assoc [] ys zs = refl
append_assoc (x ∷ xs) ys zs = ap (λ us. x ∷ us) (append_assoc xs ys zs)

pub with_old : (seen : List ℕ) (v : ℕ) → nat_lt (place_of seen v) (length seen) ≡ true → with_variable seen v ≡ seen
with_old seen v e = ap (λ b. if b then seen else seen ++ v ∷ []) e

pub with_new : (seen : List ℕ) (v : ℕ) → nat_lt (place_of seen v) (length seen) ≡ false → with_variable seen v ≡ seen ++ v ∷ []
with_new seen v e = ap (λ b. if b then seen else seen ++ v ∷ []) e

-- more is seen behind what was
abbrev Behind : List ℕ → List ℕ → Type 0
Behind seen vs = (more : List ℕ) × (first_seen seen vs ≡ seen ++ more)

more_seen : (seen vs : List ℕ) → Behind seen vs
more_seen seen [] = ([], sym (append_nil seen))
more_seen seen (v ∷ vs) = by (nat_lt (place_of seen v) (length seen)) refl (more_seen seen vs) (more_seen (seen ++ v ∷ []) vs) where
  by : (old : Bool) → nat_lt (place_of seen v) (length seen) ≡ old → Behind seen vs → Behind (seen ++ v ∷ []) vs → (more : List ℕ) × (first_seen (with_variable seen v) vs ≡ seen ++ more)
  by true e rest next = (rest.0, ap (λ xs. first_seen xs vs) (with_old seen v e) ∙ rest.1)
  by false e rest next = (v ∷ next.0, ap (λ xs. first_seen xs vs) (with_new seen v e) ∙ next.1 ∙ append_assoc seen (v ∷ []) next.0)

-- ---- numbers

or_true : (a : Bool) → (a || true) ≡ true
or_true true = refl
or_true false = refl

old_number : (n p : ℕ) (ps : List ℕ) → nat_lt p n ≡ true → is_numbered n ps ≡ true → is_numbered n (p ∷ ps) ≡ true
old_number n p ps lt is =
    ap (λ b. (b && is_numbered n ps) || (nat_eq p n && is_numbered (suc n) ps)) lt ∙ ap (λ b. b || (nat_eq p n && is_numbered (suc n) ps)) is

next_number : (n p : ℕ) (ps : List ℕ) → nat_eq p n ≡ true → is_numbered (suc n) ps ≡ true → is_numbered n (p ∷ ps) ≡ true
next_number n p ps same is =
    ap (λ b. (nat_lt p n && is_numbered n ps) || (b && is_numbered (suc n) ps)) same ∙ ap (λ b. (nat_lt p n && is_numbered n ps) || b) is
    ∙ or_true (nat_lt p n && is_numbered n ps)

-- each is put by its place among all, from as many on as were seen
abbrev AreNumbered : List ℕ → List ℕ → Type 0
AreNumbered seen vs = is_numbered (length seen) (map (place_of (first_seen seen vs)) vs) ≡ true

-- with these seen, the next number and those after it are numbered by first occurrence
abbrev NumberedBy : List ℕ → ℕ → List ℕ → List ℕ → Type 0
NumberedBy seen v vs full = is_numbered (length seen) (place_of full v ∷ map (place_of full) vs) ≡ true

pub numbers_from : (seen vs : List ℕ) → AreNumbered seen vs
numbers_from seen [] = refl
numbers_from seen (v ∷ vs) = by (nat_lt (place_of seen v) (length seen)) refl (numbers_from seen vs) (numbers_from (seen ++ v ∷ []) vs) where
  by : (old : Bool) → nat_lt (place_of seen v) (length seen) ≡ old → AreNumbered seen vs → AreNumbered (seen ++ v ∷ []) vs → NumberedBy seen v vs (first_seen (with_variable seen v) vs)
  by true e rest next =
      let behind = more_seen seen vs in
      let place : place_of (first_seen seen vs) v ≡ place_of seen v = ap (λ xs. place_of xs v) behind.1 ∙ kept_place seen behind.0 v (is_less (place_of seen v) (length seen) e) in
      subst (NumberedBy seen v vs) (sym (ap (λ xs. first_seen xs vs) (with_old seen v e)))
      (old_number (length seen) (place_of (first_seen seen vs) v) _ (ap (λ p. nat_lt p (length seen)) place ∙ e) rest)
  by false e rest next =
      let behind = more_seen (seen ++ v ∷ []) vs in
      let place : place_of (first_seen (seen ++ v ∷ []) vs) v ≡ length seen =
      ap (λ xs. place_of xs v) (behind.1 ∙ append_assoc seen (v ∷ []) behind.0) ∙ new_place seen behind.0 v (is_no_less (place_of seen v) (length seen) e) in
      subst (NumberedBy seen v vs) (sym (ap (λ xs. first_seen xs vs) (with_new seen v e)))
      (next_number (length seen) (place_of (first_seen (seen ++ v ∷ []) vs) v) _ (ap (λ p. nat_eq p (length seen)) place ∙ itself (length seen))
      (subst (λ n. is_numbered n (map (place_of (first_seen (seen ++ v ∷ []) vs)) vs) ≡ true) (length_push seen v) next))

-- ---- each number seen has a place

place_after : (seen vs : List ℕ) (v : ℕ) → is_seen seen v ≡ true → place_of (first_seen seen vs) v ≡ place_of seen v
place_after seen vs v e = let behind = more_seen seen vs in ap (λ xs. place_of xs v) behind.1 ∙ kept_place seen behind.0 v (is_less (place_of seen v) (length seen) e)

seen_with : (seen : List ℕ) (v : ℕ) → is_seen (with_variable seen v) v ≡ true
seen_with seen v = by (is_seen seen v) refl
  where
    by : (old : Bool) → is_seen seen v ≡ old → is_seen (with_variable seen v) v ≡ true
    by true e = ap (λ xs. is_seen xs v) (with_old seen v e) ∙ e
    by false e = ap (λ xs. is_seen xs v) (with_new seen v e) ∙ new_seen seen v e

seen_after : (seen vs : List ℕ) (v : ℕ) → is_seen seen v ≡ true → is_seen (first_seen seen vs) v ≡ true
seen_after seen vs v e = let behind = more_seen seen vs in ap (λ xs. is_seen xs v) behind.1 ∙ kept_seen seen behind.0 v e

all_seen : (seen vs : List ℕ) → AllByRecursion (λ v. is_seen (first_seen seen vs) v ≡ true) vs
all_seen seen [] = tt
all_seen seen (v ∷ vs) = (seen_after (with_variable seen v) vs v (seen_with seen v), all_seen (with_variable seen v) vs)

pub all_placed : (vs : List ℕ) → AllByRecursion (λ v. place_of (first_seen [] vs) v < length (first_seen [] vs)) vs
all_placed vs = all_to _ _ (λ v. is_less (place_of (first_seen [] vs) v) (length (first_seen [] vs))) vs (all_seen [] vs)

-- ---- numbers that are numbered by first occurrence have their own places

-- the numbers below their count are seen, each at its own place, and no others
abbrev AreOwnPlaces : List ℕ → Type 0
AreOwnPlaces seen = (v : ℕ) → (v < length seen → place_of seen v ≡ v) × (length seen ≤ v → length seen ≤ place_of seen v)

-- one that was not seen is not seen with another
past_place : (seen : List ℕ) (x v : ℕ) → nat_eq x v ≡ false → length seen ≤ place_of seen v → length seen + 1 ≤ place_of (seen ++ x ∷ []) v
past_place [] x v other le = let one = place_cons x v [] false other in omega (arith, one)
past_place (y ∷ seen) x v other le = by (nat_eq y v) refl (past_place seen x v other)
  where
    by : (same : Bool) → nat_eq y v ≡ same → (length seen ≤ place_of seen v → length seen + 1 ≤ place_of (seen ++ x ∷ []) v) → length (y ∷ seen) + 1 ≤ place_of (y ∷ (seen ++ x ∷ [])) v
    by true e past = absurd (let one = place_cons y v seen true e in omega (arith, le, one))
    by false e past =
        let one = place_cons y v seen false e in
        let two = place_cons y v (seen ++ x ∷ []) false e in
        let rest = past (omega (arith, le, one)) in
        omega (arith, two, rest)

own_push : (seen : List ℕ) → AreOwnPlaces seen → AreOwnPlaces (seen ++ length seen ∷ [])
own_push seen own v = (by (nat_lt v (length seen)) refl, past)
  where
    by : (less : Bool) → nat_lt v (length seen) ≡ less → v < length (seen ++ length seen ∷ []) → place_of (seen ++ length seen ∷ []) v ≡ v
    by true e lt =
        let place = (own v).0 (is_less v (length seen) e) in
        let within = is_less v (length seen) e in
        kept_place seen (length seen ∷ []) v (omega (arith, place, within)) ∙ place
    by false e lt =
        let longer = length_push seen (length seen) in
        let no_less = is_no_less v (length seen) e in
        let same : length seen ≡ v = omega (arith, longer, no_less, lt) in
        subst (λ n. place_of (seen ++ length seen ∷ []) n ≡ n) same (new_place seen [] (length seen) ((own (length seen)).1 (omega arith)))

    past : length (seen ++ length seen ∷ []) ≤ v → length (seen ++ length seen ∷ []) ≤ place_of (seen ++ length seen ∷ []) v
    past le =
        let longer = length_push seen (length seen) in
        let other : nat_eq (length seen) v ≡ false = grind (arith, nat_tests) in
        let place = past_place seen (length seen) v other ((own v).1 (omega (arith, longer, le))) in
        omega (arith, longer, place)

old_only : (less same x y : Bool) → ((less && x) || (same && y)) ≡ true → less ≡ true → same ≡ false → x ≡ true
old_only true false true y e l s = refl
old_only true false false y e l s = absurd (let f : false ≡ true = e in cc)
old_only true true x y e l s = absurd cc
old_only false same x y e l s = absurd cc

next_only : (less same x y : Bool) → ((less && x) || (same && y)) ≡ true → less ≡ false → (same ≡ true) × (y ≡ true)
next_only false true x true e l = (refl, refl)
next_only false true x false e l = absurd (let f : false ≡ true = e in cc)
next_only false false x y e l = absurd (let f : false ≡ true = e in cc)
next_only true same x y e l = absurd cc

abbrev KeepPlaces : List ℕ → List ℕ → Type 0
KeepPlaces seen vs = AreOwnPlaces seen → is_numbered (length seen) vs ≡ true → AllByRecursion (λ v. place_of (first_seen seen vs) v ≡ v) vs

keep_places : (seen vs : List ℕ) → KeepPlaces seen vs
keep_places seen [] own e = tt
keep_places seen (v ∷ vs) own e = by (nat_lt v (length seen)) refl (keep_places seen vs) (keep_places (seen ++ length seen ∷ []) vs)
  where
    by : (less : Bool) → nat_lt v (length seen) ≡ less → KeepPlaces seen vs → KeepPlaces (seen ++ length seen ∷ []) vs → AllByRecursion (λ u. place_of (first_seen (with_variable seen v) vs) u ≡ u) (v ∷ vs)
    by true l old next =
        let lt = is_less v (length seen) l in
        let place = (own v).0 lt in
        let there : is_seen seen v ≡ true = is_within (place_of seen v) (length seen) (omega (arith, lt, place)) in
        let other : nat_eq v (length seen) ≡ false = grind (arith, nat_tests) in
        let rest = old own (old_only (nat_lt v (length seen)) (nat_eq v (length seen)) (is_numbered (length seen) vs) (is_numbered (suc (length seen)) vs) e l other) in
        subst (λ xs. AllByRecursion (λ u. place_of (first_seen xs vs) u ≡ u) (v ∷ vs)) (sym (with_old seen v there)) (place_after seen vs v there ∙ place, rest)
    by false l old next =
        let both = next_only (nat_lt v (length seen)) (nat_eq v (length seen)) (is_numbered (length seen) vs) (is_numbered (suc (length seen)) vs) e l in
        let same : v ≡ length seen = grind (arith, nat_tests) in
        let past = (own (length seen)).1 (omega arith) in
        let fresh : is_seen seen (length seen) ≡ false = grind (arith, nat_tests) in
        let rest = next (own_push seen own) (subst (λ n. is_numbered n vs ≡ true) (sym (length_push seen (length seen))) both.1) in
        let there = new_seen seen (length seen) fresh in
        let place = place_after (seen ++ length seen ∷ []) vs (length seen) there ∙ new_place seen [] (length seen) past in
        subst (λ n. AllByRecursion (λ u. place_of (first_seen (with_variable seen n) vs) u ≡ u) (n ∷ vs)) (sym same)
        (subst (λ xs. AllByRecursion (λ u. place_of (first_seen xs vs) u ≡ u) (length seen ∷ vs)) (sym (with_new seen (length seen) fresh)) (place, rest))

none_placed : AreOwnPlaces []
none_placed v = (λ lt. absurd (omega (arith, lt)), λ le. omega arith)

pub own_places : (vs : List ℕ) → is_numbered 0 vs ≡ true → AllByRecursion (λ v. place_of (first_seen [] vs) v ≡ v) vs
own_places vs e = keep_places [] vs none_placed e
