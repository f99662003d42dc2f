-- Bindings that are extended on the way to a unifier.
use Rattle.std.proofs.Common.{Bor, ℕ, Bool, true, false, not, nat_eq, ◌≡◌, ◌<◌, ◌≤◌, List, [], ◌∷◌, ◌++◌, length, take, refl, sym, ap, ◌∙◌, arith, subst, append_assoc}
use Rattle.std.specs.Prelude.{zero, suc, ◌||◌, if◌then◌else◌}
use Rattle.std.specs.BTreeSet.{BTreeSet, IsEmpty, contains}
use Rattle.std.proofs.lemmas.Bool.Decides.{nat_tests}
use Rattle.std.proofs.lemmas.List.{length-append}
use Rattle.std.proofs.Math.Seq.{take-append_seam}
use Rattle.lps_terms.specs.declared.term.Term.{Term}
use Rattle.lps_terms.specs.Put.{put}
use Rattle.lps_unify.specs.declared.added.Added.{Added}
use Rattle.lps_unify.specs.declared.added.Added.TheVariants.{Bind}
use Rattle.lps_unify.specs.Bindings.{TrailedBindings, Standing, start, next, standing, back_to, Solves, IsBindable}
use Rattle.lps_unify.specs.Unified.{IsExtended, AddsUnifier, IsSame, AreSame, count_below, count_free, pair_cmp}
use Rattle.lps_unify.proofs.Standings.{each_append, each_split, over_append}
use Rattle.lps_unify.proofs.Keeping.{append_none}

abbrev pub then_bind : TrailedBindings → ℕ → Term → TrailedBindings
then_bind b v u = record { first = b.first; added = b.added ++ Bind v u ∷ [] }

standing_bind : (b : TrailedBindings) (v : ℕ) (u : Term) → standing (then_bind b v u) ≡ next (standing b) (Bind v u)
standing_bind b v u = over_append (start b.first) b.added (Bind v u ∷ [])

pub extended_refl : (b : TrailedBindings) → IsExtended b b
extended_refl b = record { first = refl; count = refl; more = []; kept = sym (append_none b.added) }

extended_then : (old b : TrailedBindings) (v : ℕ) (u : Term) → IsExtended old b → IsExtended old (then_bind b v u)
extended_then old b v u h = record {
  first = h.first;
  count = ap (λ (st : Standing). st.count) (standing_bind b v u) ∙ h.count;
  more = h.more ++ Bind v u ∷ [];
  kept = ap (λ (xs : List Added). xs ++ Bind v u ∷ []) h.kept ∙ append_assoc old.added h.more (Bind v u ∷ []);
}

pub extended_bind : (old b new : TrailedBindings) (v : ℕ) (u : Term) → new ≡ then_bind b v u → IsExtended old b → IsExtended old new
extended_bind old b new v u e h = subst (IsExtended old) (sym e) (extended_then old b v u h)

-- what solves the new bindings solves the old ones
pub solves_old : (old new : TrailedBindings) → IsExtended old new → (s : ℕ → Term) → Solves s new → Solves s old
solves_old old new h s solves =
    (each_split (λ v u. s v ≡ put s u) old.added h.more (subst (λ (xs : List Added). Solves s (record { first = old.first; added = xs })) h.kept solves)).0

pub solves_bind : (b new : TrailedBindings) (v : ℕ) (u : Term) → new ≡ then_bind b v u → (s : ℕ → Term) → Solves s b → s v ≡ put s u → Solves s new
solves_bind b new v u e s solves here = subst (Solves s) (sym e) (each_append (λ w x. s w ≡ put s x) b.added (Bind v u ∷ []) solves (here, tt))

-- ---- a binding leaves fewer free variables

if_le : (a b : Bool) → (a ≡ true → b ≡ true) → (if a then 1 else 0) ≤ (if b then 1 else 0)
if_le true true h = omega arith
if_le true false h = absurd (cc (h refl))
if_le false true h = omega arith
if_le false false h = omega arith

count_le : (n : ℕ) (p q : ℕ → Bool) → ((w : ℕ) → q w ≡ true → p w ≡ true) → count_below n q ≤ count_below n p
count_le zero p q h = omega arith
count_le (suc n) p q h = let one_le = if_le (q n) (p n) (h n) in omega (arith, one_le, count_le n p q h)

count_lt : (n : ℕ) (p q : ℕ → Bool) (v : ℕ) → ((w : ℕ) → q w ≡ true → p w ≡ true) → v < n → p v ≡ true → q v ≡ false → count_below n q < count_below n p
count_lt zero p q v h lt is fails = absurd (omega arith)
count_lt (suc n) p q v h lt is fails = at (nat_eq v n) refl (λ below. count_lt n p q v h below is fails)
  where
    more : (if q n then 1 else 0) ≤ (if p n then 1 else 0)
    more = if_le (q n) (p n) (h n)

    last : v ≡ n → count_below (suc n) q < count_below (suc n) p
    last e =
        let yes : ◌≡◌ {A = ℕ} (if p n then 1 else 0) 1 = ap (λ b. if b then 1 else 0) (sym (ap p e) ∙ is) in
        let no : ◌≡◌ {A = ℕ} (if q n then 1 else 0) 0 = ap (λ b. if b then 1 else 0) (sym (ap q e) ∙ fails) in
        omega (arith, yes, no, count_le n p q h)

    at : (b : Bool) → nat_eq v n ≡ b → (v < n → count_below n q < count_below n p) → count_below (suc n) q < count_below (suc n) p
    at true e rest = last (grind (arith, nat_tests))
    at false e rest = let below : v < n = grind (arith, nat_tests) in omega (arith, more, rest below)

not_either : (a b : Bool) → not (a || b) ≡ true → not b ≡ true
not_either true b e = absurd (cc)
not_either false b e = e

not_first : (a b : Bool) → a ≡ true → not (a || b) ≡ false
not_first true b e = refl
not_first false b e = absurd (cc)

fewer_then : (st : Standing) (v : ℕ) (u : Term) → IsBindable st v u →
    count_below (next st (Bind v u)).count (λ w. not ((next st (Bind v u)).is_bound w)) < count_below st.count (λ w. not (st.is_bound w))
fewer_then st v u h =
    count_lt st.count (λ w. not (st.is_bound w)) (λ w. not (nat_eq v w || st.is_bound w)) v
    (λ w e. not_either (nat_eq v w) (st.is_bound w) e) h.in_range (ap not h.free)
    (not_first (nat_eq v v) (st.is_bound v) (let same : nat_eq v v ≡ true = grind (arith, nat_tests) in same))

pub fewer_free : (b new : TrailedBindings) (v : ℕ) (u : Term) → new ≡ then_bind b v u → IsBindable (standing b) v u → count_free new < count_free b
fewer_free b new v u e h =
    subst (λ (st : Standing). count_below st.count (λ w. not (st.is_bound w)) < count_free b) (sym (ap standing e ∙ standing_bind b v u)) (fewer_then (standing b) v u h)

-- ---- at the end

pub adds : (old new : TrailedBindings) (x y : Term) → IsExtended old new → ((s : ℕ → Term) → Solves s old → put s x ≡ put s y → Solves s new) → IsSame new x y → AddsUnifier old new x y
adds old new x y extended follows same s = (λ solves. (solves_old old new extended s solves, same s solves), λ both. follows s both.0 both.1)

pub taken_back : (old new : TrailedBindings) → IsExtended old new → back_to (length old.added) new ≡ old
taken_back old new h =
    let kept : take (length old.added) new.added ≡ old.added = ap (take (length old.added)) h.kept ∙ take-append_seam old.added h.more in
    λ i. record { first = h.first i; added = kept i }

pub longer : (old new : TrailedBindings) → IsExtended old new → length old.added ≤ length new.added
longer old new h = omega (arith, ap length h.kept, length-append old.added h.more)

-- no pairs were seen
pub none_same : (b : TrailedBindings) (same : BTreeSet (ℕ × Bor Term)) → IsEmpty same → AreSame b same
none_same b same empty v w has = absurd (let no : false ≡ true = ap (λ ks. contains pair_cmp (record { keys = ks }) (v, w)) (sym empty) ∙ has in cc)
