-- Lists that have the value of each number below a bound, and what is given at the start of a sequence.
use Rattle.std.proofs.Common.{ℕ, ◌≡◌, ◌+◌, ◌<◌, ◌≤◌, Bool, true, false, not, cond, nat_eq, nat_lt, List, [], ◌∷◌, ◌++◌, drop, get_or, length, map, refl, sym, ap, subst, ◌∙◌, arith}
use Rattle.std.specs.Prelude.{None, Some, slice_get, suc, zero}
use Rattle.std.specs.List.{AllByRecursion}
use Rattle.std.proofs.lemmas.Bool.Decides.{nat_tests}
use Rattle.std.proofs.lemmas.List.{at_drop_more}
use Rattle.lps_terms.specs.declared.term.Term.{Term}
use Rattle.lps_terms.specs.declared.term.Term.TheVariants as t
use Rattle.lps_meaning.specs.declared.when.When.TheVariants.{Known, Unknown}
use Rattle.lps_unify.specs.Canonical.{place_of}
use Rattle.lps_seq.specs.Starts.{given_value, given_when}

module _ {X : Type 0} where
  -- ---- lists

  pub beyond : (xs : List X) (v : ℕ) (e : X) → length xs ≤ v → get_or xs v e ≡ e
  beyond [] v e le = refl
  beyond (x ∷ xs) zero e le = absurd (omega (arith, le))
  beyond (x ∷ xs) (suc v) e le = beyond xs v e (omega (arith, le))

  push_below : (xs : List X) (x : X) (v : ℕ) (e : X) → v < length xs → get_or (xs ++ x ∷ []) v e ≡ get_or xs v e
  push_below [] x v e lt = absurd (omega (arith, lt))
  push_below (y ∷ xs) x zero e lt = refl
  push_below (y ∷ xs) x (suc v) e lt = push_below xs x v e (omega (arith, lt))

  push_last : (xs : List X) (x : X) (v : ℕ) (e : X) → v ≡ length xs → get_or (xs ++ x ∷ []) v e ≡ x
  push_last [] x zero e same = refl
  push_last [] x (suc v) e same = absurd (omega (arith, same))
  push_last (y ∷ xs) x zero e same = absurd (omega (arith, same))
  push_last (y ∷ xs) x (suc v) e same = push_last xs x v e (omega (arith, same))

  longer : (xs : List X) (x : X) → length (xs ++ x ∷ []) ≡ length xs + 1
  longer [] x = refl
  longer (y ∷ xs) x = let rest = longer xs x in omega (arith, rest)

  pub at_some : (xs : List X) (i : ℕ) (x e : X) → slice_get xs i ≡ Some x → x ≡ get_or xs i e
  at_some [] i x e h = cc
  at_some (y ∷ xs) zero x e h = cc
  at_some (y ∷ xs) (suc i) x e h = at_some xs i x e h

  pub at_none : (xs : List X) (i : ℕ) (e : X) → slice_get xs i ≡ None → e ≡ get_or xs i e
  at_none [] i e h = refl
  at_none (y ∷ xs) zero e h = cc
  at_none (y ∷ xs) (suc i) e h = at_none xs i e h

  pub at_any : (xs : List X) (k : ℕ) (d e : X) → k < length xs → get_or xs k d ≡ get_or xs k e
  at_any [] k d e below = absurd (omega (arith, below))
  at_any (x ∷ xs) zero d e below = refl
  at_any (x ∷ xs) (suc k) d e below = at_any xs k d e (omega (arith, below))

  -- ---- tables

  -- the list has the value of each number below n, where d stands for what it lacks
  abbrev pub IsTable : (ℕ → X) → (ℕ → X) → List X → ℕ → Type 0
  IsTable d f xs n = (length xs ≡ n) × ((v : ℕ) → v < n → get_or xs v (d v) ≡ f v)

  pub one_more : (d f : ℕ → X) (xs : List X) (n : ℕ) (x : X) → IsTable d f xs n → x ≡ f n → IsTable d f (xs ++ x ∷ []) (n + 1)
  one_more d f xs n x is e = ((let more = longer xs x in let count = is.0 in omega (arith, more, count)), λ v below. by v below (nat_eq v n) refl) where
    by : (v : ℕ) → v < n + 1 → (b : Bool) → nat_eq v n ≡ b → get_or (xs ++ x ∷ []) v (d v) ≡ f v
    by v below true same = let here : v ≡ n = grind (arith, nat_tests) in push_last xs x v (d v) (here ∙ sym is.0) ∙ e ∙ ap f (sym here)
    by v below false other = let less : v < n = grind (arith, nat_tests) in push_below xs x v (d v) (subst (λ k. v < k) (sym is.0) less) ∙ is.1 v less

  pub whole_table : (d f : ℕ → X) (xs : List X) (n : ℕ) → IsTable d f xs n → ((v : ℕ) → n ≤ v → d v ≡ f v) → (v : ℕ) → get_or xs v (d v) ≡ f v
  whole_table d f xs n is more v = by (nat_lt v n) refl where
    by : (b : Bool) → nat_lt v n ≡ b → get_or xs v (d v) ≡ f v
    by true e = is.1 v (grind (arith, nat_tests))
    by false e = let le : n ≤ v = grind (arith, nat_tests) in beyond xs v (d v) (subst (λ k. k ≤ v) (sym is.0) le) ∙ more v le

-- ---- places

-- a number that is above all others has no place among them
above_all : (xs : List ℕ) (above v : ℕ) → AllByRecursion (λ n. n < above) xs → above ≤ v → length xs ≤ place_of xs v
above_all [] above v all le = omega arith
above_all (x ∷ xs) above v all le = by (nat_eq x v) refl (above_all xs above v all.1 le) where
  by : (b : Bool) → nat_eq x v ≡ b → length xs ≤ place_of xs v → length (x ∷ xs) ≤ cond (not b) (1 + place_of xs v) 0
  by true e rest = absurd (let here = all.0 in grind (arith, nat_tests))
  by false e rest = omega (arith, rest)

mapped : (times : List ℕ) (i n : ℕ) → slice_get times i ≡ Some n → slice_get (map (λ m. Known m) times) i ≡ Some (Known n)
mapped [] i n h = cc
mapped (m ∷ times) zero n h = cc
mapped (m ∷ times) (suc i) n h = mapped times i n h

mapped_none : (times : List ℕ) (i : ℕ) → slice_get times i ≡ None → slice_get (map (λ m. Known m) times) i ≡ None
mapped_none [] i h = refl
mapped_none (m ∷ times) zero h = cc
mapped_none (m ∷ times) (suc i) h = mapped_none times i h

as_many : (times : List ℕ) → length (map (λ m. Known m) times) ≡ length times
as_many [] = refl
as_many (m ∷ times) = ap suc (as_many times)

-- ---- what is given

pub value_some : (shared : List ℕ) (values : List Term) (v : ℕ) (x : Term) → slice_get values (place_of shared v) ≡ Some x → x ≡ given_value shared values v
value_some shared values v x h = at_some values (place_of shared v) x (t.Var v) h

pub value_none : (shared : List ℕ) (values : List Term) (v : ℕ) → slice_get values (place_of shared v) ≡ None → t.Var v ≡ given_value shared values v
value_none shared values v h = at_none values (place_of shared v) (t.Var v) h

pub value_above : (shared : List ℕ) (values : List Term) (above v : ℕ) → length values ≡ length shared → AllByRecursion (λ n. n < above) shared → above ≤ v → t.Var v ≡ given_value shared values v
value_above shared values above v same all le = sym (beyond values (place_of shared v) (t.Var v) (subst (λ n. n ≤ place_of shared v) (sym same) (above_all shared above v all le)))

pub when_some : (numbers times : List ℕ) (k n : ℕ) → slice_get times (place_of numbers k) ≡ Some n → Known n ≡ given_when numbers times k
when_some numbers times k n h = at_some (map (λ m. Known m) times) (place_of numbers k) (Known n) (Unknown k) (mapped times (place_of numbers k) n h)

pub when_none : (numbers times : List ℕ) (k : ℕ) → slice_get times (place_of numbers k) ≡ None → Unknown k ≡ given_when numbers times k
when_none numbers times k h = at_none (map (λ m. Known m) times) (place_of numbers k) (Unknown k) (mapped_none times (place_of numbers k) h)

pub when_above : (numbers times : List ℕ) (above k : ℕ) → length times ≡ length numbers → AllByRecursion (λ n. n < above) numbers → above ≤ k → Unknown k ≡ given_when numbers times k
when_above numbers times above k same all le =
    sym (beyond (map (λ m. Known m) times) (place_of numbers k) (Unknown k) (subst (λ n. n ≤ place_of numbers k) (sym (as_many times ∙ same)) (above_all numbers above k all le)))

-- ---- what is left of a list

pub all_dropped : {X : Type 0} (P : X → Type 0) (xs : List X) (i : ℕ) (x : X) → i < length xs → x ≡ get_or xs i x → P x → AllByRecursion P (drop (i + 1) xs) → AllByRecursion P (drop i xs)
all_dropped P xs i x lt at px all = subst (AllByRecursion P) (sym (at_drop_more (λ ys. ys) xs i x lt)) (subst P at px, all)
