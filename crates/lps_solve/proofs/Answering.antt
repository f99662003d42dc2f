-- From what a search reaches to the answers of conditions.
use Rattle.std.proofs.Common.{ℕ, ◌≡◌, ◌+◌, ◌<◌, ◌↔◌, List, [], ◌∷◌, ◌++◌, map, take, length, get_or, refl, sym, ap, ◌∙◌, subst, arith, inl, inr}
use Rattle.std.specs.Prelude.{zero, suc, Contains}
use Rattle.std.specs.BTreeSet.{insert_key}
use Rattle.std.specs.declared.cmp.Ordering.{Ordering}
use Rattle.std.specs.declared.cmp.Ordering.TheVariants.{Less, Equal, Greater}
use Rattle.std.specs.Ordering.{nat_cmp}
use Rattle.std.specs.List.{AllByRecursion, flat_map}
use Rattle.std.specs.List.Sorted.{IsStrictlySortedBy}
use Rattle.std.specs.Cmp.Lexicographic.{slice_cmp}
use Rattle.lps_terms.specs.Order.{term_cmp}
use Rattle.std.proofs.lemmas.Grind.{flat_map-append}
use Rattle.std.proofs.lemmas.List.{map-append}
use Rattle.lps_terms.specs.declared.atom.Atom.{Atom}
use Rattle.lps_terms.specs.declared.cond.Cond.{Cond}
use Rattle.lps_terms.specs.declared.term.Term.{Term}
use Rattle.lps_terms.specs.declared.term.Term.TheVariants as t
use Rattle.lps_terms.specs.declared.values.Values.{Values}
use Rattle.lps_terms.specs.Put.{put, put-Var}
use Rattle.lps_model.specs.VariableLists.{args_vars, cond_vars, term_vars}
use Rattle.lps_model.proofs.Elements.{first_or_later, nothing_contained}
use Rattle.lps_model.specs.Clauses.{Clause}
use Rattle.lps_derivation.specs.Instances.{IsSmallCond, put_cond}
use Rattle.lps_derivation.specs.Levels.{AreLevels}
use Rattle.lps_unify.specs.Bindings.{TrailedBindings, standing, count_of, IsLawful}
use Rattle.lps_unify.specs.Unified.{AreWithin}
use Rattle.lps_unify.proofs.Keeping.{append_none}
use Rattle.lps_solve.specs.Answers.{AreLarge, IsAnswer, IsInstanceFor, variables_left, with_vars}
use Rattle.lps_solve.specs.Found.{GainsBy, Reaches}
use Rattle.lps_solve.specs.Met.{AreMet, IsMetCond}
use Rattle.lps_solve.specs.Placed.{AreBelow, values_in}
use Rattle.lps_solve.proofs.Collecting.{with_append}
use Rattle.lps_solve.proofs.Gaining.{take_more}
use Rattle.lps_solve.proofs.Placing.{never_small}
use Rattle.lps_solve.proofs.Searching.{contains_at}
use Rattle.lps_solve.proofs.Vars.{all_append, all_first, all_second, are_within, IsBelow, put_cond_vars, values_below, vars_of-Var}

-- ---- counting from 0

pub from_zero : (s : ℕ → Term) → (λ (v : ℕ). s (0 + v)) ≡ s
from_zero s = λ i v. let e : 0 + v ≡ v = omega arith in ap s e i

pub placed_from_zero : (b : TrailedBindings) (cond : Cond) → put_cond (values_in b 0) cond ≡ put_cond (standing b).value cond
placed_from_zero b cond = ap (λ f. put_cond f cond) (from_zero (standing b).value)

-- ---- the variables that are left

module _ (P : ℕ → Type 0) where
  inserted_by : (known : List ℕ) (v w : ℕ) (o : Ordering) → nat_cmp v w ≡ o → P w → P v → AllByRecursion P known → AllByRecursion P (insert_key nat_cmp known v) → AllByRecursion P (insert_key nat_cmp (w ∷ known) v)
  inserted_by known v w Less e old new all rest = rw e (new, (old, all))
  inserted_by known v w Equal e old new all rest = rw e (old, all)
  inserted_by known v w Greater e old new all rest = rw e (old, rest)

  inserted : (known : List ℕ) (v : ℕ) → P v → AllByRecursion P known → AllByRecursion P (insert_key nat_cmp known v)
  inserted [] v new all = (new, tt)
  inserted (w ∷ known) v new all = inserted_by known v w (nat_cmp v w) refl all.0 new all.1 (inserted known v new all.1)

  pub with_all : (known vars : List ℕ) → AllByRecursion P known → AllByRecursion P vars → AllByRecursion P (with_vars known vars)
  with_all known [] all more = all
  with_all known (v ∷ vars) all more = with_all (insert_key nat_cmp known v) vars (inserted known v more.0 all) more.1

vars_below : (n : ℕ) (vars : List ℕ) → AllByRecursion (IsBelow n) vars → AllByRecursion (IsBelow n) (args_vars (map (λ v. t.Var v) vars))
vars_below n [] h = tt
vars_below n (v ∷ vars) h = all_append (IsBelow n) (term_vars (t.Var v)) (args_vars (map (λ w. t.Var w) vars)) (subst (AllByRecursion (IsBelow n)) (sym (vars_of-Var v)) (h.0, tt)) (vars_below n vars h.1)

module _ (b : TrailedBindings) (lawful : IsLawful b) where
  placed_below : (conds : List Cond) → AreBelow (count_of b) 0 (flat_map cond_vars conds) → AllByRecursion (IsBelow (count_of b)) (flat_map cond_vars (map (put_cond (standing b).value) conds))
  placed_below [] h = tt
  placed_below (k ∷ conds) h =
      all_append (IsBelow (count_of b)) (cond_vars (put_cond (standing b).value k)) (flat_map cond_vars (map (put_cond (standing b).value) conds))
      (subst (λ (x : Cond). AllByRecursion (IsBelow (count_of b)) (cond_vars x)) (placed_from_zero b k)
      (put_cond_vars (IsBelow (count_of b)) (values_in b 0) k (values_below b lawful 0 (cond_vars k) (all_first (λ v. 0 + v < count_of b) (cond_vars k) (flat_map cond_vars conds) h))))
      (placed_below conds (all_second (λ v. 0 + v < count_of b) (cond_vars k) (flat_map cond_vars conds) h))

  pub wanted_within : (conds : List Cond) → AreBelow (count_of b) 0 (flat_map cond_vars conds) → (wanted : List Term) → wanted ≡ map (λ v. t.Var v) (variables_left b conds) → AreWithin (count_of b) wanted
  wanted_within conds h wanted e =
      subst (AreWithin (count_of b)) (sym e)
      (are_within (count_of b) (map (λ v. t.Var v) (variables_left b conds)) (vars_below (count_of b) (variables_left b conds) (with_all (IsBelow (count_of b)) [] (flat_map cond_vars (map (put_cond (standing b).value) conds)) tt (placed_below conds h))))

pub cond_below : (count : ℕ) (conds : List Cond) (i : ℕ) (k : Cond) → i < length conds → k ≡ get_or conds i k → AreBelow count 0 (flat_map cond_vars conds) → AreBelow count 0 (cond_vars k)
cond_below count [] i k lt is h = absurd (omega arith)
cond_below count (c ∷ conds) zero k lt is h = subst (λ (x : Cond). AreBelow count 0 (cond_vars x)) (sym is) (all_first (λ v. 0 + v < count) (cond_vars c) (flat_map cond_vars conds) h)
cond_below count (c ∷ conds) (suc i) k lt is h = cond_below count conds i k (omega arith) is (all_second (λ v. 0 + v < count) (cond_vars c) (flat_map cond_vars conds) h)

-- one condition more is noted
pub more_noted : (b : TrailedBindings) (conds : List Cond) (i : ℕ) (k placed : Cond) (old new : List ℕ) → i < length conds → k ≡ get_or conds i k → placed ≡ put_cond (values_in b 0) k →
    old ≡ with_vars [] (flat_map cond_vars (map (put_cond (standing b).value) (take i conds))) → new ≡ with_vars old (cond_vars placed) →
    new ≡ with_vars [] (flat_map cond_vars (map (put_cond (standing b).value) (take (i + 1) conds)))
more_noted b conds i k placed old new lt is e before after =
    let one : cond_vars placed ≡ cond_vars (put_cond (standing b).value k) = ap cond_vars (e ∙ placed_from_zero b k) in
    let split : flat_map cond_vars (map (put_cond (standing b).value) (take (i + 1) conds)) ≡ flat_map cond_vars (map (put_cond (standing b).value) (take i conds)) ++ cond_vars (put_cond (standing b).value k) =
    ap (λ (ks : List Cond). flat_map cond_vars (map (put_cond (standing b).value) ks)) (take_more i conds k lt is)
    ∙ ap (flat_map cond_vars) (map-append (put_cond (standing b).value) (take i conds) (k ∷ []))
    ∙ flat_map-append cond_vars (map (put_cond (standing b).value) (take i conds)) (put_cond (standing b).value k ∷ [])
    ∙ ap (λ (vs : List ℕ). flat_map cond_vars (map (put_cond (standing b).value) (take i conds)) ++ vs) (append_none (cond_vars (put_cond (standing b).value k))) in
    after ∙ (λ j. with_vars (before j) (one j)) ∙ sym (with_append [] (flat_map cond_vars (map (put_cond (standing b).value) (take i conds))) (cond_vars (put_cond (standing b).value k))) ∙ ap (with_vars []) (sym split)

pub large_at : (b : TrailedBindings) (conds : List Cond) (i : ℕ) (k : Cond) → i < length conds → k ≡ get_or conds i k → (IsSmallCond (put_cond (values_in b 0) k) → ⊥) → AreLarge b conds
large_at b conds i k lt is never = (k, contains_at conds conds i k refl lt is, λ h. never (subst IsSmallCond (sym (placed_from_zero b k)) h))

-- ---- answers

values_at : (s : ℕ → Term) (vars : List ℕ) → map (put s) (map (λ v. t.Var v) vars) ≡ map s vars
values_at s [] = refl
values_at s (v ∷ vars) = λ i. put-Var s v i ∷ values_at s vars i

module _ (program : List Clause) (facts : List Atom) (most room : ℕ) (b : TrailedBindings) (conds : List Cond) (wanted : List Term) (found : List (List Term)) (g : GainsBy program [] found (λ level. Reaches program facts level most room b 0 conds wanted))
    (level : List ℕ → ℕ) (levels : AreLevels program level) where
  to_instance : (x : List Term) → Reaches program facts level most room b 0 conds wanted x → IsInstanceFor program facts level most room b conds wanted x
  to_instance x h = record { values = h.values; solve = h.solve; met = subst (λ (f : ℕ → Term). AreMet program facts level f conds) (from_zero h.values) h.met; is = h.is; fits = h.fits }

  from_instance : (x : List Term) → IsInstanceFor program facts level most room b conds wanted x → Reaches program facts level most room b 0 conds wanted x
  from_instance x h = record { values = h.values; solve = h.solve; met = subst (λ (f : ℕ → Term). AreMet program facts level f conds) (sym (from_zero h.values)) h.met; is = h.is; fits = h.fits }

  pub reached : (x : List Term) → Contains found x ↔ IsInstanceFor program facts level most room b conds wanted x
  reached x = (
    λ h. elim ((g level levels x).0 h) [ inl none ↦ absurd (nothing_contained x none) | inr one ↦ to_instance x one ],
    λ h. (g level levels x).1 (inr (from_instance x h)),
  )

module _ (program : List Clause) (facts : List Atom) (level : List ℕ → ℕ) (most : ℕ) (b : TrailedBindings) (conds : List Cond) (wanted : List Term) (e : wanted ≡ map (λ v. t.Var v) (variables_left b conds)) where
  to_answer : (x : List Term) → IsInstanceFor program facts level most most b conds wanted x → IsAnswer program facts level b conds x
  to_answer x h = record {
    values = h.values;
    solve = h.solve;
    met = h.met;
    is = h.is ∙ ap (map (put h.values)) e ∙ values_at h.values (variables_left b conds);
    ground = h.fits.ground;
    small = h.fits.each;
  }

  from_answer : (x : List Term) → IsAnswer program facts level b conds x → IsInstanceFor program facts level most most b conds wanted x
  from_answer x h = record {
    values = h.values;
    solve = h.solve;
    met = h.met;
    is = h.is ∙ sym (ap (map (put h.values)) e ∙ values_at h.values (variables_left b conds));
    fits = record { ground = h.ground; each = h.small; all = omega arith };
  }

  -- the instances of the variables that are left are the answers
  pub answered : (found : List (List Term)) (x : List Term) → Contains found x ↔ IsInstanceFor program facts level most most b conds wanted x → Contains found x ↔ IsAnswer program facts level b conds x
  answered found x are = (λ h. to_answer x (are.0 h), λ h. are.1 (from_answer x h))

met_at : (program : List Clause) (facts : List Atom) (level : List ℕ → ℕ) (s : ℕ → Term) (conds : List Cond) (k : Cond) → AreMet program facts level s conds → Contains conds k → IsMetCond program facts level (put_cond s k)
met_at program facts level s [] k h among = absurd (nothing_contained k among)
met_at program facts level s (c ∷ conds) k h among = elim (first_or_later c conds k among) [
  | inl here ↦ subst (λ (x : Cond). IsMetCond program facts level (put_cond s x)) here h.0
  | inr later ↦ met_at program facts level s conds k h.1 later
]

-- where a condition is too large there are no answers
pub none_answered : (program : List Clause) (facts : List Atom) (b : TrailedBindings) → IsLawful b → (conds : List Cond) → AreLarge b conds → (level : List ℕ → ℕ) → AreLevels program level →
    (x : List Term) → Contains [] x ↔ IsAnswer program facts level b conds x
none_answered program facts b lawful conds large level levels x = (
  λ h. absurd (nothing_contained x h),
  λ h.
      let k = large.0 in
      let met = met_at program facts level h.values conds k h.met large.1 in
      absurd (never_small b lawful 0 h.values h.solve k (λ small. large.2 (subst IsSmallCond (placed_from_zero b k) small)) (subst (λ (f : ℕ → Term). IsSmallCond (put_cond f k)) (sym (from_zero h.values)) met.small)),
)

-- no values
pub no_values : (values : List Values) → values ≡ [] → map (λ v. v.0) values ≡ []
no_values values e = ap (λ (vs : List Values). map (λ v. v.0) vs) e

-- no rows are in order
pub none_sorted : IsStrictlySortedBy (slice_cmp term_cmp) []
unfolding IsStrictlySortedBy
none_sorted = tt
