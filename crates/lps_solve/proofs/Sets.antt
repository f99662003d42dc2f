-- What holds of known variables holds of those that are found known, and of those learnt.
use Rattle.std.proofs.Common.{ℕ, Bool, true, false, ◌≡◌, List, [], ◌∷◌, ◌++◌, refl, subst}
use Rattle.std.specs.Prelude.{nat_eq, ◌||◌, if◌then◌else◌, Some, None}
use Rattle.std.specs.List.{AllByRecursion, flat_map}
use Rattle.std.proofs.lemmas.Bool.{eqb-true}
use Rattle.lps_terms.specs.declared.cond.Cond.{Cond}
use Rattle.lps_model.specs.Known.{Scope, cond_needs, conds_unknown, is_known, learnt, unknown_among, with_var, written}
use Rattle.lps_model.specs.VariableLists.{cond_vars}
use Rattle.lps_solve.proofs.Moding.{neither_is}
use Rattle.lps_solve.proofs.Vars.{all_append, all_first, all_second}

module _ (P : ℕ → Type 0) where
  pub one_known : (known : List ℕ) (v : ℕ) → AllByRecursion P known → is_known known v ≡ true → P v
  one_known [] v all h = absurd (cc)
  one_known (w ∷ known) v all h = by (one_known known v all.1) (nat_eq w v) refl h
    where
      by : (is_known known v ≡ true → P v) → (same : Bool) → nat_eq w v ≡ same → (same || is_known known v) ≡ true → P v
      by later true same h = subst P (eqb-true w v same) all.0
      by later false same h = later h

  pub each_known : (names : List (List ℕ)) (known vars : List ℕ) → AllByRecursion P known → unknown_among names known vars ≡ None → AllByRecursion P vars
  each_known names known [] all none = tt
  each_known names known (v ∷ vars) all none = by (each_known names known vars all) (is_known known v) refl none
    where
      by : (unknown_among names known vars ≡ None → AllByRecursion P vars) → (is : Bool) → is_known known v ≡ is → (if is then unknown_among names known vars else Some (written names v)) ≡ None → AllByRecursion P (v ∷ vars)
      by later true is none = (one_known known v all is, later none)
      by later false is none = absurd (cc)

  with_one : (known : List ℕ) (v : ℕ) (is : Bool) → AllByRecursion P known → P v → AllByRecursion P (if is then known else (known ++ v ∷ []))
  with_one known v true all one = all
  with_one known v false all one = all_append P known (v ∷ []) all (one, tt)

  pub all_learnt : (known vars : List ℕ) → AllByRecursion P known → AllByRecursion P vars → AllByRecursion P (learnt known vars)
  all_learnt known [] all more = all
  all_learnt known (v ∷ vars) all more = all_learnt (with_var known v) vars (with_one known v (is_known known v) all more.0) more.1

  -- what holds of the known variables and of those of the conditions holds of those that have to be known at the end
  pub ends_known : (scope : Scope) (wanted known : List ℕ) (conds : List Cond) → conds_unknown scope wanted known conds ≡ None → AllByRecursion P known → AllByRecursion P (flat_map cond_vars conds) → AllByRecursion P wanted
  ends_known scope wanted known [] none all more = each_known scope.names known wanted all none
  ends_known scope wanted known (cond ∷ conds) none all more =
      ends_known scope wanted (learnt known (cond_vars cond)) conds
      ((neither_is (unknown_among scope.names known (cond_needs scope known cond)) (conds_unknown scope wanted (learnt known (cond_vars cond)) conds) none).1)
      (all_learnt known (cond_vars cond) all (all_first P (cond_vars cond) (flat_map cond_vars conds) more)) (all_second P (cond_vars cond) (flat_map cond_vars conds) more)
