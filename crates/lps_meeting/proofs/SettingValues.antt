-- Values of variables by bindings.
use Rattle.std.proofs.Common.{ℕ, ◌≡◌, ◌<◌, ◌+◌, List, [], ◌∷◌, ◌++◌, get_or, length, map, refl, sym, ap, subst, ◌∙◌, arith}
use Rattle.std.specs.Prelude.{◌↔◌, Bool, true, false, nat_lt, suc}
use Rattle.std.specs.List.{AllByRecursion}
use Rattle.std.proofs.lemmas.Bool.Decides.{nat_tests}
use Rattle.lps_terms.specs.declared.term.Term.{Term}
use Rattle.lps_terms.specs.declared.term.Term.TheVariants as t
use Rattle.lps_terms.specs.Put.{after, put, put-Var}
use Rattle.lps_model.specs.VariableLists.{args_vars, term_vars}
use Rattle.lps_unify.specs.Bindings.{IsLawful, Solves, TrailedBindings, count_of, resolved, standing}
use Rattle.lps_unify.specs.Unified.{AreWithin, JoinsAllOn}
use Rattle.lps_unify.proofs.Standings.{goes_through, solves_itself}
use Rattle.lps_unify.proofs.Sums.{put_within}
use Rattle.lps_unify.proofs.Variables.{solutions_agree}
use Rattle.lps_residual.specs.Putting.{value_at}
use Rattle.lps_solve.specs.Met.{AreGround}
use Rattle.lps_solve.proofs.Grounds.{list_stays}
use Rattle.lps_solve.proofs.Placing.{solves_after}
use Rattle.lps_solve.proofs.Vars.{IsBelow, all_append, are_within, value_below, within_of}
use Rattle.lps_meeting.specs.Steps.{AreResolved, AreValuesBy, IsFresh, IsValuesOf}
use Rattle.lps_meeting.proofs.SettingTimes.{longer_by_one, push_before, push_end}

-- ---- one after another

pub none_resolved : (b : TrailedBindings) → AreResolved 0 b []
none_resolved b = record { count = refl; each = λ v below. absurd (omega (arith, below)) }

pub more_resolved : (n : ℕ) (b : TrailedBindings) (values : List Term) → AreResolved n b values → AreResolved (n + 1) b (values ++ resolved b (t.Var n) ∷ [])
more_resolved n b values are = record {
  count = longer_by_one values (resolved b (t.Var n)) ∙ ap (λ k. k + 1) are.count;
  each = λ v below. at v below (nat_lt v n) refl;
} where
  at : (v : ℕ) → v < n + 1 → (less : Bool) → nat_lt v n ≡ less → value_at (values ++ resolved b (t.Var n) ∷ []) v ≡ (standing b).value v
  at v below true e = let less : v < n = grind (arith, nat_tests) in push_before values (resolved b (t.Var n)) v (t.Var v) (subst (λ m. v < m) (sym are.count) less) ∙ are.each v less
  at v below false e =
      let same : v ≡ n = grind (arith, nat_tests, below) in
      push_end values (resolved b (t.Var n)) v (t.Var v) (same ∙ sym are.count) ∙ put-Var (standing b).value n ∙ ap (standing b).value (sym same)

-- ---- all of them

-- what is so at each place is so of each
each_of : (P : Term → Type 0) (xs : List Term) (d : ℕ → Term) → ((i : ℕ) → i < length xs → P (get_or xs i (d i))) → AllByRecursion P xs
each_of P [] d h = tt
each_of P (x ∷ xs) d h = (h 0 (omega arith), each_of P xs (λ i. d (suc i)) (λ i below. h (suc i) (omega (arith, below))))

below_all : (n : ℕ) (xs : List Term) → AllByRecursion (λ x. AllByRecursion (IsBelow n) (term_vars x)) xs → AllByRecursion (IsBelow n) (args_vars xs)
below_all n [] h = tt
below_all n (x ∷ xs) h = all_append (IsBelow n) (term_vars x) (args_vars xs) h.0 (below_all n xs h.1)

module _ (n : ℕ) (b : TrailedBindings) (lawful : IsLawful b) (count : count_of b ≡ n) (values : List Term) (are : AreResolved n b values) where
  abbrev σ : ℕ → Term
  σ = (standing b).value

  below : (v : ℕ) → v < n → AllByRecursion (IsBelow n) (term_vars (σ v))
  below v lt = subst (λ m. AllByRecursion (IsBelow m) (term_vars (σ v))) count (value_below b lawful v (subst (λ m. v < m) (sym count) lt))

  value_within : AreWithin n values
  value_within = are_within n values (below_all n values (each_of (λ x. AllByRecursion (IsBelow n) (term_vars x)) values (λ v. t.Var v)
      (λ v lt. let inside = subst (λ m. v < m) are.count lt in subst (λ x. AllByRecursion (IsBelow n) (term_vars x)) (sym (are.each v inside)) (below v inside))))

  -- terms of these variables are the same by the list
  same_by_values : (v : ℕ) → v < n → put (value_at values) (σ v) ≡ put σ (σ v)
  same_by_values v lt = put_within (value_at values) σ n are.each (σ v) (within_of n (σ v) (below v lt))

  through : (s : ℕ → Term) → Solves s b → (v : ℕ) → put s (σ v) ≡ s v
  through s solves v = ap (put s) (sym (put-Var σ v)) ∙ goes_through b lawful s solves (t.Var v) ∙ put-Var s v

  values_own : IsValuesOf values (value_at values)
  values_own v lt =
      let inside = subst (λ m. v < m) are.count lt in
      are.each v inside ∙ sym (ap (put (value_at values)) (are.each v inside) ∙ same_by_values v inside ∙ through σ (solves_itself b lawful) v)

  to_values : (s : ℕ → Term) → Solves s b → IsValuesOf values s
  to_values s solves v lt = sym (ap (put s) (are.each v (subst (λ m. v < m) are.count lt)) ∙ through s solves v)

  of_values : (s : ℕ → Term) → IsValuesOf values s → Solves s b
  of_values s is = solutions_agree b lawful (after s σ) s
      (λ v lt. let inside = subst (λ m. v < m) count lt in ap (put s) (sym (are.each v inside)) ∙ sym (is v (subst (λ m. v < m) (sym are.count) inside))) (solves_after b lawful s)

  pub values_are : (terms row : List Term) → ((s : ℕ → Term) → Solves s b ↔ (map (put s) terms ≡ row)) → AreValuesBy n terms row values
  values_are terms row exact = record {
    count = are.count;
    within = value_within;
    own = values_own;
    exact = λ s. (λ e. to_values s ((exact s).1 e), λ is. (exact s).0 (of_values s is));
  }

-- ---- unifiers

-- where nothing was bound, exactly what makes the terms the ground row solves the bindings
pub solved_by : (n : ℕ) (old new : TrailedBindings) (terms row : List Term) → IsFresh n old → AreGround row → JoinsAllOn true old new terms row → (s : ℕ → Term) → Solves s new ↔ (map (put s) terms ≡ row)
solved_by n old new terms row fresh ground joins s = (
  λ solves. ((joins s).0 solves).1 ∙ list_stays s row ground,
  λ e. (joins s).1 (fresh.free s, e ∙ sym (list_stays s row ground)),
)

pub never_solved : (n : ℕ) (old new : TrailedBindings) (terms row : List Term) → IsFresh n old → AreGround row → JoinsAllOn false old new terms row → (s : ℕ → Term) → map (put s) terms ≡ row → ⊥
never_solved n old new terms row fresh ground joins s e = joins s (fresh.free s) (e ∙ sym (list_stays s row ground))

-- rows of another length are never reached
pub other_length : (terms row : List Term) → (length terms ≡ length row → ⊥) → (s : ℕ → Term) → map (put s) terms ≡ row → ⊥
other_length terms row other s e = other (sym (length_map terms) ∙ ap length e)
  where
    length_map : (xs : List Term) → length (map (put s) xs) ≡ length xs
    length_map [] = refl
    length_map (x ∷ xs) = ap suc (length_map xs)
