-- Conditions stay well-moded where more is known, and in the end what is in them is known.
use Rattle.std.proofs.Common.{ℕ, Bool, true, false, ◌≡◌, List, [], ◌∷◌, ◌++◌, refl, ap, ◌∙◌, arith}
use Rattle.std.specs.Prelude.{◌&&◌, ◌||◌, Contains, nat_eq, Option, Some, None, if◌then◌else◌}
use Rattle.std.specs.List.{AllByRecursion, flat_map}
use Rattle.std.specs.Option.{option_or}
use Rattle.std.proofs.lemmas.Bool.Decides.{nat_tests}
use Rattle.lps_terms.specs.declared.built.Built.{Built}
use Rattle.lps_terms.specs.declared.built.Built.TheVariants as b
use Rattle.lps_terms.specs.declared.cond.Cond.{Cond}
use Rattle.lps_terms.specs.declared.cond.Cond.TheVariants as c
use Rattle.lps_model.specs.Known.{Scope, are_known, built_needs, cond_needs, conds_unknown, is_known, learnt, lit_needs, same_needs, unknown_among, with_var, written}
use Rattle.lps_model.specs.VariableLists.{cond_vars, expr_vars, term_vars}
use Rattle.lps_meaning.proofs.Lists.{of_element}
use Rattle.lps_solve.proofs.Moding.{neither_is}
use Rattle.lps_solve.proofs.Sets.{all_learnt, each_known, one_known}
use Rattle.lps_solve.proofs.Vars.{all_append, all_weaker}
use Rattle.lps_solve.proofs.Grounds.{first_of_two, second_of}
use Rattle.lps_precond.specs.Stages.{vars_of, vars_with}
use Rattle.lps_precond.proofs.Variables.{all_in_order, with_all}

-- ---- known variables

abbrev pub IsIn : List ℕ → ℕ → Type 0
IsIn known v = is_known known v ≡ true

-- each of the variables is known
abbrev pub AreIn : List ℕ → List ℕ → Type 0
AreIn known vars = AllByRecursion (IsIn known) vars

or_true : (b : Bool) → (b || true) ≡ true
or_true true = refl
or_true false = refl

in_first : (known : List ℕ) (v : ℕ) → IsIn (v ∷ known) v
in_first known v = let same : nat_eq v v ≡ true = grind (arith, nat_tests) in ap (λ b. b || is_known known v) same

in_later : (known : List ℕ) (w v : ℕ) → IsIn known v → IsIn (w ∷ known) v
in_later known w v h = ap (λ b. nat_eq w v || b) h ∙ or_true (nat_eq w v)

pub each_in : (vars : List ℕ) → AreIn vars vars
each_in [] = tt
each_in (v ∷ vars) = (in_first vars v, all_weaker (IsIn vars) (IsIn (v ∷ vars)) (in_later vars v) vars (each_in vars))

in_front : (known more : List ℕ) (v : ℕ) → IsIn known v → IsIn (known ++ more) v
in_front [] more v h = absurd (cc)
in_front (w ∷ known) more v h = by (in_front known more v) (nat_eq w v) refl h
  where
    by : (IsIn known v → IsIn (known ++ more) v) → (same : Bool) → nat_eq w v ≡ same → (same || is_known known v) ≡ true → IsIn (w ∷ known ++ more) v
    by later true e h' = ap (λ b. b || is_known (known ++ more) v) e
    by later false e h' = in_later (known ++ more) w v (later h')

in_last : (known : List ℕ) (v : ℕ) → IsIn (known ++ v ∷ []) v
in_last [] v = in_first [] v
in_last (w ∷ known) v = in_later (known ++ v ∷ []) w v (in_last known v)

with_keeps : (known : List ℕ) (w v : ℕ) → IsIn known v → IsIn (with_var known w) v
with_keeps known w v h = by (is_known known w)
  where
    by : (held : Bool) → IsIn (if held then known else known ++ w ∷ []) v
    by true = h
    by false = in_front known (w ∷ []) v h

with_has : (known : List ℕ) (v : ℕ) → IsIn (with_var known v) v
with_has known v = by (is_known known v) refl
  where
    by : (held : Bool) → is_known known v ≡ held → IsIn (if held then known else known ++ v ∷ []) v
    by true e = e
    by false e = in_last known v

pub learnt_keeps : (known vars : List ℕ) (v : ℕ) → IsIn known v → IsIn (learnt known vars) v
learnt_keeps known [] v h = h
learnt_keeps known (w ∷ vars) v h = learnt_keeps (with_var known w) vars v (with_keeps known w v h)

learnt_has : (known vars : List ℕ) → AreIn (learnt known vars) vars
learnt_has known [] = tt
learnt_has known (v ∷ vars) = (learnt_keeps (with_var known v) vars v (with_has known v), learnt_has (with_var known v) vars)

-- none of the known variables is unknown
pub none_unknown : (names : List (List ℕ)) (known vars : List ℕ) → AreIn known vars → unknown_among names known vars ≡ None
none_unknown names known [] h = refl
none_unknown names known (v ∷ vars) h = ap (λ is. if is then unknown_among names known vars else Some (written names v)) h.0 ∙ none_unknown names known vars h.1

pub none_both : {X : Type 0} (one other : Option X) → one ≡ None → other ≡ None → option_or one other ≡ None
none_both None other e f = f
none_both (Some x) other e f = absurd (cc)

-- ---- more known variables

-- what was known before stays known with what is learnt
pub learnt_both : (less more vars : List ℕ) → AreIn more less → AreIn (learnt more vars) (learnt less vars)
learnt_both less more vars within =
    all_learnt (IsIn (learnt more vars)) less vars (all_weaker (IsIn more) (IsIn (learnt more vars)) (learnt_keeps more vars) less within) (learnt_has more vars)

module _ (names : List (List ℕ)) (less more : List ℕ) (within : AreIn more less) where
  among_in : (vars : List ℕ) → unknown_among names less vars ≡ None → AreIn more vars
  among_in vars none = each_known (IsIn more) names less vars within none

  among_more : (vars : List ℕ) → unknown_among names less vars ≡ None → unknown_among names more vars ≡ None
  among_more vars none = none_unknown names more vars (among_in vars none)

  are_more : (vars : List ℕ) → are_known less vars ≡ true → are_known more vars ≡ true
  are_more [] h = refl
  are_more (v ∷ vars) h =
      let one : IsIn more v = one_known (IsIn more) less v within (first_of_two (is_known less v) (are_known less vars) h) in
      let rest : are_known more vars ≡ true = are_more vars (second_of (is_known less v) (are_known less vars) h) in
      ap (λ is. is && are_known more vars) one ∙ rest

  same_more : (left right : List ℕ) → unknown_among names less (same_needs less left right) ≡ None → unknown_among names more (same_needs more left right) ≡ None
  same_more left right h = by (are_known less left) refl (are_known less right) refl h
    where
      nothing : (is : Bool) → is ≡ true → unknown_among names more (if is then [] else left ++ right) ≡ None
      nothing is e = ap (λ b. unknown_among names more (if b then [] else left ++ right)) e

      either : (is : Bool) → unknown_among names more (left ++ right) ≡ None → unknown_among names more (if is then [] else left ++ right) ≡ None
      either true none = refl
      either false none = none

      by : (one : Bool) → are_known less left ≡ one → (two : Bool) → are_known less right ≡ two → unknown_among names less (if one || two then [] else left ++ right) ≡ None →
          unknown_among names more (same_needs more left right) ≡ None
      by true e two f none = nothing (are_known more left || are_known more right) (ap (λ b. b || are_known more right) (are_more left e))
      by false e true f none = nothing (are_known more left || are_known more right) (ap (λ b. are_known more left || b) (are_more right f) ∙ or_true (are_known more left))
      by false e false f none = either (are_known more left || are_known more right) (among_more (left ++ right) none)

  built_more : (built : Built) → unknown_among names less (built_needs less built) ≡ None → unknown_among names more (built_needs more built) ≡ None
  built_more (b.Same x y) h = same_more (term_vars x) (term_vars y) h
  built_more (b.Differ x y) h = among_more (term_vars x ++ term_vars y) h
  built_more (b.Is x y) h = among_more (expr_vars y) h
  built_more (b.Compare rel x y) h = among_more (expr_vars x ++ expr_vars y) h

  pub needs_more : (scope : Scope) (cond : Cond) → unknown_among names less (cond_needs scope less cond) ≡ None → unknown_among names more (cond_needs scope more cond) ≡ None
  needs_more scope (c.Lit lit) h = among_more (lit_needs scope lit) h
  needs_more scope (c.Built built) h = built_more built h

module _ (scope : Scope) where
  -- a condition and then others, where more is known than has to be
  pub then_more : (less more : List ℕ) → AreIn more less → (cond : Cond) (conds : List Cond) (rest : Option (List ℕ)) → option_or (unknown_among scope.names less (cond_needs scope less cond)) rest ≡ None →
      (rest ≡ None → conds_unknown scope [] (learnt more (cond_vars cond)) conds ≡ None) → conds_unknown scope [] more (cond ∷ conds) ≡ None
  then_more less more within cond conds rest h later =
      let both = neither_is (unknown_among scope.names less (cond_needs scope less cond)) rest h in
      none_both (unknown_among scope.names more (cond_needs scope more cond)) (conds_unknown scope [] (learnt more (cond_vars cond)) conds) (needs_more scope.names less more within scope cond both.0) (later both.1)

  -- the variables that are known after conditions
  abbrev known_through : List ℕ → List Cond → List ℕ
  known_through known [] = known
  known_through known (cond ∷ conds) = known_through (learnt known (cond_vars cond)) conds

  through_keeps : (known : List ℕ) (conds : List Cond) (v : ℕ) → IsIn known v → IsIn (known_through known conds) v
  through_keeps known [] v h = h
  through_keeps known (cond ∷ conds) v h = through_keeps (learnt known (cond_vars cond)) conds v (learnt_keeps known (cond_vars cond) v h)

  through_has : (known : List ℕ) (conds : List Cond) → AreIn (known_through known conds) (flat_map cond_vars conds)
  through_has known [] = tt
  through_has known (cond ∷ conds) =
      all_append (IsIn (known_through known (cond ∷ conds))) (cond_vars cond) (flat_map cond_vars conds)
      (all_weaker (IsIn (learnt known (cond_vars cond))) (IsIn (known_through known (cond ∷ conds))) (through_keeps (learnt known (cond_vars cond)) conds) (cond_vars cond) (learnt_has known (cond_vars cond)))
      (through_has (learnt known (cond_vars cond)) conds)

  ends_in : (wanted known : List ℕ) (conds : List Cond) → conds_unknown scope [] known conds ≡ None → AreIn (known_through known conds) wanted → conds_unknown scope wanted known conds ≡ None
  ends_in wanted known [] none h = none_unknown scope.names known wanted h
  ends_in wanted known (cond ∷ conds) none h =
      let both = neither_is (unknown_among scope.names known (cond_needs scope known cond)) (conds_unknown scope [] (learnt known (cond_vars cond)) conds) none in
      none_both (unknown_among scope.names known (cond_needs scope known cond)) _ both.0 (ends_in wanted (learnt known (cond_vars cond)) conds both.1 h)

  -- in the end what was known and the variables of the conditions are
  pub with_known : (known : List ℕ) (conds : List Cond) → conds_unknown scope [] known conds ≡ None → conds_unknown scope (vars_with known conds) known conds ≡ None
  with_known known conds none =
      ends_in (vars_with known conds) known conds none
      (with_all (IsIn (known_through known conds)) known (flat_map cond_vars conds)
      (all_weaker (IsIn known) (IsIn (known_through known conds)) (through_keeps known conds) known (each_in known)) (through_has known conds))

  -- and the variables of the conditions alone
  pub with_own : (known : List ℕ) (conds : List Cond) → conds_unknown scope [] known conds ≡ None → conds_unknown scope (vars_of conds) known conds ≡ None
  with_own known conds none = ends_in (vars_of conds) known conds none (all_in_order (IsIn (known_through known conds)) (flat_map cond_vars conds) (through_has known conds))

  -- and some of these
  pub with_some : (known : List ℕ) (conds : List Cond) → conds_unknown scope [] known conds ≡ None → (some : List ℕ) → AllByRecursion (Contains (flat_map cond_vars conds)) some → conds_unknown scope some known conds ≡ None
  with_some known conds none some among =
      ends_in some known conds none
      (all_weaker (Contains (flat_map cond_vars conds)) (IsIn (known_through known conds)) (λ v at. of_element (IsIn (known_through known conds)) (flat_map cond_vars conds) v (through_has known conds) at) some among)
