-- From what is found for a stage to its rows, and from the stages of a denial to whether it is violated.
use Rattle.std.proofs.Common.{ℕ, suc, Bool, true, false, not, ◌≡◌, ◌≤◌, ◌+◌, ◌<◌, List, [], ◌∷◌, map, take, length, get_or, ◌++◌, refl, sym, ap, subst, ◌∙◌, arith, inl, inr}
use Rattle.std.specs.Prelude.{◌↔◌, ◌&&◌, ◌==◌, Contains, None}
use Rattle.std.specs.List.{AllByRecursion, flat_map, list_all}
use Rattle.std.proofs.lemmas.Bool.Decides.{nat_tests}
use Rattle.std.proofs.lemmas.List.{length-map, map-append}
use Rattle.std.proofs.lemmas.List.Elements.{Contains-push_cases}
use Rattle.lps_terms.specs.declared.atom.Atom.{Atom}
use Rattle.lps_terms.specs.declared.cond.Cond.{Cond}
use Rattle.lps_terms.specs.declared.term.Term.{Term}
use Rattle.lps_terms.specs.declared.term.Term.TheVariants as t
use Rattle.lps_terms.specs.declared.text.Text.{Text}
use Rattle.lps_terms.specs.declared.values.Values.{Values}
use Rattle.lps_terms.specs.Put.{put, put-Var}
use Rattle.lps_terms.specs.Symbols.{symbols_of}
use Rattle.lps_model.specs.Acceptance.{IsAccepted}
use Rattle.lps_model.specs.Clauses.{Clause, clauses}
use Rattle.lps_model.specs.Formed.{is_formed}
use Rattle.lps_model.specs.Known.{conds_unknown}
use Rattle.lps_model.specs.VariableLists.{args_vars, cond_vars}
use Rattle.lps_model.proofs.Elements.{first_is_contained, first_or_later, later_is_contained, nothing_contained}
use Rattle.lps_derivation.specs.Ground.{is_ground}
use Rattle.lps_derivation.specs.Instances.{IsSmall}
use Rattle.lps_derivation.specs.Levels.{AreLevels}
use Rattle.lps_meaning.proofs.Lists.{of_element}
use Rattle.lps_meaning.proofs.Occurrences.{Agree}
use Rattle.lps_unify.specs.Bindings.{TrailedBindings, IsLawful, Solves, count_of, standing}
use Rattle.lps_unify.specs.Unified.{AreWithin, JoinsAllOn}
use Rattle.lps_unify.proofs.Standings.{solves_itself}
use Rattle.lps_solve.specs.Answers.{IsInstanceFor}
use Rattle.lps_solve.specs.Met.{AreGround, AreMet, IsMetCond}
use Rattle.lps_solve.specs.Moded.{AreModedFor}
use Rattle.lps_solve.specs.Placed.{AreBelow}
use Rattle.lps_solve.proofs.Accepted.{accepted_is_sound}
use Rattle.lps_solve.proofs.Gaining.{take_more}
use Rattle.lps_solve.proofs.Grounds.{first_of_two, list_stays, second_of}
use Rattle.lps_solve.proofs.Sets.{ends_known}
use Rattle.lps_solve.proofs.Vars.{all_append, all_first, all_second, all_weaker, are_within, IsBelow, vars_of-Var}
use Rattle.lps_precond.specs.declared.stage.Stage.{Stage}
use Rattle.lps_precond.specs.declared.start.Start.{Start}
use Rattle.lps_precond.specs.Cut.{Cut}
use Rattle.lps_precond.specs.Stages.{AreRows, AreAsked, AreStages, HasOne, IsAnswered, IsFit, IsLeft, IsMetFrom, IsReached, IsStage, IsStart, IsViolated, IsViolatedFrom, IsViolatedWith, vars_of, vars_with}
use Rattle.lps_precond.proofs.Variables.{HasGround, agree_in, all_as_written, all_in_order, fits_cond, ground_in_cond, row_of_agreeing, same_cond, with_all, without}

-- ---- rows of values

both_true : (p q : Bool) → p ≡ true → q ≡ true → (p && q) ≡ true
both_true true q h k = k
both_true false q h k = absurd (cc)

ground_row : (s : ℕ → Term) (vars : List ℕ) → AllByRecursion (HasGround s) vars → AreGround (map s vars)
ground_row s [] all = refl
ground_row s (v ∷ vars) all = both_true (is_ground (s v)) (list_all is_ground (map s vars)) all.0 (ground_row s vars all.1)

ground_values : (s : ℕ → Term) (vars : List ℕ) → AreGround (map s vars) → AllByRecursion (HasGround s) vars
ground_values s [] h = tt
ground_values s (v ∷ vars) h =
    (first_of_two (is_ground (s v)) (list_all is_ground (map s vars)) h, ground_values s vars (second_of (is_ground (s v)) (list_all is_ground (map s vars)) h))

small_row : (s : ℕ → Term) (vars : List ℕ) → AllByRecursion (λ v. symbols_of (s v) ≤ 1024) vars → AllByRecursion (λ x. IsSmall (symbols_of x)) (map s vars)
small_row s [] all = tt
small_row s (v ∷ vars) all = (all.0, small_row s vars all.1)

values_at : (s : ℕ → Term) (vars : List ℕ) → map (put s) (map (λ v. t.Var v) vars) ≡ map s vars
values_at s [] = refl
values_at s (v ∷ vars) = λ i. put-Var s v i ∷ values_at s vars i

small_values : (s : ℕ → Term) (vars : List ℕ) → AllByRecursion (λ x. IsSmall (symbols_of x)) (map s vars) → AllByRecursion (λ v. symbols_of (s v) ≤ 1024) vars
small_values s [] all = tt
small_values s (v ∷ vars) all = (all.0, small_values s vars all.1)

-- the variables of variables as terms
vars_back : (vars : List ℕ) → args_vars (map (λ v. t.Var v) vars) ≡ vars
vars_back [] = refl
vars_back (v ∷ vars) = λ i. vars_of-Var v i ++ vars_back vars i

module _ (program : List Clause) (facts : List Atom) (level : List ℕ → ℕ) where
  met_ground : (s : ℕ → Term) (conds : List Cond) → AreMet program facts level s conds → AllByRecursion (HasGround s) (flat_map cond_vars conds)
  met_ground s [] met = tt
  met_ground s (k ∷ conds) met = all_append (HasGround s) (cond_vars k) (flat_map cond_vars conds) (ground_in_cond s k met.0.ground) (met_ground s conds met.1)

  met_small : (s : ℕ → Term) (conds : List Cond) → AreMet program facts level s conds → AllByRecursion (λ v. symbols_of (s v) ≤ 1024) (flat_map cond_vars conds)
  met_small s [] met = tt
  met_small s (k ∷ conds) met = all_append (λ v. symbols_of (s v) ≤ 1024) (cond_vars k) (flat_map cond_vars conds) (fits_cond s k met.0.small) (met_small s conds met.1)

  -- conditions are met by values that agree on their variables
  met_alike : (s r : ℕ → Term) (conds : List Cond) → Agree s r (flat_map cond_vars conds) → AreMet program facts level s conds → AreMet program facts level r conds
  met_alike s r [] same met = tt
  met_alike s r (k ∷ conds) same met = (
    subst (IsMetCond program facts level) (same_cond s r k (all_first (λ v. s v ≡ r v) (cond_vars k) (flat_map cond_vars conds) same)) met.0,
    met_alike s r conds (all_second (λ v. s v ≡ r v) (cond_vars k) (flat_map cond_vars conds) same) met.1,
  )

-- ---- bindings with nothing bound

module _ (b : TrailedBindings) (n : ℕ) (first : b.first ≡ n) (added : b.added ≡ []) where
  start_is : b ≡ record { first = n; added = [] }
  start_is = λ i. record { first = first i; added = added i }

  pub start_count : count_of b ≡ n
  start_count = ap count_of start_is

  pub start_below : (vars : List ℕ) → AllByRecursion (λ v. v < n) vars → AreBelow (count_of b) 0 vars
  start_below vars h = all_weaker (λ v. v < n) (λ v. 0 + v < count_of b) (λ v lt. let same = start_count in omega (arith, lt, same)) vars h

  pub start_within : (vars : List ℕ) → AllByRecursion (λ v. v < n) vars → (xs : List Term) → xs ≡ map (λ v. t.Var v) vars → AreWithin (count_of b) xs
  start_within vars h xs are =
      let below : AllByRecursion (IsBelow (count_of b)) vars = all_weaker (λ v. v < n) (IsBelow (count_of b)) (λ v lt. let same = start_count in omega (arith, lt, same)) vars h in
      subst (AreWithin (count_of b)) (sym are) (are_within (count_of b) (map (λ v. t.Var v) vars) (subst (AllByRecursion (IsBelow (count_of b))) (sym (vars_back vars)) below))

-- ---- one stage

module _ (known wanted : List ℕ) (stage : Stage) (is : IsStage known wanted stage) where
  given_values : (s : ℕ → Term) → map (put s) stage.given ≡ map s known
  given_values s = ap (map (put s)) is.given_are ∙ values_at s known

  found_values : (s : ℕ → Term) → map (put s) stage.found ≡ map s wanted
  found_values s = ap (map (put s)) is.found_are ∙ values_at s wanted

  pub given_count : length stage.given ≡ length known
  given_count = ap length is.given_are ∙ length-map known (λ v. t.Var v)

  pub found_count : length stage.found ≡ length wanted
  found_count = ap length is.found_are ∙ length-map wanted (λ v. t.Var v)

  module _ (text : Text) (asked : AreAsked text known wanted stage.conds) (row : List Term) (fit : IsFit (length stage.given) row) where
    module _ (program : List Clause) (facts : List Atom) (level : List ℕ → ℕ) where
      module _ (s : ℕ → Term) (given : map (put s) stage.given ≡ row) (met : AreMet program facts level s stage.conds) where
        row_is : map s known ≡ row
        row_is = sym (given_values s) ∙ given

        reached_ground : AreGround (map s wanted)
        reached_ground =
            ground_row s wanted
            (ends_known (HasGround s) asked.scope wanted known stage.conds asked.moded (ground_values s known (subst AreGround (sym row_is) fit.ground)) (met_ground program facts level s stage.conds met))

        reached_small : AllByRecursion (λ x. IsSmall (symbols_of x)) (map s wanted)
        reached_small =
            small_row s wanted
            (ends_known (λ v. symbols_of (s v) ≤ 1024) asked.scope wanted known stage.conds asked.moded (small_values s known (subst (AllByRecursion (λ x. IsSmall (symbols_of x))) (sym row_is) fit.small))
            (met_small program facts level s stage.conds met))

      -- what is reached is ground and small
      reached_fit : (x : List Term) → IsReached program facts level stage row x → IsFit (length stage.found) x
      reached_fit x h =
          let values : x ≡ map h.values wanted = h.is ∙ found_values h.values in
          record {
            ground = subst AreGround (sym values) (reached_ground h.values h.given h.met);
            small = subst (AllByRecursion (λ x. IsSmall (symbols_of x))) (sym values) (reached_small h.values h.given h.met);
            count_is = ap length h.is ∙ length-map stage.found (put h.values);
          }

      -- the instances for what is wanted are what is reached
      module _ (b : TrailedBindings) (solves_is : (s : ℕ → Term) → Solves s b ↔ (map (put s) stage.given ≡ row)) (most : ℕ) where
        instance_to : (x : List Term) → IsInstanceFor program facts level most most b stage.conds stage.found x → IsReached program facts level stage row x
        instance_to x h = record { values = h.values; given = (solves_is h.values).0 h.solve; met = h.met; is = h.is }

        instance_from : (x : List Term) → IsReached program facts level stage row x → IsInstanceFor program facts level most most b stage.conds stage.found x
        instance_from x h =
            let fits = reached_fit x h in
            record {
              values = h.values;
              solve = (solves_is h.values).1 h.given;
              met = h.met;
              is = h.is;
              fits = record { ground = fits.ground; each = fits.small; all = omega arith };
            }

    -- exactly what is reached is in rows
    pub rows_exact : IsAccepted text → is_formed text ≡ true → (facts : List Atom) → ((a : Atom) → Contains facts a → AreGround a.args) → (found : List (List Term)) →
        ((level : List ℕ → ℕ) → AreLevels (clauses text) level → (x : List Term) → Contains found x ↔ IsReached (clauses text) facts level stage row x) → AreRows text facts stage row found
    rows_exact accepted formed facts ground found exact =
        let sound = accepted_is_sound text accepted formed facts ground in
        record { each = λ x at. reached_fit (clauses text) facts sound.level x ((exact sound.level sound.levels x).0 at); exact = exact }

    module _ (old b : TrailedBindings) (added : old.added ≡ []) where
      old_solved : (s : ℕ → Term) → Solves s old
      old_solved s = subst (λ (xs : TrailedBindings). Solves s xs) (λ i. record { first = old.first; added = sym added i }) tt

      row_solves : JoinsAllOn true old b stage.given row → (s : ℕ → Term) → Solves s b ↔ (map (put s) stage.given ≡ row)
      row_solves joins s = (
        λ h. ((joins s).0 h).1 ∙ list_stays s row fit.ground,
        λ h. (joins s).1 (old_solved s, h ∙ sym (list_stays s row fit.ground)),
      )

      -- the conditions can be asked for under the bindings
      pub is_moded : IsLawful b → JoinsAllOn true old b stage.given row → AreModedFor text b stage.conds stage.found
      is_moded lawful joins =
          let same : map (standing b).value known ≡ row = sym (given_values (standing b).value) ∙ (row_solves joins (standing b).value).0 (solves_itself b lawful) in
          record {
            scope = asked.scope;
            declared = asked.declared;
            seen = asked.seen;
            known = known;
            ground = ground_values (standing b).value known (subst AreGround (sym same) fit.ground);
            moded = subst (λ vars. conds_unknown asked.scope vars known stage.conds ≡ None) (sym (ap args_vars is.found_are ∙ vars_back wanted)) asked.moded;
          }

      pub rows_found : IsAccepted text → is_formed text ≡ true → (facts : List Atom) → ((a : Atom) → Contains facts a → AreGround a.args) → JoinsAllOn true old b stage.given row → (most : ℕ) → (found : List (List Term)) →
          ((level : List ℕ → ℕ) → AreLevels (clauses text) level → (x : List Term) → Contains found x ↔ IsInstanceFor (clauses text) facts level most most b stage.conds stage.found x) → AreRows text facts stage row found
      rows_found accepted formed facts ground joins most found are =
          rows_exact accepted formed facts ground found
          (λ level levels x. (
            λ at. instance_to (clauses text) facts level b (row_solves joins) most x ((are level levels x).0 at),
            λ h. (are level levels x).1 (instance_from (clauses text) facts level b (row_solves joins) most x h),
          ))

      pub no_rows : (facts : List Atom) → JoinsAllOn false old b stage.given row → (found : List (List Term)) → found ≡ [] → AreRows text facts stage row found
      no_rows facts joins found none = record {
        each = λ x at. absurd (nothing_contained x (subst (λ xs. Contains xs x) none at));
        exact = λ level levels x. (
          λ at. absurd (nothing_contained x (subst (λ xs. Contains xs x) none at)),
          λ h. absurd (joins h.values (old_solved h.values) (h.given ∙ sym (list_stays h.values row fit.ground))),
        );
      }

-- the conditions are met exactly where something is reached
pub some_reached : (program : List Clause) (facts : List Atom) (level : List ℕ → ℕ) (stage : Stage) (row : List Term) (found : List (List Term)) →
    ((x : List Term) → Contains found x ↔ IsReached program facts level stage row x) → (none : Bool) → ((none ≡ true) ↔ (found ≡ [])) → (not none ≡ true) ↔ IsMetFrom program facts level stage row
some_reached program facts level stage row found are none is = (
  λ h. some found are (λ e. no none h (is.1 e)),
  λ h. yes none (λ e. nothing_contained _ (subst (λ xs. Contains xs (map (put h.values) stage.found)) (is.0 e) ((are _).1 (record { values = h.values; given = h.given; met = h.met; is = refl })))),
)
  where
    some : (found : List (List Term)) → ((x : List Term) → Contains found x ↔ IsReached program facts level stage row x) → (found ≡ [] → ⊥) → IsMetFrom program facts level stage row
    some [] are never = absurd (never refl)
    some (x ∷ xs) are never = let h = (are x).0 (first_is_contained x xs) in record { values = h.values; given = h.given; met = h.met }

    no : (none : Bool) → not none ≡ true → none ≡ true → ⊥
    no true h e = cc
    no false h e = cc

    yes : (none : Bool) → (none ≡ true → ⊥) → not none ≡ true
    yes true h = absurd (h refl)
    yes false h = refl

-- ---- one row after the other

map_contains : (rows : List Values) (row : Values) → Contains rows row → Contains (map (λ v. v.0) rows) row.0
map_contains [] row at = absurd (nothing_contained row at)
map_contains (x ∷ rows) row at =
    elim (first_or_later x rows row at) [
      | inl same ↦ subst (Contains (map (λ v. v.0) (x ∷ rows))) (ap (λ (v : Values). v.0) same) (first_is_contained x.0 (map (λ v. v.0) rows))
      | inr later ↦ later_is_contained x.0 (map (λ v. v.0) rows) row.0 (map_contains rows row later)
    ]

module _ (P : List Term → Type 0) (rows : List Values) (i : ℕ) (row : Values) (terms : List Term) (lt : i < length rows) (is : row ≡ get_or rows i row) (same : terms ≡ row.0) where
  -- where the next row has not the property, none of one row more has it
  pub no_more : (found : Bool) → found ≡ false → (P terms → found ≡ true) → (HasOne P (map (λ v. v.0) (take i rows)) → ⊥) → HasOne P (map (λ v. v.0) (take (i + 1) rows)) → ⊥
  no_more found off are none h =
      let more : map (λ v. v.0) (take (i + 1) rows) ≡ map (λ v. v.0) (take i rows) ++ row.0 ∷ [] = ap (map (λ v. v.0)) (take_more i rows row lt is) ∙ map-append (λ v. v.0) (take i rows) (row ∷ []) in
      elim (Contains-push_cases (map (λ v. v.0) (take i rows)) row.0 h.row (subst (λ (xs : List (List Term)). Contains xs h.row) more h.among)) [
        | inl old ↦ none (record { row = h.row; among = old; holds = h.holds })
        | inr new ↦ let yes : found ≡ true = are (subst P (sym new ∙ sym same) h.holds) in cc
      ]

-- ---- the stages of a denial

module _ (program : List Clause) (events before after : List Atom) (level : List ℕ → ℕ) (happen front back : Stage) (are : AreStages happen front back) (touches : List Cond) (is_derived : Bool) where
  abbrev known : List ℕ
  known = vars_of happen.conds

  abbrev shared : List ℕ
  shared = vars_with known front.conds

  abbrev denial : Cut
  denial = record { happen = happen.conds; front = front.conds; back = back.conds; touches = touches; is_derived = is_derived }

  module _ (row : List Term) (rows : List (List Term)) (exact : (x : List Term) → Contains rows x ↔ IsReached program before level front row x) where
    left_to : HasOne (IsMetFrom program after level back) rows → IsLeft program before after level denial row
    left_to h =
        let one = (exact h.row).0 h.among in
        let s : ℕ → Term = one.values in
        let r : ℕ → Term = h.holds.values in
        let same : map s shared ≡ map r shared = sym (found_values known shared front are.front_is s) ∙ sym one.is ∙ sym h.holds.given ∙ given_values shared [] back are.back_is r in
        let both = without (λ v. s v ≡ r v) known (flat_map cond_vars front.conds) (agree_in s r shared same) in
        record {
          values = r;
          is = sym (row_of_agreeing s r known both.0) ∙ sym (given_values known shared front are.front_is s) ∙ one.given;
          front = met_alike program before level s r front.conds both.1 one.met;
          back = h.holds.met;
        }

    left_from : IsLeft program before after level denial row → HasOne (IsMetFrom program after level back) rows
    left_from h =
        let s : ℕ → Term = h.values in
        let here : IsReached program before level front row (map (put s) front.found) =
        record { values = s; given = given_values known shared front are.front_is s ∙ h.is; met = h.front; is = refl } in
        record {
          row = map (put s) front.found;
          among = (exact (map (put s) front.found)).1 here;
          holds = record { values = s; given = given_values shared [] back are.back_is s ∙ sym (found_values known shared front are.front_is s); met = h.back };
        }

    pub left_is : HasOne (IsMetFrom program after level back) rows ↔ IsLeft program before after level denial row
    left_is = (left_to, left_from)

  module _ (rows : List (List Term)) (exact : (x : List Term) → Contains rows x ↔ IsReached program events level happen [] x) where
    violated_to : HasOne (IsLeft program before after level denial) rows → IsViolated program events before after level denial
    violated_to h =
        let one = (exact h.row).0 h.among in
        let s : ℕ → Term = one.values in
        let r : ℕ → Term = h.holds.values in
        let same : map s known ≡ map r known = sym (found_values [] known happen are.happen_is s) ∙ sym one.is ∙ sym h.holds.is in
        let agree = all_as_written (λ v. s v ≡ r v) (flat_map cond_vars happen.conds) (agree_in s r known same) in
        record { values = r; happen = met_alike program events level s r happen.conds agree one.met; front = h.holds.front; back = h.holds.back }

    violated_from : IsViolated program events before after level denial → HasOne (IsLeft program before after level denial) rows
    violated_from h =
        let s : ℕ → Term = h.values in
        let here : IsReached program events level happen [] (map (put s) happen.found) = record { values = s; given = given_values [] known happen are.happen_is s; met = h.happen; is = refl } in
        record {
          row = map (put s) happen.found;
          among = (exact (map (put s) happen.found)).1 here;
          holds = record { values = s; is = sym (found_values [] known happen are.happen_is s); front = h.front; back = h.back };
        }

    pub violated_is : HasOne (IsLeft program before after level denial) rows ↔ IsViolated program events before after level denial
    violated_is = (violated_to, violated_from)

-- stages that are made of these parts are those of a denial
pub stages_are : (happen front back : List Cond) (n : ℕ) (none happened given found passed nothing : List Term) → AllByRecursion (λ v. v < n) (flat_map cond_vars happen) → AllByRecursion (λ v. v < n) (flat_map cond_vars front) →
    AllByRecursion (λ v. v < n) (flat_map cond_vars back) → none ≡ [] → happened ≡ map (λ v. t.Var v) (vars_of happen) → given ≡ map (λ v. t.Var v) (vars_of happen) →
    found ≡ map (λ v. t.Var v) (vars_with (vars_of happen) front) → passed ≡ map (λ v. t.Var v) (vars_with (vars_of happen) front) → nothing ≡ [] →
    AreStages (record { conds = happen; given = none; found = happened; variables = n }) (record { conds = front; given = given; found = found; variables = n }) (record { conds = back; given = passed; found = nothing; variables = n })
stages_are happen front back n none happened given found passed nothing one two three none_is happened_is given_is found_is shared_is nothing_is =
    let known = all_in_order (λ v. v < n) (flat_map cond_vars happen) one in
    let both = with_all (λ v. v < n) (vars_of happen) (flat_map cond_vars front) known two in
    record {
      happen_is = record { given_are = none_is; found_are = happened_is; known_below = tt; conds_below = one; wanted_below = known };
      front_is = record { given_are = given_is; found_are = found_is; known_below = known; conds_below = two; wanted_below = both };
      back_is = record { given_are = shared_is; found_are = nothing_is; known_below = both; conds_below = three; wanted_below = tt };
    }

-- where there are no conditions after the cut the front decides
pub left_by_front : (program : List Clause) (before after : List Atom) (level : List ℕ → ℕ) (happen front back : Stage) → AreStages happen front back → (denial : Cut) → happen.conds ≡ denial.happen → front.conds ≡ denial.front → denial.back ≡ [] →
    (row : List Term) → IsMetFrom program before level front row ↔ IsLeft program before after level denial row
left_by_front program before after level happen front back are denial happen_is front_is none row = (
  λ h. record {
    values = h.values;
    is = same h.values ∙ h.given;
    front = subst (AreMet program before level h.values) front_is h.met;
    back = subst (AreMet program after level h.values) (sym none) tt;
  },
  λ h. record { values = h.values; given = sym (same h.values) ∙ h.is; met = subst (AreMet program before level h.values) (sym front_is) h.front },
)
  where
    same : (s : ℕ → Term) → map s (vars_of denial.happen) ≡ map (put s) front.given
    same s = ap (λ (ks : List Cond). map s (vars_of ks)) (sym happen_is) ∙ sym (given_values (vars_of happen.conds) (vars_with (vars_of happen.conds) front.conds) front are.front_is s)

-- ---- the stages of a start

-- stages that are made of these parts are those of a start
pub are_of_start : (own happen : List Cond) (n : ℕ) (shared : List ℕ) (none found given happened : List Term) → AllByRecursion (λ v. v < n) (flat_map cond_vars own) → AllByRecursion (λ v. v < n) (flat_map cond_vars happen) →
    AllByRecursion (Contains (flat_map cond_vars own)) shared → none ≡ [] → found ≡ map (λ v. t.Var v) shared → given ≡ map (λ v. t.Var v) shared → happened ≡ map (λ v. t.Var v) (vars_of happen) →
    IsStart happen (record { first = record { conds = own; given = none; found = found; variables = n }; rest = record { conds = happen; given = given; found = happened; variables = n } })
are_of_start own happen n shared none found given happened one two within none_is found_is given_is happened_is =
    let known : AllByRecursion (λ v. v < n) shared = all_weaker (Contains (flat_map cond_vars own)) (λ v. v < n) (λ v at. of_element (λ w. w < n) (flat_map cond_vars own) v one at) shared within in
    record {
      shared = shared;
      first_is = record { given_are = none_is; found_are = found_is; known_below = tt; conds_below = one; wanted_below = known };
      rest_is = record { given_are = given_is; found_are = happened_is; known_below = known; conds_below = two; wanted_below = all_in_order (λ v. v < n) (flat_map cond_vars happen) two };
      conds_are = refl;
      within = within;
    }

module _ (program : List Clause) (new events before after : List Atom) (level : List ℕ → ℕ) (denial : Cut) (start : Start) (is : IsStart denial.happen start) where
  abbrev all : List ℕ
  all = vars_of denial.happen

  module _ (row : List Term) (rows : List (List Term)) (exact : (x : List Term) → Contains rows x ↔ IsReached program events level start.rest row x) where
    with_to : HasOne (IsLeft program before after level denial) rows → IsViolated program events before after level denial
    with_to h =
        let one = (exact h.row).0 h.among in
        let s : ℕ → Term = one.values in
        let r : ℕ → Term = h.holds.values in
        let same : map s all ≡ map r all = sym (found_values is.shared all start.rest is.rest_is s) ∙ sym one.is ∙ sym h.holds.is in
        let met : AreMet program events level s denial.happen = subst (AreMet program events level s) is.conds_are one.met in
        let both = all_as_written (λ v. s v ≡ r v) (flat_map cond_vars denial.happen) (agree_in s r all same) in
        record { values = r; happen = met_alike program events level s r denial.happen both met; front = h.holds.front; back = h.holds.back }

    with_from : IsViolatedWith program events before after level denial start.rest.given row → HasOne (IsLeft program before after level denial) rows
    with_from h =
        let s : ℕ → Term = h.values in
        let here : IsReached program events level start.rest row (map (put s) start.rest.found) =
        record { values = s; given = h.is; met = subst (AreMet program events level s) (sym is.conds_are) h.happen; is = refl } in
        record {
          row = map (put s) start.rest.found;
          among = (exact (map (put s) start.rest.found)).1 here;
          holds = record { values = s; is = sym (found_values is.shared all start.rest is.rest_is s); front = h.front; back = h.back };
        }

    -- true is answered where one of the rows leaves both sides met
    pub with_is : (answer : Bool) → (answer ≡ true) ↔ HasOne (IsLeft program before after level denial) rows → IsAnswered program events before after level denial (IsViolatedWith program events before after level denial start.rest.given row) answer
    with_is answer are = record { sound = λ yes. with_to (are.0 yes); complete = λ h. are.1 (with_from h) }

  module _ (rows : List (List Term)) (exact : (x : List Term) → Contains rows x ↔ IsReached program new level start.first [] x) where
    from_from : IsViolatedFrom program new events before after level denial start.first.conds → HasOne (IsViolatedWith program events before after level denial start.rest.given) rows
    from_from h =
        let s : ℕ → Term = h.values in
        let here : IsReached program new level start.first [] (map (put s) start.first.found) = record { values = s; given = given_values [] is.shared start.first is.first_is s; met = h.start; is = refl } in
        record {
          row = map (put s) start.first.found;
          among = (exact (map (put s) start.first.found)).1 here;
          holds = record { values = s; is = given_values is.shared all start.rest is.rest_is s ∙ sym (found_values [] is.shared start.first is.first_is s); happen = h.happen; front = h.front; back = h.back };
        }

    pub from_is : (answer : Bool) → IsAnswered program events before after level denial (HasOne (IsViolatedWith program events before after level denial start.rest.given) rows) answer →
        IsAnswered program events before after level denial (IsViolatedFrom program new events before after level denial start.first.conds) answer
    from_is answer are = record { sound = are.sound; complete = λ h. are.complete (from_from h) }

-- the row of no variables
pub no_row_fits : (count : ℕ) → count ≡ 0 → IsFit count []
no_row_fits count none = record { ground = refl; small = tt; count_is = sym none }

-- ---- what is found

zero_is : (n : ℕ) → n ≡ 0 → (n == 0) ≡ true
zero_is n e = grind (arith, nat_tests)

more_is : (n m : ℕ) → n ≡ suc m → (n == 0) ≡ false
more_is n m e = grind (arith, nat_tests)

-- no values are found exactly where their number is 0
pub empty_is : (values : List Values) (count : ℕ) (none : Bool) → none ≡ (count == 0) → count ≡ length values → (none ≡ true) ↔ (map (λ v. v.0) values ≡ [])
empty_is [] count none e same = ((λ h. refl), (λ h. e ∙ zero_is count same))
empty_is (value ∷ values) count none e same = (
  λ h. absurd (let off : none ≡ false = e ∙ more_is count (length values) same in cc),
  λ h. absurd (let none_left : map (λ (v : Values). v.0) (value ∷ values) ≡ [] = h in cc),
)
