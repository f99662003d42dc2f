-- How a denial is asked stage by stage, each over one set of facts: what is to happen over the events, the conditions before the
-- cut over the state before, and those from the cut on over the state after. From stage to stage go rows of the values that the
-- variables have so far.
use Rattle.std.specs.Prelude.{◌≡◌, ◌<◌, ◌↔◌, ◌⊎◌, ◌∷◌, ℕ, Bool, true, false, Some, None, List, [], length, map, slice_get, Contains}
use Rattle.std.specs.List.{AllByRecursion, flat_map}
use Rattle.lps_terms.specs.declared.atom.Atom.{Atom}
use Rattle.lps_terms.specs.declared.cond.Cond.{Cond}
use Rattle.lps_terms.specs.declared.term.Term.{Term}
use Rattle.lps_terms.specs.declared.term.Term.TheVariants as t
use Rattle.lps_terms.specs.declared.text.Text.{Text}
use Rattle.lps_terms.specs.Put.{put}
use Rattle.lps_terms.specs.Symbols.{symbols_of}
use Rattle.lps_model.specs.Clauses.{Clause, clauses}
use Rattle.lps_model.specs.Known.{Scope, conds_unknown}
use Rattle.lps_model.specs.Program.{declarations}
use Rattle.lps_model.specs.VariableLists.{cond_vars}
use Rattle.lps_derivation.specs.Instances.{IsSmall}
use Rattle.lps_derivation.specs.Levels.{AreLevels}
use Rattle.lps_facts.specs.Facts.{members}
use Rattle.lps_causal.specs.Names.{AreFluents}
use Rattle.lps_solve.specs.Answers.{with_vars}
use Rattle.lps_solve.specs.Met.{AreGround, AreMet}
use Rattle.lps_precond.specs.declared.stage.Stage.{Stage}
use Rattle.lps_precond.specs.declared.start.Start.{Start}
use Rattle.lps_precond.specs.declared.step.Through.{Through}
use Rattle.lps_precond.specs.declared.step.Through.TheVariants.{Event, Fluents}
use Rattle.lps_precond.specs.Cut.{Cut, cuts}

-- ---- denials

-- some values meet what is to happen over the events, the conditions before the cut over the facts before, and those from the
-- cut on over the facts after
pub record IsViolated (program : List Clause) (events before after : List Atom) (level : List ℕ → ℕ) (denial : Cut) : Type 0 where
  pub values : ℕ → Term
  pub happen : AreMet program events level values denial.happen
  pub front : AreMet program before level values denial.front
  pub back : AreMet program after level values denial.back

-- ---- variables

-- these variables, by rising number, with those of conditions
abbrev pub vars_with : List ℕ → List Cond → List ℕ
vars_with known conds = with_vars known (flat_map cond_vars conds)

-- the variables of conditions
abbrev pub vars_of : List Cond → List ℕ
vars_of conds = vars_with [] conds

-- the variables before the cut
abbrev pub vars_before : Cut → List ℕ
vars_before denial = vars_with (vars_of denial.happen) denial.front

-- ---- stages

-- What is given at the start of the stage are these variables, and what is found at its end are those; and its number is above
-- those of all its variables.
pub record IsStage (known wanted : List ℕ) (stage : Stage) : Type 0 where
  pub given_are : stage.given ≡ map (λ v. t.Var v) known
  pub found_are : stage.found ≡ map (λ v. t.Var v) wanted
  pub known_below : AllByRecursion (λ v. v < stage.variables) known
  pub conds_below : AllByRecursion (λ v. v < stage.variables) (flat_map cond_vars stage.conds)
  pub wanted_below : AllByRecursion (λ v. v < stage.variables) wanted

-- where these variables are known the conditions are well-moded, and those are known in the end
pub record AreAsked (text : Text) (known wanted : List ℕ) (conds : List Cond) : Type 0 where
  pub scope : Scope
  pub declared : scope.decls ≡ declarations text
  pub seen : scope.is_planned ≡ false
  pub moded : conds_unknown scope wanted known conds ≡ None

-- the stage can be asked
pub record IsReady (text : Text) (stage : Stage) : Type 0 where
  pub known : List ℕ
  pub wanted : List ℕ
  pub is : IsStage known wanted stage
  pub asked : AreAsked text known wanted stage.conds

-- the stages are those of a denial
pub record AreStages (happen front back : Stage) : Type 0 where
  pub happen_is : IsStage [] (vars_of happen.conds) happen
  pub front_is : IsStage (vars_of happen.conds) (vars_with (vars_of happen.conds) front.conds) front
  pub back_is : IsStage (vars_with (vars_of happen.conds) front.conds) [] back

-- ---- rows

-- so many ground terms of at most 1,024 symbols each
pub record IsFit (count : ℕ) (row : List Term) : Type 0 where
  pub ground : AreGround row
  pub small : AllByRecursion (λ x. IsSmall (symbols_of x)) row
  pub count_is : length row ≡ count

-- each of the rows is
abbrev pub AreFit : ℕ → List (List Term) → Type 0
AreFit count rows = (row : List Term) → Contains rows row → IsFit count row

-- one of the rows has the property
pub record HasOne (P : List Term → Type 0) (rows : List (List Term)) : Type 0 where
  pub row : List Term
  pub among : Contains rows row
  pub holds : P row

module _ (program : List Clause) (facts : List Atom) (level : List ℕ → ℕ) (stage : Stage) where
  -- some values that make up the row that is given meet the conditions of the stage
  pub record IsMetFrom (row : List Term) : Type 0 where
    pub values : ℕ → Term
    pub given : map (put values) stage.given ≡ row
    pub met : AreMet program facts level values stage.conds

  -- and x is what is found by them
  pub record IsReached (row x : List Term) : Type 0 where
    pub values : ℕ → Term
    pub given : map (put values) stage.given ≡ row
    pub met : AreMet program facts level values stage.conds
    pub is : x ≡ map (put values) stage.found

-- exactly the rows that are reached from the one that is given
pub record AreRows (text : Text) (facts : List Atom) (stage : Stage) (row : List Term) (rows : List (List Term)) : Type 0 where
  pub each : AreFit (length stage.found) rows
  pub exact : (level : List ℕ → ℕ) → AreLevels (clauses text) level → (x : List Term) → Contains rows x ↔ IsReached (clauses text) facts level stage row x

-- some values that make up the row of the variables of what is to happen meet both sides of the cut
pub record IsLeft (program : List Clause) (before after : List Atom) (level : List ℕ → ℕ) (denial : Cut) (row : List Term) : Type 0 where
  pub values : ℕ → Term
  pub is : map values (vars_of denial.happen) ≡ row
  pub front : AreMet program before level values denial.front
  pub back : AreMet program after level values denial.back

-- the facts of three sets are ground
pub record AreAllGround (events before after : List Atom) : Type 0 where
  pub events_are : (a : Atom) → Contains events a → AreGround a.args
  pub before_are : (a : Atom) → Contains before a → AreGround a.args
  pub after_are : (a : Atom) → Contains after a → AreGround a.args

-- ---- starts

-- the condition alone
abbrev pub single : Cond → List Cond
single k = k ∷ []

-- The stages of the start ask for a condition, and then for all that is to happen, which is this, where the variables in which they
-- share have values.
pub record IsStart (happen : List Cond) (start : Start) : Type 0 where
  pub shared : List ℕ
  pub first_is : IsStage [] shared start.first
  pub rest_is : IsStage shared (vars_of happen) start.rest
  pub conds_are : start.rest.conds ≡ happen
  pub within : AllByRecursion (Contains (flat_map cond_vars start.first.conds)) shared

-- the starts are those of a denial from each of these conditions
pub record AreStarts (happen conds : List Cond) (starts : List Start) : Type 0 where
  pub each : AllByRecursion (λ start. IsStart happen start) starts
  pub firsts : map (λ start. start.first.conds) starts ≡ map single conds

-- the conditions that the starts ask for first
abbrev pub firsts_of : List Start → List Cond
firsts_of starts = flat_map (λ start. start.first.conds) starts

-- both stages of the start can be asked
pub record IsReadyStart (text : Text) (denial : Cut) (start : Start) : Type 0 where
  pub is : IsStart denial.happen start
  pub first : IsReady text start.first
  pub rest : IsReady text start.rest

module _ (program : List Clause) (new events before after : List Atom) (level : List ℕ → ℕ) (denial : Cut) where
  -- some values violate the denial, and meet these conditions over what is new
  pub record IsViolatedFrom (first : List Cond) : Type 0 where
    pub values : ℕ → Term
    pub start : AreMet program new level values first
    pub happen : AreMet program events level values denial.happen
    pub front : AreMet program before level values denial.front
    pub back : AreMet program after level values denial.back

  -- the same of one of these conditions
  pub record IsViolatedBy (conds : List Cond) : Type 0 where
    pub cond : Cond
    pub among : Contains conds cond
    pub violated : IsViolatedFrom (single cond)

  -- the same of what one of these starts asks for first
  pub record IsViolatedByStart (starts : List Start) : Type 0 where
    pub start : Start
    pub among : Contains starts start
    pub violated : IsViolatedFrom start.first.conds

-- a derived predicate is asked for from the cut on, or one of these fluents
abbrev pub IsViolatedByFluent : List Clause → List Atom → List Atom → List Atom → List Atom → (List ℕ → ℕ) → Cut → Type 0
IsViolatedByFluent program fluents events before after level denial =
    ((denial.is_derived ≡ true) × IsViolated program events before after level denial) ⊎ IsViolatedBy program fluents events before after level denial denial.touches

module _ (program : List Clause) (events before after : List Atom) (level : List ℕ → ℕ) (denial : Cut) where
  -- the denial is violated with a new event, or by a new fluent
  abbrev pub IsViolatedThrough : Through → Type 0
  IsViolatedThrough (Event new) = IsViolatedBy program (members new.now) events before after level denial denial.happen
  IsViolatedThrough (Fluents new) = IsViolatedByFluent program (members new.now) events before after level denial

  -- true is answered only where the denial is violated, and wherever it is violated so
  pub record IsAnswered (IsViolatedSo : Type 0) (answer : Bool) : Type 0 where
    pub sound : answer ≡ true → IsViolated program events before after level denial
    pub complete : IsViolatedSo → answer ≡ true

-- a new event happened, and a new fluent is ground
abbrev pub IsNew : List Atom → Through → Type 0
IsNew events (Event new) = (a : Atom) → Contains (members new.now) a → Contains events a
IsNew events (Fluents new) = (a : Atom) → Contains (members new.now) a → AreGround a.args

-- some values that make up the row of what is given violate the denial
pub record IsViolatedWith (program : List Clause) (events before after : List Atom) (level : List ℕ → ℕ) (denial : Cut) (given row : List Term) : Type 0 where
  pub values : ℕ → Term
  pub is : map (put values) given ≡ row
  pub happen : AreMet program events level values denial.happen
  pub front : AreMet program before level values denial.front
  pub back : AreMet program after level values denial.back

-- ---- what is new

-- by any levels, no denial of the text is violated
abbrev pub ViolateNone : Text → List Atom → List Atom → List Atom → Type 0
ViolateNone text events before after = (level : List ℕ → ℕ) → AreLevels (clauses text) level → (denial : Cut) → Contains (cuts text) denial →
    IsViolated (clauses text) events before after level denial → ⊥

-- What happened are some old events, which violate no denial with the state `earlier` that they make, and the new ones; where the
-- new ones are all events there are no old ones. Only in the fluents that are touched may the state after be another than the
-- earlier one.
pub record AreNews (text : Text) (events new happened before after touched : List Atom) : Type 0 where
  pub old : List Atom
  pub earlier : List Atom
  pub split : (a : Atom) → Contains happened a ↔ (Contains old a ⊎ Contains new a)
  pub first : length events ≡ length new → (a : Atom) → Contains old a → ⊥
  pub untouched : (a : Atom) → (Contains touched a → ⊥) → Contains after a ↔ Contains earlier a
  pub fluents : AreFluents text earlier
  pub touched_are : AreFluents text touched
  pub allowed : ViolateNone text old before earlier

-- a denial of these with the property stands at the place
pub record IsAt (denials : List Cut) (P : Cut → Type 0) (place : ℕ) : Type 0 where
  pub denial : Cut
  pub at : slice_get denials place ≡ Some denial
  pub holds : P denial

-- the denial at the place has conditions on the state after
abbrev pub IsLate : List Cut → ℕ → Type 0
IsLate denials place = IsAt denials (λ denial. denial.back ≡ [] → ⊥) place

-- the places of exactly these denials
abbrev pub AreLate : List Cut → List ℕ → Type 0
AreLate denials late = (place : ℕ) → Contains late place ↔ IsLate denials place
