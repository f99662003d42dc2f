-- Each stage of a denial of an accepted text can be asked: what is to happen at once, and each side of the cut where the variables
-- before it have values.
use Rattle.std.proofs.Common.{ℕ, zero, suc, true, ◌≡◌, List, [], ◌∷◌, take, drop, length, refl, ap, ◌∙◌, subst, arith, inl, inr}
use Rattle.std.specs.Prelude.{Bool, false, Contains, Option, Some, None, if◌then◌else◌}
use Rattle.std.specs.List.{AllByRecursion, flat_map, list_all}
use Rattle.std.proofs.lemmas.List.{take_all}
use Rattle.std.proofs.lemmas.List.Elements.{Contains-append_cases}
use Rattle.lps_terms.specs.declared.cond.Cond.{Cond}
use Rattle.lps_terms.specs.declared.cond.Cond.TheVariants as c
use Rattle.lps_terms.specs.declared.decl.Decl.{Decl}
use Rattle.lps_terms.specs.declared.item.Item.{Item}
use Rattle.lps_terms.specs.declared.item.Item.TheVariants as i
use Rattle.lps_terms.specs.declared.kind.Kind.{Kind}
use Rattle.lps_terms.specs.declared.kind.Kind.TheVariants as k
use Rattle.lps_terms.specs.declared.lit.Lit.{Lit}
use Rattle.lps_terms.specs.declared.term.Term.{Term}
use Rattle.lps_terms.specs.declared.text.Text.{Text}
use Rattle.lps_model.specs.Declarations.{decl_among, kind_in}
use Rattle.lps_model.specs.Formed.{is_no_constraint}
use Rattle.lps_model.specs.Known.{Scope, atom_needs, built_needs, cond_needs, conds_unknown, declared_needs, items_unknown, kind_needs, learnt, lit_needs, scope_at, steps_after, unknown_among}
use Rattle.lps_model.specs.Order.{happens}
use Rattle.lps_model.specs.Program.{declarations}
use Rattle.lps_model.specs.Rules.{kind_of}
use Rattle.lps_model.proofs.Elements.{first_is_contained, first_or_later, later_is_contained, nothing_contained}
use Rattle.lps_model.specs.VariableLists.{atom_vars, built_vars, cond_vars}
use Rattle.lps_solve.proofs.Moding.{neither_is}
use Rattle.lps_solve.proofs.Sets.{all_learnt}
use Rattle.lps_solve.proofs.Vars.{all_first, all_second, all_weaker}
use Rattle.lps_precond.specs.Cut.{back_of, conds_of, count_early, events_of, front_of, second_in, touch_by, touch_of}
use Rattle.lps_precond.specs.Stages.{AreAsked, vars_of, vars_with}
use Rattle.lps_precond.proofs.Known.{AreIn, IsIn, each_in, learnt_both, learnt_keeps, none_both, then_more, with_known}
use Rattle.lps_causal.proofs.Happening.{is_condition, is_timeless}
use Rattle.lps_precond.proofs.Sides.{IsLate, back_is_late}
use Rattle.lps_precond.proofs.Stated.{HasKinds, IsDenial}
use Rattle.lps_precond.proofs.Variables.{all_as_written, without}

-- ---- what is to happen

-- the kinds of which nothing has to be known
abbrev pub is_free : Option Kind → Bool
is_free (Some k.Fluent) = true
is_free (Some k.Event) = true
is_free (Some k.Action) = true
is_free _ = false

-- nothing has to be known at an event or an action that is seen, or at a fluent
no_needs : (found : Option Decl) → is_free (kind_in found) ≡ true → (args : List Term) → declared_needs false found args ≡ []
no_needs None h args = refl
no_needs (Some decl) h args = by decl.kind h
  where
    by : (kind : Kind) → is_free (Some kind) ≡ true → kind_needs false kind decl.modes args ≡ []
    by k.Event h' = refl
    by k.Action h' = refl
    by k.Fluent h' = refl
    by k.Timeless h' = absurd (cc)
    by k.Derived h' = absurd (cc)
    by k.Macro h' = absurd (cc)

happening_is_free : (kind : Option Kind) → happens kind ≡ true → is_free kind ≡ true
happening_is_free None h = absurd (cc)
happening_is_free (Some k.Event) h = refl
happening_is_free (Some k.Action) h = refl
happening_is_free (Some k.Fluent) h = refl
happening_is_free (Some k.Timeless) h = absurd (cc)
happening_is_free (Some k.Derived) h = absurd (cc)
happening_is_free (Some k.Macro) h = absurd (cc)

-- a positive literal of what may happen
abbrev pub IsEventCond : Text → Cond → Type 0
IsEventCond text (c.Lit l) = (l.negated ≡ false) × (happens (kind_of text l.atom.name) ≡ true)
IsEventCond text (c.Built built) = ⊥

-- each of the conditions is
abbrev pub AreEventConds : Text → List Cond → Type 0
AreEventConds text conds = (k : Cond) → Contains conds k → IsEventCond text k

events_are : (text : Text) (items : List Item) → AllByRecursion (HasKinds text) items → AreEventConds text (events_of items)
events_are text [] kinds k at = absurd (nothing_contained k at)
events_are text (i.Span a from to ∷ items) kinds k at =
    elim (first_or_later (c.Lit (record { negated = false; atom = a })) (events_of items) k at) [
      | inl same ↦ subst (IsEventCond text) same (refl, kinds.0)
      | inr later ↦ events_are text items kinds.1 k later
    ]
events_are text (i.At l time ∷ items) kinds k at = events_are text items kinds.1 k at
events_are text (i.Bare l ∷ items) kinds k at = events_are text items kinds.1 k at
events_are text (i.Built built ∷ items) kinds k at = events_are text items kinds.1 k at
events_are text (i.Con con ∷ items) kinds k at = events_are text items kinds.1 k at

-- a positive literal of which nothing has to be known
abbrev pub IsFreeCond : Text → Cond → Type 0
IsFreeCond text (c.Lit l) = (l.negated ≡ false) × (is_free (kind_of text l.atom.name) ≡ true)
IsFreeCond text (c.Built built) = ⊥

-- each of the conditions is
abbrev pub AreFreeConds : Text → List Cond → Type 0
AreFreeConds text conds = (k : Cond) → Contains conds k → IsFreeCond text k

pub event_is_free : (text : Text) (k : Cond) → IsEventCond text k → IsFreeCond text k
event_is_free text (c.Lit l) is = (is.0, happening_is_free (kind_of text l.atom.name) is.1)
event_is_free text (c.Built built) is = is

touch_is_free : (text : Text) (l : Lit) (kind : Option Kind) → kind_of text l.atom.name ≡ kind → (k : Cond) → Contains (touch_by kind l) k → IsFreeCond text k
touch_is_free text l (Some k.Fluent) is k at =
    elim (first_or_later (c.Lit (record { negated = false; atom = l.atom })) [] k at) [
      | inl same ↦ subst (IsFreeCond text) same (refl, ap is_free is)
      | inr none ↦ absurd (nothing_contained k none)
    ]
touch_is_free text l None is k at = absurd (nothing_contained k at)
touch_is_free text l (Some k.Event) is k at = absurd (nothing_contained k at)
touch_is_free text l (Some k.Action) is k at = absurd (nothing_contained k at)
touch_is_free text l (Some k.Timeless) is k at = absurd (nothing_contained k at)
touch_is_free text l (Some k.Derived) is k at = absurd (nothing_contained k at)
touch_is_free text l (Some k.Macro) is k at = absurd (nothing_contained k at)

pub touches_are_free : (text : Text) (conds : List Cond) → AreFreeConds text (flat_map (touch_of text) conds)
touches_are_free text [] k at = absurd (nothing_contained k at)
touches_are_free text (c.Lit l ∷ conds) k at =
    elim (Contains-append_cases (touch_by (kind_of text l.atom.name) l) (flat_map (touch_of text) conds) k at) [
      | inl here ↦ touch_is_free text l (kind_of text l.atom.name) refl k here
      | inr later ↦ touches_are_free text conds k later
    ]
touches_are_free text (c.Built built ∷ conds) k at = touches_are_free text conds k at

module _ (text : Text) (scope : Scope) (declared : scope.decls ≡ declarations text) (seen : scope.is_planned ≡ false) where
  free_needs : (known : List ℕ) (k : Cond) → IsFreeCond text k → unknown_among scope.names known (cond_needs scope known k) ≡ None
  free_needs known (c.Lit l) is =
      let needs : atom_needs scope l.atom ≡ [] =
      (λ j. declared_needs (seen j) (decl_among (declared j) l.atom.name) l.atom.args) ∙ no_needs (decl_among (declarations text) l.atom.name) is.1 l.atom.args in
      ap (unknown_among scope.names known) (ap (λ n. if n then atom_vars l.atom else atom_needs scope l.atom) is.0 ∙ needs)
  free_needs known (c.Built built) is = absurd is

  pub free_moded : (known : List ℕ) (conds : List Cond) → AreFreeConds text conds → conds_unknown scope [] known conds ≡ None
  free_moded known [] are = refl
  free_moded known (k ∷ conds) are =
      none_both (unknown_among scope.names known (cond_needs scope known k)) _ (free_needs known k (are k (first_is_contained k conds)))
      (free_moded (learnt known (cond_vars k)) conds (λ other at. are other (later_is_contained k conds other at)))

-- ---- what is to be true after

-- a literal of what is true or not in a state
abbrev pub IsStateCond : Text → Cond → Type 0
IsStateCond text (c.Lit l) = is_condition (kind_of text l.atom.name) ≡ true
IsStateCond text (c.Built built) = Unit {0}

-- each of the conditions is
abbrev pub AreStateConds : Text → List Cond → Type 0
AreStateConds text conds = (k : Cond) → Contains conds k → IsStateCond text k

timeless_is_condition : (kind : Option Kind) → is_timeless kind ≡ true → is_condition kind ≡ true
timeless_is_condition None h = absurd (cc)
timeless_is_condition (Some k.Timeless) h = refl
timeless_is_condition (Some k.Fluent) h = refl
timeless_is_condition (Some k.Derived) h = refl
timeless_is_condition (Some k.Event) h = absurd (cc)
timeless_is_condition (Some k.Action) h = absurd (cc)
timeless_is_condition (Some k.Macro) h = absurd (cc)

state_conds_of : (text : Text) (second : ℕ) (items : List Item) → AllByRecursion (IsLate text second) items → AreStateConds text (conds_of items)
state_conds_of text second [] are k at = absurd (nothing_contained k at)
state_conds_of text second (i.At l time ∷ items) are k at =
    elim (first_or_later (c.Lit l) (conds_of items) k at) [
      | inl same ↦ subst (IsStateCond text) same are.0.1
      | inr later ↦ state_conds_of text second items are.1 k later
    ]
state_conds_of text second (i.Bare l ∷ items) are k at =
    elim (first_or_later (c.Lit l) (conds_of items) k at) [
      | inl same ↦ subst (IsStateCond text) same (timeless_is_condition (kind_of text l.atom.name) are.0)
      | inr later ↦ state_conds_of text second items are.1 k later
    ]
state_conds_of text second (i.Built built ∷ items) are k at =
    elim (first_or_later (c.Built built) (conds_of items) k at) [
      | inl same ↦ subst (IsStateCond text) same tt
      | inr later ↦ state_conds_of text second items are.1 k later
    ]
state_conds_of text second (i.Span a from to ∷ items) are k at = state_conds_of text second items are.1 k at
state_conds_of text second (i.Con con ∷ items) are k at = state_conds_of text second items are.1 k at

-- ---- from the left

all_taken : (items : List Item) → take (length items) items ≡ items
all_taken items = take_all (length items) items (omega arith)

-- variables that are known stay known with what is learnt
still : (known vars these : List ℕ) → AreIn known these → AreIn (learnt known vars) these
still known vars these h = all_weaker (IsIn known) (IsIn (learnt known vars)) (learnt_keeps known vars) these h

module _ (scope : Scope) where
  -- The conditions before the cut, where `more` has what is known so far, and the variables of what is to happen.
  front_moded : (n : ℕ) (less more : List ℕ) (items : List Item) → AreIn more less → AreIn more (flat_map cond_vars (events_of items)) → list_all is_no_constraint items ≡ true →
      items_unknown scope [] less items ≡ None → conds_unknown scope [] more (conds_of (take n items)) ≡ None
  front_moded zero less more [] within events plain h = refl
  front_moded zero less more (item ∷ items) within events plain h = refl
  front_moded (suc n) less more [] within events plain h = refl
  front_moded (suc n) less more (i.At l time ∷ items) within events plain h =
      let vars = atom_vars l.atom in
      then_more scope less more within (c.Lit l) (conds_of (take n items)) (items_unknown scope [] (learnt less vars) items) h
      (front_moded n (learnt less vars) (learnt more vars) items (learnt_both less more vars within) (still more vars (flat_map cond_vars (events_of items)) events) plain)
  front_moded (suc n) less more (i.Bare l ∷ items) within events plain h =
      let vars = atom_vars l.atom in
      then_more scope less more within (c.Lit l) (conds_of (take n items)) (items_unknown scope [] (learnt less vars) items) h
      (front_moded n (learnt less vars) (learnt more vars) items (learnt_both less more vars within) (still more vars (flat_map cond_vars (events_of items)) events) plain)
  front_moded (suc n) less more (i.Built built ∷ items) within events plain h =
      let vars = built_vars built in
      then_more scope less more within (c.Built built) (conds_of (take n items)) (items_unknown scope [] (learnt less vars) items) h
      (front_moded n (learnt less vars) (learnt more vars) items (learnt_both less more vars within) (still more vars (flat_map cond_vars (events_of items)) events) plain)
  front_moded (suc n) less more (i.Span a from to ∷ items) within events plain h =
      let both = neither_is (unknown_among scope.names less (atom_needs scope a)) (items_unknown scope [] (learnt less (atom_vars a)) items) h in
      let here = all_first (IsIn more) (atom_vars a) (flat_map cond_vars (events_of items)) events in
      front_moded n (learnt less (atom_vars a)) more items (all_learnt (IsIn more) less (atom_vars a) within here)
      (all_second (IsIn more) (atom_vars a) (flat_map cond_vars (events_of items)) events) plain both.1
  front_moded (suc n) less more (i.Con con ∷ items) within events plain h = absurd (cc)

  -- The conditions from the cut on, where `more` has what is known so far and the variables before the cut. Nothing is to happen
  -- there that has to be known.
  back_moded : (n : ℕ) (less more : List ℕ) (items : List Item) → AreIn more less → AreIn more (flat_map cond_vars (events_of items)) → AreIn more (flat_map cond_vars (conds_of (take n items))) →
      list_all is_no_constraint items ≡ true → items_unknown scope [] less items ≡ None → conds_unknown scope [] more (conds_of (drop n items)) ≡ None
  back_moded zero less more [] within events front plain h = refl
  back_moded zero less more (item ∷ items) within events front plain h =
      subst (λ (all : List Item). conds_unknown scope [] more (conds_of all) ≡ None) (all_taken (item ∷ items)) (front_moded (length (item ∷ items)) less more (item ∷ items) within events plain h)
  back_moded (suc n) less more [] within events front plain h = refl
  back_moded (suc n) less more (i.At l time ∷ items) within events front plain h =
      let both = neither_is (unknown_among scope.names less (lit_needs scope l)) (items_unknown scope [] (learnt less (atom_vars l.atom)) items) h in
      back_moded n (learnt less (atom_vars l.atom)) more items (all_learnt (IsIn more) less (atom_vars l.atom) within (all_first (IsIn more) (atom_vars l.atom) (flat_map cond_vars (conds_of (take n items))) front)) events
      (all_second (IsIn more) (atom_vars l.atom) (flat_map cond_vars (conds_of (take n items))) front) plain both.1
  back_moded (suc n) less more (i.Bare l ∷ items) within events front plain h =
      let both = neither_is (unknown_among scope.names less (lit_needs scope l)) (items_unknown scope [] (learnt less (atom_vars l.atom)) items) h in
      back_moded n (learnt less (atom_vars l.atom)) more items (all_learnt (IsIn more) less (atom_vars l.atom) within (all_first (IsIn more) (atom_vars l.atom) (flat_map cond_vars (conds_of (take n items))) front)) events
      (all_second (IsIn more) (atom_vars l.atom) (flat_map cond_vars (conds_of (take n items))) front) plain both.1
  back_moded (suc n) less more (i.Built built ∷ items) within events front plain h =
      let both = neither_is (unknown_among scope.names less (built_needs less built)) (items_unknown scope [] (learnt less (built_vars built)) items) h in
      back_moded n (learnt less (built_vars built)) more items (all_learnt (IsIn more) less (built_vars built) within (all_first (IsIn more) (built_vars built) (flat_map cond_vars (conds_of (take n items))) front)) events
      (all_second (IsIn more) (built_vars built) (flat_map cond_vars (conds_of (take n items))) front) plain both.1
  back_moded (suc n) less more (i.Span a from to ∷ items) within events front plain h =
      let both = neither_is (unknown_among scope.names less (atom_needs scope a)) (items_unknown scope [] (learnt less (atom_vars a)) items) h in
      let here = all_first (IsIn more) (atom_vars a) (flat_map cond_vars (events_of items)) events in
      back_moded n (learnt less (atom_vars a)) more items (all_learnt (IsIn more) less (atom_vars a) within here)
      (all_second (IsIn more) (atom_vars a) (flat_map cond_vars (events_of items)) events) front plain both.1
  back_moded (suc n) less more (i.Con con ∷ items) within events front plain h = absurd (cc)

-- ---- the stages of a denial

module _ (text : Text) (items : List Item) (denial : IsDenial text items) where
  abbrev pub scope_of : Scope
  scope_of = scope_at (declarations text) denial.statement (steps_after [] items) false

  abbrev happen : List Cond
  happen = events_of items

  abbrev front : List Cond
  front = conds_of (front_of items)

  pub happen_are : AreEventConds text happen
  happen_are = events_are text items denial.kinds

  -- the variables of what is to happen are among theirs
  happen_in : AreIn (vars_of happen) (flat_map cond_vars happen)
  happen_in = all_as_written (IsIn (vars_of happen)) (flat_map cond_vars happen) (each_in (vars_of happen))

  pub back_are : AreStateConds text (conds_of (back_of items))
  back_are = state_conds_of text denial.second (back_of items) (back_is_late text items denial)

  pub happen_asked : AreAsked text [] (vars_of happen) happen
  happen_asked = record {
    scope = scope_of;
    declared = refl;
    seen = refl;
    moded = with_known scope_of [] happen (free_moded text scope_of refl refl [] happen (λ k at. event_is_free text k (happen_are k at)));
  }

  pub front_asked : AreAsked text (vars_of happen) (vars_with (vars_of happen) front) front
  front_asked = record {
    scope = scope_of;
    declared = refl;
    seen = refl;
    moded = with_known scope_of (vars_of happen) front (front_moded scope_of (count_early (second_in items) items) [] (vars_of happen) items tt happen_in denial.plain denial.known);
  }

  pub back_asked : AreAsked text (vars_with (vars_of happen) front) [] (conds_of (back_of items))
  back_asked =
      let more : List ℕ = vars_with (vars_of happen) front in
      let both = without (IsIn more) (vars_of happen) (flat_map cond_vars front) (each_in more) in
      record {
        scope = scope_of;
        declared = refl;
        seen = refl;
        moded = back_moded scope_of (count_early (second_in items) items) [] more items tt (all_as_written (IsIn more) (flat_map cond_vars happen) both.0) both.1 denial.plain denial.known;
      }
