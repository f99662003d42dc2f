use Rattle.std.proofs.Common.{◌≡◌, ◌∙◌, ◌↔◌, List, map, sym, subst}
use Rattle.std.specs.Prelude.{ℕ, Contains}
use Rattle.std.specs.List.Sorted.{IsStrictlySortedBy}
use Rattle.std.specs.Cmp.Lexicographic.{slice_cmp}
use Rattle.lps_terms.specs.Order.{term_cmp}
use Rattle.lps_terms.specs.declared.term.Term.{Term}
use Rattle.lps_terms.specs.declared.term.Term.TheVariants.{Var}
use Rattle.lps_model.specs.Clauses.{clauses}
use Rattle.lps_derivation.specs.Levels.{AreLevels}
use Rattle.lps_facts.specs.Facts.{members}
use Rattle.lps_solve.specs.Answers.{AreLarge, IsAnswer, IsInstanceFor, variables_left}
use Rattle.lps_solve.proofs.Answering.{answered, none_answered, none_sorted, no_values, wanted_within}
use Rattle.lps_solve.proofs.Modes.{asked_moded}
use Rattle.lps_solve.proofs.Results.{IfOk-map}
use Rattle.lps_solve.proofs.Placing.{none_is, some_is}
use Rattle.lps_solve.proofs.answer.answers_by.Goals as goal

pub instances_by-requires : goal.instances_by-requires
instances_by-requires c = record {
  sound = c.requires.sound;
  below = c.requires.below;
  within = wanted_within c.args.bindings.now c.lawful.ensures c.args.conds.now c.requires.below c.as_slice-terms.result.now (c.as_slice-terms.ensures ∙ some_is c.in_ok-wanted.field-0 (AreLarge c.args.bindings.now c.args.conds.now) (λ (wanted : List Term). wanted ≡ map (λ v. Var v) (variables_left c.args.bindings.now c.args.conds.now)) c.in-Some.wanted c.in-Some.is c.in_ok-wanted.ensures);
  moded = asked_moded c.args.search.now.program.now c.args.bindings.now c.lawful.ensures c.args.conds.now c.as_slice-terms.result.now (c.as_slice-terms.ensures ∙ some_is c.in_ok-wanted.field-0 (AreLarge c.args.bindings.now c.args.conds.now) (λ (wanted : List Term). wanted ≡ map (λ v. Var v) (variables_left c.args.bindings.now c.args.conds.now)) c.in-Some.wanted c.in-Some.is c.in_ok-wanted.ensures) c.requires.moded;
}

pub returns-in-Some-clause-answers : goal.returns-in-Some-clause-answers
returns-in-Some-clause-answers c =
    let wanted = c.as_slice-terms.ensures ∙ some_is c.in_ok-wanted.field-0 (AreLarge c.args.bindings.now c.args.conds.now) (λ (wanted : List Term). wanted ≡ map (λ v. Var v) (variables_left c.args.bindings.now c.args.conds.now)) c.in-Some.wanted c.in-Some.is c.in_ok-wanted.ensures in
    IfOk-map c.instances_by.result (λ values. (level : List ℕ → ℕ) → AreLevels (clauses c.args.search.now.program.now) level → (x : List Term) → Contains (map (λ v. v.0) values.items) x ↔ IsInstanceFor (clauses c.args.search.now.program.now) (members c.args.search.now.facts.now) level 18446744073709551615 18446744073709551615 c.args.bindings.now c.args.conds.now c.as_slice-terms.result.now x)
    (λ values. (level : List ℕ → ℕ) → AreLevels (clauses c.args.search.now.program.now) level → (x : List Term) → Contains (map (λ v. v.0) values.items) x ↔ IsAnswer (clauses c.args.search.now.program.now) (members c.args.search.now.facts.now) level c.args.bindings.now c.args.conds.now x)
    (λ values are level levels x. answered (clauses c.args.search.now.program.now) (members c.args.search.now.facts.now) level 18446744073709551615 c.args.bindings.now c.args.conds.now c.as_slice-terms.result.now wanted (map (λ v. v.0) values.items) x (are level levels x))
    c.instances_by.ensures.instances

pub returns-in-None-clause-answers : goal.returns-in-None-clause-answers
returns-in-None-clause-answers c = λ level levels x.
    let large = none_is c.in_ok-wanted.field-0 (AreLarge c.args.bindings.now c.args.conds.now) (λ (wanted : List Term). wanted ≡ map (λ v. Var v) (variables_left c.args.bindings.now c.args.conds.now)) c.in-None.is c.in_ok-wanted.ensures in
    subst (λ (rows : List (List Term)). Contains rows x ↔ IsAnswer (clauses c.args.search.now.program.now) (members c.args.search.now.facts.now) level c.args.bindings.now c.args.conds.now x) (sym (no_values c.new.result.items c.new.ensures.items))
    (none_answered (clauses c.args.search.now.program.now) (members c.args.search.now.facts.now) c.args.bindings.now c.lawful-in-None.ensures c.args.conds.now large level levels x)

pub returns-in-None-clause-sorted : goal.returns-in-None-clause-sorted
returns-in-None-clause-sorted c = subst (λ (rows : List (List Term)). IsStrictlySortedBy (slice_cmp term_cmp) rows) (sym (no_values c.new.result.items c.new.ensures.items)) none_sorted
