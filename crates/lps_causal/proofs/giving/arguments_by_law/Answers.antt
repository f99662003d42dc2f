use Rattle.std.proofs.Common.{ℕ, ◌∙◌, ◌<◌, ◌↔◌, List, map, sym, subst, arith}
use Rattle.std.specs.Prelude.{Contains}
use Rattle.std.specs.List.{AllByRecursion, flat_map}
use Rattle.lps_terms.specs.declared.cond.Cond.{Cond}
use Rattle.lps_terms.specs.declared.term.Term.{Term}
use Rattle.lps_terms.specs.declared.values.Values.{Values}
use Rattle.lps_model.specs.Clauses.{clauses}
use Rattle.lps_model.specs.VariableLists.{args_vars, cond_vars}
use Rattle.lps_derivation.specs.Levels.{AreLevels}
use Rattle.lps_facts.specs.Facts.{members}
use Rattle.lps_unify.specs.Bindings.{count_of}
use Rattle.lps_solve.specs.Answers.{IsInstanceFor}
use Rattle.lps_solve.specs.Found.{atom_of}
use Rattle.lps_solve.specs.Met.{AreGround}
use Rattle.lps_solve.specs.Moded.{AreModedFor}
use Rattle.lps_solve.proofs.Results.{IfOk-map}
use Rattle.lps_solve.proofs.Vars.{ground_within}
use Rattle.lps_causal.specs.Given.{Gives}
use Rattle.lps_causal.specs.Laws.{law_of}
use Rattle.lps_causal.proofs.Binding.{below_count, count_first, joined, law_moded, not_unified, unified, within_count}
use Rattle.lps_causal.proofs.Causing.{law_is_written}
use Rattle.lps_causal.proofs.Rows.{gives_none, rows_give}
use Rattle.lps_causal.proofs.giving.arguments_by_law.Goals as goal

pub unify_all-requires-clause-left : goal.unify_all-requires-clause-left
unify_all-requires-clause-left c = ground_within (count_of c.in_ok-bindings.bindings) c.as_slice-args.result.now (subst AreGround (sym c.as_slice-args.ensures) c.requires.event)

pub unify_all-requires-clause-right : goal.unify_all-requires-clause-right
unify_all-requires-clause-right c =
    within_count c.args.law.now.variables c.in_ok-bindings.bindings (count_first c.args.law.now.variables c.in_ok-bindings.bindings c.in_ok-bindings.ensures.first c.in_ok-bindings.ensures.added) c.as_slice-pattern.result.now
    (subst (λ (xs : List Term). AllByRecursion (λ v. v < c.args.law.now.variables) (args_vars xs)) (sym c.as_slice-pattern.ensures) c.requires.counted.event)

pub returns-then-not-branch : goal.returns-then-not-branch
returns-then-not-branch c = λ level levels.
    let start = c.in_ok-bindings.bindings in
    let new = c.unify_all.new.bindings in
    let joins = joined c.in_ok-unify_all.field-0 start new c.args.event.now.args c.args.law.now.event.args c.as_slice-args.result.now c.as_slice-pattern.result.now c.as_slice-args.ensures c.as_slice-pattern.ensures
    c.in_ok-unify_all.ensures.answer in
    gives_none (clauses c.args.program.now) (members c.args.facts.now) level (law_of c.args.law.now) c.args.event.now
    (not_unified start new c.args.event.now.args c.args.law.now.event.args c.in_ok-bindings.ensures.added c.requires.event c.in_ok-unify_all.field-0 joins c.if-not-branch.true)
    c.new-then-not-branch.result.items c.new-then-not-branch.ensures.items

pub instances-requires-clause-below : goal.instances-requires-clause-below
instances-requires-clause-below c =
    let n = c.args.law.now.variables in
    below_count n c.unify_all.new.bindings (c.in_ok-unify_all.ensures.extended.count ∙ count_first n c.in_ok-bindings.bindings c.in_ok-bindings.ensures.first c.in_ok-bindings.ensures.added) (flat_map cond_vars c.as_slice-conds.result.now)
    (subst (λ (ks : List Cond). AllByRecursion (λ v. v < n) (flat_map cond_vars ks)) (sym c.as_slice-conds.ensures) c.requires.counted.conds)

pub instances-requires-clause-within : goal.instances-requires-clause-within
instances-requires-clause-within c =
    let n = c.args.law.now.variables in
    within_count n c.unify_all.new.bindings (c.in_ok-unify_all.ensures.extended.count ∙ count_first n c.in_ok-bindings.bindings c.in_ok-bindings.ensures.first c.in_ok-bindings.ensures.added) c.as_slice-wanted.result.now
    (subst (λ (xs : List Term). AllByRecursion (λ v. v < n) (args_vars xs)) (sym c.as_slice-wanted.ensures) c.requires.counted.fluent)

pub instances-requires-clause-moded : goal.instances-requires-clause-moded
instances-requires-clause-moded c =
    let start = c.in_ok-bindings.bindings in
    let new = c.unify_all.new.bindings in
    let joins = joined c.in_ok-unify_all.field-0 start new c.args.event.now.args c.args.law.now.event.args c.as_slice-args.result.now c.as_slice-pattern.result.now c.as_slice-args.ensures c.as_slice-pattern.ensures
    c.in_ok-unify_all.ensures.answer in
    subst (λ (ks : List Cond). AreModedFor c.args.program.now new ks c.as_slice-wanted.result.now) (sym c.as_slice-conds.ensures)
    (subst (AreModedFor c.args.program.now new c.args.law.now.conds) (sym c.as_slice-wanted.ensures)
    (law_moded c.args.program.now c.lawful.ensures.accepted (law_of c.args.law.now) c.requires.law new c.lawful-2.ensures c.args.event.now.args c.requires.event
    (unified start new c.args.event.now.args c.args.law.now.event.args c.in_ok-bindings.ensures.added c.requires.event c.in_ok-unify_all.field-0 joins c.if-not-branch.false)))

pub returns : goal.returns
returns c =
    let text = c.args.program.now in
    let facts = members c.args.facts.now in
    let law = law_of c.args.law.now in
    let start = c.in_ok-bindings.bindings in
    let new = c.unify_all.new.bindings in
    let joins = joined c.in_ok-unify_all.field-0 start new c.args.event.now.args c.args.law.now.event.args c.as_slice-args.result.now c.as_slice-pattern.result.now c.as_slice-args.ensures c.as_slice-pattern.ensures
    c.in_ok-unify_all.ensures.answer in
    let solved = unified start new c.args.event.now.args c.args.law.now.event.args c.in_ok-bindings.ensures.added c.requires.event c.in_ok-unify_all.field-0 joins c.if-not-branch.false in
    IfOk-map c.instances.result
    (λ found. (level : List ℕ → ℕ) → AreLevels (clauses text) level → (x : List Term) → Contains (map (λ (v : Values). v.0) found.items) x ↔ IsInstanceFor (clauses text) facts level 18446744073709551615 1023 new c.as_slice-conds.result.now c.as_slice-wanted.result.now x)
    (λ found. (level : List ℕ → ℕ) → AreLevels (clauses text) level → (x : List Term) → Contains (map (λ (v : Values). v.0) found.items) x ↔ Gives (clauses text) facts level law c.args.event.now (atom_of law.fluent.name x))
    (λ found one level levels.
    rows_give (clauses text) facts level law c.args.event.now c.requires.event c.requires.named c.requires.small new solved 18446744073709551615 (omega arith)
    (law_is_written text c.lawful.ensures.formed law c.requires.law).fluent (map (λ (v : Values). v.0) found.items)
    (subst (λ (ks : List Cond). (x : List Term) → Contains (map (λ (v : Values). v.0) found.items) x ↔ IsInstanceFor (clauses text) facts level 18446744073709551615 1023 new ks law.fluent.args x) c.as_slice-conds.ensures
    (subst (λ (ws : List Term). (x : List Term) → Contains (map (λ (v : Values). v.0) found.items) x ↔ IsInstanceFor (clauses text) facts level 18446744073709551615 1023 new c.as_slice-conds.result.now ws x) c.as_slice-wanted.ensures
    (one level levels))))
    c.instances.ensures.instances
