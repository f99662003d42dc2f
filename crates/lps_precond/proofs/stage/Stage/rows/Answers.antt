use Rattle.std.proofs.Common.{true, false, map, sym, ap, subst, List}
use Rattle.std.specs.Prelude.{◌↔◌, Contains}
use Rattle.std.proofs.lemmas.Result.{IfOk-weaker}
use Rattle.std.specs.List.{flat_map}
use Rattle.lps_terms.specs.declared.cond.Cond.{Cond}
use Rattle.lps_terms.specs.declared.term.Term.{Term}
use Rattle.lps_facts.specs.Facts.{members}
use Rattle.lps_model.specs.VariableLists.{cond_vars}
use Rattle.lps_model.specs.Clauses.{clauses}
use Rattle.lps_solve.specs.Answers.{IsInstanceFor}
use Rattle.lps_unify.specs.Bindings.{count_of}
use Rattle.lps_unify.specs.Unified.{AreWithin, JoinsAllOn}
use Rattle.lps_solve.specs.Moded.{AreModedFor}
use Rattle.lps_solve.specs.Placed.{AreBelow}
use Rattle.lps_solve.proofs.Vars.{ground_within}
use Rattle.lps_precond.proofs.Stages.{is_moded, no_rows, rows_found, start_below, start_within}
use Rattle.lps_precond.proofs.stage.Stage.rows.Goals as goal

pub unify_all-requires-clause-left : goal.unify_all-requires-clause-left
unify_all-requires-clause-left c =
    let b = c.in_ok-bindings.bindings in
    let ready = c.requires.ready in
    subst (AreWithin (count_of b)) (sym c.as_slice.ensures)
    (start_within b c.args.self.now.variables c.in_ok-bindings.ensures.first c.in_ok-bindings.ensures.added ready.known ready.is.known_below c.args.self.now.given ready.is.given_are)

pub unify_all-requires-clause-right : goal.unify_all-requires-clause-right
unify_all-requires-clause-right c = ground_within (count_of c.in_ok-bindings.bindings) c.args.row.now c.requires.row.ground

pub returns-then-not-branch : goal.returns-then-not-branch
returns-then-not-branch c =
    let ready = c.requires.ready in
    let old = c.in_ok-bindings.bindings in
    let new = c.unify_all.new.bindings in
    let row = c.args.row.now in
    let joins = subst (λ (xs : List Term). JoinsAllOn false old new xs row) c.as_slice.ensures (subst (λ found. JoinsAllOn found old new c.as_slice.result.now row) c.if-not-branch.true c.in_ok-unify_all.ensures.answer) in
    no_rows ready.known ready.wanted c.args.self.now ready.is c.args.program.now ready.asked row c.requires.row old new c.in_ok-bindings.ensures.added (members c.args.facts.now) joins _
    (ap (map (λ v. v.0)) c.new-then-not-branch.ensures.items)

pub instances-requires-clause-below : goal.instances-requires-clause-below
instances-requires-clause-below c =
    let old = c.in_ok-bindings.bindings in
    let new = c.unify_all.new.bindings in
    let conds = c.args.self.now.conds in
    let below = start_below old c.args.self.now.variables c.in_ok-bindings.ensures.first c.in_ok-bindings.ensures.added (flat_map cond_vars conds) c.requires.ready.is.conds_below in
    subst (λ (ks : List Cond). AreBelow (count_of new) 0 (flat_map cond_vars ks)) (sym c.as_slice-conds.ensures)
    (subst (λ n. AreBelow n 0 (flat_map cond_vars conds)) (sym c.in_ok-unify_all.ensures.extended.count) below)

pub instances-requires-clause-within : goal.instances-requires-clause-within
instances-requires-clause-within c =
    let old = c.in_ok-bindings.bindings in
    let new = c.unify_all.new.bindings in
    let ready = c.requires.ready in
    let within = start_within old c.args.self.now.variables c.in_ok-bindings.ensures.first c.in_ok-bindings.ensures.added ready.wanted ready.is.wanted_below c.args.self.now.found ready.is.found_are in
    subst (AreWithin (count_of new)) (sym c.as_slice-wanted.ensures) (subst (λ n. AreWithin n c.args.self.now.found) (sym c.in_ok-unify_all.ensures.extended.count) within)

pub instances-requires-clause-moded : goal.instances-requires-clause-moded
instances-requires-clause-moded c =
    let ready = c.requires.ready in
    let old = c.in_ok-bindings.bindings in
    let new = c.unify_all.new.bindings in
    let row = c.args.row.now in
    let joins = subst (λ (xs : List Term). JoinsAllOn true old new xs row) c.as_slice.ensures (subst (λ found. JoinsAllOn found old new c.as_slice.result.now row) c.if-not-branch.false c.in_ok-unify_all.ensures.answer) in
    let moded = is_moded ready.known ready.wanted c.args.self.now ready.is c.args.program.now ready.asked row c.requires.row old new c.in_ok-bindings.ensures.added c.lawful-2.ensures joins in
    subst (λ (ks : List Cond). AreModedFor c.args.program.now new ks c.as_slice-wanted.result.now) (sym c.as_slice-conds.ensures)
    (subst (λ (xs : List Term). AreModedFor c.args.program.now new c.args.self.now.conds xs) (sym c.as_slice-wanted.ensures) moded)

pub returns : goal.returns
returns c =
    let ready = c.requires.ready in
    let old = c.in_ok-bindings.bindings in
    let new = c.unify_all.new.bindings in
    let row = c.args.row.now in
    let program = clauses c.args.program.now in
    let facts = members c.args.facts.now in
    let conds = c.args.self.now.conds in
    let joins = subst (λ (xs : List Term). JoinsAllOn true old new xs row) c.as_slice.ensures (subst (λ found. JoinsAllOn found old new c.as_slice.result.now row) c.if-not-branch.false c.in_ok-unify_all.ensures.answer) in
    IfOk-weaker c.instances.result _ _
    (λ found are.
    rows_found ready.known ready.wanted c.args.self.now ready.is c.args.program.now ready.asked row c.requires.row old new c.in_ok-bindings.ensures.added c.lawful.ensures.accepted c.lawful.ensures.formed facts c.requires.ground
    joins 18446744073709551615 (map (λ v. v.0) found.items)
    (λ level levels x.
    subst (λ (ks : List Cond). Contains (map (λ v. v.0) found.items) x ↔ IsInstanceFor program facts level 18446744073709551615 18446744073709551615 new ks c.args.self.now.found x) c.as_slice-conds.ensures
    (subst (λ (xs : List Term). Contains (map (λ v. v.0) found.items) x ↔ IsInstanceFor program facts level 18446744073709551615 18446744073709551615 new c.as_slice-conds.result.now xs x) c.as_slice-wanted.ensures (are level levels x))))
    c.instances.ensures.instances
