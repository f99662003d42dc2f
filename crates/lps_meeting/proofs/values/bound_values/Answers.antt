use Rattle.std.proofs.Common.{subst, ◌∙◌}
use Rattle.lps_unify.specs.Bindings.{count_of}
use Rattle.lps_unify.specs.Unified.{JoinsAllOn}
use Rattle.lps_solve.proofs.Vars.{ground_within}
use Rattle.lps_meeting.proofs.SettingValues.{never_solved, solved_by, values_are}
use Rattle.lps_meeting.proofs.values.bound_values.Goals as goal

pub unify_all-requires-clause-right : goal.unify_all-requires-clause-right
unify_all-requires-clause-right c = ground_within (count_of c.args.bindings.now) c.args.row.now c.requires.ground

pub returns-then-not-branch-clause-values : goal.returns-then-not-branch-clause-values
returns-then-not-branch-clause-values c =
    never_solved c.args.moment.now.variables c.args.bindings.now c.unify_all.new.bindings c.args.terms.now c.args.row.now c.requires.fresh c.requires.ground
    (subst (λ found. JoinsAllOn found c.args.bindings.now c.unify_all.new.bindings c.args.terms.now c.args.row.now) c.if-not-branch.true c.in_ok-unify_all.ensures.answer)

pub returns-clause-values : goal.returns-clause-values
returns-clause-values c =
    let joins =
    subst (λ found. JoinsAllOn found c.args.bindings.now c.unify_all.new.bindings c.args.terms.now c.args.row.now) c.if-not-branch.false c.in_ok-unify_all.ensures.answer in
    values_are c.args.moment.now.variables c.unify_all.new.bindings c.lawful.ensures (c.in_ok-unify_all.ensures.extended.count ∙ c.requires.fresh.count) c.in_ok-resolved_values.field-0.items
    c.in_ok-resolved_values.ensures c.args.terms.now c.args.row.now
    (solved_by c.args.moment.now.variables c.args.bindings.now c.unify_all.new.bindings c.args.terms.now c.args.row.now c.requires.fresh c.requires.ground joins)
