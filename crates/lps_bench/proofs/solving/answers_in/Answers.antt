use Rattle.std.proofs.Common.{◌∙◌, subst}
use Rattle.std.specs.Prelude.{Contains}
use Rattle.lps_terms.specs.declared.text.Text.{Text}
use Rattle.lps_facts.specs.Facts.{members}
use Rattle.lps_unify.specs.Bindings.{count_of}
use Rattle.lps_solve.proofs.Moding.{goal_is_moded}
use Rattle.lps_bench.proofs.Asked.{each_is_ground, below}
use Rattle.lps_bench.proofs.solving.answers_in.Goals as goal

pub answers-requires-clause-ground : goal.answers-requires-clause-ground
answers-requires-clause-ground c = each_is_ground (members c.args.facts.now) (cc (c.in_ok-are_all_ground.ensures, c.if-not-branch.false))

pub answers-requires-clause-below : goal.answers-requires-clause-below
answers-requires-clause-below c =
    below _ c.above_conds.result (count_of c.in_ok-bindings.bindings)
    ((λ i. count_of (record { first = c.in_ok-bindings.ensures.first i; added = c.in_ok-bindings.ensures.added i })) ∙ c.in-Some-fitting.ensures) c.above_conds.ensures

pub answers-requires-clause-moded : goal.answers-requires-clause-moded
answers-requires-clause-moded c =
    let has = c.in-Some.ensures in
    goal_is_moded c.args.program.now c.lawful.ensures.accepted has.statement (subst (λ (text : Text). Contains text.statements has.statement) (c.text-2.ensures.same ∙ c.text.ensures) has.among)
    has.is_goal.head c.in-Some.conds.now has.is_goal.says has.is_goal.alone c.in_ok-bindings.bindings
