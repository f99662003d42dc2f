use Rattle.std.proofs.Common.{◌≡◌, ◌-◌, suc, Some, ap, subst, ◌∙◌, arith, []}
use Rattle.std.proofs.lemmas.List.{append-nil, get_or_read}
use Rattle.lps_model.specs.Levels.{IsLeastWay}
use Rattle.lps_levels.specs.Graphs.{calls_by, name_at}
use Rattle.lps_levels.proofs.LeastWays.{callee_in_names, has_callee, way_ends, way_step}
use Rattle.lps_levels.proofs.way.least_way.Goals as goal

pub returns-in_default : goal.returns-in_default
returns-in_default c =
    let more : c.loop-left.left ≡ suc (c.loop-left.left - 1) = omega arith in
    absurd (has_callee _ _ _ _ c.requires.graph c.requires.goal_in c.requires.distances c.loop-left.number (c.loop-left.left - 1) c.loop-left.invariant.number_in (c.loop-left.invariant.far ∙ ap Some more) c.in_default.ensures)

pub loop-left-preserved : goal.loop-left-preserved
loop-left-preserved c = record {
  number_in = callee_in_names _ _ _ _ _ _ c.requires.graph c.in-Some.ensures;
  far = c.in-Some.ensures.near;
  goes_on = way_step _ _ _ _ c.requires.graph c.requires.goal_in c.requires.distances _ _ _ _ _ _ _ c.loop-left.invariant.number_in c.loop-left-test.true c.loop-left.invariant.far c.in-Some.ensures
      c.in_ok-push.ensures.items (c.in_ok-copy.ensures ∙ get_or_read _ _ _ c.loop-left.invariant.number_in c.index-names-number.is []) c.loop-left.invariant.goes_on;
}

pub returns : goal.returns
returns c =
    let none : c.loop-left.left ≡ 0 = omega arith in
    subst (IsLeastWay (calls_by c.args.names.now c.args.edges.now) (name_at c.args.names.now c.args.start) (name_at c.args.names.now c.args.goal)) (append-nil c.loop-left.way.items)
    (c.loop-left.invariant.goes_on [] (way_ends _ _ _ _ c.requires.graph c.requires.goal_in c.requires.distances c.loop-left.number (c.loop-left.invariant.far ∙ ap Some none)))
