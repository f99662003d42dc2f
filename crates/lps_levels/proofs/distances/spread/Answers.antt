use Rattle.std.proofs.Common.{arith, ap, sym, ◌∙◌, ◌||◌}
use Rattle.lps_levels.proofs.Spreading.{spreading_all, spreading_none, spreading_step}
use Rattle.lps_levels.proofs.distances.spread.Goals as goal
use Rattle.lps_levels.proofs.distances.spread.Goals.{then-extend, else-extend}

pub loop-edge-init : goal.loop-edge-init
loop-edge-init c = spreading_none _ _ _ _ _ c.requires.before

pub loop-edge-preserved : goal.loop-edge-preserved
loop-edge-preserved c =
    spreading_step _ _ _ _ _ _ _ _ _ _ _ _ c.requires.graph c.loop-edge-test.true c.extend.ensures
    (elim c.if-extend.branch [
      | then-extend w ↦ w.has_grown-is ∙ w.if-extend.true ∙ ap (λ b. b || c.loop-edge.has_grown) (sym w.if-extend.true)
      | else-extend w ↦ w.has_grown-is ∙ ap (λ b. b || c.loop-edge.has_grown) (sym w.if-extend.false)
    ])
    c.loop-edge.invariant

pub returns-clause-after : goal.returns-clause-after
returns-clause-after c = spreading_all _ _ _ _ _ _ _ _ (omega arith) c.loop-edge.invariant
