use Rattle.std.proofs.Common.{◌∙◌, sym, ap}
use Rattle.lps_model.specs.declared.cycle.Group.{Group}
use Rattle.lps_choice.proofs.check.has_group.Goals as goal
use Rattle.lps_choice.proofs.Lists.{left_after}

pub loop-other-preserved : goal.loop-other-preserved
loop-other-preserved c = λ among.
    left_after c.args.groups.now c.loop-other.other-index c.other-item.result c.args.group.now c.loop-other-test.true c.other-item.is
    (λ same. let is = c.are_same.ensures.1 (c.as_slice.ensures ∙ ap (λ (g : Group). g.atoms) same ∙ sym c.as_slice-in-loop-other.ensures) in cc (is, c.if-are_same.false))
    (c.loop-other.invariant among)
