use Rattle.std.proofs.Common.{subst, Bool}
use Rattle.lps_unify.specs.Unified.{OccursOn}
use Rattle.lps_unify.proofs.Steps.{occurs_clash}
use Rattle.lps_unify.proofs.settle.step_to_bind.Goals as goal

pub returns-then-branch : goal.returns-then-branch
returns-then-branch c =
    occurs_clash c.args.bindings.now c.args.v c.requires.free c.args.b.now c.requires.none
    (subst (λ (found : Bool). OccursOn found c.args.bindings.now c.args.v c.args.b.now) c.if-branch.true c.in_ok-occurs.ensures)
