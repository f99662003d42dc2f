use Rattle.std.proofs.Common.{◌≡◌, ◌++◌, ap, subst, sym, ◌∙◌, arith}
use Rattle.std.proofs.lemmas.List.{take_all}
use Rattle.lps_model.specs.Program.{declared_in}
use Rattle.lps_levels.specs.Names.{AreCalledAmong}
use Rattle.lps_levels.proofs.Numbers.{seen_step}
use Rattle.lps_levels.proofs.names.add_declared.Goals as goal

pub loop-decl-preserved : goal.loop-decl-preserved
loop-decl-preserved c = λ seen h.
    subst (λ ds. AreCalledAmong c.args.kinds.now ds c.add_called.new.names) (seen_step seen _ _ c.decl-item.result c.loop-decl-test.true c.decl-item.is)
    (c.in_ok-add_called.ensures _ (c.loop-decl.invariant seen h))

pub returns-after-loop-decl : goal.returns-after-loop-decl
returns-after-loop-decl c = λ seen h.
    let all : declared_in c.args.body.now ≡ c.as_slice-decl-items.result.now = ap declared_in c.in-Declare.is ∙ sym c.as_slice-decl-items.ensures in
    subst (λ ds. AreCalledAmong c.args.kinds.now (seen ++ ds) c.loop-decl.names) (take_all _ _ (omega arith) ∙ sym all) (c.loop-decl.invariant seen h)
