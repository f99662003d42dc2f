use Rattle.std.proofs.Common.{ap, flat_map, subst, sym, ◌∙◌, arith}
use Rattle.std.proofs.lemmas.List.{take_all}
use Rattle.lps_terms.specs.declared.statement.Statement.{Statement}
use Rattle.lps_model.specs.Program.{declared_in}
use Rattle.lps_levels.specs.Names.{AreCalledAmong}
use Rattle.lps_levels.proofs.Numbers.{called_all, declared_step}
use Rattle.lps_levels.proofs.names.called_names.Goals as goal

pub loop-statement-preserved : goal.loop-statement-preserved
loop-statement-preserved c =
    subst (λ ds. AreCalledAmong c.args.kinds.now ds c.add_declared.new.names) (declared_step _ _ c.statement-item.result c.loop-statement-test.true c.statement-item.is)
    (c.in_ok-add_declared.ensures _ c.loop-statement.invariant)

pub returns : goal.returns
returns c =
    called_all c.args.kinds.now c.loop-statement.names
    (subst (λ ds. AreCalledAmong c.args.kinds.now ds c.loop-statement.names)
    (ap (flat_map (λ (s : Statement). declared_in s.body)) (take_all _ _ (omega arith) ∙ c.as_slice-statement-items.ensures) ∙ sym c.requires) c.loop-statement.invariant)
