use Rattle.std.proofs.Common.{◌∙◌, ap, sym}
use Rattle.lps_model.specs.Calls.{is_called}
use Rattle.lps_levels.proofs.Numbers.{called_more, called_same}
use Rattle.lps_levels.proofs.names.add_called.Goals as goal

pub returns-in_ok-insert : goal.returns-in_ok-insert
returns-in_ok-insert c = λ seen h. called_more _ seen c.args.decl.now _ _ c.in_ok-insert.ensures (sym (ap is_called c.kind.ensures) ∙ sym c.is_called.ensures ∙ c.if-is_called.true) h

pub returns-else-is_called : goal.returns-else-is_called
returns-else-is_called c = λ seen h. called_same _ seen c.args.decl.now _ (sym (ap is_called c.kind.ensures) ∙ sym c.is_called.ensures ∙ c.if-is_called.false) h
