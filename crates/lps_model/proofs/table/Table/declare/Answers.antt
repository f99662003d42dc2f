use Rattle.std.proofs.Common.{sym}
use Rattle.lps_model.proofs.Tables.{declared_new, declared_before}
use Rattle.lps_model.proofs.table.Table.declare.Goals as goal

pub returns-then-has : goal.returns-then-has
returns-then-has c = λ decls table. declared_before decls c.args.decl.now c.args.self.now table (sym c.if-has.ensures)

pub returns : goal.returns
returns c = λ decls table.
    declared_new decls c.args.decl.now c.args.self.now _ table (sym c.if-has.ensures) (λ name. rw (c.self.view_is, c.in_ok-name.ensures, c.in_ok-copy.ensures) at (c.in_ok-insert.ensures.updates.0 name))
