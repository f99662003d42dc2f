use Rattle.std.proofs.Common.{◌∙◌, ap, sym, subst, arith}
use Rattle.lps_model.specs.VariableLists.{expr_vars}
use Rattle.lps_derivation.specs.Expressions.{expr_symbols_of, expr_symbols_of-Apply}
use Rattle.lps_unify.specs.Bindings.{count_of}
use Rattle.lps_solve.specs.Placed.{AreBelow}
use Rattle.lps_solve.proofs.Placing.{operands_below}
use Rattle.lps_solve.proofs.place.+place_leaves.Goals as goal

pub place_leaves-requires : goal.place_leaves-requires
place_leaves-requires t c = (
  omega (arith, c.decreases, ap expr_symbols_of c.in-Apply.is ∙ expr_symbols_of-Apply c.in-Apply.op c.in-Apply.left c.in-Apply.right, ap expr_symbols_of c.get.ensures),
  subst (λ x. AreBelow (count_of c.args.bindings.now) c.args.base (expr_vars x)) (sym c.get.ensures)
      (operands_below (count_of c.args.bindings.now) c.args.base c.in-Apply.op c.in-Apply.left c.in-Apply.right
      (subst (λ x. AreBelow (count_of c.args.bindings.now) c.args.base (expr_vars x)) c.in-Apply.is c.requires)).0,
)

pub place_leaves-requires-in-Apply : goal.place_leaves-requires-in-Apply
place_leaves-requires-in-Apply t c = (
  omega (arith, c.decreases, ap expr_symbols_of c.in-Apply.is ∙ expr_symbols_of-Apply c.in-Apply.op c.in-Apply.left c.in-Apply.right, ap expr_symbols_of c.get-in-Apply.ensures),
  subst (λ x. AreBelow (count_of c.args.bindings.now) c.args.base (expr_vars x)) (sym c.get-in-Apply.ensures)
      (operands_below (count_of c.args.bindings.now) c.args.base c.in-Apply.op c.in-Apply.left c.in-Apply.right
      (subst (λ x. AreBelow (count_of c.args.bindings.now) c.args.base (expr_vars x)) c.in-Apply.is c.requires)).1,
)
