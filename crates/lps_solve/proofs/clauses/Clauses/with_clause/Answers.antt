use Rattle.std.proofs.Common.{◌<◌, ◌++◌, subst, arith}
use Rattle.std.specs.List.{AllByRecursion, flat_map}
use Rattle.lps_model.specs.VariableLists.{args_vars, cond_vars}
use Rattle.lps_solve.proofs.Collecting.{both_below}
use Rattle.lps_solve.proofs.Tables.{counted_more}
use Rattle.lps_solve.proofs.clauses.Clauses.with_clause.Goals as goal

pub invariant_of-result : goal.invariant_of-result
invariant_of-result c =
    counted_more c.self.inside.clauses.items (record { head = c.in_ok-head.head; conds = c.in_ok-conds.conds; variables = c.max-variables.result }) c.self.invariant
    (both_below c.above_terms.result c.above_conds.result c.max-variables.result (args_vars c.args.head.now.args) (flat_map cond_vars c.args.conds.now) _
    (λ i. args_vars ((c.in_ok-head.ensures i).args) ++ flat_map cond_vars (c.in_ok-conds.ensures i)) (omega (arith, c.max-variables.ensures)) (omega (arith, c.max-variables.ensures))
    (subst (λ xs. AllByRecursion (λ v. v < c.above_terms.result) (args_vars xs)) c.as_slice.ensures c.above_terms.ensures) c.above_conds.ensures)
    c.push.new.self.items c.in_ok-push.ensures.items
