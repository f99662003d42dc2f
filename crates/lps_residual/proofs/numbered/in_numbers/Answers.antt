use Rattle.std.proofs.Common.{rules, subst, sym, length}
use Rattle.lps_residual.specs.Moments.{IsTimed}
use Rattle.lps_residual.specs.Numbered.{seen_unknowns}
use Rattle.lps_residual.proofs.Renumbering.{is_canonical}
use Rattle.lps_residual.proofs.Timing.{timed_in_numbers}
use Rattle.lps_residual.proofs.numbered.in_numbers.Goals as goal

pub returns-clause-node : goal.returns-clause-node
returns-clause-node c = search rules

pub returns-clause-canonical : goal.returns-clause-canonical
returns-clause-canonical c = is_canonical c.args.node.now c.in_ok-put_node.field-0 (returns-clause-node c)

pub returns-clause-unknowns : goal.returns-clause-unknowns
returns-clause-unknowns c = search rules

pub returns-clause-timed : goal.returns-clause-timed
returns-clause-timed c count timed =
    subst (λ n. IsTimed n c.in_ok-put_node.field-0) (sym (returns-clause-unknowns c)) (subst (IsTimed (length (seen_unknowns c.args.node.now))) (sym (returns-clause-node c)) (timed_in_numbers count c.args.node.now timed))
