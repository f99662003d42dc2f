use Rattle.std.proofs.Common.{rules, subst, sym}
use Rattle.lps_nodes.specs.NextSteps.{IsProposed}
use Rattle.lps_residual.proofs.Beginning.{is_proposed}
use Rattle.lps_residual.proofs.proposing.proposal.Goals as goal

pub returns-in_ok-atoms-in-Some : goal.returns-in_ok-atoms-in-Some
returns-in_ok-atoms-in-Some c =
    subst (IsProposed c.args.text.now c.args.time c.args.node.now) (sym c.from_vec.ensures)
    (is_proposed c.args.text.now c.args.time c.args.node.now c.in-Some.from (search rules) (c.in_ok-may_begin-in-Some.ensures.0 (search rules)) c.in_ok-first_group-in-Some.field-0.items
    c.in_ok-atoms-in-Some.atoms.items (search rules) c.in_ok-atoms-in-Some.ensures.sorted c.in_ok-atoms-in-Some.ensures.same)
