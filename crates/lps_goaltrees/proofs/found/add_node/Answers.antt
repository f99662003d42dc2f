use Rattle.std.proofs.Common.{sym, subst}
use Rattle.std.specs.Prelude.{Contains}
use Rattle.lps_goaltrees.proofs.Growing.{adds_pushed}
use Rattle.lps_goaltrees.proofs.found.add_node.Goals as goal

pub returns-in_ok-push : goal.returns-in_ok-push
returns-in_ok-push c =
    rw c.in_ok-push.ensures.items
    (adds_pushed c.args.found.now.items c.args.node
    (λ among. let found = c.has.ensures.1 (subst (λ xs. Contains xs c.args.node) (sym c.as_slice.ensures.value) among) in let missed = c.if-not-has.true in cc))
