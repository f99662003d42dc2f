use Rattle.std.proofs.Common.{◌∙◌, ◌+◌, drop, sym, ap, List, ℕ}
use Rattle.std.specs.List.{flat_map}
use Rattle.lps_nodes.specs.Shapes.{left_unknowns}
use Rattle.lps_unify.specs.Canonical.{first_seen}
use Rattle.lps_residual.proofs.FirstSeen.{seen_next, seen_end}
use Rattle.lps_residual.proofs.seen.see_rest_times.Goals as goal

pub loop-left-preserved : goal.loop-left-preserved
loop-left-preserved c =
    ap (λ (seen : List ℕ). first_seen seen (flat_map (λ left. left_unknowns left.item) (drop (c.loop-left.left-index + 1) c.args.rest.now))) c.in_ok-see_left_times.ensures
    ∙ sym (seen_next (λ left. left_unknowns left.item) c.loop-left.seen.items c.args.rest.now c.loop-left.left-index c.left-item.result c.loop-left-test.true c.left-item.is)
    ∙ c.loop-left.invariant

pub returns : goal.returns
returns c = sym (seen_end (λ left. left_unknowns left.item) c.loop-left.seen.items c.args.rest.now c.loop-left.left-index c.loop-left-test.false) ∙ c.loop-left.invariant
