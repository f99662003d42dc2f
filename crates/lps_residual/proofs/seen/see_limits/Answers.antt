use Rattle.std.proofs.Common.{◌∙◌, ◌++◌, ◌+◌, drop, sym, ap, List, ℕ}
use Rattle.std.specs.List.{flat_map}
use Rattle.lps_nodes.specs.Shapes.{unknowns}
use Rattle.lps_unify.specs.Canonical.{first_seen}
use Rattle.lps_residual.proofs.FirstSeen.{seen_at, seen_end}
use Rattle.lps_residual.proofs.seen.see_limits.Goals as goal

pub returns : goal.returns
returns c = sym (seen_end (λ con. unknowns con.left ++ unknowns con.right) c.loop-limit.seen.items c.args.limits.now c.loop-limit.limit-index c.loop-limit-test.false) ∙ c.loop-limit.invariant

pub loop-limit-preserved : goal.loop-limit-preserved
loop-limit-preserved c =
    ap (λ (seen : List ℕ). first_seen seen (flat_map (λ con. unknowns con.left ++ unknowns con.right) (drop (c.loop-limit.limit-index + 1) c.args.limits.now))) (c.in_ok-see_limit.ensures)
    ∙ sym (seen_at (λ con. unknowns con.left ++ unknowns con.right) c.loop-limit.seen.items c.args.limits.now c.loop-limit.limit-index _ c.loop-limit-test.true)
    ∙ c.loop-limit.invariant
