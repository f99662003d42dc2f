use Rattle.std.proofs.Common.{◌∙◌, ◌+◌, drop, sym, ap, List, ℕ}
use Rattle.std.specs.List.{flat_map}
use Rattle.lps_nodes.specs.Shapes.{unknowns}
use Rattle.lps_unify.specs.Canonical.{first_seen}
use Rattle.lps_residual.proofs.FirstSeen.{seen_at, seen_end}
use Rattle.lps_residual.proofs.seen.see_whens.Goals as goal

pub returns : goal.returns
returns c = sym (seen_end unknowns c.loop-when.seen.items c.args.whens.now c.loop-when.when-index c.loop-when-test.false) ∙ c.loop-when.invariant

pub loop-when-preserved : goal.loop-when-preserved
loop-when-preserved c =
    ap (λ (seen : List ℕ). first_seen seen (flat_map unknowns (drop (c.loop-when.when-index + 1) c.args.whens.now))) (c.in_ok-see_when.ensures)
    ∙ sym (seen_at unknowns c.loop-when.seen.items c.args.whens.now c.loop-when.when-index _ c.loop-when-test.true)
    ∙ c.loop-when.invariant
