use Rattle.std.proofs.Common.{◌∙◌, ◌+◌, drop, sym, ap, List, ℕ}
use Rattle.std.specs.List.{flat_map}
use Rattle.lps_model.specs.VariableLists.{item_vars}
use Rattle.lps_unify.specs.Canonical.{first_seen}
use Rattle.lps_residual.proofs.FirstSeen.{seen_next, seen_end}
use Rattle.lps_residual.proofs.seen.see_items.Goals as goal

pub loop-item-preserved : goal.loop-item-preserved
loop-item-preserved c =
    ap (λ (seen : List ℕ). first_seen seen (flat_map item_vars (drop (c.loop-item.item-index + 1) c.args.items.now))) c.in_ok-see_item.ensures
    ∙ sym (seen_next item_vars c.loop-item.seen.items c.args.items.now c.loop-item.item-index c.item-item.result c.loop-item-test.true c.item-item.is)
    ∙ c.loop-item.invariant

pub returns : goal.returns
returns c = sym (seen_end item_vars c.loop-item.seen.items c.args.items.now c.loop-item.item-index c.loop-item-test.false) ∙ c.loop-item.invariant
