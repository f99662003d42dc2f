use Rattle.std.proofs.Common.{◌+◌, ◌∙◌, ap, drop, sym}
use Rattle.std.specs.List.{flat_map}
use Rattle.lps_model.specs.Order.{times_of}
use Rattle.lps_unify.specs.Canonical.{first_seen}
use Rattle.lps_residual.proofs.FirstSeen.{seen_next}
use Rattle.lps_seq.proofs.rule.see_alternative_times.Goals as goal

pub loop-items-preserved : goal.loop-items-preserved
loop-items-preserved c =
    ap (λ seen. first_seen seen (flat_map (flat_map times_of) (drop (c.loop-items.items-index + 1) c.args.alternatives.now)))
    (c.in_ok-see_times.ensures ∙ ap (λ items. first_seen c.loop-items.seen.items (flat_map times_of items)) c.as_slice.ensures)
    ∙ sym (seen_next (flat_map times_of) c.loop-items.seen.items c.args.alternatives.now c.loop-items.items-index c.items-item.result c.loop-items-test.true c.items-item.is)
    ∙ c.loop-items.invariant
