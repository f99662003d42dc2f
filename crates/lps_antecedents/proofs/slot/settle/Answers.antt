use Rattle.std.proofs.Common.{rules}
use Rattle.lps_antecedents.proofs.Slots.{turned_settled}
use Rattle.lps_antecedents.proofs.slot.settle.Goals as goal

pub returns : goal.returns
returns c = turned_settled _ (λ s x b t y k. search rules) _ _ _ c.retain_mut.ensures.filtered
