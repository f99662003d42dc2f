use Rattle.std.proofs.Common.{rules}
use Rattle.std.proofs.lemmas.List.Elements.{filter_from_retain}
use Rattle.lps_goaltrees.specs.declared.slot.Slot.{Slot}
use Rattle.lps_goaltrees.specs.Slots.{is_used}
use Rattle.lps_goaltrees.proofs.slots.sweep.Goals as goal

pub returns : goal.returns
returns c = filter_from_retain _ (λ (s : Slot). is_used s) (λ f x b g k. search rules) _ c.args.slots.now.items c.retain.new.self.items c.retain.ensures.filtered
