use Rattle.lps_causal.proofs.Gaining.{none_given}
use Rattle.lps_causal.proofs.given.Given.new.Goals as goal

pub returns : goal.returns
returns c = none_given (record { initiated = c.new.result; terminated = c.new-2.result }) c.new.ensures.items c.new-2.ensures.items
