use Rattle.std.proofs.Common.{◌∙◌, sym}
use Rattle.lps_facts.proofs.Present.{present_without}
use Rattle.lps_facts.proofs.entries.forget.Goals as goal

pub returns-then-not-is_present-clause-same : goal.returns-then-not-is_present-clause-same
returns-then-not-is_present-clause-same c =
    present_without c.args.fact.now c.args.entries.now.entries c.remove.new.self.entries c.requires c.remove.ensures.ordered c.remove.ensures.updates.0
    (sym c.is_present.ensures ∙ c.if-not-is_present.true)
