use Rattle.std.proofs.Common.{◌∙◌}
use Rattle.lps_cycle.proofs.Rounds.{back_round}
use Rattle.lps_cycle.proofs.round.Round.clear.Goals as goal

pub invariant_of-self : goal.invariant_of-self
invariant_of-self c =
    let inside = c.self.inside in
    back_round inside.theory inside.trial c.undo_to.new.self inside.admitted inside.candidates c.clear.new.self inside.picks.items c.replace.new.dest.items inside.start c.self.invariant c.undo_to.ensures c.clear.ensures
    ((λ i. (c.replace.ensures.after i).items) ∙ c.new.ensures.items)
