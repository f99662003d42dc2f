use Rattle.lps_model.specs.Levels.{level_among}
use Rattle.lps_model.proofs.accepted.Accepted.text.Goals as goal

pub returns-clause-accepted : goal.returns-clause-accepted
returns-clause-accepted c = rw (← c.self.view_is) (record {
  not_refused = c.self.invariant.not_refused;
  level = level_among c.self.inside.levels;
  levelled = c.self.invariant.levelled.levelled;
})
