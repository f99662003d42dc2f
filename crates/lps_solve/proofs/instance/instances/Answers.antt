use Rattle.std.proofs.Common.{subst}
use Rattle.lps_terms.specs.declared.text.Text.{Text}
use Rattle.lps_model.specs.Levels.{AreLevelsOf}
use Rattle.lps_solve.proofs.instance.instances.Goals as goal

pub wanted_by-requires-clause-sound : goal.wanted_by-requires-clause-sound
wanted_by-requires-clause-sound c = record {
  ground = c.requires.ground;
  accepted = c.lawful.ensures.accepted;
  formed = c.lawful.ensures.formed;
  levelled = (subst (λ (text : Text). AreLevelsOf text c.levels.result.now) c.text-text.ensures c.levels.ensures).levelled;
}
