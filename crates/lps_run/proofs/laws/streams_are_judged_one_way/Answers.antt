use Rattle.lps_run.proofs.OneWay.{faulty_one, sound_one, sound_or_faulty}
use Rattle.lps_run.proofs.laws.streams_are_judged_one_way.Goals as goal

pub returns-clause-sound : goal.returns-clause-sound
returns-clause-sound c = sound_one

pub returns-clause-faulty : goal.returns-clause-faulty
returns-clause-faulty c = faulty_one

pub returns-clause-apart : goal.returns-clause-apart
returns-clause-apart c = sound_or_faulty
