use Rattle.lps_solve.proofs.Modes.{wanted_moded}
use Rattle.lps_solve.proofs.instance.wanted_by.Goals as goal

pub instances_by-requires-clause-moded : goal.instances_by-requires-clause-moded
instances_by-requires-clause-moded c = wanted_moded c.args.search.now.program.now c.args.bindings.now c.lawful.ensures c.args.conds.now c.args.wanted.now c.requires.moded
