use Rattle.lps_tests_cycles.proofs.program.trial_in.Goals as goal

pub returns : goal.returns
returns c = c.new.ensures.trial c.args.theory.now c.requires.state
