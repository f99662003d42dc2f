use Rattle.lps_build.proofs.declarations.ModePart.part.Goals as goal

pub returns : goal.returns
returns c = c.mode.ensures c.args.arg3
