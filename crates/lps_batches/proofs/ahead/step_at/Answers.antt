use Rattle.std.proofs.Common.{◌∙◌, ap}
use Rattle.lps_lex.proofs.Pieces.{suffix}
use Rattle.lps_batches.specs.LookAhead.{step_of}
use Rattle.lps_batches.proofs.FirstLine.{passes_at}
use Rattle.lps_batches.proofs.ahead.step_at.Goals as goal

pub returns-clause-same : goal.returns-clause-same
returns-clause-same c = c.step_of-step.ensures ∙ ap step_of (suffix c.args.at c.args.bytes.now)

pub returns-clause-fits : goal.returns-clause-fits
returns-clause-fits c = passes_at c.args.at c.args.bytes.now c.step_of-step.result (c.step_of-step.ensures ∙ ap step_of (suffix c.args.at c.args.bytes.now))
