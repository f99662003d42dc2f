use Rattle.std.proofs.Common.{rules}
use Rattle.lps_build.proofs.LineTrees.{line_found, line_missing}
use Rattle.lps_build.proofs.line.build_line.Goals as goal

pub returns-in_default : goal.returns-in_default
returns-in_default c = λ x e named. line_missing x c.args.toks.now (search rules) e named

pub returns : goal.returns
returns c = λ x e named. line_found x c.args.toks.now (c.in-Some.built.0, c.in-Some.built.1) c.in-Some.field-0-1.now (search rules) e named
