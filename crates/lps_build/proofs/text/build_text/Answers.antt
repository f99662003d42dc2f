use Rattle.std.proofs.Common.{rules}
use Rattle.lps_build.proofs.StatementTrees.{text_found, text_missing}
use Rattle.lps_build.proofs.text.build_text.Goals as goal

pub returns-in_default : goal.returns-in_default
returns-in_default c = λ x e named. text_missing x c.args.toks.now (search rules) e named

pub returns : goal.returns
returns c = λ x e named. text_found x c.args.toks.now c.in-Some.bodies.items c.in-Some.field-0-1.now (search rules) e named
