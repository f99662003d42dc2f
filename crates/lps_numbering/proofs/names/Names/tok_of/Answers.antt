use Rattle.std.proofs.Common.{subst}
use Rattle.lps_lex.specs.Forms.{HasForm, IsWithinLimit}
use Rattle.lps_numbering.proofs.Written.{time_name, variable_name}
use Rattle.lps_numbering.proofs.names.Names.tok_of.Goals as goal

pub enter-requires-clause-name : goal.enter-requires-clause-name
enter-requires-clause-name c =
    let text = c.args.text.now in
    time_name text (subst (λ kind. HasForm kind text) c.in-Time.is c.requires.form) (subst (λ kind. IsWithinLimit kind text) c.in-Time.is c.requires.limit)

pub enter-requires-in-Variable-clause-name : goal.enter-requires-in-Variable-clause-name
enter-requires-in-Variable-clause-name c =
    let text = c.args.text.now in
    variable_name text (subst (λ kind. HasForm kind text) c.in-Variable.is c.requires.form) (subst (λ kind. IsWithinLimit kind text) c.in-Variable.is c.requires.limit)
