use Rattle.std.proofs.Common.{◌≡◌, ◌∙◌, Option, Some, None, ℕ, List, [], ap, sym, subst}
use Rattle.lps_run.specs.declared.words.Command.{Command}
use Rattle.lps_run.specs.declared.words.Command.TheVariants as asked
use Rattle.lps_run.proofs.top.lps.Goals as goal

abbrev command_in : Option (Command × List ℕ) → Command
command_in None = asked.Run
command_in (Some p) = p.0

abbrev name_in : Option (Command × List ℕ) → List ℕ
name_in None = []
name_in (Some p) = p.1

pub returns-in-Some-clause-told : goal.returns-in-Some-clause-told
returns-in-Some-clause-told g c = λ name all before start is told known printed.
    let both = sym c.in-Some.ensures ∙ is in
    let run : c.in-Some.command ≡ asked.Run = ap command_in both in
    let same : name ≡ c.in-Some.name.now = ap name_in (sym both) in
    c.answer_command.ensures.told all before start run (subst (λ (n : List ℕ). g.T.Texts.text c.args.texts.now n ≡ Some all) same told) known printed

pub returns-in-Some-clause-caused : goal.returns-in-Some-clause-caused
returns-in-Some-clause-caused g c = λ name only.
    let same : name ≡ c.in-Some.name.now = only c.in-Some.command c.in-Some.name.now c.in-Some.ensures in
    rw same c.answer_command.ensures.caused
