use Rattle.lps_run.proofs.top.answer_command.Goals as goal

pub returns-in-Run-clause-told : goal.returns-in-Run-clause-told
returns-in-Run-clause-told g c = λ all before start run told known printed. c.run_text.ensures.told all before start (c.in-Ok.ensures.told all told) known printed

pub returns-in-Check-clause-checked : goal.returns-in-Check-clause-checked
returns-in-Check-clause-checked g c = λ all start check told printed. c.check_text.ensures.told all start (c.in-Ok.ensures.told all told) printed
