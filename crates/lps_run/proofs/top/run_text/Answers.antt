use Rattle.std.proofs.Common.{◌≡◌, ◌∙◌, None, sym}
use Rattle.lps_run.specs.Built.{not_built}
use Rattle.lps_run.proofs.CallFree.{built_is_call_free}
use Rattle.lps_run.proofs.Tops.{answered, run_limit}
use Rattle.lps_run.proofs.top.run_text.Goals as goal

pub run-requires : goal.run-requires
run-requires g c = built_is_call_free c.args.text (sym c.not_built.ensures ∙ c.in-None.is)

pub returns-in-None-clause-limit : goal.returns-in-None-clause-limit
returns-in-None-clause-limit g c = λ before after known is. rw c.answer_of.ensures (run_limit before after _ c.run.result (c.run.ensures.limit before known) is)

pub returns-in-None-clause-told : goal.returns-in-None-clause-told
returns-in-None-clause-told g c = λ all before start is known told.
    let built : not_built c.args.text ≡ None = sym c.not_built.ensures ∙ c.in-None.is in
    rw c.answer_of.ensures (answered all c.args.text before.left start _ _ c.run.result (is, built) (c.run.ensures.told before start known told))
