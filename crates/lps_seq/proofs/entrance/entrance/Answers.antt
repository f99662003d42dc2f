use Rattle.std.proofs.lemmas.Result.{IfOk-weaker}
use Rattle.lps_seq.specs.Starts.{rule_of}
use Rattle.lps_seq.proofs.Entrances.{entered_by}
use Rattle.lps_seq.proofs.entrance.entrance.Goals as goal

pub returns-in-Some-rule_at : goal.returns-in-Some-rule_at
returns-in-Some-rule_at c =
    IfOk-weaker c.alternative_of.result _ _
    (λ found h. entered_by c.args.text.now c.args.start.now c.in-Alternative.key c.in-Alternative.alternative c.in-Alternative.is (rule_of c.in-Some-rule_at.rule) c.in-Some-rule_at.ensures found h) c.alternative_of.ensures
