use Rattle.std.proofs.Common.{◌≡◌, arith, subst}
use Rattle.std.specs.Prelude.{suc}
use Rattle.lps_meaning.specs.declared.when.When.TheVariants.{Known}
use Rattle.lps_nodes.specs.Shapes.{put_when}
use Rattle.lps_meeting.specs.Steps.{IsSetTo}
use Rattle.lps_meeting.proofs.SettingTimes.{span_set}
use Rattle.lps_meeting.proofs.times.set_span.Goals as goal

pub returns-then-set-clause-set : goal.returns-then-set-clause-set
returns-then-set-clause-set c =
    let some = c.in-Some.ensures.0 in
    let less = c.in-Some.ensures.1 in
    let is : c.args.time ≡ suc c.in-Some.before = omega (arith, some, less) in
    span_set c.args.time c.in-Some.before is c.set-then-set.result c.args.whens.now.items c.set.new.whens.items c.set-then-set.new.whens.items c.args.from c.args.to
    (subst (λ b. IsSetTo b c.args.whens.now.items c.set.new.whens.items (λ w. put_when w c.args.from ≡ Known c.in-Some.before)) c.if-set.true c.set.ensures.set) c.set-then-set.ensures.set

pub returns-then-set-clause-early : goal.returns-then-set-clause-early
returns-then-set-clause-early c = λ latest le old. c.set-then-set.ensures.early latest le (c.set.ensures.early latest (let less = c.in-Some.ensures.1 in omega (arith, le, less)) old)

pub returns-else-set-clause-early : goal.returns-else-set-clause-early
returns-else-set-clause-early c = λ latest le old. c.set.ensures.early latest (let less = c.in-Some.ensures.1 in omega (arith, le, less)) old
