use Rattle.std.proofs.Common.{◌≡◌, sym, subst}
use Rattle.lps_meaning.specs.declared.when.When.TheVariants.{Known}
use Rattle.lps_nodes.specs.Shapes.{put_when}
use Rattle.lps_meeting.specs.Steps.{IsSetTo}
use Rattle.lps_meeting.proofs.times.set.Goals as goal

pub returns-in-Unknown-clause-set : goal.returns-in-Unknown-clause-set
returns-in-Unknown-clause-set c =
    subst (λ x. IsSetTo c.set_unknown.result c.args.whens.now.items c.set_unknown.new.whens.items (λ w. put_when w x ≡ Known c.args.time)) (sym c.in-Unknown.is) c.set_unknown.ensures.set
