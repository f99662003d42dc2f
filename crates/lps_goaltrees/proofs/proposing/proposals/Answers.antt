use Rattle.std.proofs.Common.{List, subst}
use Rattle.std.proofs.lemmas.Result.{IfOk-weaker}
use Rattle.lps_meaning.specs.declared.node.Node.{Node}
use Rattle.lps_goaltrees.specs.Offers.{AreFirsts, AreOffers, AreProposed}
use Rattle.lps_goaltrees.proofs.Offering.{are_proposed}
use Rattle.lps_goaltrees.proofs.proposing.proposals.Goals as goal

pub returns : goal.returns
returns c =
    let nodes : List Node = c.args.goal.now.nodes in
    let offers = subst (λ (nodes : List Node). AreOffers c.args.text.now c.args.time nodes c.in_ok-offers.offers.keys) c.as_slice.ensures c.in_ok-offers.ensures in
    IfOk-weaker c.firsts.result (λ groups. AreFirsts c.in_ok-offers.offers.keys groups.items) (λ groups. AreProposed c.args.text.now c.args.time nodes groups.items)
    (λ groups firsts. are_proposed c.args.text.now c.args.time nodes c.in_ok-offers.offers.keys groups.items offers firsts) c.firsts.ensures
