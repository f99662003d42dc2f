use Rattle.std.proofs.Common.{List, subst, arith}
use Rattle.std.specs.Prelude.{◌↔◌, Contains}
use Rattle.lps_meaning.specs.declared.node.Node.{Node}
use Rattle.lps_goaltrees.specs.Offers.{IsOfferOf}
use Rattle.lps_goaltrees.proofs.Lists.{all_taken}
use Rattle.lps_goaltrees.proofs.Offering.{are_offers, offers_next}
use Rattle.lps_goaltrees.proofs.proposing.offers.Goals as goal

pub loop-node-preserved : goal.loop-node-preserved
loop-node-preserved c =
    offers_next c.args.text.now c.args.time c.most_done-most.result c.args.nodes.now c.loop-node.node-index c.node-item.result c.loop-node.offers.keys c.add_offer.new.offers.keys c.loop-node-test.true c.node-item.is
    c.in_ok-add_offer.ensures c.loop-node.invariant

pub returns : goal.returns
returns c =
    are_offers c.args.text.now c.args.time c.most_done-most.result c.args.nodes.now c.loop-node.offers.keys c.most_done-most.ensures.above c.most_done-most.ensures.least
    (λ r. subst (λ (nodes : List Node). Contains c.loop-node.offers.keys r ↔ ((node : Node) × Contains nodes node × IsOfferOf c.args.text.now c.args.time c.most_done-most.result node r))
    (all_taken c.args.nodes.now c.loop-node.node-index (omega arith)) (c.loop-node.invariant r))
