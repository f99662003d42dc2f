use Rattle.std.proofs.Common.{take}
use Rattle.std.specs.Prelude.{◌↔◌, Contains}
use Rattle.lps_meaning.specs.declared.node.Node.{Node}
use Rattle.lps_meaning.specs.Plain.{Ranked}
use Rattle.lps_goaltrees.specs.Offers.{IsOfferOf}
use Rattle.lps_goaltrees.proofs.proposing.offers.Given as goal

-- what the first nodes propose
abbrev pub invariant-loop-node : goal.invariant-loop-node
invariant-loop-node l = (r : Ranked) → Contains l.offers.keys r ↔ ((node : Node) × Contains (take l.node-index l.nodes) node × IsOfferOf l.text l.time l.most node r)
