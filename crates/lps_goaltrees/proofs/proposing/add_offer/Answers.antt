use Rattle.std.proofs.Common.{◌∙◌, ap, sym, subst}
use Rattle.lps_terms.specs.declared.atom.Atom.{Atom}
use Rattle.std.proofs.Common.{List}
use Rattle.lps_meaning.specs.Plain.{Ranked}
use Rattle.lps_nodes.specs.NextSteps.{IsProposed}
use Rattle.lps_goaltrees.proofs.Offering.{adds_none, adds_one}
use Rattle.lps_goaltrees.proofs.proposing.add_offer.Goals as goal

pub returns-in_ok-insert : goal.returns-in_ok-insert
returns-in_ok-insert c =
    let proposed = rw c.in-Some.is at c.in_ok-group.ensures in
    adds_one c.args.text.now c.args.time c.args.most c.args.node.now c.new.result c.args.offers.now.keys c.insert.new.self.keys c.if-node-most.false (ap (λ (r : Ranked). r.alternative) c.new.ensures)
    (ap (λ (r : Ranked). r.rank) c.new.ensures ∙ c.in_ok-rank.ensures ∙ c.as_slice.ensures)
    (subst (λ (g : List Atom). IsProposed c.args.text.now c.args.time c.args.node.now g) (sym (ap (λ (r : Ranked). r.group) c.new.ensures)) proposed) c.in_ok-insert.ensures.keys

pub returns-in_default : goal.returns-in_default
returns-in_default c =
    let none = rw c.in_default.is at c.in_ok-group.ensures in
    adds_none c.args.text.now c.args.time c.args.most c.args.node.now c.args.offers.now.keys (λ r o. none r.group o.proposed)
