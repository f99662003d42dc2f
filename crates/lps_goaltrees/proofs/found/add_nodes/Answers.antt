use Rattle.std.proofs.Common.{rules, ◌≡◌, ◌∷◌, length}
use Rattle.std.specs.Prelude.{Contains, ◌⊎◌}
use Rattle.lps_meaning.specs.declared.node.Node.{Node}
use Rattle.lps_goaltrees.proofs.Growing.{adds_all, adds_next}
use Rattle.lps_goaltrees.proofs.found.add_nodes.Goals as goal

pub loop-node-preserved : goal.loop-node-preserved
loop-node-preserved c =
    let next : c.loop-node.node-iterator.rest.items ≡ c.in-Some.node ∷ c.next.new.self.rest.items = search rules in
    record {
      all = adds_next c.loop-node.found.items c.add_node.new.found.items c.loop-node.node-iterator.rest.items c.next.new.self.rest.items c.in-Some.node
          (λ (o : Node). Contains c.args.found.now.items o ⊎ Contains c.args.nodes.items o) next c.in_ok-add_node.ensures c.loop-node.invariant.all;
      once = λ once. c.in_ok-add_node.ensures.once (c.loop-node.invariant.once once);
    }

pub returns : goal.returns
returns c =
    let none : length c.loop-node.node-iterator.rest.items ≡ 0 = search rules in
    adds_all c.loop-node.found.items c.loop-node.node-iterator.rest.items c.args.found.now.items c.args.nodes.items none c.loop-node.invariant.all c.loop-node.invariant.once
