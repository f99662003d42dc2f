use Rattle.std.proofs.Common.{rules, ◌≡◌, ◌∷◌, length, List, ◌↔◌, ◌⊎◌, Contains, subst, sym}
use Rattle.lps_meaning.specs.declared.node.Node.{Node}
use Rattle.lps_antecedents.specs.declared.held.Held.{Held}
use Rattle.lps_antecedents.specs.Gathered.{Gains, IsLeftFor}
use Rattle.lps_antecedents.proofs.Lists.{by_none, by_one_more, gains_pushed}
use Rattle.lps_antecedents.proofs.gathered.add_nodes.Goals as goal

pub loop-node-preserved : goal.loop-node-preserved
loop-node-preserved c =
    let next : c.loop-node.node-iterator.rest.items ≡ c.in-Some.node ∷ c.next.new.self.rest.items = search rules in
    let new : Held = record { rule = c.args.rule; node = c.in-Some.node } in
    by_one_more (λ (node : Node) (h : Held). h ≡ record { rule = c.args.rule; node = node }) c.loop-node.held.items c.push.new.self.items c.in-Some.node c.next.new.self.rest.items
    (λ x. Contains c.args.held.now.items x ⊎ IsLeftFor c.args.rule c.args.nodes.items x)
    (subst (λ hs. Gains c.loop-node.held.items hs (λ h. h ≡ new)) (sym c.in_ok-push.ensures.items) (gains_pushed c.loop-node.held.items new))
    (λ x. subst (λ (those : List Node). (Contains c.loop-node.held.items x ⊎ IsLeftFor c.args.rule those x) ↔ (Contains c.args.held.now.items x ⊎ IsLeftFor c.args.rule c.args.nodes.items x)) next
    (c.loop-node.invariant x))

pub returns : goal.returns
returns c =
    let none : length c.loop-node.node-iterator.rest.items ≡ 0 = search rules in
    by_none (λ (node : Node) (h : Held). h ≡ record { rule = c.args.rule; node = node }) c.loop-node.held.items c.loop-node.node-iterator.rest.items (λ x. Contains c.args.held.now.items x ⊎ IsLeftFor c.args.rule c.args.nodes.items x) none c.loop-node.invariant
