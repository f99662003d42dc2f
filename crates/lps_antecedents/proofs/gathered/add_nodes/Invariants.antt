use Rattle.std.specs.Prelude.{◌⊎◌, ◌↔◌, Contains}
use Rattle.lps_antecedents.specs.declared.held.Held.{Held}
use Rattle.lps_antecedents.specs.Gathered.{IsLeftFor}
use Rattle.lps_antecedents.proofs.gathered.add_nodes.Given as goal

-- what is there, and what the nodes that are left will add
abbrev pub invariant-loop-node : goal.invariant-loop-node
invariant-loop-node l = (x : Held) → (Contains l.held.items x ⊎ IsLeftFor l.rule l.node-iterator.rest.items x) ↔ (Contains l.fn.held.items x ⊎ IsLeftFor l.rule l.fn.nodes.items x)
