use Rattle.std.specs.Prelude.{◌⊎◌, ◌↔◌, Contains}
use Rattle.lps_meaning.specs.declared.goal.GoalKey.{GoalKey}
use Rattle.lps_antecedents.specs.Gathered.{IsKeyOf}
use Rattle.lps_antecedents.proofs.gathered.add_keys.Given as goal

-- what is there, and what the carries that are left will add
abbrev pub invariant-loop-carry : goal.invariant-loop-carry
invariant-loop-carry l = record {
  all : (x : GoalKey) → (Contains l.keys.keys x ⊎ IsKeyOf l.rule l.time l.carry-iterator.rest.items x) ↔ (Contains l.fn.keys.keys x ⊎ IsKeyOf l.rule l.time l.fn.ended.items x);
}
