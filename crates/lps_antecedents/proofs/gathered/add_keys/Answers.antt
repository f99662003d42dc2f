use Rattle.std.proofs.Common.{rules, ◌≡◌, ◌∷◌, length, List, ◌↔◌, ◌⊎◌, Contains, subst}
use Rattle.lps_meaning.specs.declared.goal.GoalKey.{GoalKey}
use Rattle.lps_meaning.specs.declared.node.Carry.{Carry}
use Rattle.lps_antecedents.specs.Gathered.{IsKeyOf, key_of}
use Rattle.lps_antecedents.proofs.Lists.{by_none, by_one_more}
use Rattle.lps_antecedents.proofs.gathered.add_keys.Goals as goal

pub loop-carry-preserved : goal.loop-carry-preserved
loop-carry-preserved c =
    let next : c.loop-carry.carry-iterator.rest.items ≡ c.in-Some.carry ∷ c.next.new.self.rest.items = search rules in
    record {
      all = by_one_more (λ (carry : Carry) (key : GoalKey). key ≡ key_of c.args.rule c.args.time carry) c.loop-carry.keys.keys c.add_key.new.keys.keys c.in-Some.carry c.next.new.self.rest.items
          (λ x. Contains c.args.keys.now.keys x ⊎ IsKeyOf c.args.rule c.args.time c.args.ended.items x) c.in_ok-add_key.ensures
          (λ x. subst (λ (those : List Carry). (Contains c.loop-carry.keys.keys x ⊎ IsKeyOf c.args.rule c.args.time those x) ↔ (Contains c.args.keys.now.keys x ⊎ IsKeyOf c.args.rule c.args.time c.args.ended.items x)) next
          (c.loop-carry.invariant.all x));
    }

pub returns : goal.returns
returns c =
    let none : length c.loop-carry.carry-iterator.rest.items ≡ 0 = search rules in
    by_none (λ (carry : Carry) (key : GoalKey). key ≡ key_of c.args.rule c.args.time carry) c.loop-carry.keys.keys c.loop-carry.carry-iterator.rest.items (λ x. Contains c.args.keys.now.keys x ⊎ IsKeyOf c.args.rule c.args.time c.args.ended.items x) none c.loop-carry.invariant.all
