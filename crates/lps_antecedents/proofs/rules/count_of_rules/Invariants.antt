use Rattle.std.proofs.Common.{◌≡◌, ◌≤◌, ◌+◌, drop, length}
use Rattle.std.specs.List.{flat_map}
use Rattle.lps_model.specs.Rules.{rule_in, rules}
use Rattle.lps_antecedents.proofs.rules.count_of_rules.Given as goal

-- the rules so far, and those that are left
abbrev pub invariant-loop-statement : goal.invariant-loop-statement
invariant-loop-statement l = record {
  few : l.count ≤ l.statement-index;
  all : l.count + length (flat_map (λ s. rule_in s.body) (drop l.statement-index l.statement-items)) ≡ length (rules l.text);
}
