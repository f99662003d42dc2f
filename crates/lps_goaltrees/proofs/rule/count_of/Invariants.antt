use Rattle.std.proofs.Common.{◌≡◌, drop}
use Rattle.std.specs.List.{flat_map}
use Rattle.lps_model.specs.Rules.{numbered, rule_in, rules}
use Rattle.lps_goaltrees.proofs.rule.count_of.Given as goal

-- the rule is found among what is left
abbrev pub invariant-loop-statement : goal.invariant-loop-statement
invariant-loop-statement l = numbered (flat_map (λ s. rule_in s.body) (drop l.statement-index l.text.statements)) l.left ≡ numbered (rules l.text) l.number
