use Rattle.std.proofs.Common.{◌≡◌, drop}
use Rattle.std.specs.Prelude.{slice_get}
use Rattle.std.specs.List.{flat_map}
use Rattle.lps_model.specs.Rules.{numbered, rule_in, rules}
use Rattle.lps_seq.proofs.rule.rule_at.Given as goal

-- the rule is that of this place among the statements left
abbrev pub invariant-loop-statement : goal.invariant-loop-statement
invariant-loop-statement l = slice_get (flat_map (λ s. rule_in s.body) (drop l.statement-index l.statement-items)) l.left ≡ numbered (rules l.text) l.number
