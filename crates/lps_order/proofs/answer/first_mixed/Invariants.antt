use Rattle.std.proofs.Common.{◌≡◌, drop}
use Rattle.lps_model.specs.Declarations.{kind_among}
use Rattle.lps_model.specs.Order.{first_line, is_mixed_somewhere}
use Rattle.lps_order.proofs.answer.first_mixed.Given as goal

-- no statement so far passes
abbrev pub invariant-loop-statement : goal.invariant-loop-statement
invariant-loop-statement l = first_line (is_mixed_somewhere (kind_among l.kinds)) (drop l.statement-index l.statements) ≡ first_line (is_mixed_somewhere (kind_among l.kinds)) l.statements
