use Rattle.std.proofs.Common.{◌≡◌, take}
use Rattle.std.specs.List.{flat_map}
use Rattle.lps_model.specs.Occurrences.{in_body}
use Rattle.lps_kinds.proofs.occurrences.occurrences.Given as goal

-- the names in the statements so far
abbrev pub invariant-loop-statement : goal.invariant-loop-statement
invariant-loop-statement l = l.found.items ≡ flat_map (λ s. in_body l.kinds s.line s.body) (take l.statement-index l.statement-items)
