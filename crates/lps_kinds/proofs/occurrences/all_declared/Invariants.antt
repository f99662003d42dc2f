use Rattle.std.proofs.Common.{◌≡◌, take}
use Rattle.std.specs.List.{flat_map}
use Rattle.lps_model.specs.Occurrences.{declaring_in}
use Rattle.lps_kinds.proofs.occurrences.all_declared.Given as goal

-- the names declared so far
abbrev pub invariant-loop-statement : goal.invariant-loop-statement
invariant-loop-statement l = l.found.items ≡ flat_map (λ s. declaring_in s.line s.body) (take l.statement-index l.statement-items)
