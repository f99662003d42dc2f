use Rattle.std.proofs.Common.{◌≡◌, take, map}
use Rattle.std.specs.List.{flat_map}
use Rattle.lps_model.specs.Rules.{denial_in}
use Rattle.lps_precond.specs.Cut.{cut}
use Rattle.lps_precond.proofs.denials.Denials.new.Given as goal

-- the denials of the statements so far
abbrev pub invariant-loop-statement : goal.invariant-loop-statement
invariant-loop-statement l = l.denials.items ≡ map (cut l.text) (flat_map (λ s. denial_in s.body) (take l.statement-index l.statement-items))
