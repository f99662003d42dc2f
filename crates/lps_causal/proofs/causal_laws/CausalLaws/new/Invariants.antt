use Rattle.std.proofs.Common.{◌≡◌, take}
use Rattle.std.specs.List.{flat_map}
use Rattle.lps_model.specs.Program.{law_in}
use Rattle.lps_causal.proofs.causal_laws.CausalLaws.new.Given as goal

-- the laws of the statements so far
abbrev pub invariant-loop-statement : goal.invariant-loop-statement
invariant-loop-statement l = l.it ≡ flat_map (λ s. law_in s.body) (take l.statement-index l.statement-items)
