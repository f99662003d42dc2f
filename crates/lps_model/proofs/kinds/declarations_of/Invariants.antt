use Rattle.std.proofs.Common.{◌≡◌, take}
use Rattle.std.specs.List.{flat_map}
use Rattle.lps_model.specs.Program.{declared_in}
use Rattle.lps_model.proofs.kinds.declarations_of.Given as goal

-- the declarations so far are copied
abbrev pub invariant-loop-statement : goal.invariant-loop-statement
invariant-loop-statement l = l.decls.items ≡ flat_map (λ s. declared_in s.body) (take l.statement-index l.statement-items)
