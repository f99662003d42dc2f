-- Where items stand, as the definitions of known variables speak of it.
use Rattle.lps_model.specs.Known as known
use Rattle.lps_modes.specs.declared.scope.Scope.{Scope}

-- a place in a statement
abbrev pub scope_of : Scope → known.Scope
scope_of scope = record { decls = scope.kinds.now; names = scope.names.now; times = scope.times.now; steps = scope.steps.now; is_planned = scope.is_planned }
