use Rattle.std.proofs.Common.{◌≡◌, drop}
use Rattle.lps_model.specs.Known.{items_unknown}
use Rattle.lps_modes.specs.Scopes.{scope_of}
use Rattle.lps_modes.proofs.sequences.items_unknown.Given as goal

-- what is left decides, with what is known so far
abbrev pub invariant-loop-item : goal.invariant-loop-item
invariant-loop-item l = items_unknown (scope_of l.scope) l.wanted l.known.items (drop l.item-index l.items) ≡ items_unknown (scope_of l.scope) l.wanted l.fn.known.items l.items
