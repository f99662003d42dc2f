use Rattle.std.proofs.Common.{Bool, length}
use Rattle.std.specs.Prelude.{◌↔◌}
use Rattle.lps_terms.specs.declared.atom.Atom.{Atom}
use Rattle.lps_causal.proofs.Gaining.{IsThereOrLeft}
use Rattle.lps_causal.proofs.given.Given.add_rows.Given as goal

-- what is there and what the rows that are left give is what there was and what all rows give
abbrev pub invariant-loop-row : goal.invariant-loop-row
invariant-loop-row l = (initiates : Bool) (a : Atom) → IsThereOrLeft l.self l.initiates l.name l.rows.items initiates a ↔ IsThereOrLeft l.fn.self l.initiates l.name l.fn.rows.items initiates a

abbrev pub decreases-loop-row : goal.decreases-loop-row
decreases-loop-row l = length l.rows.items
