use Rattle.std.proofs.Common.{◌≡◌, ℕ, List, [], drop}
use Rattle.lps_model.specs.KindRefusals.{first_again}
use Rattle.lps_kinds.specs.Names.{IsSetOf}
use Rattle.lps_kinds.proofs.twice.first_again.Given as goal

-- the names so far are noted, and none was declared before
abbrev pub invariant-loop-declaration : goal.invariant-loop-declaration
invariant-loop-declaration l = (names : List (List ℕ)) × IsSetOf names l.before × (first_again names (drop l.declaration-index l.declared) ≡ first_again [] l.declared)
