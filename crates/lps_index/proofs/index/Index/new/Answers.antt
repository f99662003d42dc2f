use Rattle.std.proofs.Common.{subst}
use Rattle.lps_terms.specs.declared.text.Text.{Text}
use Rattle.lps_index.specs.Table.{AreTables}
use Rattle.lps_index.proofs.index.Index.new.Goals as goal

pub invariant_of-result : goal.invariant_of-result
invariant_of-result c = subst (λ (text : Text). AreTables text.statements c.in_ok-tables.tables) c.text-2.ensures.same c.in_ok-tables.ensures
