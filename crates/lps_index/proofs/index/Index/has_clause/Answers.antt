use Rattle.std.proofs.Common.{[], ap}
use Rattle.lps_model.specs.Clauses.{clauses}
use Rattle.lps_index.specs.Spoken.{of_clause}
use Rattle.lps_index.proofs.Finding.{has_one, table_finds}
use Rattle.lps_index.proofs.index.Index.has_clause.Goals as goal

pub returns : goal.returns
returns c =
    has_one (clauses c.args.self.now) c.args.name.now c.named.result.now
    (table_finds of_clause (clauses c.self.inside.text) (clauses c.args.self.now) (ap clauses c.self.view_is) c.self.inside.tables.clauses c.self.invariant.clauses (record { name = c.args.name.now; args = [] }) c.named.result.now c.named.ensures)
