use Rattle.std.proofs.Common.{◌++◌, ap}
use Rattle.lps_model.specs.Clauses.{clauses}
use Rattle.lps_index.specs.Spoken.{of_clause}
use Rattle.lps_index.proofs.Finding.{table_finds}
use Rattle.lps_index.proofs.index.Index.clauses_for.Goals as goal

pub returns : goal.returns
returns c =
    table_finds of_clause (clauses c.self.inside.text) (clauses c.args.self.now) (ap clauses c.self.view_is) c.self.inside.tables.clauses c.self.invariant.clauses c.args.asked.now (c.found.result.keyed.now ++ c.found.result.others.now) c.found.ensures
