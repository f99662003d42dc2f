use Rattle.std.proofs.Common.{◌++◌, ap}
use Rattle.lps_model.specs.Rules.{macro_clauses}
use Rattle.lps_index.specs.Spoken.{of_macro_clause}
use Rattle.lps_index.proofs.Finding.{table_finds}
use Rattle.lps_index.proofs.index.Index.macro_clauses_for.Goals as goal

pub returns : goal.returns
returns c =
    table_finds of_macro_clause (macro_clauses c.self.inside.text) (macro_clauses c.args.self.now) (ap macro_clauses c.self.view_is) c.self.inside.tables.macro_clauses c.self.invariant.macro_clauses c.args.call.now (c.found.result.keyed.now ++ c.found.result.others.now) c.found.ensures
