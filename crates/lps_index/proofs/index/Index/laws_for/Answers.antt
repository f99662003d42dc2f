use Rattle.std.proofs.Common.{◌++◌, ap}
use Rattle.lps_model.specs.Program.{laws}
use Rattle.lps_index.specs.Spoken.{of_law}
use Rattle.lps_index.proofs.Finding.{table_finds}
use Rattle.lps_index.proofs.index.Index.laws_for.Goals as goal

pub returns : goal.returns
returns c =
    table_finds of_law (laws c.self.inside.text) (laws c.args.self.now) (ap laws c.self.view_is) c.self.inside.tables.laws c.self.invariant.laws c.args.event.now (c.found.result.keyed.now ++ c.found.result.others.now) c.found.ensures
