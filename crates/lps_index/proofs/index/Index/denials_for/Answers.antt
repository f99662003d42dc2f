use Rattle.std.proofs.Common.{◌++◌, ap}
use Rattle.lps_model.specs.Rules.{denials}
use Rattle.lps_index.specs.Spoken.{of_items}
use Rattle.lps_index.proofs.Finding.{table_finds}
use Rattle.lps_index.proofs.index.Index.denials_for.Goals as goal

pub returns : goal.returns
returns c =
    table_finds of_items (denials c.self.inside.text) (denials c.args.self.now) (ap denials c.self.view_is) c.self.inside.tables.denials c.self.invariant.denials c.args.asked.now (c.found.result.keyed.now ++ c.found.result.others.now) c.found.ensures
