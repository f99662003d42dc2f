use Rattle.std.proofs.Common.{◌++◌, ap}
use Rattle.lps_model.specs.Rules.{rules}
use Rattle.lps_index.specs.Spoken.{of_rule}
use Rattle.lps_index.proofs.Finding.{table_finds}
use Rattle.lps_index.proofs.index.Index.rules_for.Goals as goal

pub returns : goal.returns
returns c =
    table_finds of_rule (rules c.self.inside.text) (rules c.args.self.now) (ap rules c.self.view_is) c.self.inside.tables.rules c.self.invariant.rules c.args.asked.now (c.found.result.keyed.now ++ c.found.result.others.now) c.found.ensures
