use Rattle.std.proofs.Common.{◌∷◌, [], ◌++◌, refl}
use Rattle.lps_index.specs.Table.{IsCounted, IsTableOf}
use Rattle.lps_index.proofs.Growing.{table_more}
use Rattle.lps_index.proofs.Results.{IfOk-map}
use Rattle.lps_index.proofs.table.Table.with_atom.Goals as goal

pub returns : goal.returns
returns c = λ spoken is.
    IfOk-map c.counted.result (λ new. IsCounted c.in_ok-table.table new) (λ new. IsTableOf (spoken ++ (c.args.atom.now ∷ []) ∷ []) new)
    (λ new counted. table_more spoken (c.args.atom.now ∷ []) c.args.self c.in_ok-table.table new c.args.self.count is refl c.in_ok-table.ensures counted) c.counted.ensures
