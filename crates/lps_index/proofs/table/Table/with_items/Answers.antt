use Rattle.std.proofs.Common.{◌∷◌, [], ◌++◌, refl, arith}
use Rattle.lps_index.specs.Spoken.{of_items}
use Rattle.lps_index.specs.Table.{IsCounted, IsTableOf}
use Rattle.lps_index.proofs.Growing.{item_noted, items_noted, nothing_noted, table_more}
use Rattle.lps_index.proofs.Results.{IfOk-map}
use Rattle.lps_index.proofs.table.Table.with_items.Goals as goal

pub loop-item-init : goal.loop-item-init
loop-item-init c = nothing_noted c.args.self c.args.self.count

pub loop-item-preserved : goal.loop-item-preserved
loop-item-preserved c = item_noted c.args.self c.loop-item.table c.in_ok-next.next c.args.self.count c.args.items.now c.loop-item.item-index c.item-item.result c.loop-item-test.true c.item-item.is c.loop-item.invariant c.in_ok-next.ensures

pub returns : goal.returns
returns c = λ spoken is.
    IfOk-map c.counted.result (λ new. IsCounted c.loop-item.table new) (λ new. IsTableOf (spoken ++ of_items c.args.items.now ∷ []) new)
    (λ new counted. table_more spoken (of_items c.args.items.now) c.args.self c.loop-item.table new c.args.self.count is refl
    (items_noted c.args.self c.loop-item.table c.args.self.count c.args.items.now c.loop-item.item-index (omega arith) c.loop-item.invariant) counted) c.counted.ensures
