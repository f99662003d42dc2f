use Rattle.std.proofs.Common.{◌≡◌, ◌≤◌}
use Rattle.lps_terms.specs.Put.{put}
use Rattle.lps_terms.specs.Symbols.{symbols_of}
use Rattle.lps_unify.specs.Bindings.{count_of}
use Rattle.lps_solve.specs.Placed.{values_in}
use Rattle.lps_solve.proofs.Placing.{item_below, none_is, some_is, large_item, map_more}
use Rattle.lps_solve.proofs.place.place_args.Goals as goal

pub place_term-requires : goal.place_term-requires
place_term-requires c = item_below (count_of c.args.bindings.now) c.args.base c.args.terms.now c.loop-term.term-index c.term-item.result c.loop-term-test.true c.term-item.is c.requires

pub returns-in-None : goal.returns-in-None
returns-in-None c =
    large_item (values_in c.args.bindings.now c.args.base) c.args.terms.now c.loop-term.term-index c.term-item.result c.loop-term-test.true c.term-item.is
    (none_is c.in_ok-copy.field-0 _ _ c.in-None.is c.in_ok-copy.ensures)

pub loop-term-preserved : goal.loop-term-preserved
loop-term-preserved c =
    let copy = some_is c.in_ok-copy.field-0 _ (λ x. (x ≡ put (values_in c.args.bindings.now c.args.base) c.term-item.result) × (symbols_of x ≤ 1024)) c.in-Some.copy c.in-Some.is c.in_ok-copy.ensures in
    map_more (put (values_in c.args.bindings.now c.args.base)) c.args.terms.now c.loop-term.term-index c.term-item.result c.in-Some.copy c.loop-term.copies c.push.new.self c.loop-term-test.true c.term-item.is
    c.loop-term.invariant copy.0 c.in_ok-push-in-Some.ensures.ok
