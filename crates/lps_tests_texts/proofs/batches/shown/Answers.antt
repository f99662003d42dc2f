use Rattle.std.proofs.Common.{arith}
use Rattle.lps_tests_texts.proofs.Fed.{begun_size, fed_size}
use Rattle.lps_tests_texts.proofs.batches.shown.Goals as goal

pub loop-at-init : goal.loop-at-init
loop-at-init c = record {
  room = omega (arith, begun_size c.new-reader.result c.new-reader.ensures);
  within = omega arith;
}

pub show_whole-requires : goal.show_whole-requires
show_whole-requires c =
    let fed = fed_size c.loop-at.reader c.feed.new.self c.piece_at-piece.result.now c.in_ok-feed.ensures.ok in
    omega (arith, fed, c.loop-at.invariant.room, c.piece_at-piece.ensures.within)

pub loop-at-preserved : goal.loop-at-preserved
loop-at-preserved c =
    let fed = fed_size c.loop-at.reader c.feed.new.self c.piece_at-piece.result.now c.in_ok-feed.ensures.ok in
    record {
      room = omega (arith, fed, c.loop-at.invariant.room, c.in_ok-is_bad.ensures);
      within = omega (arith, c.piece_at-piece.ensures.within);
    }
