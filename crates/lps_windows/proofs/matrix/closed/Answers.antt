use Rattle.std.proofs.lemmas.Option.{MatchOption-at_none, MatchOption-at_some}
use Rattle.lps_windows.proofs.Tightening.{broken_ready, ready_as, ready_more}
use Rattle.lps_windows.proofs.matrix.closed.Goals as goal

pub returns-in-None-2 : goal.returns-in-None-2
returns-in-None-2 c =
    broken_ready c.args.size c.args.bounds.now c.loop-k.k c.as_slice.result.now c.loop-k-test.true
    (ready_as _ _ _ _ _ c.as_slice.ensures.value c.loop-k.invariant) (MatchOption-at_none _ _ c.in-None-2.is c.in_ok-pass.ensures)

pub loop-k-preserved : goal.loop-k-preserved
loop-k-preserved c =
    ready_more c.args.size c.args.bounds.now c.loop-k.k c.as_slice.result.now _ c.requires.between c.loop-k-test.true
    (ready_as _ _ _ _ _ c.as_slice.ensures.value c.loop-k.invariant) (MatchOption-at_some _ _ _ c.in-Some-2.is c.in_ok-pass.ensures)
