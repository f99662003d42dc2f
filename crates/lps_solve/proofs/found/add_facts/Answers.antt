use Rattle.std.proofs.Common.{subst, arith}
use Rattle.lps_facts.specs.Facts.{members}
use Rattle.lps_solve.specs.Found.{Gains, IsRowOf}
use Rattle.lps_solve.proofs.Gaining.{ByOne, ByOne-more, ByOne-all}
use Rattle.lps_solve.proofs.Facts.{fact_rows}
use Rattle.lps_solve.proofs.found.add_facts.Goals as goal

pub loop-fact-preserved : goal.loop-fact-preserved
loop-fact-preserved c =
    ByOne-more c.loop-fact.fact-index c.as_slice-fact-items.result.now c.fact-item.result IsRowOf c.args.found.now.keys c.loop-fact.found.keys c.add_fact.new.found.keys c.loop-fact-test.true c.fact-item.is
    c.loop-fact.invariant c.in_ok-add_fact.ensures

pub returns : goal.returns
returns c =
    fact_rows (members c.args.facts.now) c.args.goal.now c.in_ok-matching.matching.items c.in_ok-matching.ensures.instances c.args.found.now.keys c.loop-fact.found.keys
    (subst (λ fs. Gains c.args.found.now.keys c.loop-fact.found.keys (ByOne fs IsRowOf)) c.as_slice-fact-items.ensures.value
    (ByOne-all c.loop-fact.fact-index c.as_slice-fact-items.result.now IsRowOf c.args.found.now.keys c.loop-fact.found.keys (omega arith) c.loop-fact.invariant))
