use Rattle.std.proofs.Common.{rules}
use Rattle.std.proofs.lemmas.Iterator.{YieldsList-from_map, YieldsList-from_slice, items_from_collect}
use Rattle.lps_cycle.specs.declared.candidates.Candidate.{Candidate}
use Rattle.lps_cycle.proofs.candidates.goals_of.Goals as goal

pub returns : goal.returns
returns c = items_from_collect _ c.collect.ensures.ran (YieldsList-from_map _ (λ (candidate : Candidate). candidate.goal) (YieldsList-from_slice c.args.candidates.now (cc)) c.map.ensures.closure (λ x r q k. search rules))
