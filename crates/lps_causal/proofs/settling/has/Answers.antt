use Rattle.std.proofs.Common.{◌∙◌}
use Rattle.lps_causal.proofs.Sorting.{searched}
use Rattle.lps_causal.proofs.settling.has.Goals as goal

pub returns : goal.returns
returns c = c.is_ok.ensures.value ∙ searched c.args.these.now c.args.fluent.now c.requires c.binary_search.result c.binary_search.ensures.bound c.binary_search.ensures.position
