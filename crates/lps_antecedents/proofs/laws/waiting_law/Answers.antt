use Rattle.lps_antecedents.proofs.Prefixes.{stands_for_prefixes}
use Rattle.lps_antecedents.proofs.laws.waiting_law.Goals as goal

pub returns : goal.returns
returns c = stands_for_prefixes c.led_law.ensures.prefix c.progress_law.ensures.waiting_nodes
