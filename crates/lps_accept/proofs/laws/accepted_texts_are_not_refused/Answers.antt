use Rattle.lps_accept.proofs.Judged.{accepted_or_refused}
use Rattle.lps_accept.proofs.laws.accepted_texts_are_not_refused.Goals as goal

pub returns : goal.returns
returns c = accepted_or_refused c.levelled_texts_have_no_cycle.ensures
