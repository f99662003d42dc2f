use Rattle.lps_meaning.proofs.Framing.{accepted_texts_are_framed}
use Rattle.lps_meaning.proofs.ReportLaws.{one_status}
use Rattle.lps_statuses.proofs.Continuations.{status_stays, failed_is_forever, cut_is_forever}
use Rattle.lps_statuses.proofs.laws.status_law.Goals as goal

pub returns-clause-unique : goal.returns-clause-unique
returns-clause-unique x = one_status

pub returns-clause-stays : goal.returns-clause-stays
returns-clause-stays x = λ text level depth accepted. status_stays text level depth (accepted_texts_are_framed text accepted)

pub returns-clause-failed : goal.returns-clause-failed
returns-clause-failed x = λ text level depth accepted. failed_is_forever text level depth (accepted_texts_are_framed text accepted)

pub returns-clause-cut : goal.returns-clause-cut
returns-clause-cut x = λ text level depth accepted. cut_is_forever text level depth (accepted_texts_are_framed text accepted)
