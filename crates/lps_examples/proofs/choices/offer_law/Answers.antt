use Rattle.lps_examples.proofs.FirstOffer.{offer_order, offers}
use Rattle.lps_examples.proofs.choices.offer_law.Goals as goal

pub returns-clause-order : goal.returns-clause-order
returns-clause-order c = offer_order

pub returns-clause-first : goal.returns-clause-first
returns-clause-first c = offers
