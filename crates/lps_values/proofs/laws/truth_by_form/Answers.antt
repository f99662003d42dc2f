use Rattle.std.proofs.lemmas.Bool.Decides.{Decides-not}
use Rattle.lps_terms.specs.Order.{term_eq}
use Rattle.lps_terms.specs.OrderLaws.{term_eq-decides}
use Rattle.lps_values.proofs.laws.truth_by_form.Goals as goal

pub returns-clause-same : goal.returns-clause-same
returns-clause-same c x y = term_eq-decides x y

pub returns-clause-differ : goal.returns-clause-differ
returns-clause-differ c x y = Decides-not (term_eq x y) (term_eq-decides x y)
