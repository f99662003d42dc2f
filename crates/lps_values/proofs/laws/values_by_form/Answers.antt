use Rattle.lps_values.specs.Values.{value_of-Leaf, value_of-Apply}
use Rattle.lps_values.proofs.Fits.{values_fit}
use Rattle.lps_values.proofs.Rest.{left_over-fits}
use Rattle.lps_values.proofs.laws.values_by_form.Goals as goal

pub returns-clause-leaf : goal.returns-clause-leaf
returns-clause-leaf c = value_of-Leaf

pub returns-clause-apply : goal.returns-clause-apply
returns-clause-apply c = value_of-Apply

pub returns-clause-left_over : goal.returns-clause-left_over
returns-clause-left_over c = left_over-fits

pub returns-clause-fits : goal.returns-clause-fits
returns-clause-fits c = values_fit
