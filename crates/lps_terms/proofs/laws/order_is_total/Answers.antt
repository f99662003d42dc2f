use Rattle.std.specs.Cmp.{tied_itself}
use Rattle.lps_terms.specs.OrderLaws.{term_cmp_total, term_cmp-IsAntisymmetric, atom_cmp_total, atom_cmp-IsAntisymmetric}
use Rattle.lps_terms.proofs.laws.order_is_total.Goals as goal

pub returns-clause-terms : goal.returns-clause-terms
returns-clause-terms c = term_cmp_total

pub returns-clause-term_ties : goal.returns-clause-term_ties
returns-clause-term_ties c = term_cmp-IsAntisymmetric

pub returns-clause-term_itself : goal.returns-clause-term_itself
returns-clause-term_itself c = tied_itself term_cmp_total

pub returns-clause-atoms : goal.returns-clause-atoms
returns-clause-atoms c = atom_cmp_total

pub returns-clause-atom_ties : goal.returns-clause-atom_ties
returns-clause-atom_ties c = atom_cmp-IsAntisymmetric

pub returns-clause-atom_itself : goal.returns-clause-atom_itself
returns-clause-atom_itself c = tied_itself atom_cmp_total
