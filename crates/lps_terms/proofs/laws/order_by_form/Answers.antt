use Rattle.lps_terms.specs.OrderLaws.{term_cmp-ranks, term_cmp-Var, term_cmp-Int, term_cmp-Sym, term_cmp-Sym-App, term_cmp-App}
use Rattle.lps_terms.proofs.laws.order_by_form.Goals as goal

pub returns-clause-ranks : goal.returns-clause-ranks
returns-clause-ranks c = term_cmp-ranks

pub returns-clause-variables : goal.returns-clause-variables
returns-clause-variables c = term_cmp-Var

pub returns-clause-integers : goal.returns-clause-integers
returns-clause-integers c = term_cmp-Int

pub returns-clause-constants : goal.returns-clause-constants
returns-clause-constants c = term_cmp-Sym

pub returns-clause-constant_first : goal.returns-clause-constant_first
returns-clause-constant_first c = term_cmp-Sym-App

pub returns-clause-functions : goal.returns-clause-functions
returns-clause-functions c = term_cmp-App
