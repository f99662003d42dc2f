use Rattle.lps_meaning.proofs.Numbers.{goals_unique, number_stays}
use Rattle.lps_meaning.proofs.laws.goal_law.Goals as goal

pub returns-clause-unique : goal.returns-clause-unique
returns-clause-unique c = goals_unique

pub returns-clause-stay : goal.returns-clause-stay
returns-clause-stay c = number_stays
