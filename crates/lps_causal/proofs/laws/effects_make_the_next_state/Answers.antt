use Rattle.lps_facts.specs.Facts.{members}
use Rattle.lps_causal.proofs.States.{next_state, state_stays}
use Rattle.lps_causal.proofs.laws.effects_make_the_next_state.Goals as goal

pub returns-clause-next : goal.returns-clause-next
returns-clause-next c = next_state

pub returns-clause-before : goal.returns-clause-before
returns-clause-before c = λ text level trace cycle facts. state_stays text level trace cycle (members facts)
