use Rattle.lps_examples.proofs.BegunAnew.{begun_anew}
use Rattle.lps_examples.proofs.Deadline.{deadline}
use Rattle.lps_examples.proofs.Depth.{depth}
use Rattle.lps_examples.proofs.Nesting.{nesting}
use Rattle.lps_examples.proofs.NodeExample.{node_example}
use Rattle.lps_examples.proofs.OneAfterOther.{one_after_other}
use Rattle.lps_examples.proofs.OneGoal.{one_goal}
use Rattle.lps_examples.proofs.Fire.{fire}
use Rattle.lps_examples.proofs.OneOrder.{one_order}
use Rattle.lps_examples.proofs.OtherAlternative.{other_alternative}
use Rattle.lps_examples.proofs.ParcelOffice.{parcel_office}
use Rattle.lps_examples.proofs.RejectExample.{reject}
use Rattle.lps_examples.proofs.StateExamples.{initiation_wins, old_state}
use Rattle.lps_examples.proofs.Waiting.{waiting}
use Rattle.lps_examples.proofs.laws.example_law.Goals as goal

pub returns-clause-deadline : goal.returns-clause-deadline
returns-clause-deadline c = deadline

pub returns-clause-one_goal : goal.returns-clause-one_goal
returns-clause-one_goal c = one_goal

pub returns-clause-waiting : goal.returns-clause-waiting
returns-clause-waiting c = waiting

pub returns-clause-begun_anew : goal.returns-clause-begun_anew
returns-clause-begun_anew c = begun_anew

pub returns-clause-depth : goal.returns-clause-depth
returns-clause-depth c = depth

pub returns-clause-node : goal.returns-clause-node
returns-clause-node c = node_example

pub returns-clause-initiation_wins : goal.returns-clause-initiation_wins
returns-clause-initiation_wins c = initiation_wins

pub returns-clause-old_state : goal.returns-clause-old_state
returns-clause-old_state c = old_state

pub returns-clause-reject : goal.returns-clause-reject
returns-clause-reject c = reject

pub returns-clause-fire : goal.returns-clause-fire
returns-clause-fire c = fire

pub returns-clause-other_alternative : goal.returns-clause-other_alternative
returns-clause-other_alternative c = other_alternative

pub returns-clause-one_order : goal.returns-clause-one_order
returns-clause-one_order c = one_order

pub returns-clause-parcel_office : goal.returns-clause-parcel_office
returns-clause-parcel_office c = parcel_office

pub returns-clause-nesting : goal.returns-clause-nesting
returns-clause-nesting c = nesting

pub returns-clause-one_after_other : goal.returns-clause-one_after_other
returns-clause-one_after_other c = one_after_other
