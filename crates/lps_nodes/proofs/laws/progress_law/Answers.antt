use Rattle.lps_nodes.proofs.ComingFromNodes.{cuts_come, ends_come, held_goes, nodes_come}
use Rattle.lps_nodes.proofs.Entrances.{goal_nodes, keys_end, waiting_nodes}
use Rattle.lps_nodes.proofs.TestedLimits.{alone_tested}
use Rattle.lps_nodes.proofs.Uniqueness.{keys_unique, proposals_unique}
use Rattle.lps_nodes.proofs.WaitingNodes.{node_can, node_waits}
use Rattle.lps_nodes.proofs.laws.progress_law.Goals as goal

pub returns-clause-tested : goal.returns-clause-tested
returns-clause-tested c = λ text level trace depth now end x steps k same. let r = alone_tested text level trace depth now steps k same in (r.0, r.1, r.2)

pub returns-clause-nodes_come : goal.returns-clause-nodes_come
returns-clause-nodes_come c = nodes_come

pub returns-clause-ends_come : goal.returns-clause-ends_come
returns-clause-ends_come c = ends_come

pub returns-clause-cuts_come : goal.returns-clause-cuts_come
returns-clause-cuts_come c = cuts_come

pub returns-clause-held : goal.returns-clause-held
returns-clause-held c = held_goes

pub returns-clause-can : goal.returns-clause-can
returns-clause-can c = node_can

pub returns-clause-wait : goal.returns-clause-wait
returns-clause-wait c = λ text level trace depth e now later after le node n can. node_waits text level trace depth e now later after le node n can

pub returns-clause-goal_nodes : goal.returns-clause-goal_nodes
returns-clause-goal_nodes c = goal_nodes

pub returns-clause-waiting_nodes : goal.returns-clause-waiting_nodes
returns-clause-waiting_nodes c = waiting_nodes

pub returns-clause-key_ends : goal.returns-clause-key_ends
returns-clause-key_ends c = keys_end

pub returns-clause-keys : goal.returns-clause-keys
returns-clause-keys c = keys_unique

pub returns-clause-proposals : goal.returns-clause-proposals
returns-clause-proposals c = proposals_unique
