use Rattle.std.proofs.Common.{◌≡◌, ◌+◌, ◌*◌, length}
use Rattle.lps_seq.specs.Leads.{StaysReady}
use Rattle.lps_seq.proofs.Rows.{AddsByRows}
use Rattle.lps_seq.proofs.steps.+steps.Given as goal

abbrev pub decreases-go_on : goal.decreases-go_on
decreases-go_on l = 5 * length l.stage.node.rest + 4

abbrev pub decreases-meet : goal.decreases-meet
decreases-meet l = 5 * length l.stage.now.node.rest + 3

abbrev pub decreases-meet_each : goal.decreases-meet_each
decreases-meet_each l = 5 * length l.stage.now.node.rest + 2

abbrev pub decreases-meet_by : goal.decreases-meet_by
decreases-meet_by l = 5 * length l.stage.now.node.rest + 1

abbrev pub decreases-go_on_with : goal.decreases-go_on_with
decreases-go_on_with l = 5 * length l.stage.now.node.rest

-- all that the rows so far lead to is added, and the bindings are as before
abbrev pub invariant-meet_each-loop-row : goal.invariant-meet_each-loop-row
invariant-meet_each-loop-row l = record {
  added : AddsByRows l.moment l.stage l.item l.times l.ways.terms l.row-items l.row-index l.fn.found l.found;
  ready : StaysReady l.moment l.fn.found l.found;
  same : l.bindings ≡ l.fn.bindings;
}
