use Rattle.std.proofs.Common.{map}
use Rattle.lps_facts.specs.Facts.{members}
use Rattle.lps_model.specs.Clauses.{clauses}
use Rattle.lps_precond.proofs.Stages.{empty_is, some_reached}
use Rattle.lps_precond.proofs.stage.Stage.is_met.Goals as goal

pub returns : goal.returns
returns c = λ level levels.
    some_reached (clauses c.args.program.now) (members c.args.facts.now) level c.args.self.now c.args.row.now (map (λ v. v.0) c.in_ok-found.found.items) (c.in_ok-found.ensures.exact level levels)
    c.is_empty.result (empty_is c.in_ok-found.found.items _ c.is_empty.result c.is_empty.ensures c.in_ok-found.found.ok.0)
