use Rattle.std.proofs.Common.{◌≡◌, ◌+◌, ◌*◌, length, take}
use Rattle.lps_model.specs.Program.{declarations}
use Rattle.lps_model.specs.Clauses.{clauses}
use Rattle.lps_derivation.specs.Instances.{put_cond}
use Rattle.lps_facts.specs.Facts.{members}
use Rattle.lps_solve.specs.Found.{ByClause, GainsBy, ReachesBy}
use Rattle.lps_solve.specs.Heights.{height_of, most_conditions, stride, weight_of, weights_of}
use Rattle.lps_solve.specs.Placed.{values_in}
use Rattle.lps_solve.specs.Table.{clause_at}
use Rattle.lps_solve.proofs.Gaining.{ByOne}
use Rattle.lps_solve.proofs.search.+search.Given as goal

abbrev pub decreases-solve : goal.decreases-solve
decreases-solve l = height_of (declarations l.search.now.program.now) l.search.now.levels.now l.goal.now * stride l.search.now.program.now + (8 * most_conditions (clauses l.search.now.program.now) + 11)

abbrev pub decreases-by_clauses : goal.decreases-by_clauses
decreases-by_clauses l = height_of (declarations l.search.now.program.now) l.search.now.levels.now l.goal.now * stride l.search.now.program.now + (8 * most_conditions (clauses l.search.now.program.now) + 10)

abbrev pub decreases-by_clause : goal.decreases-by_clause
decreases-by_clause l = height_of (declarations l.search.now.program.now) l.search.now.levels.now l.goal.now * stride l.search.now.program.now + (8 * most_conditions (clauses l.search.now.program.now) + 9)

abbrev pub decreases-enter : goal.decreases-enter
decreases-enter l = height_of (declarations l.search.now.program.now) l.search.now.levels.now l.goal.now * stride l.search.now.program.now + (8 * most_conditions (clauses l.search.now.program.now) + 8)

abbrev pub decreases-run : goal.decreases-run
decreases-run l = weights_of (declarations l.search.now.program.now) l.search.now.levels.now (values_in l.bindings.now l.query.now.base) l.conds.now * stride l.search.now.program.now + (8 * length l.conds.now + 1)

abbrev pub decreases-meet : goal.decreases-meet
decreases-meet l = weight_of (declarations l.search.now.program.now) l.search.now.levels.now (put_cond (values_in l.bindings.now l.base) l.cond.now) * stride l.search.now.program.now + 3

abbrev pub decreases-meet_literal : goal.decreases-meet_literal
decreases-meet_literal l = (1 + height_of (declarations l.search.now.program.now) l.search.now.levels.now l.lit.atom) * stride l.search.now.program.now + 2

abbrev pub decreases-step : goal.decreases-step
decreases-step l = weights_of (declarations l.search.now.program.now) l.search.now.levels.now (values_in l.bindings.now l.query.now.base) l.conds.now * stride l.search.now.program.now + (8 * length l.conds.now + 3)

abbrev pub decreases-bound : goal.decreases-bound
decreases-bound l = weights_of (declarations l.search.now.program.now) l.search.now.levels.now (values_in l.bindings.now l.query.now.base) l.conds.now * stride l.search.now.program.now + (8 * length l.conds.now + 2)

abbrev pub invariant-by_clauses-loop-place : goal.invariant-by_clauses-loop-place
invariant-by_clauses-loop-place l = record {
  same : l.bindings ≡ l.fn.bindings;
  gains : GainsBy (clauses l.search.program.now) l.initial.found.keys l.found.keys
      (λ level. ByOne (take l.place-index l.places) (λ i. ByClause (clauses l.search.program.now) (members l.search.facts.now) level 18446744073709551615 l.fn.bindings (clause_at (clauses l.search.program.now) i) l.goal));
}

abbrev pub invariant-run-loop-row : goal.invariant-run-loop-row
invariant-run-loop-row l = record {
  same : l.bindings ≡ l.fn.bindings;
  gains : GainsBy (clauses l.search.program.now) l.initial.found.keys l.found.keys
      (λ level. ByOne (take l.row-index l.row-items) (ReachesBy (clauses l.search.program.now) (members l.search.facts.now) level 18446744073709551615 l.query.room l.fn.bindings l.query.base l.rest l.query.wanted.now l.terms));
}
