use Rattle.std.proofs.Common.{◌∙◌, ◌≤◌, ◌+◌, [], sym, subst}
use Rattle.lps_sizes.specs.Sizes.{cycle_size, limited}
use Rattle.lps_limits.specs.Sizes.{state_size}
use Rattle.lps_limits.specs.Limits.{IsExcess}
use Rattle.lps_cycle.specs.Making.{sizes_with}
use Rattle.lps_cycle.proofs.Sizing.{settled_within}
use Rattle.lps_cycle.proofs.engine.settle.Goals as goal

pub returns-clause-state : goal.returns-clause-state
returns-clause-state c = subst (λ facts. limited (state_size facts) ≤ c.in_ok-counts.counts.state) (sym c.in_ok-picks.ensures.facts) c.in_ok-counts.ensures.state.most

pub returns-clause-within : goal.returns-clause-within
returns-clause-within c agenda kept =
    let old = c.args.round.now in
    let log = c.args.tally.now.log in
    let counts = c.in_ok-counts.counts in
    let events = c.args.events.now in
    let are = c.in_ok-counts.ensures.counts agenda kept in
    let none = subst (IsExcess c.args.keep (sizes_with old.next agenda log events old.picks)) c.in_default.is (c.first_exceeded.ensures (sizes_with old.next agenda log events old.picks) are) in
    let both = settled_within c.args.keep counts old.next c.settle.new.self.facts agenda log events old.picks c.in_ok-picks.ensures.facts are none in
    let picks = sym c.in_ok-picks.ensures.picks in
    (both.0, both.1 ∙ (λ i. log + cycle_size (record { events = events; verdicts = []; picks = picks i })))
