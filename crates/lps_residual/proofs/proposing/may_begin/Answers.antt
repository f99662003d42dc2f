use Rattle.std.proofs.Common.{rules, subst}
use Rattle.std.proofs.lemmas.Option.{MatchOption-at_none, MatchOption-at_some}
use Rattle.lps_residual.specs.Moments.{IsTimed}
use Rattle.lps_residual.proofs.Beginning.{action_in_range, begins_within, has_action, never_begins}
use Rattle.lps_residual.proofs.Timing.{timed_as_counted}
use Rattle.lps_residual.proofs.proposing.may_begin.Goals as goal

pub window-requires-clause-timed : goal.window-requires-clause-timed
window-requires-clause-timed c =
    subst (λ n. IsTimed n c.args.node.now) (search rules) (timed_as_counted c.requires.node.unknowns c.args.node.now c.requires.node.canonical c.requires.node.timed)

pub window-requires-clause-time : goal.window-requires-clause-time
window-requires-clause-time c =
    action_in_range c.args.text.now c.args.node.now c.args.from _ c.requires.from (window-requires-clause-timed c)

pub returns-in-None : goal.returns-in-None
returns-in-None c =
    never_begins c.window_law.ensures.decide c.window_law.ensures.none c.args.text.now c.args.node.now c.args.time c.args.from (has_action c.args.text.now c.args.node.now c.args.from c.requires.from)
    (MatchOption-at_none _ _ c.in-None.is c.in_ok-window.ensures)

pub returns : goal.returns
returns c =
    begins_within c.window_law.ensures.decide c.window_law.ensures.none c.args.text.now c.args.node.now c.args.time c.args.from (has_action c.args.text.now c.args.node.now c.args.from c.requires.from)
    c.in-Some.window (MatchOption-at_some _ _ _ c.in-Some.is c.in_ok-window.ensures) c.contains.result c.contains.ensures
