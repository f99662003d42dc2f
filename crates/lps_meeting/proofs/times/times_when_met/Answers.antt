use Rattle.std.proofs.Common.{sym, subst, ◌∙◌}
use Rattle.lps_meeting.specs.Steps.{IsAtTime, IsSetTo}
use Rattle.lps_meeting.proofs.SettingTimes.{are_times, no_times, not_both}
use Rattle.lps_meeting.proofs.times.times_when_met.Goals as goal
use Rattle.lps_meeting.proofs.times.times_when_met.Goals.{else-is_due-via-then-is_due+else-set_times, else-is_due-via-else-is_due}

pub returns-then-set_times : goal.returns-then-set_times
returns-then-set_times c = (
  c.is_due.ensures.0 c.if-is_due.true,
  are_times c.args.unknowns c.args.time c.args.item.now c.in_ok-whens.whens.items c.set_times.new.whens.items c.in_ok-whens.ensures
      (subst (λ b. IsSetTo b c.in_ok-whens.whens.items c.set_times.new.whens.items (λ w. IsAtTime w c.args.time c.args.item.now)) c.if-set_times.true c.set_times.ensures.set) c.set_times.ensures.early,
)

pub returns-else-is_due : goal.returns-else-is_due
returns-else-is_due c = λ w due at. elim c.else-is_due.branch [
  | else-is_due-via-then-is_due+else-set_times h ↦
      no_times c.args.unknowns c.args.time c.args.item.now c.in_ok-whens.whens.items h.set_times.new.whens.items c.in_ok-whens.ensures
      (subst (λ b. IsSetTo b c.in_ok-whens.whens.items h.set_times.new.whens.items (λ w. IsAtTime w c.args.time c.args.item.now)) h.if-set_times.false h.set_times.ensures.set) w at
  | else-is_due-via-else-is_due h ↦ not_both (sym (c.is_due.ensures.1 due) ∙ h.if-is_due.false)
]
