use Rattle.std.proofs.Common.{rules, ◌∙◌, length, ◌-◌, refl}
use Rattle.lps_build.proofs.Steps.{statement_step}
use Rattle.lps_build.proofs.text.bodies.Goals as goal

pub loop-room-preserved : goal.loop-room-preserved
loop-room-preserved c =
    statement_step (length c.args.toks.now) c.loop-room.room (c.loop-room.room - 1) c.saturating_sub.result c.loop-room.before.items c.push.new.self.items c.in-Some.body c.loop-room.left.now c.in-Some.rest.now
    (search rules) (search rules) refl (search rules) (search rules) (search rules)
    ∙ c.loop-room.invariant
