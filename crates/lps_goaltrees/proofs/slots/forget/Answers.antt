use Rattle.std.proofs.Common.{sym, subst, inl, inr}
use Rattle.std.specs.Prelude.{Contains}
use Rattle.lps_goaltrees.specs.declared.table.Table.{Table}
use Rattle.lps_goaltrees.specs.Slots.{IsWoken}
use Rattle.lps_goaltrees.proofs.slots.forget.Goals as goal
use Rattle.lps_goaltrees.proofs.slots.forget.Goals.{then-not-has+then-not-has-2, else-not-has}

pub loop-wake-preserved : goal.loop-wake-preserved
loop-wake-preserved c = λ w n was stays.
    let now = c.loop-wake.invariant w n was stays in
    elim c.if-not-has.branch [
      | then-not-has+then-not-has-2 b ↦ subst (λ (t : Table). IsWoken t w n) (sym b.table-is) (b.remove.ensures w n now (λ same is. elim (stays is) [
        | inl among ↦ let found = c.has.ensures.1 (subst (Contains c.args.before.now) same among) in let missed = b.if-not-has.true in cc
        | inr among ↦ let found = b.has-then-not-has.ensures.1 (subst (Contains c.args.now.now) same among) in let missed = b.if-not-has-2.true in cc
      ]))
      | else-not-has b ↦ subst (λ (t : Table). IsWoken t w n) (sym b.table-is) now
    ]
