use Rattle.std.proofs.Common.{List, sym, subst, refl, inl, inr, ◌∙◌}
use Rattle.std.specs.Prelude.{Contains}
use Rattle.lps_residual.specs.declared.waking.Wake.{Wake}
use Rattle.lps_goaltrees.specs.Slots.{IsWoken}
use Rattle.lps_goaltrees.proofs.Lists.{all_taken, taken_next}
use Rattle.lps_goaltrees.proofs.table.find_by.Goals as goal

pub returns-in_err-insert-clause-others : goal.returns-in_err-insert-clause-others
returns-in_err-insert-clause-others c = λ w n was. c.insert.ensures.others w n (c.loop-wake.invariant.others w n was)

pub loop-wake-preserved : goal.loop-wake-preserved
loop-wake-preserved c =
    let more = c.in_ok-insert.ensures in
    record {
      found = λ w among. elim (taken_next c.as_slice-wake-items.result.now c.loop-wake.wake-index c.wake-item.result c.loop-wake-test.true c.wake-item.is w among) [
        | inl before ↦ more.others w c.args.goal.now.goal.0 (c.loop-wake.invariant.found w before)
        | inr e ↦ subst (λ (x : Wake). IsWoken c.insert.new.self x c.args.goal.now.goal.0) (sym e) more.added
      ];
      others = λ w n was. more.others w n (c.loop-wake.invariant.others w n was);
    }

pub returns-clause-found : goal.returns-clause-found
returns-clause-found c =
    let whole = all_taken c.as_slice-wake-items.result.now c.loop-wake.wake-index c.loop-wake-test.false ∙ c.as_slice-wake-items.ensures in
    record { numbered = refl; woken = λ w among. c.loop-wake.invariant.found w (subst (λ (ws : List Wake). Contains ws w) (sym whole) among) }
