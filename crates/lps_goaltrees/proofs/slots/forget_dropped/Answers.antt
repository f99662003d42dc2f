use Rattle.std.proofs.Common.{◌∙◌, List, sym, ap, subst, inl, inr}
use Rattle.std.specs.Prelude.{Contains}
use Rattle.lps_residual.specs.declared.waking.Wake.{Wake}
use Rattle.lps_goaltrees.specs.Slots.{wakes_of}
use Rattle.lps_goaltrees.proofs.slots.forget_dropped.Goals as goal

pub returns : goal.returns
returns c = λ w n was stays. c.forget.ensures w n was (λ is. elim (stays is) [
  | inl among ↦ inl (subst (λ (ws : List Wake). Contains ws w) (sym (c.wakes_of-before.ensures ∙ ap wakes_of c.get.ensures)) among)
  | inr among ↦ inr (subst (λ (ws : List Wake). Contains ws w) (sym (c.wakes_of-now.ensures ∙ ap wakes_of c.get-2.ensures)) among)
])
