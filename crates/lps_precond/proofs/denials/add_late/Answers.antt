use Rattle.std.proofs.Common.{◌≡◌, [], inl, inr}
use Rattle.lps_precond.proofs.Late.{one_late_more}
use Rattle.lps_precond.proofs.denials.add_late.Goals as goal

pub returns : goal.returns
returns c =
    one_late_more c.args.late.now.items c.push.new.self.items c.args.place (c.args.denial.now.back ≡ [] → ⊥) c.in_ok-push.ensures.items (c.is_late.ensures.late c.if-not-is_late.false)

pub returns-then-not-is_late : goal.returns-then-not-is_late
returns-then-not-is_late c = λ j. (λ h. inl h, λ h. elim h [ inl before ↦ before | inr this ↦ absurd (this.1 (c.is_late.ensures.none c.if-not-is_late.true)) ])
