use Rattle.std.proofs.Common.{subst, inl, inr}
use Rattle.std.specs.Prelude.{Contains}
use Rattle.lps_model.proofs.Elements.{nothing_contained}
use Rattle.lps_goaltrees.proofs.Listed.{all_next}
use Rattle.lps_goaltrees.proofs.table.add_all.Goals as goal

pub loop-number-preserved : goal.loop-number-preserved
loop-number-preserved c = λ n.
    let next = all_next c.in-Some.number.now c.loop-number.found c.insert.new.self c.loop-number.number-iterator c.next.new.self c.in-Some.ensures.steps c.in_ok-insert.ensures.updates.0 n in
    let all = c.loop-number.invariant n in
    (λ h. all.0 (next.1 h), λ h. next.0 (all.1 h))

pub returns : goal.returns
returns c = λ n.
    let all = c.loop-number.invariant n in (
      λ h. all.0 (inl h),
      λ h. elim (all.1 h) [
        | inl now ↦ now
        | inr none ↦ absurd (nothing_contained n (subst (λ ks. Contains ks n) c.in-None.ensures.steps.0 none))
      ],
    )
