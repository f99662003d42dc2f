use Rattle.std.proofs.Common.{◌≡◌, ◌∙◌, ◌++◌, ◌+◌, sym, ap, take, length, append_assoc, suc, ℕ, arith, List, Option, None, ◌∷◌, []}
use Rattle.std.proofs.Math.Seq.{take-append_seam}
use Rattle.lps_unify.specs.Slots.{free_slots}
use Rattle.lps_unify.proofs.Keeping.{free_push, append_none}
use Rattle.lps_unify.proofs.slots.push_free.Goals as goal

pub loop-i-init : goal.loop-i-init
loop-i-init c = sym (append_none c.args.slots.now.items)

pub returns-in_err-push-clause-kept : goal.returns-in_err-push-clause-kept
returns-in_err-push-clause-kept c =
    let same = c.in_err-push.ensures.items ∙ c.loop-i.invariant in
    ap (take (length c.args.slots.now.items)) same ∙ take-append_seam c.args.slots.now.items (free_slots c.loop-i._i)

pub loop-i-preserved : goal.loop-i-preserved
loop-i-preserved c =
    let old = c.args.slots.now.items in
    let next : c.loop-i._i + 1 ≡ suc c.loop-i._i = omega arith in
    c.in_ok-push.ensures.items ∙ ap (λ (xs : List (Option ℕ)). xs ++ None ∷ []) c.loop-i.invariant
    ∙ append_assoc old (free_slots c.loop-i._i) (None ∷ []) ∙ ap (λ (xs : List (Option ℕ)). old ++ xs) (free_push c.loop-i._i ∙ ap free_slots (sym next))

pub returns-clause-all : goal.returns-clause-all
returns-clause-all c =
    let all : c.loop-i._i ≡ c.args.more = omega arith in
    c.loop-i.invariant ∙ ap (λ (n : ℕ). c.args.slots.now.items ++ free_slots n) all

pub returns-clause-kept : goal.returns-clause-kept
returns-clause-kept c =
    ap (take (length c.args.slots.now.items)) c.loop-i.invariant ∙ take-append_seam c.args.slots.now.items (free_slots c.loop-i._i)
