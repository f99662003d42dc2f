use Rattle.std.proofs.Common.{◌≡◌, sym, subst, length, Some, ℕ, List, arith}
use Rattle.std.proofs.Math.ListN.{set}
use Rattle.lps_unify.specs.declared.added.Added.{Added}
use Rattle.lps_unify.specs.Bindings.{TrailedBindings, IsBindable, standing}
use Rattle.lps_unify.specs.Slots.{IsKept}
use Rattle.lps_unify.proofs.Keeping.{kept_bind, trailed}
use Rattle.lps_unify.proofs.bindings.Bindings.bind.Goals as goal

pub invariant_of-self-2 : goal.invariant_of-self-2
invariant_of-self-2 c =
    let first = c.self.inside.first in
    let added = c.self.inside.added.items in
    let slots = c.self.inside.slots.items in
    let here = subst (λ (b : TrailedBindings). IsBindable (standing b) c.args.variable c.args.term) (sym c.self.view_is) c.requires in
    let kept = kept_bind first added slots c.self.invariant c.args.variable c.args.term here in
    let place : c.len-entry.result ≡ length added = omega (arith, c.len-entry.ensures, c.self.inside.added.ok) in
    subst (λ (k : ℕ). IsKept (set slots c.args.variable (Some k)) (trailed first c.push.new.self.items)) (sym place)
    (subst (λ (a : List Added). IsKept (set slots c.args.variable (Some (length added))) (trailed first a)) (sym c.in_ok-push.ensures.items) kept)
