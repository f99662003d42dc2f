use Rattle.std.proofs.Common.{rules, ◌≡◌, ◌++◌, ◌∷◌, [], sym, subst, ℕ, List, Option}
use Rattle.lps_unify.specs.declared.added.Added.{Added}
use Rattle.lps_unify.specs.declared.added.Added.TheVariants.{More}
use Rattle.lps_unify.specs.Slots.{IsKept, free_slots}
use Rattle.lps_unify.proofs.Keeping.{kept_more, trailed}
use Rattle.lps_unify.proofs.bindings.Bindings.extend.Goals as goal

pub invariant_of-self-else-is_err : goal.invariant_of-self-else-is_err
invariant_of-self-else-is_err c =
    let first = c.self.inside.first in
    let added = c.self.inside.added.items in
    let slots = c.self.inside.slots.items in
    let pushed : c.push-done.new.self.items ≡ added ++ More c.args.more ∷ [] = search rules in
    subst (λ (xs : List (Option ℕ)). IsKept xs (trailed first c.push-done.new.self.items)) (sym c.in_ok-add_free.ensures)
    (subst (λ (a : List Added). IsKept (slots ++ free_slots c.args.more) (trailed first a)) (sym pushed)
    (kept_more first added slots c.self.invariant c.args.more))
