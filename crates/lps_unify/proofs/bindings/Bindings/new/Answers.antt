use Rattle.std.proofs.Common.{◌∙◌, ◌++◌, sym, ap, subst, ℕ, List, Option}
use Rattle.lps_unify.specs.declared.added.Added.{Added}
use Rattle.lps_unify.specs.Slots.{IsKept, free_slots}
use Rattle.lps_unify.proofs.Keeping.{kept_start, trailed}
use Rattle.lps_unify.proofs.bindings.Bindings.new.Goals as goal

pub invariant_of-result : goal.invariant_of-result
invariant_of-result c =
    let slots = c.in_ok-add_free.ensures ∙ ap (λ (xs : List (Option ℕ)). xs ++ free_slots c.args.variables) c.new-slots.ensures.items in
    subst (λ (xs : List (Option ℕ)). IsKept xs (trailed c.args.variables c.new.result.items)) (sym slots)
    (subst (λ (a : List Added). IsKept (free_slots c.args.variables) (trailed c.args.variables a)) (sym c.new.ensures.items) (kept_start c.args.variables))
