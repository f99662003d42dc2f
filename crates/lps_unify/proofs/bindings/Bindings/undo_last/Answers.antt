use Rattle.std.proofs.Common.{◌≡◌, ◌∙◌, ◌++◌, ◌∷◌, [], ◌-◌, sym, ap, subst, length, take, ℕ, List, arith}
use Rattle.lps_unify.specs.declared.added.Added.{Added}
use Rattle.lps_unify.specs.Slots.{IsKept}
use Rattle.lps_unify.proofs.Keeping.{unbind, fewer, trailed}
use Rattle.lps_unify.proofs.bindings.Bindings.undo_last.Goals as goal

pub index_mut-requires : goal.index_mut-requires
index_mut-requires c =
    let front = c.pop.new.self.items in
    let popped = c.in-Some-Bind.ensures.items ∙ ap (λ (e : Added). front ++ e ∷ []) c.in-Some-Bind.field-0-is in
    let lt = (unbind c.self.inside.first front c.self.inside.slots.items c.in-Some-Bind.variable c.in-Some-Bind.term
    (subst (λ (a : List Added). IsKept c.self.inside.slots.items (trailed c.self.inside.first a)) popped c.self.invariant)).0 in
    omega (arith, lt, c.self.inside.slots.ok)

pub invariant_of-self : goal.invariant_of-self
invariant_of-self c =
    let front = c.pop.new.self.items in
    let popped = c.in-Some-Bind.ensures.items ∙ ap (λ (e : Added). front ++ e ∷ []) c.in-Some-Bind.field-0-is in
    (unbind c.self.inside.first front c.self.inside.slots.items c.in-Some-Bind.variable c.in-Some-Bind.term
    (subst (λ (a : List Added). IsKept c.self.inside.slots.items (trailed c.self.inside.first a)) popped c.self.invariant)).1

pub overflow_sub-left : goal.overflow_sub-left
overflow_sub-left c =
    let front = c.pop.new.self.items in
    let popped = c.in-Some-More.ensures.items ∙ ap (λ (e : Added). front ++ e ∷ []) c.in-Some-More.field-0-is in
    let le = (fewer c.self.inside.first front c.self.inside.slots.items c.in-Some-More.more
    (subst (λ (a : List Added). IsKept c.self.inside.slots.items (trailed c.self.inside.first a)) popped c.self.invariant)).0 in
    let len = c.len.ensures in
    omega arith

pub invariant_of-self-in-Some-More : goal.invariant_of-self-in-Some-More
invariant_of-self-in-Some-More c =
    let front = c.pop.new.self.items in
    let slots = c.self.inside.slots.items in
    let popped = c.in-Some-More.ensures.items ∙ ap (λ (e : Added). front ++ e ∷ []) c.in-Some-More.field-0-is in
    let kept = (fewer c.self.inside.first front slots c.in-Some-More.more
    (subst (λ (a : List Added). IsKept slots (trailed c.self.inside.first a)) popped c.self.invariant)).1 in
    let cut : take (length slots - c.in-Some-More.more) slots ≡ c.truncate.new.self.items =
    ap (λ (k : ℕ). take (k - c.in-Some-More.more) slots) (let long : length slots ≡ c.len.result = omega (arith, c.len.ensures, c.self.inside.slots.ok) in long) ∙ sym c.truncate.ensures.items in
    subst (λ xs. IsKept xs (trailed c.self.inside.first front)) cut kept
