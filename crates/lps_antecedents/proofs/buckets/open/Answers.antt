use Rattle.std.proofs.Common.{◌≡◌, ◌∙◌, ◌++◌, ◌∷◌, [], List, ap, subst, sym}
use Rattle.std.specs.BTreeMap.{get_by}
use Rattle.lps_model.proofs.Elements.{nothing_contained}
use Rattle.lps_watch.specs.Orders.{wake_cmp}
use Rattle.lps_antecedents.specs.declared.slot.Slot.{Slot}
use Rattle.lps_antecedents.specs.Slots.{IsAdded}
use Rattle.lps_antecedents.proofs.Focus.{none_of}
use Rattle.lps_antecedents.proofs.Maps.{ordered_slots, put_first}
use Rattle.lps_antecedents.proofs.Slots.{fresh, pushed}
use Rattle.lps_antecedents.proofs.buckets.open.Goals as goal

pub returns-clause-put : goal.returns-clause-put
returns-clause-put c =
    let held = c.args.held in
    let items : c.push.new.self.items ≡ fresh held ∷ [] = c.in_ok-push.ensures.items ∙ ap (λ (xs : List Slot). xs ++ fresh held ∷ []) c.new-slots.ensures.items in
    put_first c.args.wake c.args.by_wake.now c.insert.new.self c.push.new.self held (none_of (get_by (wake_cmp c.args.wake) c.args.by_wake.now) c.requires.new) c.in_ok-insert.ensures.entries
    (subst (IsAdded held []) (sym items) (pushed [] held (λ there. nothing_contained held there))) (ordered_slots c.insert.new.self c.in_ok-insert.ensures.ordered)
