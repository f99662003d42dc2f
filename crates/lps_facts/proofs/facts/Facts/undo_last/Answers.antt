use Rattle.std.proofs.Common.{◌∙◌, ◌-◌, length, sym, ap, subst, List, take}
use Rattle.lps_facts.specs.declared.change.Change.{Change}
use Rattle.lps_facts.specs.Facts.{TrailedSet, back_to}
use Rattle.lps_facts.specs.Trail.{Stands, before, present}
use Rattle.lps_facts.proofs.Trails.{known_last, stands_less, base_less, all_but_last}
use Rattle.lps_facts.proofs.facts.Facts.undo_last.Goals as goal

pub set_present-requires : goal.set_present-requires
set_present-requires c =
    let entries = c.self.inside.entries.entries in
    let stands = subst (Stands entries) c.in-Some.ensures.items c.self.invariant in
    record { room = (known_last entries c.pop.new.self.items c.in-Some.change stands.known).1 }

pub invariant_of-self : goal.invariant_of-self
invariant_of-self c =
    let entries = c.self.inside.entries.entries in
    let stands = subst (Stands entries) c.in-Some.ensures.items c.self.invariant in
    stands_less entries c.set_present.new.entries.entries c.set_present.ensures.ordered c.set_present.ensures.known c.pop.new.self.items c.in-Some.change stands
    c.set_present.ensures.changed

pub returns-in-Some : goal.returns-in-Some
returns-in-Some c =
    let entries = c.self.inside.entries.entries in
    let items = c.in-Some.ensures.items in
    let stands = subst (Stands entries) items c.self.invariant in
    let base =
    base_less entries c.set_present.new.entries.entries c.set_present.ensures.ordered c.set_present.ensures.known c.pop.new.self.items c.in-Some.change stands
    c.set_present.ensures.changed
    ∙ ap (before (present entries)) (sym items) in
    let changes =
    sym (all_but_last c.pop.new.self.items c.in-Some.change) ∙ ap (λ (cs : List Change). take (length cs - 1) cs) (sym items) in
    (λ i. record { base = base i; changes = changes i }) ∙ ap (λ (f : TrailedSet). back_to (length f.changes - 1) f) c.self.view_is
