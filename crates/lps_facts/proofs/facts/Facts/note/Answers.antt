use Rattle.std.proofs.Common.{◌∙◌, sym, ap, subst, List, [], ◌∷◌, ◌++◌}
use Rattle.lps_terms.specs.declared.atom.Atom.{Atom}
use Rattle.lps_facts.specs.Facts.{TrailedSet, is_among, members, then_change}
use Rattle.lps_facts.specs.Trail.{Stands, before, present}
use Rattle.lps_facts.proofs.Trails.{stands_same, stands_more, base_more}
use Rattle.lps_facts.proofs.facts.Facts.note.Goals as goal

pub invariant_of-self : goal.invariant_of-self
invariant_of-self c =
    stands_same c.self.inside.entries.entries c.make_room.new.entries.entries c.make_room.ensures.ordered c.make_room.ensures.known
    c.self.inside.trail.items c.make_room.ensures.same c.self.invariant

pub invariant_of-self-in_err-copy : goal.invariant_of-self-in_err-copy
invariant_of-self-in_err-copy c =
    stands_same c.self.inside.entries.entries c.make_room.new.entries.entries c.make_room.ensures.ordered c.make_room.ensures.known
    c.self.inside.trail.items c.make_room.ensures.same c.self.invariant

pub invariant_of-self-in_err-push : goal.invariant_of-self-in_err-push
invariant_of-self-in_err-push c =
    subst (Stands c.make_room.new.entries.entries) (sym c.in_err-push.ensures.items)
    (stands_same c.self.inside.entries.entries c.make_room.new.entries.entries c.make_room.ensures.ordered c.make_room.ensures.known
    c.self.inside.trail.items c.make_room.ensures.same c.self.invariant)

pub invariant_of-self-2 : goal.invariant_of-self-2
invariant_of-self-2 c =
    let trail = c.self.inside.trail.items in
    let room = c.make_room.new.entries.entries in
    let new = c.set_present.new.entries.entries in
    let stands = stands_same c.self.inside.entries.entries room c.make_room.ensures.ordered c.make_room.ensures.known trail c.make_room.ensures.same c.self.invariant in
    let will =
    ap (λ (facts : List Atom). is_among facts c.args.fact.now) (c.make_room.ensures.same ∙ sym c.self.invariant.made)
    ∙ ap (λ (f : TrailedSet). is_among (members f) c.args.fact.now) c.self.view_is ∙ c.requires in
    let items = c.in_ok-push.ensures.items ∙ ap (λ (k : Atom). trail ++ record { inserted = c.args.inserted; fact = k } ∷ []) c.in_ok-copy.ensures in
    subst (Stands new) (sym items)
    (stands_more room new c.set_present.ensures.ordered c.set_present.ensures.known trail (record { inserted = c.args.inserted; fact = c.args.fact.now })
    stands will c.set_present.ensures.changed c.in_ok-make_room.ensures.room)

pub returns : goal.returns
returns c =
    let trail = c.self.inside.trail.items in
    let room = c.make_room.new.entries.entries in
    let new = c.set_present.new.entries.entries in
    let stands = stands_same c.self.inside.entries.entries room c.make_room.ensures.ordered c.make_room.ensures.known trail c.make_room.ensures.same c.self.invariant in
    let will =
    ap (λ (facts : List Atom). is_among facts c.args.fact.now) (c.make_room.ensures.same ∙ sym c.self.invariant.made)
    ∙ ap (λ (f : TrailedSet). is_among (members f) c.args.fact.now) c.self.view_is ∙ c.requires in
    let items = c.in_ok-push.ensures.items ∙ ap (λ (k : Atom). trail ++ record { inserted = c.args.inserted; fact = k } ∷ []) c.in_ok-copy.ensures in
    let base =
    ap (before (present new)) items
    ∙ base_more room new c.set_present.ensures.ordered c.set_present.ensures.known trail (record { inserted = c.args.inserted; fact = c.args.fact.now })
    stands will c.set_present.ensures.changed
    ∙ ap (λ (facts : List Atom). before facts trail) c.make_room.ensures.same in
    (λ i. record { base = base i; changes = items i }) ∙ ap (λ (f : TrailedSet). then_change f c.args.inserted c.args.fact.now) c.self.view_is
