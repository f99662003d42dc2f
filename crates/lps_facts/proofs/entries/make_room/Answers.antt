use Rattle.std.proofs.Common.{◌≡◌, ◌∙◌, sym, ap, false, cond, Some, subst}
use Rattle.std.specs.Prelude.{is_some}
use Rattle.lps_terms.specs.declared.atom.Atom.{Atom}
use Rattle.lps_terms.specs.Order.{atom_eq}
use Rattle.lps_facts.proofs.Present.{entry_of, knows-entry, present_same, known_after}
use Rattle.lps_facts.proofs.entries.make_room.Goals as goal

pub returns-then-contains_key-clause-room : goal.returns-then-contains_key-clause-room
returns-then-contains_key-clause-room c = knows-entry c.args.entries.now.entries c.args.fact.now ∙ sym c.contains_key.ensures ∙ c.if-contains_key.true

pub returns-clause-same : goal.returns-clause-same
returns-clause-same c =
    present_same c.args.fact.now c.args.entries.now.entries c.insert.new.self.entries c.requires c.insert.ensures.ordered
    (λ q. subst (λ (k : Atom). entry_of c.insert.new.self.entries q ≡ cond (atom_eq k q) (Some false) (entry_of c.args.entries.now.entries q)) c.in_ok-copy_atom.ensures (c.in_ok-insert.ensures.updates.0 q))
    (sym c.contains_key.ensures ∙ c.if-contains_key.false)

pub returns-clause-known : goal.returns-clause-known
returns-clause-known c =
    known_after false c.args.fact.now c.args.entries.now.entries c.insert.new.self.entries
    (λ q. subst (λ (k : Atom). entry_of c.insert.new.self.entries q ≡ cond (atom_eq k q) (Some false) (entry_of c.args.entries.now.entries q)) c.in_ok-copy_atom.ensures (c.in_ok-insert.ensures.updates.0 q))

pub returns-clause-room : goal.returns-clause-room
returns-clause-room c =
    knows-entry c.insert.new.self.entries c.args.fact.now
    ∙ ap is_some (subst (λ (k : Atom). entry_of c.insert.new.self.entries k ≡ Some false) c.in_ok-copy_atom.ensures c.in_ok-insert.ensures.updates.1)
