use Rattle.std.proofs.Common.{◌≡◌, ◌∙◌, ◌+◌, List, ap, subst}
use Rattle.std.specs.List.Sorted.{IsStrictlySortedBy}
use Rattle.lps_terms.specs.declared.atom.Atom.{Atom}
use Rattle.lps_terms.specs.Order.{atom_cmp}
use Rattle.lps_sizes.specs.Sizes.{atoms_size, limited}
use Rattle.lps_cycle.proofs.Sizing.{most_of_state}
use Rattle.lps_cycle.proofs.engine.state_count.Goals as goal

pub returns-then-most-le-MOST_IN_STATE : goal.returns-then-most-le-MOST_IN_STATE
returns-then-most-le-MOST_IN_STATE c =
    let begun = c.in_ok-begun.begun.items in
    let most : c.saturating_add-most.result ≡ limited (c.args.before + limited (atoms_size begun)) =
    c.saturating_add-most.ensures ∙ (λ i. limited (c.args.before + (c.atoms_symbols.ensures ∙ ap (λ (atoms : List Atom). limited (atoms_size atoms)) c.as_slice.ensures.value) i)) in
    most_of_state c.args.round.now.facts begun c.args.round.now.next c.args.before c.saturating_add-most.result (subst (IsStrictlySortedBy atom_cmp) c.next.ensures c.lawful.ensures) c.in_ok-begun.ensures
    c.requires most c.if-most-le-MOST_IN_STATE.true
