use Rattle.std.proofs.Common.{◌∙◌, sym, ap, subst}
use Rattle.std.specs.List.Sorted.{IsStrictlySortedBy}
use Rattle.lps_terms.specs.Order.{atom_cmp}
use Rattle.lps_facts.specs.Facts.{members}
use Rattle.lps_facts.proofs.Present.{present_sorted}
use Rattle.lps_facts.proofs.facts.Facts.lawful.Goals as goal

pub returns : goal.returns
returns c =
    subst (IsStrictlySortedBy atom_cmp) (sym c.self.invariant.made ∙ ap members c.self.view_is) (present_sorted c.self.inside.entries.entries c.self.invariant.ordered)
