use Rattle.std.proofs.Common.{◌≡◌, ◌∙◌, sym, ap, subst, true, List}
use Rattle.std.specs.Prelude.{◌↔◌}
use Rattle.std.proofs.lemmas.Result.{IfOk-weaker}
use Rattle.lps_terms.specs.declared.atom.Atom.{Atom}
use Rattle.lps_facts.specs.Facts.{is_among, members}
use Rattle.lps_facts.specs.Matching.{IsInstance}
use Rattle.lps_facts.specs.Trail.{present}
use Rattle.lps_facts.proofs.Present.{present_sorted}
use Rattle.lps_facts.proofs.Selections.{selected_are, selected_sorted}
use Rattle.lps_facts.proofs.facts.Facts.matching.Goals as goal

pub returns-clause-instances : goal.returns-clause-instances
returns-clause-instances c =
    let all = sym c.self.invariant.made ∙ ap members c.self.view_is in
    IfOk-weaker c.copy_matching.result _ _
    (λ found is q.
    subst (λ (facts : List Atom). (is_among found.items q ≡ true) ↔ ((is_among facts q ≡ true) × IsInstance c.args.pattern.now q)) all
    (selected_are (IsInstance c.args.pattern.now) (present c.self.inside.entries.entries) found.items is q))
    c.copy_matching.ensures

pub returns-clause-sorted : goal.returns-clause-sorted
returns-clause-sorted c =
    IfOk-weaker c.copy_matching.result _ _
    (λ found is. selected_sorted (IsInstance c.args.pattern.now) (present c.self.inside.entries.entries) found.items (present_sorted c.self.inside.entries.entries c.self.invariant.ordered) is)
    c.copy_matching.ensures
