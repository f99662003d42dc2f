use Rattle.std.proofs.Common.{subst, sym}
use Rattle.std.specs.List.Sorted.{IsStrictlySortedBy}
use Rattle.std.proofs.lemmas.Result.{IfOk-weaker}
use Rattle.lps_terms.specs.Order.{atom_cmp}
use Rattle.lps_facts.proofs.Present.{present_sorted}
use Rattle.lps_facts.proofs.facts.Facts.sorted.Goals as goal

pub returns-clause-sorted : goal.returns-clause-sorted
returns-clause-sorted c =
    IfOk-weaker c.copy_present.result _ _ (λ copies same. subst (IsStrictlySortedBy atom_cmp) (sym same) (present_sorted c.self.inside.entries.entries c.self.invariant.ordered)) c.copy_present.ensures
