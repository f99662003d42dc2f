use Rattle.std.proofs.Common.{◌≡◌, ◌∙◌, true, ap, subst, sym}
use Rattle.std.specs.List.{list_all}
use Rattle.std.proofs.lemmas.Result.{IfOk-weaker}
use Rattle.lps_facts.specs.Beginning.{is_fixed}
use Rattle.lps_facts.specs.Matching.{IsInstance, IsSelection}
use Rattle.lps_facts.specs.Trail.{present}
use Rattle.lps_facts.proofs.Beginnings.{selected_one}
use Rattle.lps_facts.proofs.Present.{present_sorted}
use Rattle.lps_facts.proofs.entries.copy_matching.Goals as goal

pub returns-then-are_fixed : goal.returns-then-are_fixed
returns-then-are_fixed c =
    let entries = c.args.entries.now.entries in
    let fixed : list_all is_fixed c.args.pattern.now.args ≡ true = ap (list_all is_fixed) (sym c.as_slice.ensures) ∙ sym c.are_fixed.ensures ∙ c.if-are_fixed.true in
    IfOk-weaker c.copy_same.result _ _
    (λ found is. subst (IsSelection (IsInstance c.args.pattern.now) (present entries)) (sym is) (selected_one c.args.pattern.now fixed (present entries) (present_sorted entries c.requires)))
    c.copy_same.ensures
