use Rattle.std.proofs.Common.{◌∙◌, ap, sym}
use Rattle.std.specs.List.{list_all}
use Rattle.lps_facts.specs.Beginning.{is_fixed, is_fixed-App}
use Rattle.lps_facts.proofs.beginning.+fixed.Goals as goal

pub is_fixed-returns-in-App : goal.is_fixed-returns-in-App
is_fixed-returns-in-App t c =
    c.are_fixed.ensures ∙ ap (list_all is_fixed) c.as_slice.ensures ∙ sym (is_fixed-App c.in-App.field-0 c.in-App.args) ∙ ap is_fixed (sym c.in-App.is)
