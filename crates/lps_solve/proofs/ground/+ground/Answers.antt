use Rattle.std.proofs.Common.{◌≡◌, ◌∙◌, true, nat_lt, ap, sym, arith, length}
use Rattle.std.specs.Prelude.{nat_le}
use Rattle.std.specs.List.{list_all}
use Rattle.std.proofs.lemmas.Bool.Decides.{nat_tests}
use Rattle.lps_terms.specs.Names.{is_proper_name}
use Rattle.lps_derivation.specs.Ground.{is_ground}
use Rattle.lps_solve.proofs.Grounds.{ground_app}
use Rattle.lps_solve.proofs.ground.+ground.Goals as goal

pub is_ground-returns-else-len-gt64 : goal.is_ground-returns-else-len-gt64
is_ground-returns-else-len-gt64 t c =
    let some : nat_lt 0 (length c.in-App.args) ≡ true = grind (arith, nat_tests) in
    let few : nat_le (length c.in-App.args) 64 ≡ true = grind (arith, nat_tests) in
    let named : is_proper_name c.in-App.name ≡ true = ap is_proper_name (sym c.bytes-in-App.ensures) ∙ sym c.is_proper_name-in-App.ensures ∙ c.if-not-is_proper_name.false in
    c.are_ground.ensures ∙ ap (list_all is_ground) c.as_slice.ensures
    ∙ sym (ap is_ground c.in-App.is ∙ ground_app c.in-App.name c.in-App.args named some few)
