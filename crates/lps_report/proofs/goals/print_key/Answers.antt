use Rattle.std.proofs.Common.{◌≡◌, ◌∙◌, ◌++◌, List, ℕ, Bool, false, ap, map, append_assoc}
use Rattle.std.specs.Prelude.{codes, not}
use Rattle.std.specs.Fmt.{decimal}
use Rattle.std.proofs.lemmas.Result.{on_ok_weaker}
use Rattle.lps_terms.specs.Printed.{printed}
use Rattle.lps_report.specs.Listed.{led_from}
use Rattle.lps_report.proofs.Pieces.{key_values}
use Rattle.lps_report.proofs.goals.print_key.Goals as goal

pub returns : goal.returns
returns c =
    let key = c.args.key.now in
    let start : List ℕ = c.args.out.now.items in
    let word : List ℕ = codes " with " in
    let later : Bool = not c.is_empty-later.result in
    let values : c.print_terms.new.out.items ≡ start ++ led_from word false (map printed key.values) = c.in_ok-print_terms.ensures ∙ (λ i. start ++ led_from word false (map printed (c.as_slice.ensures i))) in
    on_ok_weaker c.print_times.result
    (λ last.
    last ∙ (λ i. values i ++ led_from word later (map decimal (c.as_slice-2.ensures i)))
    ∙ append_assoc start (led_from word false (map printed key.values)) (led_from word later (map decimal key.times))
    ∙ ap (λ (bs : List ℕ). start ++ bs) (key_values key.values key.times c.is_empty-later.result c.is_empty-later.ensures))
    c.print_times.ensures
