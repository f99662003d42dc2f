use Rattle.std.proofs.Common.{rules, arith, sym, ap, ◌∙◌, ◌++◌, take}
use Rattle.std.specs.Prelude.{codes}
use Rattle.std.proofs.Output.{has_written_append, has_written_of_eq}
use Rattle.lps_terms.specs.Printed.{led}
use Rattle.lps_terms.proofs.Printing.{led_more}
use Rattle.lps_terms.proofs.refused.ListedDisplay.fmt.Goals as goal

pub loop-name-preserved : goal.loop-name-preserved
loop-name-preserved g c p =
    let names = c.in-Some.rest.now in
    let before = led (take c.loop-name.name-index names) in
    let more = led_more names c.loop-name.name-index c.name-item.result (omega arith) in
    let same = ap (λ name. before ++ (codes ", " ++ name)) c.name-item.is in
    has_written_of_eq _ _ _ _ _ (same ∙ sym more) (has_written_append _ _ _ _ _ _ (c.loop-name.invariant p) (search rules))
