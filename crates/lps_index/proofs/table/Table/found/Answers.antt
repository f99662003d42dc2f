use Rattle.std.proofs.Common.{◌∙◌, ◌++◌, sym, ap}
use Rattle.std.specs.Prelude.{Some, None, option_copied}
use Rattle.lps_index.specs.Matching.{closed_first}
use Rattle.lps_index.proofs.Gaining.{found_is}
use Rattle.lps_index.proofs.Growing.{append_none}
use Rattle.lps_index.proofs.table.Table.found.Goals as goal

pub returns-in-Some : goal.returns-in-Some
returns-in-Some c = (λ i. c.places_at.ensures i ++ c.places_of.ensures i) ∙ found_is c.args.self.now c.args.asked.now (Some c.in-Some.first.now) (ap closed_first (sym c.as_slice.ensures) ∙ sym c.closed_first.ensures ∙ ap option_copied c.in-Some.is)

pub returns-in-None : goal.returns-in-None
returns-in-None c = append_none c.places_of-in-None.result.now ∙ c.places_of-in-None.ensures ∙ found_is c.args.self.now c.args.asked.now None (ap closed_first (sym c.as_slice.ensures) ∙ sym c.closed_first.ensures ∙ ap option_copied c.in-None.is)
