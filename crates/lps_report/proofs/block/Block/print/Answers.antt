use Rattle.std.proofs.Common.{◌∙◌, ◌++◌, ap, List, ℕ, false}
use Rattle.std.specs.Prelude.{codes}
use Rattle.std.specs.Fmt.{decimal}
use Rattle.std.specs.List.{flat_map}
use Rattle.std.proofs.lemmas.Result.{on_ok_weaker}
use Rattle.lps_terms.specs.Printed.{listed_from}
use Rattle.lps_model.specs.Report.{verdict_lines}
use Rattle.lps_facts.specs.Facts.{members}
use Rattle.lps_meaning.specs.Reports.{block_text, closed_line, goal_line, pick_line}
use Rattle.lps_report.proofs.Pieces.{block_pieces}
use Rattle.lps_report.proofs.block.Block.print.Goals as goal

pub returns : goal.returns
unfolding block_text
returns c =
    let block = c.args.self.now in
    let cycle = block.cycle.now in
    let facts = members block.facts.now in
    let start = c.args.out.now.items in
    let state : List ℕ = codes "state" ++ listed_from false facts ++ codes "\n" in
    let written =
    c.in_ok-print_created.ensures
    ∙ ap (λ (bs : List ℕ). bs ++ flat_map goal_line block.created.now)
    (c.in_ok-print_state.ensures
    ∙ ap (λ (bs : List ℕ). bs ++ state)
    (c.in_ok-print_picks.ensures
    ∙ (λ i.
    (c.in_ok-print_verdicts.ensures ∙ (λ j. c.in_ok-print_head.ensures j ++ verdict_lines (c.as_slice.ensures j) (c.as_slice-2.ensures j))) i
    ++ flat_map pick_line (c.as_slice-3.ensures i)))) in
    on_ok_weaker c.print_closed.result
    (λ last.
    last ∙ ap (λ (bs : List ℕ). bs ++ flat_map closed_line block.closed.now) written
    ∙ block_pieces start (codes "cycle ") (decimal block.number) (codes "\n") (verdict_lines cycle.events cycle.verdicts) (flat_map pick_line cycle.picks) (codes "state") (listed_from false facts) (codes "\n") (flat_map goal_line block.created.now) (flat_map closed_line block.closed.now))
    c.print_closed.ensures
