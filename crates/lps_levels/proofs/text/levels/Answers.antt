use Rattle.std.proofs.Common.{◌≡◌, ◌∙◌, All, flat_map, subst, sym}
use Rattle.lps_terms.specs.declared.statement.Statement.{Statement}
use Rattle.lps_model.specs.Calls.{calls, calls_in}
use Rattle.lps_model.specs.Program.{declarations}
use Rattle.lps_levels.specs.Answers.{AreInTable}
use Rattle.lps_levels.specs.Distances.{AreRight}
use Rattle.lps_levels.specs.Graphs.{HasCalledHead, IsGraph, calls_by}
use Rattle.lps_levels.specs.Names.{AreCalledNames}
use Rattle.lps_levels.proofs.Heads.{heads_are_called}
use Rattle.lps_levels.proofs.Tables.{answer_of_table, levels_of_text}
use Rattle.lps_levels.proofs.text.levels.Goals as goal

pub calls-requires-clause-headed : goal.calls-requires-clause-headed
calls-requires-clause-headed c =
    subst (λ ss. All (λ (s : Statement). HasCalledHead c.args.kinds.now s.body) ss) (sym c.as_slice.ensures)
    (subst (λ ds. All (λ (s : Statement). HasCalledHead ds s.body) c.args.text.now.statements) (sym c.requires.declared) (heads_are_called c.args.text.now c.requires.placed))

pub returns-in-Levelled : goal.returns-in-Levelled
returns-in-Levelled c =
    let called : AreCalledNames (declarations c.args.text.now) c.in_ok-names.names = subst (λ ds. AreCalledNames ds c.in_ok-names.names) c.requires.declared c.in_ok-names.ensures in
    let graph : IsGraph c.in_ok-names.names c.in_ok-edges.edges.items = record { apart = called.apart; within = c.in_ok-edges.ensures.within } in
    let named : calls_by c.in_ok-names.names c.in_ok-edges.edges.items ≡ calls c.args.text.now =
    c.in_ok-edges.ensures.named ∙ (λ i. flat_map (λ (s : Statement). calls_in (c.requires.declared i) s.body) (c.as_slice.ensures i)) in
    let found : AreRight c.as_slice-2.result.now c.as_slice-3.result.now c.in-Levelled.levels.items = rw c.in-Levelled.is at c.in_ok-levels.ensures in
    let right : AreRight c.in_ok-names.names c.in_ok-edges.edges.items c.in-Levelled.levels.items =
    subst (λ es. AreRight c.in_ok-names.names es c.in-Levelled.levels.items) c.as_slice-3.ensures.value (subst (λ ns. AreRight ns c.as_slice-3.result.now c.in-Levelled.levels.items) c.as_slice-2.ensures found) in
    answer_of_table c.args.text.now (AreInTable c.as_slice-in-Levelled.result.now c.as_slice-in-Levelled-2.result.now) c.table.result
    (λ table h. levels_of_text c.args.text.now c.in_ok-names.names c.in_ok-edges.edges.items c.in-Levelled.levels.items table called graph named right
    (subst (λ ls. AreInTable c.in_ok-names.names ls table) c.as_slice-in-Levelled-2.ensures.value (subst (λ ns. AreInTable ns c.as_slice-in-Levelled-2.result.now table) c.as_slice-in-Levelled.ensures h)))
    c.table.ensures
