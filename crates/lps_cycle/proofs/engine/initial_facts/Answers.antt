use Rattle.std.proofs.Common.{◌∙◌, ◌≡◌, ap, sym, ◌∷◌, ◌+◌, List, true, drop}
use Rattle.std.proofs.lemmas.List.{drop_more}
use Rattle.lps_terms.specs.declared.statement.Statement.{Statement}
use Rattle.lps_model.specs.Program.{initial_in}
use Rattle.lps_facts.specs.Facts.{with_facts}
use Rattle.lps_cycle.proofs.Initial.{initial, with_more}
use Rattle.lps_cycle.proofs.engine.initial_facts.Goals as goal

pub loop-statement-preserved : goal.loop-statement-preserved
loop-statement-preserved c =
    let statements = c.args.statements.now in
    let at = c.loop-statement.statement-index in
    let item = c.statement-item.result in
    let rest = initial (drop (at + 1) statements) in
    let step : drop at statements ≡ item ∷ drop (at + 1) statements = drop_more statements at item c.loop-statement-test.true ∙ ap (λ (s : Statement). s ∷ drop (at + 1) statements) (sym c.statement-item.is) in
    ap (with_facts true rest) c.in_ok-insert_initial.ensures ∙ sym (with_more (initial_in item.body) rest c.loop-statement.facts)
    ∙ ap (λ (ss : List Statement). with_facts true (initial ss) c.loop-statement.facts) (sym step) ∙ c.loop-statement.invariant
