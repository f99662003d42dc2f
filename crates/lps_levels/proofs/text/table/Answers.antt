use Rattle.std.proofs.Common.{◌∙◌, ap, subst, sym, cond, Some, []}
use Rattle.std.specs.Map.{lookup}
use Rattle.std.specs.Str.{bytes_eq}
use Rattle.std.proofs.lemmas.List.{get_or_read}
use Rattle.lps_levels.specs.Answers.{AreInTableTo}
use Rattle.lps_levels.proofs.Tables.{table_more, table_none}
use Rattle.lps_levels.proofs.text.table.Goals as goal

pub loop-number-init : goal.loop-number-init
loop-number-init c = subst (AreInTableTo 0 c.args.names.now c.args.levels.now) (sym c.new-table.ensures) (table_none c.args.names.now c.args.levels.now)

pub loop-number-preserved : goal.loop-number-preserved
loop-number-preserved c =
    let name = get_or_read c.args.names.now c.loop-number.number c.index-names-number.result c.loop-number-test.true c.index-names-number.is [] in
    table_more c.args.names.now c.args.levels.now c.loop-number.table c.insert.new.self c.loop-number.number c.in-Some.level c.requires.apart c.loop-number-test.true c.in-Some.ensures
    (λ other. c.in_ok-insert.ensures other ∙ ap (λ n. cond (bytes_eq n other) (Some c.in-Some.level) (lookup (bytes_eq other) c.loop-number.table)) name) c.loop-number.invariant
