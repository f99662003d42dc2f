use Rattle.std.proofs.Common.{◌∙◌, subst, sym}
use Rattle.std.proofs.lemmas.Result.{IfOk-weaker}
use Rattle.lps_facts.specs.Facts.{members}
use Rattle.lps_seq.specs.Leads.{CanBeStepped}
use Rattle.lps_seq.proofs.Beginnings.{can_be_stepped, is_empty_entry, is_entry}
use Rattle.lps_seq.proofs.Going.{none_of, some_of}
use Rattle.lps_seq.proofs.entering.enter.Goals as goal

pub run-requires-clause-node : goal.run-requires-clause-node
run-requires-clause-node c =
    let start = c.requires.start in
    let is = some_of _ _ c.in_ok-first_node.field-0 c.in-Some.node c.in-Some.is (c.in_ok-first_node.ensures start.entrance start.entered) in
    subst (CanBeStepped c.args.program.now) (sym is.0)
    (can_be_stepped c.args.program.now c.lawful.ensures.accepted c.lawful.ensures.formed c.args.start.now start.entrance start.entered start.no_calls start.given)

pub returns-in-None-clause-entry : goal.returns-in-None-clause-entry
returns-in-None-clause-entry c =
    let start = c.requires.start in
    is_empty_entry c.args.program.now c.lawful.ensures.accepted c.lawful.ensures.formed c.args.start.now c.led_law.ensures.starts c.led_law.ensures.starts_end c.led_law.ensures.uncut c.led_law.ensures.given c.args.time start
    c.args.depth (members c.args.facts.now) (none_of _ _ c.in_ok-first_node.field-0 c.in-None.is (c.in_ok-first_node.ensures start.entrance start.entered)) c.stepped.result
    (IfOk-weaker c.stepped.result _ _ (λ s e. e ∙ c.new.ensures.nodes) c.stepped.ensures.nodes) (IfOk-weaker c.stepped.result _ _ (λ s e. e ∙ c.new.ensures.ended) c.stepped.ensures.ended) c.stepped.ensures.sorted
    c.stepped.ensures.cut

pub returns-in-Some-clause-entry : goal.returns-in-Some-clause-entry
returns-in-Some-clause-entry c =
    let start = c.requires.start in
    let is = some_of _ _ c.in_ok-first_node.field-0 c.in-Some.node c.in-Some.is (c.in_ok-first_node.ensures start.entrance start.entered) in
    is_entry c.args.program.now c.lawful.ensures.accepted c.lawful.ensures.formed c.args.start.now c.led_law.ensures.starts c.led_law.ensures.starts_end c.led_law.ensures.uncut c.led_law.ensures.given c.args.time start c.args.depth
    (members c.args.facts.now) c.in-Some.node is.0 is.1 c.as_slice.result.now c.run.result c.run.ensures.stepped
