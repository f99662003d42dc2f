use Rattle.std.proofs.Common.{◌∙◌}
use Rattle.lps_seq.proofs.Beginnings.{found_short}
use Rattle.lps_seq.proofs.entering.first_node.Goals as goal

pub tested-requires : goal.tested-requires
tested-requires c =
    found_short c.args.program.now c.lawful.ensures.accepted c.lawful.ensures.formed c.args.start.now c.text-2.result.now (c.text-2.ensures.same ∙ c.text.ensures) c.in_ok-entrance.field-0 c.in-Some.node
    c.in-Some.is c.in_ok-entrance.ensures c.requires
