use Rattle.std.proofs.Common.{refl, ◌∙◌}
use Rattle.lps_facts.specs.Facts.{members}
use Rattle.lps_model.specs.Clauses.{clauses}
use Rattle.lps_meeting.proofs.Rows.{rows_are}
use Rattle.lps_meeting.proofs.ways.ways_of_cond.Goals as goal

pub returns-clause-ways : goal.returns-clause-ways
returns-clause-ways c =
    rows_are (clauses c.args.moment.now.program.now) (members c.args.moment.now.facts.now) _ c.args.room c.args.bindings.now c.args.cond c.as_slice.result.now c.args.terms c.as_slice-2.result.now _
    (c.accepted_texts_are_sound.ensures c.args.moment.now.program.now c.lawful.ensures.accepted c.lawful.ensures.formed (members c.args.moment.now.facts.now) c.requires.facts)
    (c.as_slice.ensures.value ∙ c.in_ok-alone.ensures.items) c.as_slice-2.ensures refl c.in_ok-rows.ensures.instances
