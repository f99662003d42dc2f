use Rattle.std.proofs.Common.{sym, subst, ◌∷◌, []}
use Rattle.lps_terms.specs.declared.cond.Cond.TheVariants as c
use Rattle.lps_unify.specs.Unified.{AreWithin}
use Rattle.lps_solve.specs.Moded.{AreModedFor}
use Rattle.lps_facts.specs.Facts.{members}
use Rattle.lps_meeting.specs.Steps.{decided_by}
use Rattle.lps_meeting.proofs.Rows.{built_found, built_moded, decided_within}
use Rattle.lps_meeting.proofs.ways.ways_of_built.Goals as goal

pub ways_of_cond-requires-clause-within : goal.ways_of_cond-requires-clause-within
ways_of_cond-requires-clause-within c =
    subst (AreWithin c.args.moment.now.variables) (sym c.in_ok-terms.ensures) (decided_within c.args.moment.now.variables c.args.built.now c.requires.below)

pub ways_of_cond-requires-clause-moded : goal.ways_of_cond-requires-clause-moded
ways_of_cond-requires-clause-moded k =
    subst (AreModedFor k.args.moment.now.program.now k.args.bindings.now (c.Built k.in_ok-copy_built.field-0 ∷ [])) (sym k.in_ok-terms.ensures)
    (subst (λ built. AreModedFor k.args.moment.now.program.now k.args.bindings.now (c.Built built ∷ []) (decided_by k.args.built.now)) (sym k.in_ok-copy_built.ensures)
    (built_moded k.args.moment.now.program.now k.args.bindings.now k.args.built.now k.requires.ready))

pub returns-clause-ways : goal.returns-clause-ways
returns-clause-ways c =
    built_found c.args.moment.now.program.now (members c.args.moment.now.facts.now) c.args.moment.now.events.now c.args.moment.now.variables c.args.bindings.now c.requires.fresh _ c.args.built.now
    c.in_ok-copy_built.field-0 c.in_ok-terms.terms c.in_ok-copy_built.ensures c.in_ok-terms.ensures c.requires.ready c.requires.below c.ways_of_cond.result c.ways_of_cond.ensures.ways
