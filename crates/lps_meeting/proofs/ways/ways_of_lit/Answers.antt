use Rattle.std.proofs.Common.{sym, subst, ◌∷◌, []}
use Rattle.lps_terms.specs.declared.atom.Atom.{Atom}
use Rattle.lps_terms.specs.declared.cond.Cond.TheVariants as c
use Rattle.lps_unify.specs.Unified.{AreWithin}
use Rattle.lps_solve.specs.Moded.{AreModedFor}
use Rattle.lps_facts.specs.Facts.{members}
use Rattle.lps_solve.proofs.Vars.{are_within}
use Rattle.lps_meeting.proofs.Rows.{lit_found, lit_moded}
use Rattle.lps_meeting.proofs.ways.ways_of_lit.Goals as goal

pub ways_of_cond-requires-clause-within : goal.ways_of_cond-requires-clause-within
ways_of_cond-requires-clause-within c =
    subst (λ (a : Atom). AreWithin c.args.moment.now.variables a.args) (sym c.in_ok-terms.ensures) (are_within c.args.moment.now.variables c.args.lit.now.atom.args c.requires.below)

pub ways_of_cond-requires-clause-moded : goal.ways_of_cond-requires-clause-moded
ways_of_cond-requires-clause-moded k =
    subst (λ (a : Atom). AreModedFor k.args.moment.now.program.now k.args.bindings.now (c.Lit k.in_ok-copy_lit.field-0 ∷ []) a.args) (sym k.in_ok-terms.ensures)
    (subst (λ lit. AreModedFor k.args.moment.now.program.now k.args.bindings.now (c.Lit lit ∷ []) k.args.lit.now.atom.args) (sym k.in_ok-copy_lit.ensures)
    (lit_moded k.args.moment.now.program.now k.args.bindings.now k.args.lit.now k.requires.ready))

pub returns-clause-ways : goal.returns-clause-ways
returns-clause-ways c =
    lit_found c.args.moment.now.program.now (members c.args.moment.now.facts.now) c.args.moment.now.events.now c.args.moment.now.variables c.args.bindings.now c.requires.fresh _ c.args.lit.now
    c.in_ok-copy_lit.field-0 c.in_ok-terms.field-0 c.in_ok-copy_lit.ensures c.in_ok-terms.ensures c.requires.below c.ways_of_cond.result c.ways_of_cond.ensures.ways
