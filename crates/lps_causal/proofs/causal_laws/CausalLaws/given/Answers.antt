use Rattle.std.proofs.Common.{List, [], get_or, sym, subst, arith, take}
use Rattle.std.specs.Prelude.{Contains}
use Rattle.std.proofs.lemmas.List.Elements.{Contains-get_or}
use Rattle.lps_terms.specs.declared.atom.Atom.{Atom}
use Rattle.lps_model.specs.Clauses.{clauses}
use Rattle.lps_model.specs.Program.{laws}
use Rattle.lps_facts.specs.Facts.{members}
use Rattle.lps_causal.specs.Given.{ByOne, Gains, GivesAs, fluents_of}
use Rattle.lps_causal.proofs.Gaining.{ByOne-all, ByOne-more, ByOne-none, all_gained}
use Rattle.lps_causal.proofs.causal_laws.CausalLaws.given.Goals as goal

pub loop-event-init : goal.loop-event-init
loop-event-init c = λ level levels initiates.
    let P = λ (event : Atom). ByOne (laws c.args.program.now) (GivesAs (clauses c.args.program.now) (members c.args.facts.now) level event initiates) in
    subst (λ (found : List Atom). Gains [] found (ByOne (take 0 c.args.events.now) P)) (sym (c.new-given.ensures initiates)) (ByOne-none c.args.events.now P [])

pub add_by_event-requires : goal.add_by_event-requires
add_by_event-requires c = record {
  laws = c.requires.laws;
  state = λ a h. (c.requires.state.each a h).ground;
  event = (c.requires.events.each c.event-item.result (subst (Contains c.args.events.now) (sym c.event-item.is) (Contains-get_or c.args.events.now c.loop-event.event-index c.event-item.result c.loop-event-test.true))).ground;
}

pub loop-event-preserved : goal.loop-event-preserved
loop-event-preserved c = λ level levels initiates.
    ByOne-more c.loop-event.event-index c.args.events.now c.event-item.result
    (λ event. ByOne (laws c.args.program.now) (GivesAs (clauses c.args.program.now) (members c.args.facts.now) level event initiates)) []
    (fluents_of initiates c.loop-event.given) (fluents_of initiates c.add_by_event.new.given) c.loop-event-test.true c.event-item.is (c.loop-event.invariant level levels initiates)
    (c.in_ok-add_by_event.ensures level levels initiates)

pub returns : goal.returns
returns c = λ level levels initiates.
    let P = λ (event : Atom). ByOne (laws c.args.program.now) (GivesAs (clauses c.args.program.now) (members c.args.facts.now) level event initiates) in
    all_gained (fluents_of initiates c.loop-event.given) (ByOne c.args.events.now P)
    (ByOne-all c.loop-event.event-index c.args.events.now P [] (fluents_of initiates c.loop-event.given) (omega arith) (c.loop-event.invariant level levels initiates))
