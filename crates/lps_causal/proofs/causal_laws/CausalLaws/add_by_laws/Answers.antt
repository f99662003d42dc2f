use Rattle.std.proofs.Common.{ℕ, ◌<◌, List, length, get_or, sym, ap, ◌∙◌, subst, arith}
use Rattle.std.specs.Prelude.{Contains}
use Rattle.std.proofs.lemmas.List.Elements.{Contains-get_or}
use Rattle.lps_model.specs.Program.{Law, laws}
use Rattle.lps_model.specs.Clauses.{clauses}
use Rattle.lps_facts.specs.Facts.{members}
use Rattle.lps_solve.proofs.Gaining.{default_free}
use Rattle.lps_causal.specs.Given.{Gains, GivesAs, fluents_of}
use Rattle.lps_causal.specs.Laws.{law_at, no_law}
use Rattle.lps_causal.proofs.Gaining.{ByOne-all, ByOne-more, ByOne-none}
use Rattle.lps_causal.proofs.causal_laws.CausalLaws.add_by_laws.Goals as goal

pub loop-place-init : goal.loop-place-init
loop-place-init c = λ level levels initiates.
    ByOne-none c.args.places.now (λ i. GivesAs (clauses c.args.program.now) (members c.args.facts.now) level c.args.event.now initiates (law_at (laws c.args.program.now) i)) (fluents_of initiates c.args.given.now)

pub law-law-requires : goal.law-law-requires
law-law-requires c =
    let place : ℕ = get_or c.args.places.now c.loop-place.place-index 0 in
    subst (λ (ls : List Law). place < length ls) (sym c.requires.laws) (c.requires.places place (Contains-get_or c.args.places.now c.loop-place.place-index 0 c.loop-place-test.true)).0

pub add_by_law-requires : goal.add_by_law-requires
add_by_law-requires c =
    let place : ℕ = get_or c.args.places.now c.loop-place.place-index 0 in
    let found = c.requires.places place (Contains-get_or c.args.places.now c.loop-place.place-index 0 c.loop-place-test.true) in
    let here = c.law-law.ensures.law ∙ ap (λ (ls : List Law). law_at ls place) c.requires.laws in
    record {
      law = subst (Contains (laws c.args.program.now)) (sym here) (Contains-get_or (laws c.args.program.now) place no_law found.0);
      counted = c.law-law.ensures.counted;
      state = c.requires.state;
      event = c.requires.event;
      named = ap (λ (l : Law). l.event.name) here ∙ found.1;
      small = c.requires.small;
    }

pub loop-place-preserved : goal.loop-place-preserved
loop-place-preserved c = λ level levels initiates.
    let place : ℕ = get_or c.args.places.now c.loop-place.place-index 0 in
    ByOne-more c.loop-place.place-index c.args.places.now place (λ i. GivesAs (clauses c.args.program.now) (members c.args.facts.now) level c.args.event.now initiates (law_at (laws c.args.program.now) i))
    (fluents_of initiates c.args.given.now) (fluents_of initiates c.loop-place.given) (fluents_of initiates c.add_by_law.new.given) c.loop-place-test.true
    (default_free c.args.places.now c.loop-place.place-index 0 place c.loop-place-test.true) (c.loop-place.invariant level levels initiates)
    (subst (λ (l : Law). Gains (fluents_of initiates c.loop-place.given) (fluents_of initiates c.add_by_law.new.given) (GivesAs (clauses c.args.program.now) (members c.args.facts.now) level c.args.event.now initiates l))
    (c.law-law.ensures.law ∙ ap (λ (ls : List Law). law_at ls place) c.requires.laws) (c.in_ok-add_by_law.ensures level levels initiates))

pub returns : goal.returns
returns c = λ level levels initiates.
    ByOne-all c.loop-place.place-index c.args.places.now (λ i. GivesAs (clauses c.args.program.now) (members c.args.facts.now) level c.args.event.now initiates (law_at (laws c.args.program.now) i))
    (fluents_of initiates c.args.given.now) (fluents_of initiates c.loop-place.given) (omega arith) (c.loop-place.invariant level levels initiates)
