use Rattle.std.proofs.Common.{ℕ, Bool, ◌++◌, List, subst, arith}
use Rattle.std.specs.Prelude.{Contains}
use Rattle.std.proofs.lemmas.List.Elements.{Contains-append_left, Contains-append_right}
use Rattle.lps_terms.specs.declared.text.Text.{Text}
use Rattle.lps_index.specs.Spoken.{AreFound, of_law}
use Rattle.lps_model.specs.Clauses.{clauses}
use Rattle.lps_model.specs.Program.{laws}
use Rattle.lps_facts.specs.Facts.{members}
use Rattle.lps_solve.proofs.Results.{OnOk-map}
use Rattle.lps_causal.specs.Given.{AddsBy, ByOne, GivesAs, fluents_of}
use Rattle.lps_causal.specs.Laws.{law_at}
use Rattle.lps_causal.proofs.Causing.{found_named, large_gives_none, places_give}
use Rattle.lps_causal.proofs.Gaining.{ByOne-both, Gains-none, Gains-same}
use Rattle.lps_causal.proofs.causal_laws.CausalLaws.add_by_event.Goals as goal

pub returns-then-atom_symbols-gt-MOST_SYMBOLS : goal.returns-then-atom_symbols-gt-MOST_SYMBOLS
returns-then-atom_symbols-gt-MOST_SYMBOLS c = λ level levels initiates.
    Gains-none (fluents_of initiates c.args.given.now) (ByOne (laws c.args.program.now) (GivesAs (clauses c.args.program.now) (members c.args.facts.now) level c.args.event.now initiates))
    (λ a one. large_gives_none (clauses c.args.program.now) (members c.args.facts.now) level c.args.event.now (laws c.args.program.now) (let large = c.if-atom_symbols-gt-MOST_SYMBOLS.true in omega (arith, large, c.atom_symbols.ensures)) initiates a one)

pub add_by_laws-requires-clause-places : goal.add_by_laws-requires-clause-places
add_by_laws-requires-clause-places c = λ i h.
    found_named c.args.program.now c.args.event.now c.requires.event (c.laws_for-found.result.keyed.now ++ c.laws_for-found.result.others.now) (subst (λ (t : Text). AreFound of_law (laws t) c.args.event.now (c.laws_for-found.result.keyed.now ++ c.laws_for-found.result.others.now)) c.index.ensures c.laws_for-found.ensures) i
    (Contains-append_left c.laws_for-found.result.keyed.now c.laws_for-found.result.others.now i h)

pub add_by_laws-requires-2-clause-places : goal.add_by_laws-requires-2-clause-places
add_by_laws-requires-2-clause-places c = λ i h.
    found_named c.args.program.now c.args.event.now c.requires.event (c.laws_for-found.result.keyed.now ++ c.laws_for-found.result.others.now) (subst (λ (t : Text). AreFound of_law (laws t) c.args.event.now (c.laws_for-found.result.keyed.now ++ c.laws_for-found.result.others.now)) c.index.ensures c.laws_for-found.ensures) i
    (Contains-append_right c.laws_for-found.result.keyed.now c.laws_for-found.result.others.now i h)

pub returns : goal.returns
returns c =
    let text = c.args.program.now in
    let keyed = c.laws_for-found.result.keyed.now in
    let others = c.laws_for-found.result.others.now in
    let old = c.args.given.now in
    let mid = c.add_by_laws.new.given in
    let new = c.add_by_laws-2.new.given in
    let At = λ (level : List ℕ → ℕ) (initiates : Bool) (i : ℕ). GivesAs (clauses text) (members c.args.facts.now) level c.args.event.now initiates (law_at (laws text) i) in
    OnOk-map c.add_by_laws-2.result (AddsBy (clauses text) mid new (λ level initiates. ByOne others (At level initiates)))
    (AddsBy (clauses text) old new (λ level initiates. ByOne (laws text) (GivesAs (clauses text) (members c.args.facts.now) level c.args.event.now initiates)))
    (λ second level levels initiates.
    let same = places_give text c.args.event.now c.requires.event (keyed ++ others) (subst (λ (t : Text). AreFound of_law (laws t) c.args.event.now (c.laws_for-found.result.keyed.now ++ c.laws_for-found.result.others.now)) c.index.ensures c.laws_for-found.ensures) level (members c.args.facts.now) initiates in
    Gains-same (fluents_of initiates old) (fluents_of initiates new) (ByOne (keyed ++ others) (At level initiates))
    (ByOne (laws text) (GivesAs (clauses text) (members c.args.facts.now) level c.args.event.now initiates)) (λ a h. (same a).0 h) (λ a h. (same a).1 h)
    (ByOne-both keyed others (At level initiates) (fluents_of initiates old) (fluents_of initiates mid) (fluents_of initiates new) (c.in_ok-add_by_laws.ensures level levels initiates) (second level levels initiates)))
    c.add_by_laws-2.ensures
