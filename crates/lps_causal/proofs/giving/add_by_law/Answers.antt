use Rattle.std.proofs.Common.{map}
use Rattle.lps_terms.specs.declared.values.Values.{Values}
use Rattle.lps_model.specs.Clauses.{clauses}
use Rattle.lps_facts.specs.Facts.{members}
use Rattle.lps_solve.proofs.Results.{OnOk-map}
use Rattle.lps_causal.specs.Given.{Adds, AddsBy, GivesAs, IsOfRowAs, fluents_of}
use Rattle.lps_causal.specs.Laws.{law_of}
use Rattle.lps_causal.proofs.Gaining.{Gains-same}
use Rattle.lps_causal.proofs.Rows.{fluents_given}
use Rattle.lps_causal.proofs.giving.add_by_law.Goals as goal

pub returns : goal.returns
returns c =
    let old = c.args.given.now in
    let new = c.add_rows.new.self in
    let law = law_of c.args.law.now in
    let rows = map (λ (v : Values). v.0) c.in_ok-rows.rows.items in
    OnOk-map c.add_rows.result (Adds old new (IsOfRowAs law.initiates law.fluent.name rows))
    (AddsBy (clauses c.args.program.now) old new (λ level initiates. GivesAs (clauses c.args.program.now) (members c.args.facts.now) level c.args.event.now initiates law))
    (λ adds level levels initiates.
    let same = fluents_given (clauses c.args.program.now) (members c.args.facts.now) level law c.args.event.now rows (c.in_ok-rows.ensures level levels) initiates in
    Gains-same (fluents_of initiates old) (fluents_of initiates new) (IsOfRowAs law.initiates law.fluent.name rows initiates)
    (GivesAs (clauses c.args.program.now) (members c.args.facts.now) level c.args.event.now initiates law) (λ a h. (same a).0 h) (λ a h. (same a).1 h) (adds initiates))
    c.add_rows.ensures
