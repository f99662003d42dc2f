use Rattle.std.proofs.Common.{◌≡◌, ◌∙◌, [], List, ℕ, refl, sym, ap, subst}
use Rattle.std.specs.Prelude.{Contains}
use Rattle.lps_terms.specs.declared.atom.Atom.{Atom}
use Rattle.lps_terms.specs.declared.text.Text.{Text}
use Rattle.lps_model.specs.declared.trace.Trace.{Trace}
use Rattle.lps_model.specs.Acceptance.{IsAccepted}
use Rattle.lps_model.specs.Clauses.{clauses}
use Rattle.lps_model.specs.Formed.{is_formed}
use Rattle.lps_model.specs.Run.{AreInitial, first_trace}
use Rattle.lps_derivation.specs.Levels.{AreLevels}
use Rattle.lps_facts.specs.Facts.{members}
use Rattle.lps_meeting.specs.Stages.{IsStateOf}
use Rattle.lps_limits.specs.declared.full.Full.{Full}
use Rattle.lps_limits.specs.Limits.{AreCounts, IsExcess}
use Rattle.lps_cycle.specs.Engine.{Stands}
use Rattle.lps_cycle.specs.Making.{failed_among, sizes_of}
use Rattle.lps_cycle.specs.Round.{RoundState}
use Rattle.lps_cycle.proofs.Standing.{begins_here, carries_first, engine_with, first_of_some, is_full, stands_first}
use Rattle.lps_cycle.proofs.engine.Engine.start.Goals as goal

pub start-requires-clause-ground : goal.start-requires-clause-ground
start-requires-clause-ground c a there =
    let same : members c.state.result.now ≡ c.deref.result.now.facts = c.state.ensures ∙ ap (λ (r : RoundState). r.facts) (c.deref-4.ensures ∙ sym c.deref.ensures) in
    (c.lawful.ensures.facts.each a (subst (λ (fs : List Atom). Contains fs a) same there)).ground

pub start-requires-clause-some : goal.start-requires-clause-some
start-requires-clause-some c =
    let round = c.in_ok-round.round.value in
    let there : c.program-2.result.now ≡ c.args.text = c.program-2.ensures ∙ ap (λ (r : RoundState). r.text) c.deref-3.ensures ∙ c.in_ok-round.ensures.text in
    let lawful : c.program.result.now ≡ c.args.text = c.program.ensures ∙ ap (λ (r : RoundState). r.text) c.deref-2.ensures ∙ c.in_ok-round.ensures.text in
    let same : members c.state.result.now ≡ round.facts = c.state.ensures ∙ ap (λ (r : RoundState). r.facts) c.deref-4.ensures in
    subst (λ (t : Text). (level : List ℕ → ℕ) × AreLevels (clauses t) level × (trace : Trace) × IsStateOf t level trace 0 (members c.state.result.now)) (sym there)
    (first_of_some c.args.text (subst IsAccepted lawful c.lawful-2.ensures.accepted) (ap is_formed (sym lawful) ∙ c.lawful-2.ensures.formed) (members c.state.result.now)
    (subst (AreInitial c.args.text) (sym same) c.in_ok-round.ensures.facts))

pub returns-clause-stands : goal.returns-clause-stands
returns-clause-stands c =
    let round = c.in_ok-round.round.value in
    let agenda = c.in_ok-agenda.agenda in
    let created = c.in_ok-agenda.told.created.items in
    let closed = c.in_ok-agenda.told.closed.items in
    let there : c.program-2.result.now ≡ c.args.text = c.program-2.ensures ∙ ap (λ (r : RoundState). r.text) c.deref-3.ensures ∙ c.in_ok-round.ensures.text in
    let same : members c.state.result.now ≡ round.facts = c.state.ensures ∙ ap (λ (r : RoundState). r.facts) c.deref-4.ensures in
    let begins = begins_here c.args.text c.program-2.result.now round.facts (members c.state.result.now) agenda created closed there same c.in_ok-agenda.ensures.begins in
    let carries = carries_first c.args.text c.args.prefer c.args.keep round.facts agenda created closed c.requires.free c.in_ok-round.ensures.facts begins in
    let are : AreCounts c.in_ok-counts.counts (sizes_of round.facts agenda 0) = subst (λ (r : RoundState). AreCounts c.in_ok-counts.counts (sizes_of r.facts agenda 0)) c.deref-5.ensures c.in_ok-counts.ensures in
    let found = c.first_exceeded.ensures (sizes_of round.facts agenda 0) are in
    let failed : c.failed_in-failed.result ≡ failed_among closed = c.failed_in-failed.ensures ∙ ap failed_among c.as_slice.ensures.value in
    let stands = stands_first carries (subst (IsExcess c.args.keep (sizes_of round.facts agenda 0)) c.in_default.is found) in
    subst (λ (t : Text). Stands (engine_with t c.args.prefer c.args.keep round.facts 0 agenda created closed c.failed_in-failed.result 0) [] (first_trace round.facts)) (sym c.in_ok-round.ensures.text)
    (subst (λ (n : ℕ). Stands (engine_with c.args.text c.args.prefer c.args.keep round.facts 0 agenda created closed n 0) [] (first_trace round.facts)) (sym failed) stands)

pub returns-in-Some-clause-full : goal.returns-in-Some-clause-full
returns-in-Some-clause-full c =
    let round = c.in_ok-round.round.value in
    let agenda = c.in_ok-agenda.agenda in
    let created = c.in_ok-agenda.told.created.items in
    let closed = c.in_ok-agenda.told.closed.items in
    let there : c.program-2.result.now ≡ c.args.text = c.program-2.ensures ∙ ap (λ (r : RoundState). r.text) c.deref-3.ensures ∙ c.in_ok-round.ensures.text in
    let same : members c.state.result.now ≡ round.facts = c.state.ensures ∙ ap (λ (r : RoundState). r.facts) c.deref-4.ensures in
    let begins = begins_here c.args.text c.program-2.result.now round.facts (members c.state.result.now) agenda created closed there same c.in_ok-agenda.ensures.begins in
    let carries = carries_first c.args.text c.args.prefer c.args.keep round.facts agenda created closed c.requires.free c.in_ok-round.ensures.facts begins in
    let are : AreCounts c.in_ok-counts.counts (sizes_of round.facts agenda 0) = subst (λ (r : RoundState). AreCounts c.in_ok-counts.counts (sizes_of r.facts agenda 0)) c.deref-5.ensures c.in_ok-counts.ensures in
    let found = c.first_exceeded.ensures (sizes_of round.facts agenda 0) are in
    let full : Full = record { limit = c.in-Some.limit; cycle = 0; symbols = c.in-Some.symbols; tried = c.none-tried.result } in
    record {
      facts = round.facts;
      initial = c.in_ok-round.ensures.facts;
      cycle = refl;
      tried = c.none-tried.ensures;
      is = is_full carries full (subst (IsExcess c.args.keep (sizes_of round.facts agenda 0)) c.in-Some.is found);
    }
