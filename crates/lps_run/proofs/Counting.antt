-- The whole reports of a text over a stream have the same counts.
use Rattle.std.proofs.Common.{◌≡◌, ◌∙◌, ℕ, List, Option, sym, subst}
use Rattle.lps_terms.specs.declared.atom.Atom.{Atom}
use Rattle.lps_terms.specs.declared.prefer.Prefer.TheVariants.{Oldest}
use Rattle.lps_terms.specs.declared.text.Text.{Text}
use Rattle.lps_model.specs.declared.trace.Trace.{Trace}
use Rattle.lps_model.specs.Clauses.{clauses}
use Rattle.lps_derivation.specs.Levels.{AreLevels}
use Rattle.lps_meaning.specs.declared.goal.Counts.{Counts}
use Rattle.lps_meaning.specs.Laws.{PlainRunsAreUnique}
use Rattle.lps_meaning.specs.Plain.{IsPlainRun}
use Rattle.lps_meaning.specs.Reports.{AreCounts}
use Rattle.lps_meaning.proofs.ReportLaws.{counts_unique}
use Rattle.lps_cycle.specs.Engine.{depth}
use Rattle.lps_outside.specs.Bytes.{Stream}
use Rattle.lps_run.specs.Stopping.{Reported}
use Rattle.lps_run.proofs.OneWay.{sound_one}

pub counted_one : PlainRunsAreUnique → (text : Text) (level : List ℕ → ℕ) → AreLevels (clauses text) level → (stream start other : List ℕ) (printed shown : Option (List ℕ)) (source ended : Option Stream) (a b : Counts) →
    Reported text stream start printed source a → Reported text stream other shown ended b → a ≡ b
counted_one unique text level levels stream start other printed shown source ended a b one two =
    let batches = sound_one text stream one.batches two.batches one.sound two.sound in
    let run = subst (λ (bs : List (List Atom)). IsPlainRun text level depth Oldest bs one.trace) batches (one.run.plain level levels) in
    let trace = unique text level depth Oldest two.batches one.trace two.trace run (two.run.plain level levels) in
    let x = one.reported level levels in
    let y = two.reported level levels in
    sym x.1 ∙ counts_unique text level depth two.trace x.0.counts y.0.counts (subst (λ (t : Trace). AreCounts text level depth t x.0.counts) trace x.0.are_counts) y.0.are_counts ∙ y.1
