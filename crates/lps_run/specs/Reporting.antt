-- What is reported of a run, by any levels of its text.
use Rattle.std.specs.Prelude.{◌≡◌, ℕ, suc, List, length}
use Rattle.lps_terms.specs.declared.text.Text.{Text}
use Rattle.lps_model.specs.declared.trace.Trace.{Trace}
use Rattle.lps_meaning.specs.declared.goal.Counts.{Counts}
use Rattle.lps_meaning.specs.Reports.{AreBlocks, AreCounts, IsReport, last_line}
use Rattle.lps_cycle.specs.Engine.{ByLevels, depth}

-- the bytes are the blocks of all cycles of the trace, from 0 on
abbrev pub AreAllBlocks : Text → Trace → List ℕ → Type 0
AreAllBlocks text trace bytes = ByLevels text (λ level. AreBlocks text level depth trace 0 (suc (length trace.cycles)) bytes)

-- so many goals of the trace are pending, have failed and are cut
abbrev pub AreCountsOf : Text → Trace → Counts → Type 0
AreCountsOf text trace counts = ByLevels text (λ level. AreCounts text level depth trace counts)

-- the bytes are the last line, which tells how many goals of the trace are not solved
abbrev pub IsLastLine : Text → Trace → List ℕ → Type 0
IsLastLine text trace bytes = ByLevels text (λ level. (counts : Counts) × AreCounts text level depth trace counts × (bytes ≡ last_line counts))

-- the bytes are the whole report of the trace, and these are the counts in its last line
abbrev pub IsWholeReport : Text → Trace → Counts → List ℕ → Type 0
IsWholeReport text trace counts bytes = ByLevels text (λ level. (report : IsReport text level depth trace 0 bytes) × (report.counts ≡ counts))
