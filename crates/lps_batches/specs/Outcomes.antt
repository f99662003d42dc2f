-- What is made of the bytes of a stream that were not yet taken, and what it makes of the reader.
use Rattle.std.specs.Prelude.{ℕ, ◌+◌, ◌≡◌, ◌≤◌, ◌⊎◌, List, [], ◌∷◌, ◌++◌, drop, Option, Some, None, Result, Ok, Err}
use Rattle.lps_model.specs.declared.batch.Batch.{Batch}
use Rattle.lps_batches.specs.LinesAhead.{IsLine}
use Rattle.lps_batches.specs.Lines.{IsBadLine, IsBatchLine, IsLineRead, IsPassed}
use Rattle.lps_batches.specs.Stream.{BeginsBad, Reader, Skipped}
use Rattle.lps_batches.specs.declared.batch_bad.BatchBad.{BatchBad}
use Rattle.lps_batches.specs.declared.outcome.Outcome.{Outcome}
use Rattle.lps_batches.specs.declared.outcome.Outcome.TheVariants as outcome

-- so many lines are passed over at the front of these bytes, and then these follow
pub record Behind (bytes : List ℕ) (lines : ℕ) (rest : List ℕ) : Type 0 where
  pub front : List ℕ
  pub skipped : Skipped front lines
  pub split : bytes ≡ front ++ rest

-- while the stream may go on
abbrev pub IsOutcome : List ℕ → Outcome → Type 0
IsOutcome bytes (outcome.Passed lines count) = Behind bytes lines (drop count bytes) × IsLine (drop count bytes)
IsOutcome bytes (outcome.Taken lines count batch) = (line : List ℕ) × Behind bytes lines (line ++ 10 ∷ drop count bytes) × IsBatchLine line batch
IsOutcome bytes (outcome.Refused lines kind) = (rest : List ℕ) × Behind bytes lines rest × BeginsBad rest kind

-- not only lines that are passed over
abbrev pub IsWhole : Outcome → Type 0
IsWhole (outcome.Passed lines count) = ⊥
IsWhole other = Unit {0}

-- where the stream has ended, and no whole line is left but those that are passed over
abbrev pub IsLastOutcome : List ℕ → Outcome → Type 0
IsLastOutcome bytes (outcome.Passed lines count) = (line : List ℕ) × Behind bytes lines line × IsPassed line × (drop count bytes ≡ [])
IsLastOutcome bytes (outcome.Taken lines count batch) = (line : List ℕ) × Behind bytes lines line × IsBatchLine line batch × (drop count bytes ≡ [])
IsLastOutcome bytes (outcome.Refused lines kind) = (line : List ℕ) × Behind bytes lines line × IsBadLine line kind

-- where the stream has ended: as while it may go on, if a whole line is left or one that is too long
abbrev pub IsEndOutcome : List ℕ → Outcome → Type 0
IsEndOutcome bytes (outcome.Passed lines count) = IsLastOutcome bytes (outcome.Passed lines count)
IsEndOutcome bytes other = IsOutcome bytes other ⊎ IsLastOutcome bytes other

-- the line is read as this batch, which takes so many lines and bytes, or refused
abbrev pub IsReadAs : List ℕ → ℕ → ℕ → Outcome → Type 0
IsReadAs line lines bytes (outcome.Passed passed count) = ⊥
IsReadAs line lines bytes (outcome.Taken passed count batch) = (passed ≡ lines) × (count ≡ bytes) × IsLineRead line (Ok batch)
IsReadAs line lines bytes (outcome.Refused passed kind) = (passed ≡ lines) × IsLineRead line (Err kind)

-- there are no more lines and bytes than so many bytes, nor together more than were there
abbrev pub FitsIn : ℕ → Outcome → Type 0
FitsIn size (outcome.Passed lines count) = (lines ≤ count) × (count ≤ size)
FitsIn size (outcome.Taken lines count batch) = (lines + 1 ≤ count) × (count ≤ size)
FitsIn size (outcome.Refused lines kind) = lines ≤ size

-- what it makes of a reader that met no bad line, and what is answered
abbrev pub Settles : Reader → Outcome → Option (Result Batch BatchBad) → Reader → Type 0
Settles old (outcome.Passed lines count) answer new = (answer ≡ None) × (new ≡ record { left = drop count old.left; lines = old.lines + lines; bad = None })
Settles old (outcome.Taken lines count batch) answer new = (answer ≡ Some (Ok batch)) × (new ≡ record { left = drop count old.left; lines = old.lines + lines + 1; bad = None })
Settles old (outcome.Refused lines kind) answer new =
    (answer ≡ Some (Err (record { line = old.lines + lines + 1; kind = kind })))
    × (new ≡ record { left = old.left; lines = old.lines; bad = Some (record { line = old.lines + lines + 1; kind = kind }) })
