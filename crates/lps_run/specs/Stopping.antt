-- How a run ends, and what is printed then.
use Rattle.std.specs.Prelude.{◌≡◌, ◌⊎◌, ℕ, ◌+◌, ◌^◌, ◌<◌, ◌≤◌, suc, List, [], ◌++◌, length, Option, Some, Result, Ok, Err}
use Rattle.lps_terms.specs.declared.atom.Atom.{Atom}
use Rattle.lps_terms.specs.declared.prefer.Prefer.TheVariants.{Oldest}
use Rattle.lps_terms.specs.declared.text.Text.{Text}
use Rattle.lps_model.specs.declared.trace.Trace.{Trace}
use Rattle.lps_meaning.specs.declared.goal.Counts.{Counts}
use Rattle.lps_cycle.specs.declared.error.EngineError.{EngineError}
use Rattle.lps_cycle.specs.declared.error.EngineError.TheVariants as error
use Rattle.lps_cycle.specs.Engine.{IsFullFirst, IsFullNext, IsRunOver, IsWithinAll}
use Rattle.lps_limits.specs.declared.full.Full.{Full as Fullness}
use Rattle.lps_batches.specs.declared.batch_bad.BatchBad.{BatchBad}
use Rattle.lps_batches.specs.LinesAhead.{IsLine}
use Rattle.lps_outside.specs.Bytes.{IsFront, Stream}
use Rattle.lps_outside.specs.Causes.{Rose}
use Rattle.lps_run.specs.declared.stop.Stop.{Stop}
use Rattle.lps_run.specs.declared.stop.Stop.TheVariants.{NoMemory, Refused, CycleLimit, Full, StreamLimit, EventFault, PrintFault}
use Rattle.lps_run.specs.Judged.{AreWhole, GoesOn, HasFirst, IsFirstFaulty, IsSound}
use Rattle.lps_run.specs.Reporting.{AreAllBlocks, IsLastLine, IsWholeReport}

-- how many symbols may be kept
abbrev pub kept_by_default : ℕ
kept_by_default = 1000000

-- the trace is the run over these batches in which the oldest goals are preferred, and no limit is exceeded on the way
pub record IsRun (text : Text) (batches : List (List Atom)) (trace : Trace) : Type 0 where
  pub plain : IsRunOver text Oldest batches trace
  pub within : IsWithinAll text kept_by_default trace

-- what was printed since `start` are exactly the blocks of the run over these batches
pub record PrintsBlocks (text : Text) (batches : List (List Atom)) (start : List ℕ) (printed : Option (List ℕ)) : Type 0 where
  pub trace : Trace
  pub run : IsRun text batches trace
  pub blocks : List ℕ
  pub reported : AreAllBlocks text trace blocks
  pub told : printed ≡ Some (start ++ blocks)

-- what follows the blocks of the run over these batches: nothing, or the last line where the batches are all of the
-- stream and no line of it is faulty
abbrev pub MayEnd : Text → List ℕ → List (List Atom) → Trace → List ℕ → Type 0
MayEnd text stream batches trace ending = (ending ≡ []) ⊎ (IsLastLine text trace ending × IsSound text stream batches)

-- what was printed since `start` is a front of the report of the run over the first batches of the stream
pub record PrintsRunFront (text : Text) (stream start : List ℕ) (printed : Option (List ℕ)) : Type 0 where
  pub batches : List (List Atom)
  pub first : HasFirst text stream batches
  pub trace : Trace
  pub run : IsRun text batches trace
  pub blocks : List ℕ
  pub reported : AreAllBlocks text trace blocks
  pub ending : List ℕ
  pub may_end : MayEnd text stream batches trace ending
  pub front : List ℕ
  pub is_front : IsFront front (blocks ++ ending)
  pub told : printed ≡ Some (start ++ front)

-- what was printed since `start` is a front of the report: nothing yet, or a front of that of the first batches
abbrev pub PrintsFront : Text → List ℕ → List ℕ → Option (List ℕ) → Type 0
PrintsFront text stream start printed = (printed ≡ Some start) ⊎ PrintsRunFront text stream start printed

-- The whole report of the run over the batches of the stream was printed since `start`, with these counts in its last line. The
-- stream was read to its end, and no line of it is faulty.
pub record Reported (text : Text) (stream start : List ℕ) (printed : Option (List ℕ)) (source : Option Stream) (counts : Counts) : Type 0 where
  pub after : Stream
  pub known : source ≡ Some after
  pub ended : after.left ≡ []
  pub batches : List (List Atom)
  pub sound : IsSound text stream batches
  pub trace : Trace
  pub run : IsRun text batches trace
  pub report : List ℕ
  pub reported : IsWholeReport text trace counts report
  pub told : printed ≡ Some (start ++ report)

-- The run ended at a read that took the bytes `last`. The bytes taken before are whole lines and the beginning of one. What
-- was printed since `start` are exactly the blocks of the run over the batches of these lines.
pub record EndsAtRead (text : Text) (stream start : List ℕ) (printed : Option (List ℕ)) (source : Option Stream) (last : List ℕ) : Type 0 where
  pub whole : List ℕ
  pub part : List ℕ
  pub rest : List ℕ
  pub split : stream ≡ (whole ++ part) ++ (last ++ rest)
  pub known : source ≡ Some (record { left = rest; took = length last })
  pub batches : List (List Atom)
  pub lines : ℕ
  pub are : AreWhole text whole batches lines
  pub unended : IsLine part
  pub prints : PrintsBlocks text batches start printed

-- the run ended at the first faulty line
pub record EndsAtLine (text : Text) (stream start : List ℕ) (printed : Option (List ℕ)) (faulty : BatchBad) : Type 0 where
  pub batches : List (List Atom)
  pub is : IsFirstFaulty text stream batches faulty
  pub prints : PrintsBlocks text batches start printed

-- the run has as many cycles as a run may have, and the next line is one more batch
pub record EndsAtLimit (text : Text) (stream start : List ℕ) (printed : Option (List ℕ)) : Type 0 where
  pub batches : List (List Atom)
  pub full : length batches ≡ 1000000
  pub goes_on : GoesOn text stream batches
  pub prints : PrintsBlocks text batches start printed

-- A limit is exceeded with the cycle of the next batch, which is the one that was tried. What was printed since `start` are exactly the
-- blocks of the run over the batches before.
pub record EndsFullNext (text : Text) (stream start : List ℕ) (printed : Option (List ℕ)) (full : Fullness) : Type 0 where
  pub batches : List (List Atom)
  pub goes_on : GoesOn text stream batches
  pub cycle : full.cycle ≡ suc (length batches)
  pub events : full.tried.events ≡ goes_on.batch.events
  pub prints : PrintsBlocks text batches start printed
  pub next : IsFullNext text Oldest kept_by_default batches prints.trace full

-- a limit is exceeded before any cycle, and nothing is printed, or it is exceeded with the cycle of the next batch
abbrev pub EndsFull : Text → List ℕ → List ℕ → Option (List ℕ) → Fullness → Type 0
EndsFull text stream start printed full = (IsFullFirst text kept_by_default full × (printed ≡ Some start)) ⊎ EndsFullNext text stream start printed full

-- why a run ended that was not begun or did not go on
abbrev pub stop_by : EngineError → Stop
stop_by error.NoMemory = NoMemory
stop_by (error.Full full) = Full full

-- why a run is not begun
abbrev pub StopsFirst : Text → Stop → Type 0
StopsFirst text NoMemory = Unit {0}
StopsFirst text (Full full) = IsFullFirst text kept_by_default full
StopsFirst text other = ⊥

-- how a run stands that ended early
abbrev pub Stopped : Text → List ℕ → List ℕ → Option (List ℕ) → Option Stream → Stop → Type 0
Stopped text stream start printed source NoMemory = PrintsFront text stream start printed
Stopped text stream start printed source (Refused faulty) = EndsAtLine text stream start printed faulty
Stopped text stream start printed source CycleLimit = EndsAtLimit text stream start printed
Stopped text stream start printed source (Full full) = EndsFull text stream start printed full
Stopped text stream start printed source StreamLimit = (last : List ℕ) × EndsAtRead text stream start printed source last
Stopped text stream start printed source EventFault = EndsAtRead text stream start printed source []
Stopped text stream start printed source PrintFault = PrintsFront text stream start printed

-- the run was not stopped by a read
abbrev pub StopsAtLine : Stop → Type 0
StopsAtLine NoMemory = Unit {0}
StopsAtLine (Refused faulty) = Unit {0}
StopsAtLine CycleLimit = Unit {0}
StopsAtLine (Full full) = Unit {0}
StopsAtLine PrintFault = Unit {0}
StopsAtLine StreamLimit = ⊥
StopsAtLine EventFault = ⊥

-- how the counts of faults stand where a run ended early: of the source, and of the desk
abbrev pub CountedAt : Stop → ℕ → ℕ → ℕ → ℕ → Type 0
CountedAt EventFault reads reads' prints prints' = Rose reads reads' × (prints' ≡ prints)
CountedAt PrintFault reads reads' prints prints' = (reads' ≡ reads) × Rose prints prints'
CountedAt NoMemory reads reads' prints prints' = (reads' ≡ reads) × (prints' ≡ prints)
CountedAt (Refused faulty) reads reads' prints prints' = (reads' ≡ reads) × (prints' ≡ prints)
CountedAt (Full full) reads reads' prints prints' = (reads' ≡ reads) × (prints' ≡ prints)
CountedAt CycleLimit reads reads' prints prints' = (reads' ≡ reads) × (prints' ≡ prints)
CountedAt StreamLimit reads reads' prints prints' = (reads' ≡ reads) × (prints' ≡ prints)

abbrev pub Counted : {T : Type 0} → Result T Stop → ℕ → ℕ → ℕ → ℕ → Type 0
Counted (Ok x) reads reads' prints prints' = (reads' ≡ reads) × (prints' ≡ prints)
Counted (Err stop) reads reads' prints prints' = CountedAt stop reads reads' prints prints'

-- more bytes were taken than a stream may have exactly where this is the answer; `taken` were taken before
abbrev pub LimitAt : ℕ → ℕ → ℕ → Stop → Type 0
LimitAt taken before after StreamLimit = 2 ^ 36 + after < taken + before
LimitAt taken before after _ = taken + before ≤ 2 ^ 36 + after

abbrev pub LimitIs : {T : Type 0} → ℕ → ℕ → ℕ → Result T Stop → Type 0
LimitIs taken before after (Ok x) = taken + before ≤ 2 ^ 36 + after
LimitIs taken before after (Err stop) = LimitAt taken before after stop

-- at `Ok` so many bytes were taken, and none only at the end
abbrev pub TakesCount : ℕ → ℕ → Result ℕ Stop → Type 0
TakesCount before after (Ok count) = (before ≡ count + after) × (count ≡ 0 → after ≡ 0)
TakesCount before after (Err stop) = Unit {0}

-- what a read did to the source
pub record TakesWithin (taken : ℕ) (before : Stream) (result : Result ℕ Stop) (source : Option Stream) : Type 0 where
  pub after : Stream
  pub known : source ≡ Some after
  pub limit : LimitIs taken (length before.left) (length after.left) result
  pub count : TakesCount (length before.left) (length after.left) result

-- the source tells its bytes, and more were taken than a stream may have exactly where this is the answer
pub record KeepsLimit {T : Type 0} (before : Stream) (result : Result T Stop) (source : Option Stream) : Type 0 where
  pub after : Stream
  pub known : source ≡ Some after
  pub limit : LimitIs 0 (length before.left) (length after.left) result
