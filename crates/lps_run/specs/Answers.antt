-- The answers of the top call.
use Rattle.std.specs.Prelude.{◌≡◌, ◌⊎◌, ◌&&◌, ℕ, Bool, List, [], ◌++◌, Option, Some, None, Result, Ok, Err, if◌then◌else◌, nat_eq}
use Rattle.lps_terms.specs.declared.refused.Refused.{Refused}
use Rattle.lps_terms.specs.declared.text.Text.{Text}
use Rattle.lps_terms.specs.declared.text_refused.TextRefused.{TextRefused as Reason}
use Rattle.lps_terms.specs.declared.text_refused.TextRefused.TheVariants as reason
use Rattle.lps_model.specs.Acceptance.{IsAccepted, IsRefusedFor}
use Rattle.lps_meaning.specs.declared.goal.Counts.{Counts}
use Rattle.lps_reader.specs.Refusals.{IsRefusal}
use Rattle.lps_printer.specs.Statements.{canonical}
use Rattle.lps_reader.specs.Texts.{IsTextOf}
use Rattle.lps_outside.specs.Bytes.{IsFront, Stream}
use Rattle.lps_outside.specs.Causes.{Rose}
use Rattle.lps_run.specs.Built.{not_built}
use Rattle.lps_run.specs.Stopping.{PrintsFront, Reported, EndsAtLimit, EndsAtLine, EndsAtRead, EndsFull}
use Rattle.lps_run.specs.declared.stop.Stop.{Stop}
use Rattle.lps_run.specs.declared.stop.Stop.TheVariants as stops
use Rattle.lps_run.specs.declared.answer.Answer.{Answer}
use Rattle.lps_run.specs.declared.answer.Answer.TheVariants.{Done, Unfinished, Checked, Usage, TextRefused, BatchRefused, CycleLimit, Full, StreamLimit, TextFault, EventFault, PrintFault, NoMemory}

-- the exit code
abbrev pub code_of : Answer → ℕ
code_of Done = 0
code_of Checked = 0
code_of (Unfinished counts) = 1
code_of (Usage kind) = 2
code_of (TextRefused reason) = 3
code_of (BatchRefused line kind) = 4
code_of CycleLimit = 6
code_of (Full full) = 6
code_of StreamLimit = 6
code_of TextFault = 7
code_of EventFault = 7
code_of PrintFault = 7
code_of NoMemory = 8

-- no goal is pending, failed or cut
abbrev pub none_open : Counts
none_open = record { pending = 0; failed = 0; cut = 0 }

abbrev pub is_none_open : Counts → Bool
is_none_open counts = nat_eq counts.pending 0 && nat_eq counts.failed 0 && nat_eq counts.cut 0

-- the answer for a whole report with these counts
abbrev pub answer_with : Counts → Answer
answer_with counts = if is_none_open counts then Done else Unfinished counts

-- the answer for the end of a run
abbrev pub answer_to : Result Counts Stop → Answer
answer_to (Ok counts) = answer_with counts
answer_to (Err stops.NoMemory) = NoMemory
answer_to (Err (stops.Refused faulty)) = BatchRefused faulty.line faulty.kind
answer_to (Err stops.CycleLimit) = CycleLimit
answer_to (Err (stops.Full full)) = Full full
answer_to (Err stops.StreamLimit) = StreamLimit
answer_to (Err stops.EventFault) = EventFault
answer_to (Err stops.PrintFault) = PrintFault

-- the bytes are this text, and it is accepted
abbrev pub IsAcceptedText : List ℕ → Text → Type 0
IsAcceptedText all text = IsTextOf all text × IsAccepted text

-- the bytes are a text that is refused for this
abbrev pub IsRefusedText : List ℕ → Refused → Type 0
IsRefusedText all refused = (text : Text) × IsTextOf all text × IsRefusedFor text refused

-- the bytes are this text, which is accepted, and it is run
abbrev pub IsRunText : List ℕ → Text → Type 0
IsRunText all text = IsAcceptedText all text × (not_built text ≡ None)

-- why the bytes are no text that is run: they are no text, or one that is not accepted, or a statement of it is not run
abbrev pub IsRefusedRun : List ℕ → Reason → Type 0
IsRefusedRun all (reason.Read refusal) = IsRefusal all refusal
IsRefusedRun all (reason.NotAccepted refused) = IsRefusedText all refused
IsRefusedRun all (reason.NotBuilt line) = (text : Text) × IsAcceptedText all text × (not_built text ≡ Some line)

-- the whole report of a run of the text over the stream is printed, with these counts in its last line
abbrev pub AnsweredWhole : List ℕ → List ℕ → List ℕ → Option (List ℕ) → Option Stream → Counts → Type 0
AnsweredWhole all stream start printed source counts = (text : Text) × IsRunText all text × Reported text stream start printed source counts

-- What each answer of a run says of the bytes of a text, of the bytes of a stream, of what was printed since `start`, and of
-- what is left of the stream.
abbrev pub Answered : List ℕ → List ℕ → List ℕ → Option (List ℕ) → Option Stream → Answer → Type 0
Answered all stream start printed source Done = AnsweredWhole all stream start printed source none_open
Answered all stream start printed source (Unfinished counts) = AnsweredWhole all stream start printed source counts × (counts ≡ none_open → ⊥)
Answered all stream start printed source Checked = ⊥
Answered all stream start printed source (Usage kind) = ⊥
Answered all stream start printed source (TextRefused reason) = IsRefusedRun all reason × (printed ≡ Some start)
Answered all stream start printed source (BatchRefused line kind) = (text : Text) × IsRunText all text × EndsAtLine text stream start printed (record { line = line; kind = kind })
Answered all stream start printed source CycleLimit = (text : Text) × IsRunText all text × EndsAtLimit text stream start printed
Answered all stream start printed source (Full full) = (text : Text) × IsRunText all text × EndsFull text stream start printed full
Answered all stream start printed source StreamLimit = (text : Text) × IsRunText all text × (last : List ℕ) × EndsAtRead text stream start printed source last
Answered all stream start printed source TextFault = printed ≡ Some start
Answered all stream start printed source EventFault = (text : Text) × IsRunText all text × EndsAtRead text stream start printed source []
Answered all stream start printed source PrintFault = (text : Text) × IsRunText all text × PrintsFront text stream start printed
Answered all stream start printed source NoMemory = (printed ≡ Some start) ⊎ ((text : Text) × IsRunText all text × PrintsFront text stream start printed)

-- a front of the canonical text was printed since `start`
abbrev pub PrintsTextFront : List ℕ → List ℕ → Option (List ℕ) → Type 0
PrintsTextFront all start printed = (text : Text) × IsAcceptedText all text × (front : List ℕ) × IsFront front (canonical text) × (printed ≡ Some (start ++ front))

-- what each answer of a check says of the bytes of a text and of what was printed since `start`
abbrev pub AnsweredCheck : List ℕ → List ℕ → Option (List ℕ) → Answer → Type 0
AnsweredCheck all start printed Checked = (text : Text) × IsAcceptedText all text × (printed ≡ Some (start ++ canonical text))
AnsweredCheck all start printed (TextRefused (reason.Read refusal)) = IsRefusal all refusal × (printed ≡ Some start)
AnsweredCheck all start printed (TextRefused (reason.NotAccepted refused)) = IsRefusedText all refused × (printed ≡ Some start)
AnsweredCheck all start printed TextFault = printed ≡ Some start
AnsweredCheck all start printed PrintFault = PrintsTextFront all start printed
AnsweredCheck all start printed NoMemory = printed ≡ Some start
AnsweredCheck all start printed other = ⊥

-- no count of faults rose: of the texts, of the source, and of the desk
abbrev pub NoneRose : ℕ → ℕ → ℕ → ℕ → ℕ → ℕ → Type 0
NoneRose texts texts' reads reads' prints prints' = (texts' ≡ texts) × (reads' ≡ reads) × (prints' ≡ prints)

-- a fault comes only where its count rose, and each other answer only where no count did
abbrev pub Caused : Answer → ℕ → ℕ → ℕ → ℕ → ℕ → ℕ → Type 0
Caused TextFault texts texts' reads reads' prints prints' = Rose texts texts' × (reads' ≡ reads) × (prints' ≡ prints)
Caused EventFault texts texts' reads reads' prints prints' = (texts' ≡ texts) × Rose reads reads' × (prints' ≡ prints)
Caused PrintFault texts texts' reads reads' prints prints' = (texts' ≡ texts) × (reads' ≡ reads) × Rose prints prints'
Caused other texts texts' reads reads' prints prints' = NoneRose texts texts' reads reads' prints prints'

-- the answers for a text that was not read, or not accepted
abbrev pub EndsBeforeRun : Answer → Type 0
EndsBeforeRun (TextRefused reason) = Unit {0}
EndsBeforeRun TextFault = Unit {0}
EndsBeforeRun NoMemory = Unit {0}
EndsBeforeRun other = ⊥

-- why a text was not read, or not accepted
abbrev pub RefusedAs : List ℕ → Answer → Type 0
RefusedAs all (TextRefused (reason.Read refusal)) = IsRefusal all refusal
RefusedAs all (TextRefused (reason.NotAccepted refused)) = IsRefusedText all refused
RefusedAs all TextFault = Unit {0}
RefusedAs all NoMemory = Unit {0}
RefusedAs all other = ⊥

-- the answers at which nothing was printed
abbrev pub IsSilent : Answer → Type 0
IsSilent (Usage kind) = Unit {0}
IsSilent (TextRefused reason) = Unit {0}
IsSilent TextFault = Unit {0}
IsSilent other = ⊥

-- the answer is not about the words
abbrev pub IsNoUsage : Answer → Type 0
IsNoUsage (Usage kind) = ⊥
IsNoUsage other = Unit {0}
