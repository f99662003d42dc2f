-- How a stream is judged for a text: the batches of its lines, up to its end or the first line that is faulty.
use Rattle.std.specs.Prelude.{◌≡◌, ℕ, suc, ◌⊎◌, ◌==◌, List, [], ◌∷◌, ◌++◌, length, Option, Some, None, if◌then◌else◌}
use Rattle.std.specs.Option.{option_or}
use Rattle.lps_terms.specs.declared.atom.Atom.{Atom}
use Rattle.lps_terms.specs.declared.kind.Kind.{Kind}
use Rattle.lps_terms.specs.declared.kind.Kind.TheVariants as k
use Rattle.lps_terms.specs.declared.batch_kind.BatchKind.{BatchKind}
use Rattle.lps_terms.specs.declared.batch_kind.BatchKind.TheVariants.{Undeclared, WrongArity, NotExternal, Gap}
use Rattle.lps_terms.specs.declared.text.Text.{Text}
use Rattle.lps_model.specs.declared.batch.Batch.{Batch}
use Rattle.lps_model.specs.Declarations.{arity_among, kind_among}
use Rattle.lps_model.specs.Program.{declarations}
use Rattle.lps_batches.specs.declared.batch_bad.BatchBad.{BatchBad}
use Rattle.lps_batches.specs.Lines.{IsBadLine, IsBatchLine, IsPassed}

-- ---- one batch

-- the fault of an event of a kind
abbrev pub fault_of_kind : Kind → Option BatchKind
fault_of_kind k.Event = None
fault_of_kind other = Some NotExternal

-- the fault of an event with so many arguments whose name is declared with this kind and this number of arguments
abbrev pub fault_by : Option Kind → Option ℕ → ℕ → Option BatchKind
fault_by None arity count = Some Undeclared
fault_by (Some kind) None count = Some Undeclared
fault_by (Some kind) (Some arity) count = if arity == count then fault_of_kind kind else Some WrongArity

abbrev pub event_fault : Text → Atom → Option BatchKind
event_fault text event = fault_by (kind_among (declarations text) event.name) (arity_among (declarations text) event.name) (length event.args)

-- the fault of the first event that has one
abbrev pub events_fault : Text → List Atom → Option BatchKind
events_fault text [] = None
events_fault text (event ∷ events) = option_or (event_fault text event) (events_fault text events)

-- another number than that of the next cycle
abbrev pub number_fault : ℕ → ℕ → Option BatchKind
number_fault expected got = if got == expected then None else Some (Gap expected got)

-- the fault of a batch where this cycle is next
abbrev pub batch_fault : Text → ℕ → Batch → Option BatchKind
batch_fault text expected batch = option_or (events_fault text batch.events) (number_fault expected batch.number)

-- ---- one line

-- the line is the batch of this cycle
pub record IsBatchOf (text : Text) (cycle : ℕ) (line : List ℕ) (batch : Batch) : Type 0 where
  pub is : IsBatchLine line batch
  pub fits : batch_fault text cycle batch ≡ None

-- the line is a batch, but none of this cycle
pub record IsMisfit (text : Text) (cycle : ℕ) (line : List ℕ) (kind : BatchKind) : Type 0 where
  pub batch : Batch
  pub is : IsBatchLine line batch
  pub fault : batch_fault text cycle batch ≡ Some kind

-- the line is no batch of this cycle
abbrev pub IsFaulty : Text → ℕ → List ℕ → BatchKind → Type 0
IsFaulty text cycle line kind = IsBadLine line kind ⊎ IsMisfit text cycle line kind

-- some line is this batch
abbrev pub WasRead : Batch → Type 0
WasRead batch = (line : List ℕ) × IsBatchLine line batch

-- ---- a stream

-- Behind so many lines and cycles, these bytes are whole lines up to line `after`, and these are their batches.
pub data ArePassed (text : Text) : ℕ → ℕ → List ℕ → List (List Atom) → ℕ → Type 0 where
  none : {lines cycles : ℕ} → ArePassed text lines cycles [] [] lines
  passed : {lines cycles after : ℕ} {rest : List ℕ} {batches : List (List Atom)} (line : List ℕ) → IsPassed line →
      ArePassed text (suc lines) cycles rest batches after → ArePassed text lines cycles (line ++ 10 ∷ rest) batches after
  batch : {lines cycles after : ℕ} {rest : List ℕ} {batches : List (List Atom)} (line : List ℕ) (batch : Batch) → IsBatchOf text (suc cycles) line batch →
      ArePassed text (suc lines) (suc cycles) rest batches after → ArePassed text lines cycles (line ++ 10 ∷ rest) (batch.events ∷ batches) after

-- the bytes are so many whole lines, and these are their batches
abbrev pub AreWhole : Text → List ℕ → List (List Atom) → ℕ → Type 0
AreWhole text bytes batches lines = ArePassed text 0 0 bytes batches lines

-- A last line may lack its line feed. So one more line feed is thought at the end of a stream: it ends the last line, or it
-- ends an empty line, which is passed over.
abbrev pub ended : List ℕ → List ℕ
ended stream = stream ++ 10 ∷ []

-- these are the batches of the first lines of the stream
pub record HasFirst (text : Text) (stream : List ℕ) (batches : List (List Atom)) : Type 0 where
  pub front : List ℕ
  pub rest : List ℕ
  pub split : ended stream ≡ front ++ rest
  pub lines : ℕ
  pub are : AreWhole text front batches lines

-- the same, and this line follows them
pub record HasNext (text : Text) (stream : List ℕ) (batches : List (List Atom)) (lines : ℕ) (line : List ℕ) : Type 0 where
  pub front : List ℕ
  pub rest : List ℕ
  pub split : ended stream ≡ front ++ (line ++ 10 ∷ rest)
  pub are : AreWhole text front batches lines

-- no line of the stream is faulty, and these are its batches
abbrev pub IsSound : Text → List ℕ → List (List Atom) → Type 0
IsSound text stream batches = (lines : ℕ) × AreWhole text (ended stream) batches lines

-- this is the first faulty line of the stream, and these are the batches of the lines before it
pub record IsFirstFaulty (text : Text) (stream : List ℕ) (batches : List (List Atom)) (faulty : BatchBad) : Type 0 where
  pub line : List ℕ
  pub lines : ℕ
  pub next : HasNext text stream batches lines line
  pub place : faulty.line ≡ suc lines
  pub is : IsFaulty text (suc (length batches)) line faulty.kind

-- the line that follows these batches is the batch of the cycle after them
pub record GoesOn (text : Text) (stream : List ℕ) (batches : List (List Atom)) : Type 0 where
  pub line : List ℕ
  pub lines : ℕ
  pub next : HasNext text stream batches lines line
  pub batch : Batch
  pub is : IsBatchOf text (suc (length batches)) line batch
