-- The reader of a stream as contracts see it, and what each of its answers says.
use Rattle.std.specs.Prelude.{ℕ, suc, ◌+◌, ◌≡◌, ◌<◌, ◌⊎◌, true, List, [], ◌∷◌, ◌++◌, length, Option, Some, None, Result, Ok, Err}
use Rattle.std.specs.List.{list_all}
use Rattle.lps_terms.specs.declared.batch_kind.BatchKind.{BatchKind}
use Rattle.lps_terms.specs.declared.batch_kind.BatchKind.TheVariants as kind
use Rattle.lps_model.specs.declared.batch.Batch.{Batch}
use Rattle.lps_batches.specs.LookAhead.{is_no_feed}
use Rattle.lps_batches.specs.LinesAhead.{IsLine}
use Rattle.lps_batches.specs.Lines.{IsBadLine, IsBatchLine, IsPassed}
use Rattle.lps_batches.specs.declared.batch_bad.BatchBad.{BatchBad}

-- the bytes that were fed and not taken, how many lines were taken, and the bad line once it was met
pub record Reader : Type 0 where
  pub left : List ℕ
  pub lines : ℕ
  pub bad : Option BatchBad

-- these are so many whole lines that are passed over, with their line feeds
pub data Skipped : List ℕ → ℕ → Type 0 where
  none : Skipped [] 0
  line : {rest : List ℕ} {count : ℕ} (line : List ℕ) → IsPassed line → Skipped rest count → Skipped (line ++ 10 ∷ rest) (suc count)

-- no bad line was met, and behind so many lines that are passed over these bytes stand ahead
pub record Ahead (reader : Reader) (count : ℕ) (bytes : List ℕ) : Type 0 where
  pub fine : reader.bad ≡ None
  pub front : List ℕ
  pub skipped : Skipped front count
  pub split : reader.left ≡ front ++ bytes

-- a bad line stands at the front of these bytes: a whole one, or one that is too long already
pub data BeginsBad : List ℕ → BatchKind → Type 0 where
  whole : (line rest : List ℕ) (kind : BatchKind) → IsBadLine line kind → BeginsBad (line ++ 10 ∷ rest) kind
  long : (line rest : List ℕ) → list_all is_no_feed line ≡ true → 65536 < length line → BeginsBad (line ++ rest) kind.LineTooLong

-- ---- the next whole line

-- what is left is the beginning of a line
pub record NothingWhole (old new : Reader) : Type 0 where
  pub passed : ℕ
  pub ahead : Ahead old passed new.left
  pub part : IsLine new.left
  pub lines : new.lines ≡ old.lines + passed
  pub fine : new.bad ≡ None

-- the batch of the next whole line, which is taken
pub record TakesBatch (old : Reader) (batch : Batch) (new : Reader) : Type 0 where
  pub passed : ℕ
  pub line : List ℕ
  pub ahead : Ahead old passed (line ++ 10 ∷ new.left)
  pub is : IsBatchLine line batch
  pub lines : new.lines ≡ old.lines + passed + 1
  pub fine : new.bad ≡ None

-- the bad line is met here, and nothing is taken
pub record MeetsBad (old : Reader) (bad : BatchBad) (new : Reader) : Type 0 where
  pub passed : ℕ
  pub bytes : List ℕ
  pub ahead : Ahead old passed bytes
  pub begins : BeginsBad bytes bad.kind
  pub place : bad.line ≡ old.lines + passed + 1
  pub same : new ≡ record { left = old.left; lines = old.lines; bad = Some bad }

-- the bad line was met before, and nothing changes
abbrev pub MetBefore : Reader → BatchBad → Reader → Type 0
MetBefore old bad new = (old.bad ≡ Some bad) × (new ≡ old)

-- an answer while the stream may go on
abbrev pub Next : Reader → Option (Result Batch BatchBad) → Reader → Type 0
Next old None new = NothingWhole old new
Next old (Some (Ok batch)) new = TakesBatch old batch new
Next old (Some (Err bad)) new = MetBefore old bad new ⊎ MeetsBad old bad new

-- ---- the last line, which has no line feed

-- what is left is nothing, or a last line that is passed over
pub record NothingLeft (old new : Reader) : Type 0 where
  pub passed : ℕ
  pub line : List ℕ
  pub ahead : Ahead old passed line
  pub is : IsPassed line
  pub same : new ≡ record { left = []; lines = old.lines + passed; bad = None }

-- the batch of the last line, which is taken
pub record TakesLast (old : Reader) (batch : Batch) (new : Reader) : Type 0 where
  pub passed : ℕ
  pub line : List ℕ
  pub ahead : Ahead old passed line
  pub is : IsBatchLine line batch
  pub same : new ≡ record { left = []; lines = old.lines + passed + 1; bad = None }

-- the last line is bad, and nothing is taken
pub record MeetsBadLast (old : Reader) (bad : BatchBad) (new : Reader) : Type 0 where
  pub passed : ℕ
  pub line : List ℕ
  pub ahead : Ahead old passed line
  pub is : IsBadLine line bad.kind
  pub place : bad.line ≡ old.lines + passed + 1
  pub same : new ≡ record { left = old.left; lines = old.lines; bad = Some bad }

-- an answer when the stream has ended: that of the next whole line where there is one, and else that of the last line
abbrev pub Finish : Reader → Option (Result Batch BatchBad) → Reader → Type 0
Finish old None new = NothingLeft old new
Finish old (Some (Ok batch)) new = TakesBatch old batch new ⊎ TakesLast old batch new
Finish old (Some (Err bad)) new = (MetBefore old bad new ⊎ MeetsBad old bad new) ⊎ MeetsBadLast old bad new
