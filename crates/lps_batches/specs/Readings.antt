-- What a whole stream is read as, and what calls of a reader have come to.
use Rattle.std.specs.Prelude.{ℕ, suc, ◌≡◌, List, [], ◌∷◌, ◌++◌, Option, Some, None, Ok, Err}
use Rattle.lps_terms.specs.declared.batch_kind.BatchKind.{BatchKind}
use Rattle.lps_model.specs.declared.batch.Batch.{Batch}
use Rattle.lps_batches.specs.declared.batch_bad.BatchBad.{BatchBad}
use Rattle.lps_batches.specs.Lines.{IsBadLine, IsBatchLine, IsPassed}
use Rattle.lps_batches.specs.Stream.{Finish, Next, Reader}

-- behind so many lines, this stream holds these batches up to its end or its first bad line
pub data AreRead : ℕ → List ℕ → List Batch → Option BatchBad → Type 0 where
  passed : {before : ℕ} {stream : List ℕ} {batches : List Batch} {bad : Option BatchBad} (line rest : List ℕ) → stream ≡ line ++ 10 ∷ rest → IsPassed line →
      AreRead (suc before) rest batches bad → AreRead before stream batches bad
  batch : {before : ℕ} {stream : List ℕ} {batches : List Batch} {bad : Option BatchBad} (line rest : List ℕ) (batch : Batch) → stream ≡ line ++ 10 ∷ rest → IsBatchLine line batch →
      AreRead (suc before) rest batches bad → AreRead before stream (batch ∷ batches) bad
  bad : {before : ℕ} {stream : List ℕ} (line rest : List ℕ) (kind : BatchKind) → stream ≡ line ++ 10 ∷ rest → IsBadLine line kind →
      AreRead before stream [] (Some (record { line = suc before; kind = kind }))
  last_passed : {before : ℕ} {line : List ℕ} → IsPassed line → AreRead before line [] None
  last_batch : {before : ℕ} {line : List ℕ} (batch : Batch) → IsBatchLine line batch → AreRead before line (batch ∷ []) None
  last_bad : {before : ℕ} {line : List ℕ} (kind : BatchKind) → IsBadLine line kind → AreRead before line [] (Some (record { line = suc before; kind = kind }))

-- calls of a reader while the stream may go on: the bytes fed, the batches taken, and the reader now
pub data History : List ℕ → List Batch → Reader → Type 0 where
  begins : History [] [] (record { left = []; lines = 0; bad = None })
  fed : {stream : List ℕ} {batches : List Batch} {reader : Reader} (piece : List ℕ) → History stream batches reader →
      History (stream ++ piece) batches (record { left = reader.left ++ piece; lines = reader.lines; bad = reader.bad })
  taken : {stream : List ℕ} {batches : List Batch} {old new : Reader} (batch : Batch) → History stream batches old → Next old (Some (Ok batch)) new →
      History stream (batches ++ batch ∷ []) new
  nothing : {stream : List ℕ} {batches : List Batch} {old new : Reader} → History stream batches old → Next old None new → History stream batches new
  refused : {stream : List ℕ} {batches : List Batch} {old new : Reader} (bad : BatchBad) → History stream batches old → Next old (Some (Err bad)) new →
      History stream batches new

-- the same when the stream has ended
pub data Ended : List ℕ → List Batch → Reader → Type 0 where
  ends : {stream : List ℕ} {batches : List Batch} {reader : Reader} → History stream batches reader → Ended stream batches reader
  taken : {stream : List ℕ} {batches : List Batch} {old new : Reader} (batch : Batch) → Ended stream batches old → Finish old (Some (Ok batch)) new →
      Ended stream (batches ++ batch ∷ []) new
  nothing : {stream : List ℕ} {batches : List Batch} {old new : Reader} → Ended stream batches old → Finish old None new → Ended stream batches new
  refused : {stream : List ℕ} {batches : List Batch} {old new : Reader} (bad : BatchBad) → Ended stream batches old → Finish old (Some (Err bad)) new →
      Ended stream batches new
