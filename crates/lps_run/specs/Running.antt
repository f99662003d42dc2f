-- What stands between two lines of the stream.
use Rattle.std.specs.Prelude.{◌≡◌, ℕ, suc, List, ◌∷◌, ◌++◌, Option, Some, None}
use Rattle.lps_terms.specs.declared.atom.Atom.{Atom}
use Rattle.lps_terms.specs.declared.prefer.Prefer.TheVariants.{Oldest}
use Rattle.lps_model.specs.declared.batch.Batch.{Batch}
use Rattle.lps_model.specs.declared.trace.Trace.{Trace}
use Rattle.lps_batches.specs.LinesAhead.{IsLine}
use Rattle.lps_batches.specs.Lines.{IsBatchLine}
use Rattle.lps_outside.specs.Bytes.{Stream}
use Rattle.lps_run.specs.declared.stream.Running.{Running}
use Rattle.lps_cycle.specs.Engine.{Stands, counts_of}
use Rattle.lps_run.specs.Judged.{AreWhole, IsSound, ended}
use Rattle.lps_run.specs.Reporting.{AreAllBlocks, AreCountsOf}
use Rattle.lps_run.specs.Stopping.{PrintsBlocks, kept_by_default}

-- Whole lines of the stream are taken, some bytes after them are fed to the reader, and `rest` is what follows. The run over
-- the batches of these lines stands as the engine says, and has these blocks.
pub record Made (running : Running) (stream rest blocks : List ℕ) : Type 0 where
  pub fine : running.reader.bad ≡ None
  pub taken : List ℕ
  pub split : ended stream ≡ taken ++ (running.reader.left ++ rest)
  pub batches : List (List Atom)
  pub are : AreWhole running.engine.text taken batches running.reader.lines
  pub oldest : running.engine.prefer ≡ Oldest
  pub keeps : running.engine.keep ≡ kept_by_default
  pub trace : Trace
  pub stands : Stands running.engine batches trace
  pub reported : AreAllBlocks running.engine.text trace blocks

-- the same, and these blocks were printed since `start`
pub record Standing (running : Running) (stream rest start : List ℕ) (printed : Option (List ℕ)) : Type 0 where
  pub blocks : List ℕ
  pub made : Made running stream rest blocks
  pub told : printed ≡ Some (start ++ blocks)

-- one more line is taken, which is this batch, and the run has no cycle for it yet
pub record Due (running : Running) (stream rest start : List ℕ) (printed : Option (List ℕ)) (batch : Batch) : Type 0 where
  pub fine : running.reader.bad ≡ None
  pub taken : List ℕ
  pub line : List ℕ
  pub split : ended stream ≡ taken ++ (line ++ 10 ∷ (running.reader.left ++ rest))
  pub batches : List (List Atom)
  pub lines : ℕ
  pub are : AreWhole running.engine.text taken batches lines
  pub place : running.reader.lines ≡ suc lines
  pub is : IsBatchLine line batch
  pub oldest : running.engine.prefer ≡ Oldest
  pub keeps : running.engine.keep ≡ kept_by_default
  pub trace : Trace
  pub stands : Stands running.engine batches trace
  pub blocks : List ℕ
  pub reported : AreAllBlocks running.engine.text trace blocks
  pub told : printed ≡ Some (start ++ blocks)

-- the same between two reads: what was fed and is not taken is the beginning of a line
pub record Reading (running : Running) (stream start : List ℕ) (printed : Option (List ℕ)) (source : Option Stream) : Type 0 where
  pub last : Stream
  pub known : source ≡ Some last
  pub standing : Standing running stream (ended last.left) start printed
  pub part : IsLine running.reader.left

-- no line of the stream is faulty, the blocks of all its cycles are printed, and the engine has the counts of the run
pub record Finished (running : Running) (stream start : List ℕ) (printed : Option (List ℕ)) : Type 0 where
  pub batches : List (List Atom)
  pub sound : IsSound running.engine.text stream batches
  pub prints : PrintsBlocks running.engine.text batches start printed
  pub counts : AreCountsOf running.engine.text prints.trace (counts_of running.engine)
