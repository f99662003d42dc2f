-- Streams that are read in pieces.
use Rattle.std.specs.Prelude.{ℕ, List}
use Rattle.lps_outside.specs.Bytes.{Stream}
use Rattle.lps_memworld.specs.Calls.{Calls}

-- a stream of which nothing was taken
abbrev pub unread : List ℕ → Stream
unread bytes = record { left = bytes; took = 0 }

-- a stream, and how many bytes a call takes at most
pub record PiecewiseStream : Type 0 where
  pub stream : Stream
  pub piece : ℕ

-- the same, and the calls to read it
pub record FailingStream : Type 0 where
  pub stream : Stream
  pub piece : ℕ
  pub calls : Calls
