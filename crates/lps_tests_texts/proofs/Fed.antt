-- How many bytes a reader of batches keeps.
use Rattle.std.specs.Prelude.{ℕ, ◌≡◌, ◌+◌, List, [], ◌++◌, length, None}
use Rattle.std.proofs.Common.{ap, arith, length-append}
use Rattle.lps_batches.specs.Stream.{Reader}

pub fed_size : (old new : Reader) (piece : List ℕ) → new ≡ record { left = old.left ++ piece; lines = old.lines; bad = old.bad } → new.lines + length new.left ≡ (old.lines + length old.left) + length piece
fed_size old new piece same = omega (arith, ap (λ (reader : Reader). reader.lines) same, ap (λ (reader : Reader). length reader.left) same, length-append old.left piece)

-- nothing was fed yet
pub begun_size : (reader : Reader) → reader ≡ record { left = []; lines = 0; bad = None } → reader.lines + length reader.left ≡ 0
begun_size reader same = omega (arith, ap (λ (reader : Reader). reader.lines) same, ap (λ (reader : Reader). length reader.left) same)
