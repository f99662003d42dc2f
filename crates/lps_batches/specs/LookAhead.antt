-- The lines of a stream, and which of them hold no batch.
use Rattle.std.specs.Prelude.{ℕ, zero, suc, ◌+◌, ◌-◌, ◌<◌, ◌≤◌, Bool, true, List, [], ◌∷◌, length, nat_lt, not, ◌==◌, if◌then◌else◌, Option, Some, None}
use Rattle.std.specs.List.{find, take_while}
pub use Rattle.lps_lex.specs.Piece.{is_blank, is_no_feed}
use Rattle.lps_batches.specs.declared.ahead.Ahead.{Ahead}
use Rattle.lps_batches.specs.declared.ahead.Step.{Step}
use Rattle.lps_batches.specs.declared.ahead.Step.TheVariants as step
use Rattle.lps_batches.specs.declared.front.Front.{Front}
use Rattle.lps_batches.specs.declared.front.Front.TheVariants as front

-- there is no byte, or it is `%`
abbrev pub begins_comment : Option ℕ → Bool
begins_comment None = true
begins_comment (Some byte) = byte == 37

-- a line with blanks alone, or whose first other byte is `%`, holds no batch
abbrev pub is_skipped : List ℕ → Bool
is_skipped line = begins_comment (find (λ byte. not (is_blank byte)) line)

-- how many bytes stand before the next line feed
abbrev pub line_length : List ℕ → ℕ
line_length bytes = length (take_while is_no_feed bytes)

-- the line, of bytes of which there are so many
abbrev pub step_by : List ℕ → ℕ → Step
step_by line count =
    if nat_lt 65536 (length line) then step.Stop front.TooLong else (
    if length line == count then step.Stop front.Part else (
    if is_skipped line then step.Pass (length line + 1) else step.Stop (front.Line (length line))))

-- what stands at the front
abbrev pub step_of : List ℕ → Step
step_of bytes = step_by (take_while is_no_feed bytes) (length bytes)

-- what is passed over has a byte at least, and no more than there are
abbrev pub PassesIn : ℕ → Step → Type 0
PassesIn count (step.Pass length) = (0 < length) × (length ≤ count)
PassesIn count (step.Stop front) = Unit {0}

-- what stands at a place, and what follows it, which is given by how many bytes are still to skip
abbrev pub with_step : Step → ℕ → ℕ → (ℕ → ℕ → Ahead) → Ahead
with_step (step.Pass length) at lines next = next length (suc lines)
with_step (step.Stop front) at lines next = record { lines = lines; bytes = at; front = front }

-- from a place on, behind so many lines, where this many bytes are still to skip
abbrev pub ahead_from : List ℕ → ℕ → ℕ → ℕ → Ahead
ahead_from [] skip at lines = record { lines = lines; bytes = at; front = front.Part }
ahead_from (byte ∷ bytes) (suc skip) at lines = ahead_from bytes skip (suc at) lines
ahead_from (byte ∷ bytes) zero at lines = with_step (step_of (byte ∷ bytes)) at lines (λ skip next. ahead_from bytes (skip - 1) (suc at) next)

-- in the bytes of a stream that were not yet taken
abbrev pub ahead : List ℕ → Ahead
ahead bytes = ahead_from bytes 0 0 0

-- this, behind so many lines and bytes that are passed over
abbrev pub behind : ℕ → ℕ → Ahead → Ahead
behind lines bytes found = record { lines = lines + found.lines; bytes = bytes + found.bytes; front = found.front }

-- how many bytes a whole line has with its line feed; nothing else is taken
abbrev pub taken_by : Front → ℕ
taken_by (front.Line length) = length + 1
taken_by front.TooLong = 0
taken_by front.Part = 0
