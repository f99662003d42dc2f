-- What stands ahead in a stream, line by line, and what more bytes change of it.
use Rattle.std.specs.Prelude.{ℕ, ◌≡◌, ◌<◌, ◌≤◌, ◌+◌, true, false, List, ◌∷◌, ◌++◌, length, drop}
use Rattle.std.specs.List.{list_all}
use Rattle.lps_batches.specs.declared.ahead.Ahead.{Ahead}
use Rattle.lps_batches.specs.declared.front.Front.{Front}
use Rattle.lps_batches.specs.declared.front.Front.TheVariants as front
use Rattle.lps_batches.specs.LookAhead.{ahead, behind, is_no_feed, is_skipped}

-- a line without its line feed, and not too long
pub record IsLine (line : List ℕ) : Type 0 where
  pub no_feed : list_all is_no_feed line ≡ true
  pub short : length line ≤ 65536

-- what stands ahead in these bytes
pub data StandsAhead : List ℕ → Ahead → Type 0 where
  passed : {rest : List ℕ} {found : Ahead} (line : List ℕ) → IsLine line → is_skipped line ≡ true → StandsAhead rest found →
      StandsAhead (line ++ 10 ∷ rest) (behind 1 (length line + 1) found)
  whole : (line rest : List ℕ) → IsLine line → is_skipped line ≡ false → StandsAhead (line ++ 10 ∷ rest) (record { lines = 0; bytes = 0; front = front.Line (length line) })
  too_long : (line rest : List ℕ) → list_all is_no_feed line ≡ true → 65536 < length line → StandsAhead (line ++ rest) (record { lines = 0; bytes = 0; front = front.TooLong })
  part : (line : List ℕ) → IsLine line → StandsAhead line (record { lines = 0; bytes = 0; front = front.Part })

-- a whole line or one that is too long
abbrev pub IsSettled : Front → Type 0
IsSettled (front.Line length) = Unit {0}
IsSettled front.TooLong = Unit {0}
IsSettled front.Part = ⊥

-- what is settled stays, and else more bytes are read behind the lines that were passed over
pub record KeepsLines (bytes more : List ℕ) : Type 0 where
  pub settled : IsSettled (ahead bytes).front → ahead (bytes ++ more) ≡ ahead bytes
  pub open_end : (ahead bytes).front ≡ front.Part → ahead (bytes ++ more) ≡ behind (ahead bytes).lines (ahead bytes).bytes (ahead (drop (ahead bytes).bytes bytes ++ more))
