-- What the calls of the outside do to bytes.
use Rattle.std.specs.Prelude.{◌≡◌, ℕ, ◌≤◌, ◌<◌, List, [], ◌++◌, length, take, drop, Option, Some}

-- `count` bytes of a text were copied from a place on; where there was room, none are only at or past the end
pub record CopiesAt (all : List ℕ) (at count room : ℕ) (into : List ℕ) : Type 0 where
  pub copied : take count into ≡ take count (drop at all)
  pub within : count ≤ length (drop at all)
  pub ended : 0 < room → count ≡ 0 → drop at all ≡ []

-- a stream that is read once: its bytes that are left, and how many bytes the last call took
pub record Stream : Type 0 where
  pub left : List ℕ
  pub took : ℕ

-- `count` bytes were taken from the front of a stream; where there was room, none are only at its end
pub record Takes (before : Stream) (count room : ℕ) (into : List ℕ) (after : Option Stream) : Type 0 where
  pub rest : List ℕ
  pub whole : before.left ≡ take count into ++ rest
  pub told : after ≡ Some (record { left = rest; took = count })
  pub ended : 0 < room → count ≡ 0 → rest ≡ []

-- nothing was taken
abbrev pub TakesNothing : Stream → Option Stream → Type 0
TakesNothing before after = after ≡ Some (record { left = before.left; took = 0 })

-- one list is a front of another
abbrev pub IsFront : List ℕ → List ℕ → Type 0
IsFront front all = (more : List ℕ) × (all ≡ front ++ more)

-- these bytes were added to what was printed, where that is told
abbrev pub Appends : Option (List ℕ) → Option (List ℕ) → List ℕ → Type 0
Appends before after bytes = (printed : List ℕ) → before ≡ Some printed → after ≡ Some (printed ++ bytes)

-- a front of these bytes was added
abbrev pub AppendsFront : Option (List ℕ) → Option (List ℕ) → List ℕ → Type 0
AppendsFront before after bytes = (printed : List ℕ) → before ≡ Some printed →
    (front : List ℕ) × IsFront front bytes × (after ≡ Some (printed ++ front))
