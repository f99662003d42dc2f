-- Texts that are printed one after the other.
use Rattle.std.specs.Prelude.{ℕ, Bool, true, false, List, [], ◌∷◌, ◌++◌, codes}

-- what stands before a text: `first` before the first one, and a comma and a space before a later one
abbrev pub lead : List ℕ → Bool → List ℕ
lead first false = first
lead first true = codes ", "

-- texts, each behind its lead; `later` says that one stands before them
abbrev pub led_from : List ℕ → Bool → List (List ℕ) → List ℕ
led_from first later [] = []
led_from first later (piece ∷ pieces) = lead first later ++ (piece ++ led_from first true pieces)
