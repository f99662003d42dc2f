-- Texts by name: each has its name and its bytes.
use Rattle.std.specs.Prelude.{ℕ, List, [], ◌∷◌, map, if◌then◌else◌, string_bytes}
use Rattle.std.specs.Str.{bytes_eq}
use Rattle.std.specs.declared.string.String.{String}
use Rattle.std.specs.declared.vec.Vec.{Vec}
use Rattle.std.specs.declared.alloc.Global.{Global}
use Rattle.lps_memworld.specs.Calls.{Calls}

-- the texts of a list of names and bytes
abbrev pub texts_of : List (String Global × Vec ℕ Global) → List (List ℕ × List ℕ)
texts_of entries = map (λ entry. (string_bytes entry.0, entry.1.items)) entries

-- the bytes of the first text of a name; a name that is not listed has none
abbrev pub text_of : List (List ℕ × List ℕ) → List ℕ → List ℕ
text_of [] name = []
text_of (entry ∷ entries) name = if bytes_eq entry.0 name then entry.1 else text_of entries name

-- texts, and the calls to read them
pub record FailingTexts : Type 0 where
  pub texts : List (List ℕ × List ℕ)
  pub calls : Calls
