-- Which bytes are a name, and which are a name that a text may give to a predicate, a constant or a function.
use Rattle.std.specs.Prelude.{ℕ, Bool, false, List, [], ◌∷◌, length, codes, nat_le, nat_lt, not, ◌&&◌, ◌||◌, ◌==◌}
use Rattle.std.specs.declared.cmp.Ordering.{Ordering}
use Rattle.std.specs.Cmp.Lexicographic.{slice_cmp}
use Rattle.std.specs.Ordering.{nat_cmp}
use Rattle.std.specs.Str.{bytes_eq}
use Rattle.std.specs.List.{list_all, list_any}

-- a to z
abbrev pub is_lower_byte : ℕ → Bool
is_lower_byte byte = nat_le 97 byte && nat_le byte 122

-- an ASCII letter, a digit or `_`
abbrev pub is_word_byte : ℕ → Bool
is_word_byte byte = is_lower_byte byte || (nat_le 65 byte && nat_le byte 90) || (nat_le 48 byte && nat_le byte 57) || (byte == 95)

-- 1 to 64 letters, digits and `_`
unfoldable pub is_name : List ℕ → Bool
is_name bytes = nat_lt 0 (length bytes) && nat_le (length bytes) 64 && list_all is_word_byte bytes

-- the words of the language itself
unfoldable pub reserved : List (List ℕ)
reserved = codes "if" ∷ codes "then" ∷ codes "or" ∷ codes "not" ∷ codes "false" ∷ codes "fluent" ∷ codes "event" ∷ codes "action" ∷ codes "timeless" ∷ codes "derived" ∷ codes "macro" ∷ codes "initially" ∷ codes "initiates" ∷ codes "terminates" ∷ codes "at" ∷ codes "from" ∷ codes "to" ∷ codes "is" ∷ codes "div" ∷ codes "mod" ∷ []

-- the first byte is a lower-case letter
abbrev pub begins_low : List ℕ → Bool
begins_low [] = false
begins_low (first ∷ rest) = is_lower_byte first

-- a lower-case letter, then letters, digits and `_`, at most 64 in all, and no word of the language
unfoldable pub is_proper_name : List ℕ → Bool
is_proper_name bytes = begins_low bytes && nat_le (length bytes) 64 && list_all is_word_byte bytes && not (list_any (bytes_eq bytes) reserved)

-- names are equal, and stand in order, by their bytes
abbrev pub name_eq : List ℕ → List ℕ → Bool
name_eq = bytes_eq

abbrev pub name_cmp : List ℕ → List ℕ → Ordering
name_cmp = slice_cmp nat_cmp
