-- The words of a call.
use Rattle.std.specs.Prelude.{◌≡◌, ℕ, Bool, false, ◌==◌, not, List, [], ◌∷◌, codes, map, string_bytes, Option, Some, None, if◌then◌else◌}
use Rattle.std.specs.Str.{bytes_eq}
use Rattle.std.specs.declared.string.String.{String}
use Rattle.std.specs.declared.alloc.Global.{Global}
use Rattle.lps_run.specs.declared.words.Command.{Command}
use Rattle.lps_run.specs.declared.words.Command.TheVariants as command

-- the bytes of each word
abbrev pub words_of : List (String Global) → List (List ℕ)
words_of words = map (λ word. string_bytes word) words

-- a word that is the value of an argument: it is not empty and does not begin with `-`
abbrev pub is_positional : List ℕ → Bool
is_positional [] = false
is_positional (byte ∷ bytes) = not (byte == 45)

-- the command of this word
abbrev pub command_named : List ℕ → Option Command
command_named word = if bytes_eq word (codes "run") then Some command.Run else (if bytes_eq word (codes "check") then Some command.Check else None)

-- the command with this argument
abbrev pub with_argument : Option Command → List ℕ → Option (Command × List ℕ)
with_argument None name = None
with_argument (Some command) name = if is_positional name then Some (command, name) else None

-- the command that the words are, and the name of its text
abbrev pub command_of : List (List ℕ) → Option (Command × List ℕ)
command_of [] = None
command_of (word ∷ []) = None
command_of (word ∷ name ∷ []) = with_argument (command_named word) name
command_of (word ∷ name ∷ more ∷ words) = None

-- the words name no text but this one
abbrev pub NamesNoOther : List (List ℕ) → List ℕ → Type 0
NamesNoOther words name = (command : Command) (other : List ℕ) → command_of words ≡ Some (command, other) → name ≡ other
