-- Tokens of statements one after the other, each under the names of its statement, which a full stop ends.
use Rattle.std.specs.Prelude.{ℕ, suc, Bool, true, false, List, [], ◌∷◌, if◌then◌else◌}
use Rattle.lps_grammar.specs.declared.tok.Tok.{Tok}
use Rattle.lps_grammar.specs.declared.tok.Tok.TheVariants as k
use Rattle.lps_numbering.specs.declared.names.Names.{Names}
use Rattle.lps_roundtrip.specs.Words.{Word, word_of}
use Rattle.lps_roundtrip.specs.Shown.{IsFine}

-- the full stop
abbrev pub is_dot : Tok → Bool
is_dot k.Dot = true
is_dot tok = false

-- the names of the statements from the next token on, where these are those of its statement and of the later ones
abbrev pub names_left : Tok → Names → List Names → List Names
names_left tok names more = if is_dot tok then more else names ∷ more

-- the line of the next token
abbrev pub line_after : Tok → ℕ → ℕ
line_after tok line = if is_dot tok then suc line else line

-- what is written for tokens, each statement in a line of its own, from this line on
abbrev pub words_along : List Names → ℕ → List Tok → List Word
words_along statements line [] = []
words_along [] line (tok ∷ toks) = []
words_along (names ∷ more) line (tok ∷ toks) = word_of names line tok ∷ words_along (names_left tok names more) (line_after tok line) toks

-- what is written for each token, under the names of its statement, is a token of the language
abbrev pub AreFineAlong : List Names → List Tok → Type 0
AreFineAlong statements [] = Unit {0}
AreFineAlong [] (tok ∷ toks) = ⊥
AreFineAlong (names ∷ more) (tok ∷ toks) = IsFine names tok × AreFineAlong (names_left tok names more) toks
