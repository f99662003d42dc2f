-- Numbering over words alone: what `lps_numbering` makes of the tokens of bytes depends only on what is written at each.
use Rattle.std.specs.Prelude.{ℕ, suc, List, [], ◌∷◌, ◌++◌, nat_lt, if◌then◌else◌, Option, Some, None}
use Rattle.lps_grammar.specs.declared.tok.Tok.{Tok}
use Rattle.lps_numbering.specs.declared.names.Names.{Names}
use Rattle.lps_numbering.specs.Numbers.{count_of, entered, is_full_stop, no_names, tok_of}
use Rattle.lps_roundtrip.specs.Words.{Word}

-- the names of the statement after a word: a full stop ends it, and the next has none yet
abbrev pub names_by : Names → Word → Names
names_by so_far word = if is_full_stop word.kind word.text then no_names else entered so_far word.kind word.text

-- the tokens for the grammar of words, after these names of the statement
abbrev pub toks_by : Names → List Word → List Tok
toks_by so_far [] = []
toks_by so_far (word ∷ words) = tok_of so_far word.kind word.text ∷ toks_by (names_by so_far word) words

-- the names of each statement that ends, and of what follows the last full stop, after these names of the first one
abbrev pub statements_by : Names → List Word → List Names
statements_by so_far [] = so_far ∷ []
statements_by so_far (word ∷ words) = (if is_full_stop word.kind word.text then so_far ∷ [] else []) ++ statements_by (names_by so_far word) words

-- the first place, from this one on, of a 256th different variable or time of a statement, after these names
abbrev pub crowded_by : Names → ℕ → List Word → Option ℕ
crowded_by so_far at [] = None
crowded_by so_far at (word ∷ words) = if nat_lt 255 (count_of (names_by so_far word)) then Some at else crowded_by (names_by so_far word) (suc at) words
