-- What is written for canonical statements, each in a line of its own.
use Rattle.std.specs.Prelude.{ℕ, suc, ◌≡◌, List, [], ◌∷◌, ◌++◌}
use Rattle.lps_terms.specs.declared.statement.Statement.{Statement}
use Rattle.lps_grammar.specs.declared.tok.Tok.{Tok}
use Rattle.lps_grammar.specs.declared.tok.Tok.TheVariants as k
use Rattle.lps_grammar.specs.Statements as gs
use Rattle.lps_build.specs.Meaning.{body_of}
use Rattle.lps_roundtrip.specs.Canonical.{canonical_statement}
use Rattle.lps_numbering.specs.declared.names.Names.{Names}
use Rattle.lps_roundtrip.specs.Words.{Word, words_of}
use Rattle.lps_roundtrip.specs.Shown.{AreFine}

-- the tokens of the canonical tree of a statement, with its full stop
abbrev pub toks_of : gs.Statement → List Tok
toks_of tree = gs.spell_statement (canonical_statement tree) (k.Dot ∷ [])

-- what is written for them
abbrev pub words_of_statement : Names → ℕ → gs.Statement → List Word
words_of_statement names line tree = words_of names line (toks_of tree)

-- the statement has these names, and is what the tree means; its line may be any
pub record IsOf (of_names : Names) (tree : gs.Statement) (statement : Statement) : Type 0 where
  pub names : statement.names ≡ of_names.names
  pub times : statement.times ≡ of_names.times
  pub body : statement.body ≡ body_of tree

-- what is written for the statements of a text under these names, the first in this line
abbrev pub words_of_text : List Names → ℕ → gs.Text → List Word
words_of_text names line gs.done = []
words_of_text [] line (gs.next tree text) = []
words_of_text (names ∷ more) line (gs.next tree text) = words_of_statement names line tree ++ words_of_text more (suc line) text

-- what is written for each token of them is a token of the language
abbrev pub AreAllFine : List Names → gs.Text → Type 0
AreAllFine names gs.done = Unit {0}
AreAllFine [] (gs.next tree text) = ⊥
AreAllFine (names ∷ more) (gs.next tree text) = AreFine names (toks_of tree) × AreAllFine more text

-- the statements have these names, in order, and are what the trees of the text mean
abbrev pub AreOf : List Names → gs.Text → List Statement → Type 0
AreOf names gs.done [] = Unit {0}
AreOf (names ∷ more) (gs.next tree text) (statement ∷ statements) = IsOf names tree statement × AreOf more text statements
AreOf names text statements = ⊥
